-- `runs::fill` meets its contract. The loop's invariant: the first i places are stored.
use lib.ListN.{replicate}
use Rattle.runs.proofs.Copied.{Copied}
use Rattle.runs.proofs.fill.Given as goal

abbrev pub invariant-loop-i : goal.invariant-loop-i
invariant-loop-i g l = Copied (replicate l.n l.v) l.initial.d l.at l.n l.d l.i

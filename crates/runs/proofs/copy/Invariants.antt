-- `runs::copy` meets its contract. The loop's invariant: the first i elements of the part are written.
use Rattle.laws.specs.Part.{part}
use Rattle.runs.proofs.Copied.{Copied}
use Rattle.runs.proofs.copy.Given as goal

abbrev pub invariant-loop-i : goal.invariant-loop-i
invariant-loop-i g l = Copied (part l.at l.n l.s) l.initial.d l.to l.n l.d l.i

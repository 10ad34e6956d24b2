-- `runs::widen` meets its contract. The loop's invariant: the first i elements of the part are written.
use Prim.Native.Nat.{◌-◌}
use Rattle.laws.specs.Part.{part}
use Rattle.runs.proofs.Copied.{Copied}
use Rattle.runs.proofs.widen.Given as goal

abbrev pub invariant-loop-i : goal.invariant-loop-i
invariant-loop-i l = Copied (part l.at l.n l.s) l.initial.d l.to l.n l.d l.i

abbrev pub decreases-loop-i : goal.decreases-loop-i
decreases-loop-i l = l.n - l.i

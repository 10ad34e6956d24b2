-- `column_place` meets its contract. The loop's invariant: the column stands in front of k.
use mathlib.Core.Path.{◌≡◌}
use mathlib.Core.Bool.{true}
use lib.Seq.{slice}
use Rattle.pywr.specs.Network.{listed}
use Rattle.step_coefficients.proofs.column_place.Given as goal

abbrev pub invariant-loop-k : goal.invariant-loop-k
invariant-loop-k l = listed l.column.0 (slice l.start l.k l.columns) ≡ true

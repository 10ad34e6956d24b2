-- `build_join::same_elements` meets its contract. The loop's invariant: the rows are the same exactly if they are from element i on.
use mathlib.Core.Path.{◌≡◌}
use Prim.Native.Nat.{◌+◌, ◌≤◌}
use lib.ListN.{drop}
use Rattle.pywr.specs.VariableRows.{same_row}
use Rattle.build_row.specs.RowBuilder.{gathered}
use Rattle.build_join.proofs.PositionLaws.{same_from}
use Rattle.build_join.proofs.same_elements.Given as goal

abbrev pub invariant-loop-i : goal.invariant-loop-i
invariant-loop-i l =
    (l.i ≤ l.fn.n)
    × (same_row (gathered (drop l.fn.at l.fn.words) (drop (2048 + l.fn.at) l.fn.numbers) l.fn.n) (gathered l.fn.columns (drop (2048 + l.fn.from) l.fn.numbers) l.fn.n) ≡ same_from l.fn.words l.fn.columns l.fn.numbers l.fn.n l.fn.at l.fn.from l.i)

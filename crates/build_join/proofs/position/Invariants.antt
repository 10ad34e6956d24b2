-- `build_join::position` meets its contract. The loop's invariant: none of the first k rows equals the gathered row.
use Prim.Native.Nat.{◌+◌}
use lib.ListN.{drop}
use Rattle.build_row.specs.RowBuilder.{gathered}
use Rattle.build_join.proofs.PositionLaws.{Passed}
use Rattle.build_join.proofs.position.Given as goal

abbrev pub invariant-loop-k : goal.invariant-loop-k
invariant-loop-k l = Passed l.fn.words l.fn.numbers l.fn.f (gathered l.fn.columns (drop (2048 + l.fn.f.elements) l.fn.numbers) l.fn.n) l.k

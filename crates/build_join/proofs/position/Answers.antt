-- `build_join::position` meets its contract. The loop's invariant: none of the first k rows equals the gathered row.
use mathlib.Core.Path.{sym}
use native.Mathlib.Nat.{zero-add}
use native.Mathlib.Omega.{arith}
use Rattle.build_join.proofs.PositionLaws.{found, passed_next, none_equal}
use Rattle.build_join.proofs.position.Goals as goal

pub loop-k-init : goal.loop-k-init
loop-k-init c = λ rows held. sym (zero-add _)

pub same_row-requires : goal.same_row-requires
same_row-requires c =
    let p = c.requires in
    (p.0, p.1, omega arith, c.loop-k-test.true, p.2)

pub returns-then-same_row : goal.returns-then-same_row
returns-then-same_row c = found _ _ _ _ _ c.loop-k.invariant _ c.same_row.ensures c.if-same_row.true c.loop-k-test.true

pub loop-k-preserved : goal.loop-k-preserved
loop-k-preserved c =
    passed_next _ _ _ _ _ c.loop-k.invariant _ c.same_row.ensures c.if-same_row.false c.loop-k-test.true

pub returns : goal.returns
returns c = none_equal _ _ _ _ _ c.loop-k.invariant (omega arith)

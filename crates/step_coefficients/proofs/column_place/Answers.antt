-- `column_place` meets its contract. The loop's invariant: the column stands in front of k.
use mathlib.Core.Path.{◌≡◌, sym, ◌∙◌}
use native.Mathlib.Omega.{arith}
use mathlib.Core.Bool.{true, false}
use Rattle.store_node_rows.proofs.Holds.{further, absent}
use Rattle.step_coefficients.proofs.column_place.Goals as goal

pub loop-k-preserved : goal.loop-k-preserved
loop-k-preserved c =
    sym (further _ _ _ _ c.loop-k-test.true (omega arith) (λ e. c.if-columns-k.false (sym e))) ∙ c.loop-k.invariant

pub unreachable-requires : goal.unreachable-requires
unreachable-requires c = let z : true ≡ false = sym c.loop-k.invariant ∙ absent _ _ _ _ c.loop-k-test.false in cc

-- `update_node_row` meets its contract.
use mathlib.Core.Path.{◌∙◌}
use native.Mathlib.Omega.{arith}
use Rattle.step_node_rows.specs.NodeConstraintBounds.{with_shape}
use Rattle.step_node_rows.proofs.Fits.{binary_word}
use Rattle.step_node_rows.proofs.VaryingLaws.{bounds_kept, bounds_tightened}
use Rattle.step_node_rows.proofs.update_node_row.Goals as goal

pub returns-in_default-clause-row : goal.returns-in_default-clause-row
returns-in_default-clause-row c =
    let a = c.args in
    λ s elements.
    bounds_kept (with_shape s a.store.now.shape.now) a.at a.work.now (binary_word _ c.row_type.ensures c.in_default.not-Continuous)

pub returns-clause-row : goal.returns-clause-row
returns-clause-row c =
    let a = c.args in
    λ s elements.
    bounds_tightened (with_shape s a.store.now.shape.now) a.at _ c.from-row.ensures c.requires.4.row a.work.now _
    (c.held_interval-by.ensures ∙ rw c.from.ensures) c.requires.4.node c.in-Continuous.ensures
    (omega (arith, c.requires.3.varying)) (omega (arith, c.requires.3.varying)) c.apply_row_bounds.ensures.row

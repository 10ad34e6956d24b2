-- `update_coefficient` meets its contract.
use mathlib.Core.Path.{◌∙◌}
use Rattle.step_node_rows.specs.NodeConstraintBounds.{over}
use Rattle.step_node_rows.proofs.Fits.{column_under, starts_there, elements_there, column_there}
use Rattle.step_node_rows.proofs.VaryingLaws.{coefficients_kept, coefficient_lowered}
use Rattle.step_node_rows.proofs.update_coefficient.Goals as goal

pub returns-in_default-clause-row : goal.returns-in_default-clause-row
returns-in_default-clause-row c =
    let a = c.args in
    λ s lower upper. coefficients_kept (over s a.store.now.columns.now a.store.now.row_starts.now a.store.now.shape.now) a.at a.work.now (c.in_default.ensures _ c.row_type.ensures)

pub set_column-column-requires : goal.set_column-column-requires
set_column-column-requires c =
    let given = c.in-Some.ensures _ c.row_type.ensures in
    (c.requires.2.rows.shape_long, c.requires.4, column_under c.requires.2 c.requires.3 given.0)

pub lower_coefficient-requires : goal.lower_coefficient-requires
lower_coefficient-requires c =
    let given = c.in-Some.ensures _ c.row_type.ensures in
    let row = c.from-row.ensures in
    let column = c.set_column-column.ensures in (
      starts_there c.requires.2 c.requires.3 given.0 row column,
      elements_there c.requires.2 c.requires.3 given.0 row column,
      c.requires.2.rows.columns_long,
      c.requires.0,
      column_there c.requires.2 c.requires.3 given.0 row column,
    )

pub returns-clause-row : goal.returns-clause-row
returns-clause-row c =
    let a = c.args in
    let given = c.in-Some.ensures _ c.row_type.ensures in
    λ s lower upper.
    coefficient_lowered (over s a.store.now.columns.now a.store.now.row_starts.now a.store.now.shape.now) a.at _ c.from-row.ensures c.requires.3.within.row a.work.now _
    (c.held_interval-by.ensures ∙ rw c.from.ensures) c.requires.3.within.node _ c.set_column-column.ensures _
    given.1 c.requires.2 c.requires.0 given.0 c.lower_coefficient.ensures.changed

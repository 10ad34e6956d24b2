-- `reset_binary_row` meets its contract.
use mathlib.Core.Path.{◌≡◌, ◌∙◌, ap}
use native.Mathlib.Omega.{arith}
use lib.Ieee.{of_bits}
use Rattle.layout.specs.Layout.{node_row_type}
use Rattle.pywr.specs.Numbers.{zero64, high}
use Rattle.step_node_rows.specs.NodeConstraintBounds.{over}
use Rattle.step_node_rows.proofs.Fits.{binary_word, column_under, starts_there, elements_there, column_there}
use Rattle.step_node_rows.proofs.VaryingLaws.{binary_kept, binary_reset}
use Rattle.step_node_rows.proofs.reset_binary_row.Goals.{In_default}
use Rattle.step_node_rows.proofs.reset_binary_row.Goals as goal

pub returns-in-Continuous-clause-row : goal.returns-in-Continuous-clause-row
returns-in-Continuous-clause-row c =
    let a = c.args in
    λ s. binary_kept (over s a.store.now.columns.now a.store.now.row_starts.now a.store.now.shape.now) a.at c.in-Continuous.ensures

binary : (c : In_default) → (node_row_type c.args.store.now.shape.now c.args.at ≡ 0 → ⊥)
binary c = binary_word _ c.row_type.ensures c.in_default.not-Continuous

pub set_column-column-requires : goal.set_column-column-requires
set_column-column-requires c =
    (c.requires.3.rows.shape_long, c.requires.5, column_under c.requires.3 c.requires.4 (binary (goal.at.set_column-column-requires c).In_default))

pub set_coefficient-requires : goal.set_coefficient-requires
set_coefficient-requires c =
    let b = binary (goal.at.set_coefficient-requires c).In_default in
    let row = c.from-row.ensures in
    let column = c.set_column-column.ensures in
    let same = c.set_row_bounds.ensures.alone.runs in (
      rw same.row_starts (starts_there c.requires.3 c.requires.4 b row column),
      rw same.row_starts (elements_there c.requires.3 c.requires.4 b row column),
      rw same.columns c.requires.3.rows.columns_long,
      omega (arith, c.requires.2, same.elements_long),
      rw (same.columns, same.row_starts) (column_there c.requires.3 c.requires.4 b row column),
    )

pub returns-clause-row : goal.returns-clause-row
unfolding zero64 of_bits
returns-clause-row c =
    let a = c.args in
    let is-high = c.high-high.ensures ∙ ap high c.kept_sentinel.ensures in
    let bounded = c.set_row_bounds.ensures.alone in
    let after = c.set_coefficient.ensures.alone in
    let changed = rw (bounded.runs.columns, bounded.runs.row_starts, bounded.factors) at c.set_coefficient.ensures.changed in
    λ s.
    binary_reset (over s a.store.now.columns.now a.store.now.row_starts.now a.store.now.shape.now) a.at _ c.from-row.ensures c.requires.4.within.row _
    c.set_column-column.ensures c.requires.3 (omega (arith, c.requires.3.rows.rows, c.requires.0)) (omega (arith, c.requires.3.rows.rows, c.requires.1))
    c.requires.2 (binary (goal.at.returns-clause-row c).In_default) (rw (← is-high, after.lowers, after.uppers) c.set_row_bounds.ensures.row) (rw (← is-high) changed)

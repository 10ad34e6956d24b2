-- `update_constraint_bounds` meets its contract.
use native.Mathlib.Omega.{arith}
use Rattle.step_row_bounds.specs.SameRuns.{BoundsAlone}
use Rattle.step_row_bounds.proofs.SameRuns.{same_then, alone_then}
use Rattle.step_rows.specs.ConstraintBounds.{store_of}
use Rattle.step_rows.proofs.Fitting.{Fitting, fitting}
use Rattle.step_rows.proofs.Stepped.{step_written}
use Rattle.step_rows.proofs.update_constraint_bounds.Goals.{Start, After-update_node_constraint_bounds, After-apply_intervals, After-apply_intervals-2}
use Rattle.step_rows.proofs.update_constraint_bounds.Goals as goal

fits : (c : Start) → Fitting c.args.store.now.columns.now c.args.store.now.row_starts.now c.args.store.now.shape.now
fits c =
    let s = c.args.store.now in
    fitting (store_of s.row_lower.now s.row_upper.now s.elements.now s.columns.now s.row_starts.now s.shape.now) c.requires

-- the calls so far changed bounds alone
nodes_alone : (c : After-update_node_constraint_bounds) → BoundsAlone c.args.store.now c.update_node_constraint_bounds.new.store
nodes_alone c = alone_then c.reset_row_bounds.ensures.alone c.update_node_constraint_bounds.ensures.alone

aggregates_alone : (c : After-apply_intervals) → BoundsAlone c.args.store.now c.apply_intervals.new.store
aggregates_alone c = alone_then (alone_then c.reset_row_bounds.ensures.alone c.update_node_constraint_bounds.ensures.alone) c.apply_intervals.ensures.alone

intervals_alone : (c : After-apply_intervals-2) → BoundsAlone c.args.store.now c.apply_intervals-2.new.store
intervals_alone c =
    alone_then (alone_then (alone_then c.reset_row_bounds.ensures.alone c.update_node_constraint_bounds.ensures.alone) c.apply_intervals.ensures.alone)
    c.apply_intervals-2.ensures.alone

pub reset_row_bounds-requires : goal.reset_row_bounds-requires
reset_row_bounds-requires c =
    let p = c.requires in
    (p.shape_long, (fits (goal.at.reset_row_bounds-requires c).Start).shape_fits.varying, p.row_lower_long, p.row_upper_long)

pub update_node_constraint_bounds-requires : goal.update_node_constraint_bounds-requires
update_node_constraint_bounds-requires c =
    let p = c.requires in
    let f = fits (goal.at.update_node_constraint_bounds-requires c).Start in
    let same = c.reset_row_bounds.ensures.alone.runs in (
      omega (arith, p.row_lower_long, same.lower_long),
      omega (arith, p.row_upper_long, same.upper_long),
      p.work_long,
      rw same.shape f.shape_fits,
      rw same.shape f.node_rows_few,
      rw same.shape (λ k lt. (f.node_rows_lem k lt).within),
    )

pub apply_intervals-requires : goal.apply_intervals-requires
apply_intervals-requires c =
    let p = c.requires in
    let f = fits (goal.at.apply_intervals-requires c).Start in
    let same = (nodes_alone (goal.at.apply_intervals-requires c).After-update_node_constraint_bounds).runs in
    let counted = rw same.shape at c.from-aggregates.ensures in (
      rw (same.shape, counted) f.aggregates,
      omega (arith, p.row_lower_long, same.lower_long),
      omega (arith, p.row_upper_long, same.upper_long),
      p.work_long,
      omega (arith, counted, f.aggregates_few),
    )

pub apply_intervals-requires-2 : goal.apply_intervals-requires-2
apply_intervals-requires-2 c =
    let p = c.requires in
    let f = fits (goal.at.apply_intervals-requires-2 c).Start in
    let same = (aggregates_alone (goal.at.apply_intervals-requires-2 c).After-apply_intervals).runs in
    let counted = rw same.shape at c.from-virtual_storages.ensures in (
      rw (same.shape, counted) f.virtual_storages,
      omega (arith, p.row_lower_long, same.lower_long),
      omega (arith, p.row_upper_long, same.upper_long),
      p.work_long,
      omega (arith, counted, f.virtual_storages_few),
    )

pub update_binary_rows-requires : goal.update_binary_rows-requires
update_binary_rows-requires c =
    let p = c.requires in
    let f = fits (goal.at.update_binary_rows-requires c).Start in
    let same = (intervals_alone (goal.at.update_binary_rows-requires c).After-apply_intervals-2).runs in (
      omega (arith, p.row_lower_long, same.lower_long),
      omega (arith, p.row_upper_long, same.upper_long),
      omega (arith, p.elements_long, same.elements_long),
      p.work_long,
      rw (same.columns, same.row_starts, same.shape) f.varying,
      rw same.shape f.node_rows_few,
      rw (same.columns, same.row_starts, same.shape) f.node_rows_lem,
    )

pub returns : goal.returns
returns c =
    let reset = c.reset_row_bounds.ensures in
    let nodes = nodes_alone (goal.at.returns c).After-update_node_constraint_bounds in
    let aggregates = aggregates_alone (goal.at.returns c).After-apply_intervals in
    let all = intervals_alone (goal.at.returns c).After-apply_intervals-2 in
    record {
      rows = λ s i has held.
          step_written _ _ _ _ _ _ _ (fits (goal.at.returns c).Start).varying c.requires.elements_long s _ _ _ _ _ _ _ _ _ _ _ _ _
          reset.rows (rw reset.alone.runs.shape at c.update_node_constraint_bounds.ensures.rows)
          (rw nodes.runs.shape at c.from-aggregates.ensures) (rw nodes.runs.shape at c.apply_intervals.ensures.rows)
          (rw aggregates.runs.shape at c.from-virtual_storages.ensures) (rw aggregates.runs.shape at c.apply_intervals-2.ensures.rows)
          (rw (all.runs.columns, all.runs.row_starts, all.runs.shape, all.factors) at c.update_binary_rows.ensures.rows) i has held;
      same = same_then all.runs c.update_binary_rows.ensures.same;
    }

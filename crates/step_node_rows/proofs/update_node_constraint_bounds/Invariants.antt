-- `update_node_constraint_bounds` meets its contract. The loop's invariant: the node rows passed are applied to the rows that the runs held at first.
use mathlib.Core.List.{List}
use lib.Ieee.{Float}
use Rattle.pywr.specs.Store.{Store}
use Rattle.step_row_bounds.specs.SameRuns.{BoundsAlone}
use Rattle.step_node_rows.specs.NodeConstraintBounds.{with_shape, bounds_change}
use Rattle.step_node_rows.proofs.NodeRowLaws.{Applied}
use Rattle.step_node_rows.proofs.update_node_constraint_bounds.Given as goal

abbrev pub invariant-loop-i : goal.invariant-loop-i
invariant-loop-i l =
    record {
      alone : BoundsAlone l.initial.store l.store;
      rows : (s : Store) (elements : List Float) → Applied (with_shape s l.initial.store.shape.now) (bounds_change l.work) l.node_rows
          l.initial.store.row_lower.now l.initial.store.row_upper.now elements l.store.row_lower.now l.store.row_upper.now elements l.i;
    }

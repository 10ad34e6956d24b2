-- `reset_binary_rows` meets its contract. The loop's invariant: the binary rows of the node rows passed are reset.
use Rattle.pywr.specs.Store.{Store}
use Rattle.step_row_bounds.specs.SameRuns.{SameRuns}
use Rattle.step_node_rows.specs.NodeConstraintBounds.{over, reset_change}
use Rattle.step_node_rows.proofs.NodeRowLaws.{Applied}
use Rattle.step_node_rows.proofs.reset_binary_rows.Given as goal

abbrev pub invariant-loop-i : goal.invariant-loop-i
invariant-loop-i l =
    record {
      same : SameRuns l.initial.store l.store;
      rows : (s : Store) → Applied (over s l.initial.store.columns.now l.initial.store.row_starts.now l.initial.store.shape.now) reset_change l.node_rows
          l.initial.store.row_lower.now l.initial.store.row_upper.now l.initial.store.elements.now
          l.store.row_lower.now l.store.row_upper.now l.store.elements.now l.i;
    }

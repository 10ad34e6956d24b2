-- `update_coefficients` meets its contract. The loop's invariant: the coefficients of the node rows passed are applied to the rows that the runs held at first.
use mathlib.Core.List.{List}
use lib.Ieee.{Float}
use Rattle.pywr.specs.Store.{Store}
use Rattle.step_row_bounds.specs.SameRuns.{ElementsAlone}
use Rattle.step_node_rows.specs.NodeConstraintBounds.{over, coefficient_change}
use Rattle.step_node_rows.proofs.NodeRowLaws.{Applied}
use Rattle.step_node_rows.proofs.update_coefficients.Given as goal

abbrev pub invariant-loop-i : goal.invariant-loop-i
invariant-loop-i l =
    record {
      alone : ElementsAlone l.initial.store l.store;
      rows : (s : Store) (lower upper : List Float)
          → Applied (over s l.initial.store.columns.now l.initial.store.row_starts.now l.initial.store.shape.now) (coefficient_change l.work) l.node_rows
          lower upper l.initial.store.elements.now lower upper l.store.elements.now l.i;
    }

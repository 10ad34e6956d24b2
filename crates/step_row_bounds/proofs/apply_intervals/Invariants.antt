-- `step_row_bounds::apply_intervals` meets its contract. The loop's invariant: the intervals passed are applied to the rows that the runs held at first.
use Rattle.step_row_bounds.specs.SameRuns.{BoundsAlone}
use Rattle.step_row_bounds.proofs.Applied.{Applied}
use Rattle.step_row_bounds.proofs.apply_intervals.Given as goal

abbrev pub invariant-loop-i : goal.invariant-loop-i
invariant-loop-i l =
    record {
      applied : Applied l.initial.store.shape.now l.work l.words l.table l.first l.count l.initial.store.row_lower.now l.initial.store.row_upper.now
          l.store.row_lower.now l.store.row_upper.now l.i;
      alone : BoundsAlone l.initial.store l.store;
    }

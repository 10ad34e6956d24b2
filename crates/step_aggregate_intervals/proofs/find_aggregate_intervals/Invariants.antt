-- `find_aggregate_intervals` meets its contract. The loop's invariant: i intervals are written.
use Rattle.step_aggregate_intervals.specs.AggregateIntervals.{aggregate_numbered}
use Rattle.step_work.proofs.WrittenLaws.{Writing}
use Rattle.step_aggregate_intervals.proofs.find_aggregate_intervals.Given as goal

abbrev pub invariant-loop-i : goal.invariant-loop-i
invariant-loop-i l = Writing (aggregate_numbered l.shape l.file) 256 l.aggregates l.initial.work l.work l.i

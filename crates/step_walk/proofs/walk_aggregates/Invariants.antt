-- `walk_aggregates` meets its contract. The loop's invariant: i records passed, and their intervals are written.
use Prim.Native.Nat.{◌+◌, ◌*◌}
use Rattle.step_record.specs.Check.{check_aggregate}
use Rattle.step_aggregate_intervals.specs.AggregateIntervals.{aggregate_numbered}
use Rattle.step_walk.proofs.WalkLaws.{Walking}
use Rattle.step_walk.proofs.walk_aggregates.Given as goal

abbrev pub invariant-loop-i : goal.invariant-loop-i
invariant-loop-i l =
    Walking (check_aggregate l.file) 18 (12 + 34 * l.nodes) (aggregate_numbered l.shape l.file) 256 l.aggregates l.initial.work l.work l.i

-- `network_checks::mark_exclusive` meets its contract. The invariant: the marks are those of the aggregates from `at` on, on top of what is marked.
use mathlib.Core.Path.{◌≡◌}
use Prim.Native.Nat.{◌-◌, ◌≤◌}
use Rattle.fields.specs.Records.{records_at, records_end}
use Rattle.network_aggregate.specs.AggregatedNode.{aggregate_at, aggregate_end}
use Rattle.network_checks.specs.Marks.{mark_exclusive}
use Rattle.network_checks.proofs.mark_exclusive.Given as goal

abbrev pub invariant-loop : goal.invariant-loop
invariant-loop l =
    (l.counter ≤ l.a)
    × (l.at ≡ records_end (aggregate_end l.s) l.counter l.start)
    × (mark_exclusive (records_at (aggregate_at l.s) (aggregate_end l.s) l.a l.start) l.initial.marks ≡ mark_exclusive (records_at (aggregate_at l.s) (aggregate_end l.s) (l.a - l.counter) l.at) l.marks)

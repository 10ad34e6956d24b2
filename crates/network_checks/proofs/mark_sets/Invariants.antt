-- `network_checks::mark_sets` meets its contract. The invariant: the marks are those of the sets from `here` on, on top of what is marked.
use mathlib.Core.Path.{◌≡◌}
use Prim.Native.Nat.{◌+◌, ◌-◌, ◌≤◌}
use Rattle.fields.specs.Records.{records_at, records_end}
use Rattle.network_aggregate.specs.AggregatedNode.{aggregate_set_at, set_end, aggregate_at}
use Rattle.network_checks.specs.Marks.{mark_sets}
use Rattle.network_checks.proofs.mark_sets.Given as goal

abbrev pub invariant-loop : goal.invariant-loop
invariant-loop l =
    (l.counter ≤ l.count)
    × (l.here ≡ records_end (set_end l.s) l.counter (l.at + 12))
    × (mark_sets (aggregate_at l.s l.at).sets l.initial.marks ≡ mark_sets (records_at (aggregate_set_at l.s) (set_end l.s) (l.count - l.counter) l.here) l.marks)

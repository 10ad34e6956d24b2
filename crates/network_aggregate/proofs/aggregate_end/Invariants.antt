-- `network_aggregate::aggregate_end` meets its contract. The invariant: the record ends where the sets from `here` on do.
use mathlib.Core.Path.{◌≡◌}
use Prim.Native.Nat.{◌-◌}
use Rattle.fields.specs.Records.{records_end}
use Rattle.network_aggregate.specs.AggregatedNode.{set_end, aggregate_end}
use Rattle.network_aggregate.proofs.aggregate_end.Given as goal

abbrev pub invariant-loop : goal.invariant-loop
invariant-loop l = aggregate_end l.s l.at ≡ records_end (set_end l.s) (l.count - l.counter) l.here

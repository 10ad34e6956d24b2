-- `build_aggregates::aggregate_row` meets its contract. The invariant: the sets left, added to the row so far, make the aggregate's row.
use mathlib.Core.Path.{◌≡◌}
use Prim.Native.Nat.{◌+◌}
use lib.ListN.{length}
use Rattle.fields.specs.Records.{records_end}
use Rattle.network_aggregate.specs.AggregatedNode.{set_end}
use Rattle.build_aggregates.proofs.AggregateLaws.{AddingSets}
use Rattle.build_aggregates.proofs.aggregate_row.Given as goal

abbrev pub invariant-loop : goal.invariant-loop
invariant-loop l =
    AddingSets l.fn.tables.file.now l.fn.tables.counts l.fn.at l.counter l.here l.columns l.elements l.n × (l.here ≡ records_end (set_end l.fn.tables.file.now) l.counter (l.fn.at + 12)) × (length l.elements ≡ length l.initial.elements)

-- `build_aggregates::add_nodes` meets its contract. The invariant: the nodes left, added to the row so far, make the whole row.
use mathlib.Core.Path.{◌≡◌}
use lib.ListN.{length}
use Rattle.pywr.specs.Rows.{column_map, add_nodes}
use Rattle.network_aggregate.specs.AggregatedNode.{aggregate_set_at}
use Rattle.build_row.specs.RowBuilder.{gathered}
use Rattle.build_node_row.specs.Tables.{network_of}
use Rattle.build_aggregates.proofs.AggregateLaws.{AddingNodes}
use Rattle.build_aggregates.proofs.add_nodes.Given as goal

abbrev pub invariant-loop-k : goal.invariant-loop-k
invariant-loop-k l =
    AddingNodes l.fn.tables.file.now l.fn.tables.counts l.fn.at (add_nodes (column_map (network_of l.fn.tables.file.now l.fn.tables.counts)) (aggregate_set_at l.fn.tables.file.now l.fn.at) (gathered l.initial.columns l.initial.elements l.fn.n)) l.k l.columns l.elements l.count × (length l.elements ≡ length l.initial.elements)

-- `build_nodes::create_node_constraints` meets its contract: `NodeOrder.antt` has what the nodes ask for.
use Rattle.pywr.specs.Rows.{column_map}
use Rattle.build_node_row.specs.Tables.{network_of}
use Rattle.build_append.specs.LpBuilder.{SameRuns}
use Rattle.build_node_table.specs.NodeTable.{node_rows, NodeRowsHeld, requests_before}
use Rattle.build_nodes.proofs.create_node_constraints.Given as goal

abbrev pub invariant-loop-i : goal.invariant-loop-i
invariant-loop-i l =
    NodeRowsHeld l.fn.lp.sentinel (requests_before (column_map (network_of l.fn.tables.file.now l.fn.tables.counts)) l.i) l.lp.words.now l.lp.numbers.now (node_rows l.lp l.count) × SameRuns l.fn.lp l.lp

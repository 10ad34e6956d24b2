-- `build_exclusive_request::request_exclusive_rows` meets its contract: `Memberships.antt` has the turn of the loop.
use Rattle.pywr.specs.Rows.{column_map}
use Rattle.build_node_row.specs.Tables.{network_of}
use Rattle.build_append.specs.LpBuilder.{SameRuns}
use Rattle.build_node_table.specs.NodeTable.{node_rows}
use Rattle.build_exclusive_request.proofs.Memberships.{above, Walking}
use Rattle.build_exclusive_request.proofs.request_exclusive_rows.Given as goal

abbrev pub invariant-loop-link : goal.invariant-loop-link
invariant-loop-link l =
    Walking (column_map (network_of l.fn.tables.file.now l.fn.tables.counts)) l.node.0 l.memberships.next l.fn.lp.sentinel l.lp.words.now l.lp.numbers.now (node_rows l.lp l.held) l.link × SameRuns l.fn.lp l.lp

abbrev pub decreases-loop-link : goal.decreases-loop-link
decreases-loop-link l = above l.link

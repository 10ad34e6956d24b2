-- `build_constants::add_exclusive_rows` meets its contract: `Memberships.antt` has the turn of the loop.
use Prim.Native.Nat.{◌*◌}
use Rattle.build_append.specs.LpBuilder.{SameRuns}
use Rattle.pywr.specs.ExclusiveSets.{sets_with_node}
use Rattle.pywr.specs.Rows.{column_map}
use Rattle.network_node.specs.Node.{node_at}
use Rattle.build_node_row.specs.Tables.{network_of}
use Rattle.build_constants.proofs.Memberships.{above, Walking}
use Rattle.build_constants.proofs.add_exclusive_rows.Given as goal

abbrev pub invariant-loop-link : goal.invariant-loop-link
invariant-loop-link l =
    Walking l.initial.lp.sentinel (column_map (network_of l.fn.tables.file.now l.fn.tables.counts)) l.fn.node.0 (node_at l.fn.tables.file.now (20 * l.fn.node.0)) l.fn.memberships.next
    (sets_with_node l.fn.node.0 0 (column_map (network_of l.fn.tables.file.now l.fn.tables.counts)).sets) l.initial.lp.words.now l.initial.lp.numbers.now l.initial.lp.filled l.lp.words.now l.lp.numbers.now l.lp.filled l.link
    × SameRuns l.initial.lp l.lp

abbrev pub decreases-loop-link : goal.decreases-loop-link
decreases-loop-link l = above l.link

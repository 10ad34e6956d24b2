-- `build_row::add_columns` meets its contract: `Walk.antt` has the turn of the loop.
use mathlib.Core.Path.{◌≡◌}
use lib.ListN.{length}
use Rattle.build_row.specs.RowBuilder.{gathered}
use Rattle.build_row.proofs.Walk.{Walk, above}
use Rattle.build_row.proofs.add_columns.Given as goal

abbrev pub invariant-loop-link : goal.invariant-loop-link
invariant-loop-link l =
    Walk l.next l.edge_to_col l.first l.factor (gathered l.initial.columns l.initial.elements l.n) l.columns l.elements l.count l.link × (length l.elements ≡ length l.initial.elements)

abbrev pub decreases-loop-link : goal.decreases-loop-link
decreases-loop-link l = above l.link

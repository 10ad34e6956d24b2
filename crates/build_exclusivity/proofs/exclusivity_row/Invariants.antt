-- `build_exclusivity::exclusivity_row` meets its contract: the first i sets were added.
use mathlib.Core.Path.{◌≡◌}
use lib.ListN.{length}
use Rattle.build_exclusivity.proofs.Gathering.{Gathering}
use Rattle.build_exclusivity.proofs.exclusivity_row.Given as goal

abbrev pub invariant-loop : goal.invariant-loop
invariant-loop l =
    Gathering l.fn.tables.file.now l.fn.sets.at l.fn.sets.count l.fn.tables.edge_columns l.fn.at l.end l.columns l.elements l.n l.here l.counter × (length l.elements ≡ length l.initial.elements)

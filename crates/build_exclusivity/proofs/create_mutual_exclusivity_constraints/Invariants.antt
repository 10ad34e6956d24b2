-- `build_exclusivity::create_mutual_exclusivity_constraints` meets its contract: the rows of the first i aggregates are held.
use Rattle.build_append.specs.LpBuilder.{SameRuns}
use Rattle.build_exclusivity.specs.ExclusivityRow.{MapOf}
use Rattle.build_exclusivity.proofs.ExclusivityRows.{AddingAggregates}
use Rattle.build_exclusivity.proofs.create_mutual_exclusivity_constraints.Given as goal

abbrev pub invariant-loop-i : goal.invariant-loop-i
invariant-loop-i l =
    AddingAggregates l.fn.tables.file.now (MapOf l.fn.tables.file.now l.fn.sets.at l.fn.sets.count l.fn.tables.edge_columns) l.initial.at l.fn.tables.counts.aggregates l.initial.lp.words.now l.initial.lp.numbers.now l.initial.lp.filled l.lp.words.now l.lp.numbers.now l.lp.filled l.at l.i
    × SameRuns l.initial.lp l.lp

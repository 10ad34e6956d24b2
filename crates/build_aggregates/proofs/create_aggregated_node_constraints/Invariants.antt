-- `build_aggregates::create_aggregated_node_constraints` meets its contract. The invariant: the rows of the first i aggregates are held and placed, and the next record stands at `at`.
use mathlib.Core.Path.{◌≡◌}
use Prim.Native.Nat.{◌≤◌}
use mathlib.Core.List.{List, map}
use Rattle.layout.specs.Layout.{aggregates_made_at}
use Rattle.pywr.specs.Rows.{Element}
use Rattle.pywr.specs.VaryingRows.{fresh_row}
use Rattle.network_laws.specs.NetworkAt.{aggregate_start}
use Rattle.build_append.specs.LpBuilder.{RowsHeld, SameRuns}
use Rattle.build_node_row.specs.Tables.{network_of}
use Rattle.build_join.proofs.JoinedLaws.{Asked}
use Rattle.build_aggregates.specs.AggregateRows.{aggregate_rows, aggregate_table}
use Rattle.build_aggregates.proofs.create_aggregated_node_constraints.Given as goal

abbrev pub invariant-loop-i : goal.invariant-loop-i
invariant-loop-i l =
    ((rows : List (List Element)) → RowsHeld (map (fresh_row l.initial.lp.sentinel) rows) l.initial.lp.words.now l.initial.lp.numbers.now l.initial.lp.filled
    → Asked l.initial.lp.sentinel (aggregate_rows (network_of l.fn.tables.file.now l.fn.tables.counts)) aggregates_made_at 1 aggregate_table rows l.initial.lp.words.now l.i l.lp.words.now l.lp.numbers.now l.lp.filled)
    × (l.at ≡ aggregate_start l.fn.tables.file.now l.fn.tables.counts.nodes l.fn.tables.counts.edges l.i)
    × (l.i ≤ l.fn.tables.counts.aggregates)
    × SameRuns l.initial.lp l.lp

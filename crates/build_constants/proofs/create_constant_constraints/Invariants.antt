-- `build_constants::create_constant_constraints` meets its contract.
use Prim.Native.Nat.{◌≤◌}
use mathlib.Core.List.{List, ◌++◌}
use lib.ListN.{drop}
use Rattle.build_append.specs.LpBuilder.{SameRuns}
use Rattle.pywr.specs.Rows.{column_map}
use Rattle.pywr.specs.FixedRows.{constant_rows_from}
use Rattle.pywr.specs.Programme.{Row, Maker}
use Rattle.pywr.specs.Makers.{constant_makers}
use Rattle.build_node_row.specs.Tables.{network_of}
use Rattle.build_makers.specs.MadeRows.{MadeHeld}
use Rattle.build_makers.proofs.Making.{Making}
use Rattle.build_constants.proofs.create_constant_constraints.Given as goal

abbrev pub invariant-loop-i : goal.invariant-loop-i
invariant-loop-i l =
    (l.i ≤ l.fn.tables.counts.nodes) × ((rows : List Row) (makers : List Maker) → MadeHeld rows makers l.initial.lp.words.now l.initial.lp.numbers.now l.initial.lp.filled
    → Making (rows ++ constant_rows_from l.initial.lp.sentinel (column_map (network_of l.fn.tables.file.now l.fn.tables.counts)) 0 (network_of l.fn.tables.file.now l.fn.tables.counts).nodes) (constant_rows_from l.initial.lp.sentinel (column_map (network_of l.fn.tables.file.now l.fn.tables.counts)) l.i (drop l.i (network_of l.fn.tables.file.now l.fn.tables.counts).nodes))
    (makers ++ constant_makers l.initial.lp.sentinel (column_map (network_of l.fn.tables.file.now l.fn.tables.counts)) 0 (network_of l.fn.tables.file.now l.fn.tables.counts).nodes)
    (constant_makers l.initial.lp.sentinel (column_map (network_of l.fn.tables.file.now l.fn.tables.counts)) l.i (drop l.i (network_of l.fn.tables.file.now l.fn.tables.counts).nodes)) l.initial.lp.words.now l.lp.words.now l.lp.numbers.now l.lp.filled)
    × SameRuns l.initial.lp l.lp

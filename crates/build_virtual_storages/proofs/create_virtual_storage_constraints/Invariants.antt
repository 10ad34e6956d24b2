-- `build_virtual_storages::create_virtual_storage_constraints` meets its contract. The invariant: the rows of the first i virtual storages are held and placed, and the next record stands at `at`.
use mathlib.Core.Path.{◌≡◌}
use Prim.Native.Nat.{◌≤◌}
use mathlib.Core.List.{List, map}
use Rattle.layout.specs.Layout.{virtual_storages_made_at}
use Rattle.pywr.specs.Rows.{Element}
use Rattle.pywr.specs.VaryingRows.{fresh_row}
use Rattle.fields.specs.Records.{records_end}
use Rattle.network_virtual_storage.specs.VirtualStorage.{virtual_storage_end}
use Rattle.build_append.specs.LpBuilder.{RowsHeld, SameRuns}
use Rattle.build_node_row.specs.Tables.{network_of}
use Rattle.build_join.proofs.JoinedLaws.{Asked}
use Rattle.build_virtual_storages.specs.VirtualStorageRows.{virtual_storage_rows, virtual_storage_table}
use Rattle.build_virtual_storages.proofs.create_virtual_storage_constraints.Given as goal

abbrev pub invariant-loop-i : goal.invariant-loop-i
invariant-loop-i l =
    ((rows : List (List Element)) → RowsHeld (map (fresh_row l.initial.lp.sentinel) rows) l.initial.lp.words.now l.initial.lp.numbers.now l.initial.lp.filled
    → Asked l.initial.lp.sentinel (virtual_storage_rows (network_of l.fn.tables.file.now l.fn.tables.counts)) virtual_storages_made_at 6
    (virtual_storage_table (network_of l.fn.tables.file.now l.fn.tables.counts)) rows l.initial.lp.words.now l.i l.lp.words.now l.lp.numbers.now l.lp.filled)
    × (l.at ≡ records_end (virtual_storage_end l.fn.tables.file.now) l.i l.fn.tables.counts.virtual_storages_at)
    × (l.i ≤ l.fn.tables.counts.virtual_storages)
    × SameRuns l.initial.lp l.lp

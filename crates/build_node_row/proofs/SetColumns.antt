-- The columns of the exclusive sets. Assumes nothing.
use mathlib.Core.Path.{◌≡◌}
use Prim.Native.Nat.{ℕ, ◌+◌, ◌<◌}
use native.Mathlib.Omega.{arith}
use mathlib.Core.List.{List}
use Rattle.pywr.specs.ColEdgeMap.{columns}
use Rattle.network_laws.proofs.Index.{edge_count}
use Rattle.network_record.specs.declared.Counts.{Counts}
use Rattle.build_col_edge_map.proofs.EdgeColumns.{columns_few}
use Rattle.build_node_row.specs.Tables.{network_of, TablesOf}
use Rattle.build_node_row.specs.declared.EdgeTables.{EdgeTables}
use Rattle.build_node_row.specs.EdgeColumns.{edge_columns_of}

-- the column of the set numbered k
pub set_column_under : (file : List ℕ) (c : Counts) (tables : EdgeTables) → TablesOf file c tables
    → (count k : ℕ) → count ≡ edge_columns_of file c → k < 128 → count + k < 640
set_column_under file c tables t count k e h =
    let net = network_of file c in
    omega (arith, columns_few net tables.edge_to_col (columns net).count t.mapped, edge_count file c.nodes c.edges c.aggregates c.virtual_storages, t.sections.few_edges)

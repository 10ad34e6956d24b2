-- How many columns an accepted file's edges have. Assumes nothing.
use mathlib.Core.Path.{◌≡◌}
use Prim.Native.Nat.{ℕ, ◌≤◌}
use mathlib.Core.List.{List}
use native.Mathlib.Omega.{arith}
use Rattle.pywr.specs.ColEdgeMap.{columns}
use Rattle.network_laws.proofs.Index.{edge_count}
use Rattle.network_record.specs.declared.Counts.{Counts}
use Rattle.build_col_edge_map.proofs.EdgeColumns.{columns_few}
use Rattle.build_node_row.specs.declared.EdgeTables.{EdgeTables}
use Rattle.build_node_row.specs.Tables.{network_of, TablesOf}

-- at most 512 columns
pub columns_most : (file : List ℕ) (c : Counts) (tables : EdgeTables) → TablesOf file c tables
    → (count : ℕ) → count ≡ (columns (network_of file c)).count → count ≤ 512
columns_most file c tables t count e =
    omega (
      arith,
      e,
      columns_few (network_of file c) tables.edge_to_col (columns (network_of file c)).count t.mapped,
      edge_count file c.nodes c.edges c.aggregates
          c.virtual_storages,
      t.sections.few_edges,
    )

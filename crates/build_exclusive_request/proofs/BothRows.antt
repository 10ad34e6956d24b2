-- The upper and the lower row that a node asks for with a set. Assumes nothing.
use mathlib.Core.Path.{◌≡◌, ◌∙◌}
use Prim.Native.Nat.{ℕ, ◌+◌, ◌≤◌}
use native.Mathlib.Omega.{arith}
use Rattle.std.specs.Prelude.{Result, Err}
use mathlib.Core.List.{List, [], ◌∷◌, ◌++◌, append_assoc}
use lib.Ieee.{Float, neg}
use Rattle.pywr.specs.declared.Sentinel.{Sentinel}
use Rattle.pywr.specs.Numbers.{one64}
use Rattle.pywr.specs.Rows.{ColumnMap, column_map, add_element, add_node, upper_row, lower_row}
use Rattle.pywr.specs.Programme.{binary_upper, binary_lower}
use Rattle.pywr.specs.VaryingRows.{RowRequest, exclusive_requests}
use Rattle.network_laws.proofs.Index.{edge_count}
use Rattle.network_record.specs.declared.Counts.{Counts}
use Rattle.build_col_edge_map.proofs.EdgeColumns.{columns_few}
use Rattle.build_node_row.specs.declared.EdgeTables.{EdgeTables}
use Rattle.build_node_row.specs.Tables.{network_of, TablesOf}
use Rattle.build_node_row.specs.EdgeColumns.{edge_columns_of}
use Rattle.build_node_table.specs.NodeTable.{AfterRequests}
use Rattle.build_node_table.specs.NodeTable.{NodeRows}
use Rattle.build_exclusive_sets.specs.declared.ProgrammeFull.{ProgrammeFull}
use Rattle.build_node_table.proofs.Table.{full_later}

-- ---- columns

module _ (file : List ℕ) (c : Counts) (tables : EdgeTables) (t : TablesOf file c tables) where
  pub edge_columns_few : edge_columns_of file c ≤ 512
  edge_columns_few =
      omega (arith, columns_few (network_of file c) tables.edge_to_col (edge_columns_of file c) t.mapped, edge_count file c.nodes c.edges c.aggregates c.virtual_storages, t.sections.few_edges)

pub set_column_lem : (file : List ℕ) (c : Counts) (n k w column : ℕ) → n ≡ edge_columns_of file c → w ≡ k → column ≡ n + w → column ≡ (column_map (network_of file c)).edge_columns + k
unfolding column_map
set_column_lem file c n k w column e ew ec = omega arith

-- ---- the requests of a node that sets list

-- the upper row, then the lower row, of a node in the set numbered k
module _ (f : ColumnMap) (n k column : ℕ) (x y : Float) (at : column ≡ f.edge_columns + k) (ex : x ≡ one64) (ey : y ≡ neg one64) (s : Sentinel) (asks : List RowRequest) where
  abbrev upper : RowRequest
  upper = record { node = n; row_type = binary_upper; set = k; row = add_element column x (add_node f n y []) }

  abbrev lower : RowRequest
  lower = record { node = n; row_type = binary_lower; set = k; row = add_element column y (add_node f n x []) }

  both : (asks ++ (upper ∷ [])) ++ (lower ∷ []) ≡ asks ++ exclusive_requests f n (k ∷ [])
  unfolding exclusive_requests upper_row lower_row
  both = append_assoc asks (upper ∷ []) (lower ∷ []) ∙ rw (at, ex, ey)

  module _ (v : Result NodeRows ProgrammeFull) (words : List ℕ) (numbers : List Float) where
    pub upper_full : AfterRequests s (asks ++ (upper ∷ [])) v words numbers → (full : ProgrammeFull) → v ≡ Err full
        → AfterRequests s (asks ++ exclusive_requests f n (k ∷ [])) (Err full) words numbers
    upper_full a full e = rw both at (full_later s (asks ++ (upper ∷ [])) (lower ∷ []) v words numbers a full e)

    pub both_asked : AfterRequests s ((asks ++ (upper ∷ [])) ++ (lower ∷ [])) v words numbers → AfterRequests s (asks ++ exclusive_requests f n (k ∷ [])) v words numbers
    both_asked a = rw both at a

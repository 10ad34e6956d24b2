-- The store: nine lent runs, six of f64, two of u16 and one of u32, and how they hold a programme with what its steps need.
-- Every table starts at a fixed offset, so that a run's length is that of the ceilings. Assumes nothing.
--
--   col_lower, col_upper, col_obj_coef   f64   column c at c: the edge columns, then the sets' integer columns
--   row_lower, row_upper                 f64   row r at r: the varying rows, then the fixed rows
--   elements                             f64   row r's from row_starts[r] up to row_starts[r + 1]
--   columns                              u16   the column of each element
--   row_starts                           u32   where each row starts, and last the element count
--   shape                                u16   the eleven counts below, then the tables, the flow order last
use Rattle.std.specs.Prelude.{ℕ, zero, suc, ◌+◌, ◌*◌, List, [], ◌∷◌, Bool, ◌&&◌, length, get_or, leb, eqb, Float}
use Rattle.std.proofs.Math.Seq.{slice}
use Rattle.layout.specs.Layout.{column_ceiling, row_ceiling, element_ceiling, row_starts_length, shape_length, node_width, edge_width, node_row_width, aggregate_width}
use Rattle.layout.specs.Layout.{virtual_storage_width, sentinel_in, nodes_in, edges_in, edge_columns_in, sets_in, varying_in, fixed_in, elements_in}
use Rattle.layout.specs.Layout.{node_rows_in, aggregates_in, virtual_storages_in, node_kind, node_flag, edge_from, edge_to, mapped_column, node_row_node}
use Rattle.layout.specs.Layout.{node_row_row, node_row_type, node_row_set, entry_row, period_flag, period_start_month, period_start_day, period_end_month, period_end_day}
use Rattle.layout.specs.Layout.{makers_at, maker_width, maker_kind, maker_index, maker_shared_by, flow_order_at, flow_order_width}
pub use Rattle.layout.specs.Layout.{nodes_at, edges_at, node_rows_at, aggregates_at, virtual_storages_at}
use Rattle.pywr.specs.declared.Sentinel.{Sentinel}
use Rattle.pywr.specs.declared.Sentinel.TheVariants.{Infinity, Largest}
use Rattle.pywr.specs.Numbers.{zero64}
use Rattle.pywr.specs.ColEdgeMap.{MappedEdge}
use Rattle.pywr.specs.Rows.{Element, element}
use Rattle.pywr.specs.Programme.{Column, Row, Programme, NodeShape, RowType, continuous, binary_upper, binary_lower, NodeRow, VirtualStorageShape, Shape, Maker}

pub record Store : Type 0 where
  pub col_lower : List Float
  pub col_upper : List Float
  pub col_obj_coef : List Float
  pub row_lower : List Float
  pub row_upper : List Float
  pub elements : List Float
  pub columns : List ℕ
  pub row_starts : List ℕ
  pub shape : List ℕ

-- 16 "a buffer .. under the length its ceilings need (640 columns)"
unfoldable pub store_has_room : Store → Bool
store_has_room s =
    leb column_ceiling (length s.col_lower)
    && leb column_ceiling (length s.col_upper)
    && leb column_ceiling (length s.col_obj_coef)
    && leb row_ceiling (length s.row_lower)
    && leb row_ceiling (length s.row_upper)
    && leb element_ceiling (length s.elements)
    && leb element_ceiling (length s.columns)
    && leb row_starts_length (length s.row_starts)
    && leb shape_length (length s.shape)

-- ---- the shape run: counts, then tables

abbrev pub word : Store → ℕ → ℕ
word s at = get_or s.shape at 0

abbrev pub sentinel_code : Store → ℕ
sentinel_code s = sentinel_in s.shape

abbrev pub node_count : Store → ℕ
node_count s = nodes_in s.shape

abbrev pub edge_count : Store → ℕ
edge_count s = edges_in s.shape

abbrev pub edge_column_count : Store → ℕ
edge_column_count s = edge_columns_in s.shape

abbrev pub set_count : Store → ℕ
set_count s = sets_in s.shape

abbrev pub varying_count : Store → ℕ
varying_count s = varying_in s.shape

abbrev pub fixed_count : Store → ℕ
fixed_count s = fixed_in s.shape

abbrev pub elements_kept : Store → ℕ
elements_kept s = elements_in s.shape

abbrev pub node_row_count : Store → ℕ
node_row_count s = node_rows_in s.shape

abbrev pub aggregate_count : Store → ℕ
aggregate_count s = aggregates_in s.shape

abbrev pub virtual_storage_count : Store → ℕ
virtual_storage_count s = virtual_storages_in s.shape

abbrev pub row_count : Store → ℕ
row_count s = varying_count s + fixed_count s

abbrev pub column_count : Store → ℕ
column_count s = edge_column_count s + set_count s

-- ---- reading the store

unfoldable pub sentinel_of : ℕ → Sentinel
sentinel_of zero = Infinity
sentinel_of (suc n) = Largest

unfoldable pub row_type_of : ℕ → RowType
row_type_of zero = continuous
row_type_of (suc zero) = binary_upper
row_type_of (suc (suc n)) = binary_lower

-- `count` entries of a table, each of so many words, from `at`
unfoldable pub entries : {A : Type 0} → (ℕ → A) → ℕ → ℕ → ℕ → List A
entries entry words at zero = []
entries entry words at (suc count) = entry at ∷ entries entry words (at + words) count

unfoldable pub node_entry : Store → ℕ → NodeShape
node_entry s at = record { kind = node_kind s.shape at; constant = eqb (node_flag s.shape at) 1 }

unfoldable pub edge_entry : Store → ℕ → MappedEdge
edge_entry s at = record { from = edge_from s.shape at; to = edge_to s.shape at; column = mapped_column s.shape at }

unfoldable pub node_row_entry : Store → ℕ → NodeRow
node_row_entry s at =
    record {
      node = node_row_node s.shape at;
      row = node_row_row s.shape at;
      row_type = row_type_of (node_row_type s.shape at);
      set = node_row_set s.shape at;
    }

unfoldable pub virtual_storage_entry : Store → ℕ → VirtualStorageShape
virtual_storage_entry s at =
    record {
      row = entry_row s.shape at;
      period =
          record {
            always = eqb (period_flag s.shape at) 0;
            start_month = period_start_month s.shape at;
            start_day = period_start_day s.shape at;
            end_month = period_end_month s.shape at;
            end_day = period_end_day s.shape at;
          };
    }

unfoldable pub shape_of : Store → Shape
shape_of s =
    record {
      nodes = entries (node_entry s) node_width nodes_at (node_count s);
      mapped_edges = entries (edge_entry s) edge_width edges_at (edge_count s);
      flow_order = entries (word s) flow_order_width flow_order_at (edge_count s);
      edge_columns = edge_column_count s;
      node_rows = entries (node_row_entry s) node_row_width node_rows_at (node_row_count s);
      aggregates = entries (word s) aggregate_width aggregates_at (aggregate_count s);
      virtual_storages = entries (virtual_storage_entry s) virtual_storage_width virtual_storages_at (virtual_storage_count s);
    }

unfoldable pub maker_entry : Store → ℕ → Maker
maker_entry s at = record { kind = maker_kind s.shape at; index = maker_index s.shape at; shared_by = maker_shared_by s.shape at }

-- who made each row
unfoldable pub makers_in : Store → List Maker
makers_in s = entries (maker_entry s) maker_width makers_at (row_count s)

-- who made this row
unfoldable pub row_maker : Store → ℕ → Maker
row_maker s r = maker_entry s (makers_at + maker_width * r)

unfoldable pub elements_of : List ℕ → List Float → List Element
elements_of [] xs = []
elements_of (c ∷ cs) [] = []
elements_of (c ∷ cs) (x ∷ xs) = element c x ∷ elements_of cs xs

abbrev pub start_of : Store → ℕ → ℕ
start_of s r = get_or s.row_starts r 0

-- "function returns the sub-slice from row start to next start"
unfoldable pub columns_of_row : Store → ℕ → List ℕ
columns_of_row s r = slice (start_of s r) (start_of s (r + 1)) s.columns

unfoldable pub row_entry : Store → ℕ → Row
row_entry s r =
    record {
      lower = get_or s.row_lower r zero64;
      upper = get_or s.row_upper r zero64;
      elements = elements_of (columns_of_row s r) (slice (start_of s r) (start_of s (r + 1)) s.elements);
    }

unfoldable pub column_entry : Store → ℕ → Column
column_entry s c =
    record {
      integer = leb (edge_column_count s) c;
      lower = get_or s.col_lower c zero64;
      upper = get_or s.col_upper c zero64;
      cost = get_or s.col_obj_coef c zero64;
    }

unfoldable pub programme_in : Store → Programme
programme_in s =
    record {
      sentinel = sentinel_of (sentinel_code s);
      columns = entries (column_entry s) 1 0 (column_count s);
      varying = entries (row_entry s) 1 0 (varying_count s);
      fixed = entries (row_entry s) 1 (varying_count s) (fixed_count s);
    }

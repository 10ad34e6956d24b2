-- The counts of a network's programme. Assumes nothing.
use mathlib.Core.Path.{◌≡◌, refl, sym, ◌∙◌, ap}
use Prim.Native.Nat.{ℕ, zero, suc, ◌+◌, ◌-◌}
use mathlib.Core.List.{List, [], ◌∷◌, ◌++◌, map}
use native.Mathlib.Nat.{add-zero}
use native.Mathlib.Omega.{arith}
use lib.ListN.{length, replicate, length-append, length-map}
use Rattle.pywr.specs.declared.Sentinel.{Sentinel}
use Rattle.pywr.specs.Network.{VirtualStorage, Network}
use Rattle.pywr.specs.ColEdgeMap.{columns, mapped_edges}
use Rattle.pywr.specs.ExclusiveSets.{exclusive_sets}
use Rattle.pywr.specs.Rows.{Element, column_map, aggregate_row, virtual_storage_row}
use Rattle.pywr.specs.VariableRows.{Joined, add_variable_row, add_variable_rows}
use Rattle.pywr.specs.Programme.{Built}
use Rattle.pywr.specs.VaryingRows.{RowRequest, requests_from}
use Rattle.pywr.specs.Build.{edge_column, set_column, all_columns, node_shape, placed_node_rows, placed_virtual_storages, requested_row, assemble, programme_of, element_count}
use Rattle.pywr.specs.Written.{integer_columns, count_words, rows_of}
use Rattle.build_write.specs.declared.Sizes.{Sizes}
use Rattle.build_write.specs.Lp.{columns_of}
use Rattle.build_shape.specs.ShapeTables.{counts}
use Rattle.build_rows.proofs.Ceilings.{count_append}

places_length : (rs : List (List Element)) (j : Joined) → length (add_variable_rows rs j).places ≡ length j.places + length rs
unfolding add_variable_rows add_variable_row
places_length [] j = sym (add-zero (length j.places))
places_length (r ∷ rs) j =
    let ih = places_length rs (add_variable_row r j) in
    let k : length (add_variable_row r j).places ≡ length j.places + 1 = length-append j.places _ in
    omega (arith, ih, k)

node_rows_length : (rs : List RowRequest) (ps : List ℕ) → length ps ≡ length rs → length (placed_node_rows rs ps) ≡ length rs
unfolding placed_node_rows
node_rows_length [] ps l = refl
node_rows_length (r ∷ rs) [] l = absurd (omega (arith, l))
node_rows_length (r ∷ rs) (p ∷ ps) l = ap suc (node_rows_length rs ps (omega (arith, l)))

virtual_storages_length : (vs : List VirtualStorage) (ps : List ℕ) → length ps ≡ length vs → length (placed_virtual_storages vs ps) ≡ length vs
unfolding placed_virtual_storages
virtual_storages_length [] ps l = refl
virtual_storages_length (v ∷ vs) [] l = absurd (omega (arith, l))
virtual_storages_length (v ∷ vs) (p ∷ ps) l = ap suc (virtual_storages_length vs ps (omega (arith, l)))

integers : (s : Sentinel) (k n : ℕ) → integer_columns (replicate k (edge_column s) ++ replicate n set_column) ≡ n
unfolding integer_columns edge_column set_column
integers s zero zero = refl
integers s zero (suc n) = ap suc (integers s zero n)
integers s (suc k) n = integers s k n

mapped_length : {A : Type 0} (g : A → List Element) (xs : List A) (rows : List (List Element)) → length (add_variable_rows (map g xs) (record { rows = rows; places = [] })).places ≡ length xs
mapped_length g xs rows =
    let n = places_length (map g xs) (record { rows = rows; places = [] }) in
    let m = length-map xs g in
    omega (arith, n, m)

-- the tables have an entry for each row asked for
module _ (s : Sentinel) (net : Network) where
  pub node_rows_count : length (programme_of s net).shape.node_rows ≡ length (requests_from (column_map net) 0 net.nodes)
  unfolding programme_of assemble
  node_rows_count =
      node_rows_length (requests_from (column_map net) 0 net.nodes) (add_variable_rows (map requested_row (requests_from (column_map net) 0 net.nodes)) (record { rows = []; places = [] })).places
      (mapped_length requested_row (requests_from (column_map net) 0 net.nodes) [])

  abbrev before : Joined
  before = add_variable_rows (map requested_row (requests_from (column_map net) 0 net.nodes)) (record { rows = []; places = [] })

  pub aggregates_count : length (programme_of s net).shape.aggregates ≡ length net.aggregates
  unfolding programme_of assemble
  aggregates_count = mapped_length (aggregate_row (column_map net)) net.aggregates before.rows

  pub virtual_storages_count : length (programme_of s net).shape.virtual_storages ≡ length net.virtual_storages
  unfolding programme_of assemble
  virtual_storages_count =
      let rows : List (List Element) = (add_variable_rows (map (aggregate_row (column_map net)) net.aggregates) (record { rows = before.rows; places = [] })).rows in
      virtual_storages_length net.virtual_storages
      (add_variable_rows (map (virtual_storage_row (column_map net)) net.virtual_storages) (record { rows = rows; places = [] })).places
      (mapped_length (virtual_storage_row (column_map net)) net.virtual_storages rows)

-- the sizes of a programme
pub record SizesAre (s : Sentinel) (net : Network) (z : Sizes) : Type 0 where
  pub nodes : z.nodes ≡ length net.nodes
  pub edges : z.edges ≡ length (mapped_edges net)
  pub edge_columns : z.edge_columns ≡ (columns net).count
  pub sets : z.sets ≡ length (exclusive_sets net)
  pub rows : z.rows ≡ length (rows_of (programme_of s net).programme)
  pub elements : z.elements ≡ element_count (rows_of (programme_of s net).programme)
  pub node_rows : z.node_rows ≡ length (requests_from (column_map net) 0 net.nodes)
  pub aggregates : z.aggregates ≡ length net.aggregates
  pub virtual_storages : z.virtual_storages ≡ length net.virtual_storages

module _ (s : Sentinel) (net : Network) (z : Sizes) (h : SizesAre s net z) where
  pub columns_are : columns_of s z ≡ (programme_of s net).programme.columns
  unfolding programme_of assemble all_columns column_map
  columns_are = rw (h.edge_columns, h.sets)

  abbrev b : Built
  b = programme_of s net

  node_rows_many : length b.shape.node_rows ≡ z.node_rows
  node_rows_many = node_rows_count s net ∙ sym h.node_rows

  aggregates_many : length b.shape.aggregates ≡ z.aggregates
  aggregates_many = aggregates_count s net ∙ sym h.aggregates

  virtual_storages_many : length b.shape.virtual_storages ≡ z.virtual_storages
  virtual_storages_many = virtual_storages_count s net ∙ sym h.virtual_storages

  nodes_many : length b.shape.nodes ≡ z.nodes
  unfolding programme_of assemble
  nodes_many = length-map net.nodes node_shape ∙ sym h.nodes

  edges_many : length b.shape.mapped_edges ≡ z.edges
  unfolding programme_of assemble column_map
  edges_many = sym h.edges

  edge_columns_are : b.shape.edge_columns ≡ z.edge_columns
  unfolding programme_of assemble column_map
  edge_columns_are = sym h.edge_columns

  integers_are : integer_columns b.programme.columns ≡ z.sets
  integers_are = ap integer_columns (sym columns_are) ∙ integers s z.edge_columns z.sets

  sentinel_is : b.programme.sentinel ≡ s
  unfolding programme_of assemble
  sentinel_is = refl

  pub counts_are : (varying : ℕ) → varying ≡ length b.programme.varying → counts s z varying ≡ count_words b
  unfolding counts count_words rows_of
  counts_are varying e =
      let many : length (rows_of b.programme) ≡ length b.programme.varying + length b.programme.fixed = rows_many in
      let fixed : z.rows - varying ≡ length b.programme.fixed = omega (arith, h.rows, e, many) in
      let elements : z.elements ≡ element_count b.programme.varying + element_count b.programme.fixed = h.elements ∙ elements_many in
      rw (sentinel_is, nodes_many, edges_many, edge_columns_are, integers_are, node_rows_many, aggregates_many, virtual_storages_many, fixed, e, elements)
    where
      rows_many : length (rows_of b.programme) ≡ length b.programme.varying + length b.programme.fixed
      rows_many = length-append b.programme.varying b.programme.fixed

      elements_many : element_count (rows_of b.programme) ≡ element_count b.programme.varying + element_count b.programme.fixed
      elements_many = count_append b.programme.varying b.programme.fixed

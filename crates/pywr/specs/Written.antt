-- What a build and a step write into the store. What no line here writes stays as it was. Assumes nothing.
use Rattle.std.specs.Prelude.{ℕ, suc, ◌+◌, Bool, true, false, cond, not, length, Float}
use mathlib.Core.List.{List, [], ◌∷◌, ◌++◌, map, flat_map}
use Rattle.std.proofs.lemmas.List.Edits.{sets}
use Rattle.layout.specs.Layout.{nodes_at, edges_at, node_rows_at, aggregates_at, virtual_storages_at, makers_at, flow_order_at}
use Rattle.pywr.specs.declared.Sentinel.{Sentinel}
use Rattle.pywr.specs.declared.Sentinel.TheVariants.{Infinity, Largest}
use Rattle.pywr.specs.ColEdgeMap.{MappedEdge}
use Rattle.pywr.specs.Rows.{Element}
use Rattle.pywr.specs.Programme.{Column, Row, Programme, NodeShape, RowType, continuous, binary_upper, binary_lower, NodeRow, VirtualStorageShape, Maker, Built}
use Rattle.pywr.specs.Build.{element_count}
use Rattle.pywr.specs.Store.{Store}

unfoldable pub sentinel_word : Sentinel → ℕ
sentinel_word Infinity = 0
sentinel_word Largest = 1

unfoldable pub row_type_word : RowType → ℕ
row_type_word continuous = 0
row_type_word binary_upper = 1
row_type_word binary_lower = 2

unfoldable pub flag_word : Bool → ℕ
flag_word false = 0
flag_word true = 1

unfoldable pub node_words : NodeShape → List ℕ
node_words n = n.kind ∷ flag_word n.constant ∷ []

unfoldable pub edge_words : MappedEdge → List ℕ
edge_words p = p.from ∷ p.to ∷ p.column ∷ []

unfoldable pub node_row_words : NodeRow → List ℕ
node_row_words r = r.node ∷ r.row ∷ row_type_word r.row_type ∷ r.set ∷ []

unfoldable pub virtual_storage_words : VirtualStorageShape → List ℕ
virtual_storage_words v =
    v.row
    ∷ flag_word (not v.period.always)
    ∷ v.period.start_month
    ∷ v.period.start_day
    ∷ v.period.end_month
    ∷ v.period.end_day
    ∷ []

unfoldable pub maker_words : Maker → List ℕ
maker_words m = m.kind ∷ m.index ∷ m.shared_by ∷ []

unfoldable pub integer_columns : List Column → ℕ
integer_columns [] = 0
integer_columns (c ∷ cs) = cond c.integer (suc (integer_columns cs)) (integer_columns cs)

unfoldable pub count_words : Built → List ℕ
count_words b =
    sentinel_word b.programme.sentinel
    ∷ length b.shape.nodes
    ∷ length b.shape.mapped_edges
    ∷ b.shape.edge_columns
    ∷ integer_columns b.programme.columns
    ∷ length b.programme.varying
    ∷ length b.programme.fixed
    ∷ (element_count b.programme.varying + element_count b.programme.fixed)
    ∷ length b.shape.node_rows
    ∷ length b.shape.aggregates
    ∷ length b.shape.virtual_storages
    ∷ []

unfoldable pub shape_after : List ℕ → Built → List ℕ
shape_after old b =
    let counts : List ℕ = sets old 0 (count_words b) in
    let nodes : List ℕ = sets counts nodes_at (flat_map node_words b.shape.nodes) in
    let edges : List ℕ = sets nodes edges_at (flat_map edge_words b.shape.mapped_edges) in
    let node_rows : List ℕ = sets edges node_rows_at (flat_map node_row_words b.shape.node_rows) in
    let aggregates : List ℕ = sets node_rows aggregates_at b.shape.aggregates in
    let virtual_storages : List ℕ = sets aggregates virtual_storages_at (flat_map virtual_storage_words b.shape.virtual_storages) in
    let makers : List ℕ = sets virtual_storages makers_at (flat_map maker_words b.makers) in
    sets makers flow_order_at b.shape.flow_order

-- the starts of the rows and, last, the element count
unfoldable pub starts_from : ℕ → List Row → List ℕ
starts_from at [] = at ∷ []
starts_from at (r ∷ rs) = at ∷ starts_from (at + length r.elements) rs

unfoldable pub columns_in : Row → List ℕ
columns_in r = map (λ (e : Element). e.column) r.elements

unfoldable pub values_in : Row → List Float
values_in r = map (λ (e : Element). e.value) r.elements

unfoldable pub lower_of : Row → Float
lower_of r = r.lower

unfoldable pub upper_of : Row → Float
upper_of r = r.upper

unfoldable pub rows_of : Programme → List Row
rows_of p = p.varying ++ p.fixed

-- the store after an accepted build
unfoldable pub built_store : Store → Built → Store
built_store old b =
    let p : Programme = b.programme in
    let rows : List Row = rows_of p in
    record {
      col_lower = sets old.col_lower 0 (map (λ (c : Column). c.lower) p.columns);
      col_upper = sets old.col_upper 0 (map (λ (c : Column). c.upper) p.columns);
      col_obj_coef = sets old.col_obj_coef 0 (map (λ (c : Column). c.cost) p.columns);
      row_lower = sets old.row_lower 0 (map lower_of rows);
      row_upper = sets old.row_upper 0 (map upper_of rows);
      elements = sets old.elements 0 (flat_map values_in rows);
      columns = sets old.columns 0 (flat_map columns_in rows);
      row_starts = sets old.row_starts 0 (starts_from 0 rows);
      shape = shape_after old.shape b;
    }

-- the store after an accepted step: costs, varying rows' bounds and varying rows' elements
unfoldable pub stepped_store : Store → Programme → Store
stepped_store old p =
    record {
      col_lower = old.col_lower;
      col_upper = old.col_upper;
      col_obj_coef = sets old.col_obj_coef 0 (map (λ (c : Column). c.cost) p.columns);
      row_lower = sets old.row_lower 0 (map lower_of p.varying);
      row_upper = sets old.row_upper 0 (map upper_of p.varying);
      elements = sets old.elements 0 (flat_map values_in p.varying);
      columns = old.columns;
      row_starts = old.row_starts;
      shape = old.shape;
    }

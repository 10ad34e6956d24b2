-- The programme of a sound network under the ceilings fits the store, and every row that it asks for is one of doubles and has its place among the varying
-- rows. Assumes nothing.
use mathlib.Core.Path.{◌≡◌, refl, sym, ap, ap₂, ◌∙◌, subst}
use mathlib.Core.Logic.{◌↔◌}
use Prim.Native.Nat.{ℕ, zero, suc, ◌+◌, ◌≤◌, suc-le-suc, zero-le}
use native.Mathlib.Nat.{zero-add, le_refl, le_trans}
use native.Mathlib.Omega.{arith}
use mathlib.Core.Bool.{Bool, true, false, cond, not, ◌&&◌}
use mathlib.Core.List.{List, [], ◌∷◌, ◌++◌, map}
use mathlib.Core.Option.{Option, none, some}
use lib.ListN.{length, get_elem?, replicate, length-append, length-map, length-replicate}
use lib.Dec.{T, eqb, not_T, leb, le→leb, leb→le}
use lib.Ieee.{Float, neg}
use lib.Ieee.Fits.{and_l, and_r}
use Rattle.layout.specs.Layout.{node_row_ceiling}
use Rattle.laws.proofs.Tests.{to_true, to_false}
use Rattle.pywr.specs.declared.Sentinel.{Sentinel}
use Rattle.pywr.specs.Numbers.{one64}
use Rattle.pywr.specs.Network.{output, storage, Node, Edge, Aggregate, Part, VirtualStorage, Network, kind_of}
use Rattle.pywr.specs.ColEdgeMap.{columns, Columns, column_at, put, put_new, add_simple_edge, add_equal_edges, shares_with, place_edge, place_edges, mapped_edges}
use Rattle.pywr.specs.ExclusiveSets.{exclusive_sets, sets_with_node}
use Rattle.pywr.specs.Rows.{Element, add_on, ColumnMap, column_map, columns_into, columns_out_of, add_node, node_row, add_nodes, add_sets_of, aggregate_row, add_parts, virtual_storage_row, upper_row, lower_row}
use Rattle.pywr.specs.VariableRows.{add_variable_rows, Joined}
use Rattle.pywr.specs.Programme.{Row, Programme}
use Rattle.pywr.specs.VaryingRows.{RowRequest, exclusive_requests, requests_by_sets, requests_from, fresh_row}
use Rattle.pywr.specs.Build.{edge_column, set_column, all_columns, node_shape, placed_node_rows, placed_virtual_storages, requested_row, assemble, programme_of, element_count, under_ceilings}
use Rattle.pywr.specs.Step.{row_of}
use Rattle.pywr.specs.Written.{integer_columns, rows_of}
use Rattle.pywr.proofs.UnionLaws.{unite_cases}
use Rattle.pywr.proofs.ColumnLaws.{put_length, new_length}
use Rattle.pywr.proofs.WeightLaws.{pipes_length}
use Rattle.pywr.proofs.JoinLaws.{AllFit, add_fit, add_on_fit, RowsFit, Placed, JoinKept, joins_kept, placed_stays, placed_length}
use Rattle.pywr.proofs.RowsBack.{Typed}
use Rattle.pywr.proofs.FlowLaws.{flow_length}
use Rattle.pywr.proofs.MakerLaws.{makers_count}
use Rattle.pywr.proofs.Represents.{ProgrammeFits}
use Rattle.pywr.proofs.VaryingLaws.{node_places_lem}
use Rattle.pywr.proofs.MassLaws.{Every}
use Rattle.pywr.proofs.ListLaws.{each_of}
use Rattle.pywr.proofs.ReadLaws.{Good}

-- ---- the columns' table: as long as the edges, and no more columns than edges

simple_count : (o : Option ℕ) (e : ℕ) (c : Columns) → (length (add_simple_edge o e c).of ≡ length c.of) × ((add_simple_edge o e c).count ≤ suc c.count)
unfolding add_simple_edge put_new
simple_count (some k) e c = (refl, omega arith)
simple_count none e c = (new_length c e, le_refl (suc c.count))

equal_count : (o r : Option ℕ) (e p : ℕ) (c : Columns) → (length (add_equal_edges o r e p c).of ≡ length c.of) × ((add_equal_edges o r e p c).count ≤ suc c.count)
unfolding add_equal_edges put_new put
equal_count (some k) (some j) e p c =
    unite_cases (λ (d : Columns). (length d.of ≡ length c.of) × (d.count ≤ suc c.count)) k j c (λ q. (refl, omega arith)) (λ d f l n u. (l, omega arith))
equal_count none (some k) e p c = (put_length c e k, omega arith)
equal_count (some k) none e p c = (put_length c p k, omega arith)
equal_count none none e p c = (put_length (put_new e c) p c.count ∙ new_length c e, le_refl (suc c.count))

place_count : (o : Option ℕ) (e : ℕ) (c : Columns) → (length (place_edge o e c).of ≡ length c.of) × ((place_edge o e c).count ≤ suc c.count)
unfolding place_edge
place_count none e c = simple_count (column_at c e) e c
place_count (some p) e c = equal_count (column_at c e) (column_at c p) e p c

places_count : (net : Network) (e : ℕ) (xs : List Edge) (c : Columns) → (length (place_edges net e xs c).of ≡ length c.of) × ((place_edges net e xs c).count ≤ c.count + length xs)
unfolding place_edges
places_count net e [] c = (refl, omega arith)
places_count net e (x ∷ xs) c =
    let a = place_count (shares_with net x) e c in
    let b = places_count net (suc e) xs (place_edge (shares_with net x) e c) in
    let p = a.1 in
    let q = b.1 in
    (b.0 ∙ a.0, omega arith)

pub columns_long : (net : Network) → length net.edges ≡ length (columns net).of
unfolding columns
columns_long net = sym ((places_count net 0 net.edges _).0 ∙ length-replicate (length net.edges) none)

pub columns_most : (net : Network) → (columns net).count ≤ length net.edges
unfolding columns
columns_most net = let h = (places_count net 0 net.edges (record { of = replicate (length net.edges) none; count = 0 })).1 in omega arith

-- ---- the columns of the programme

module _ (w : Sentinel) (edges : ℕ) where
  typed_sets : (n c : ℕ) → edges ≤ c → Typed edges c (replicate n set_column)
  unfolding set_column
  typed_sets zero c h = Typed.none
  typed_sets (suc n) c h = Typed.more (sym (to_true (leb edges c) (le→leb edges c h))) (typed_sets n (c + 1) (omega arith))

  typed_all : (k n c : ℕ) → c + k ≡ edges → Typed edges c (replicate k (edge_column w) ++ replicate n set_column)
  unfolding edge_column
  typed_all zero n c h = typed_sets n c (omega arith)
  typed_all (suc k) n c h =
      Typed.more (sym (to_false (leb edges c) (not_T (leb edges c) (λ t. let l = leb→le edges c t in omega arith)))) (typed_all k n (c + 1) (omega arith))

  integers_sets : (n : ℕ) → integer_columns (replicate n set_column) ≡ n
  unfolding integer_columns set_column
  integers_sets zero = refl
  integers_sets (suc n) = ap suc (integers_sets n)

  pub integers_all : (k n : ℕ) → integer_columns (replicate k (edge_column w) ++ replicate n set_column) ≡ n
  unfolding integer_columns edge_column
  integers_all zero n = integers_sets n
  integers_all (suc k) n = integers_all k n

columns_count : (w : Sentinel) (f : ColumnMap) → length (all_columns w f) ≡ f.edge_columns + length f.sets
unfolding all_columns
columns_count w f =
    length-append (replicate f.edge_columns (edge_column w)) (replicate (length f.sets) set_column)
    ∙ ap₂ (λ (a b : ℕ). a + b) (length-replicate f.edge_columns (edge_column w)) (length-replicate (length f.sets) set_column)

-- ---- the rows asked for are rows of doubles

node_fit : (f : ColumnMap) (n : ℕ) (x : Float) (row : List Element) → AllFit row → AllFit (add_node f n x row)
unfolding add_node
node_fit f n x row h = go (kind_is output) (kind_is storage)
  where
    kind_is : ℕ → Bool
    kind_is k = eqb (kind_of f.nodes n) k

    go : (a b : Bool)
        → AllFit (cond a (add_on (columns_into n f.mapped_edges) x row)
        (cond b (add_on (columns_out_of n f.mapped_edges) (neg x) (add_on (columns_into n f.mapped_edges) x row)) (add_on (columns_out_of n f.mapped_edges) x row)))
    go true b = add_on_fit (columns_into n f.mapped_edges) x row h
    go false true = add_on_fit (columns_out_of n f.mapped_edges) (neg x) _ (add_on_fit (columns_into n f.mapped_edges) x row h)
    go false false = add_on_fit (columns_out_of n f.mapped_edges) x row h

nodes_fit : (f : ColumnMap) (ns : List ℕ) (row : List Element) → AllFit row → AllFit (add_nodes f ns row)
unfolding add_nodes
nodes_fit f [] row h = h
nodes_fit f (n ∷ ns) row h = nodes_fit f ns _ (node_fit f n one64 row h)

sets_fit : (f : ColumnMap) (ss : List (List ℕ)) (row : List Element) → AllFit row → AllFit (add_sets_of f ss row)
unfolding add_sets_of
sets_fit f [] row h = h
sets_fit f (s ∷ ss) row h = sets_fit f ss _ (nodes_fit f s row h)

parts_fit : (f : ColumnMap) (ps : List Part) (row : List Element) → AllFit row → AllFit (add_parts f ps row)
unfolding add_parts
parts_fit f [] row h = h
parts_fit f (p ∷ ps) row h = parts_fit f ps _ (node_fit f p.node (neg p.factor) row h)

aggregates_fit : (f : ColumnMap) (xs : List Aggregate) → RowsFit (map (aggregate_row f) xs)
unfolding aggregate_row
aggregates_fit f [] = RowsFit.none
aggregates_fit f (x ∷ xs) = RowsFit.more (sets_fit f x.sets [] AllFit.none) (aggregates_fit f xs)

virtual_storages_fit : (f : ColumnMap) (xs : List VirtualStorage) → RowsFit (map (virtual_storage_row f) xs)
unfolding virtual_storage_row
virtual_storages_fit f [] = RowsFit.none
virtual_storages_fit f (x ∷ xs) = RowsFit.more (parts_fit f x.parts [] AllFit.none) (virtual_storages_fit f xs)

requests_fit : (f : ColumnMap) (requests : List RowRequest) → Every (λ (a : RowRequest). AllFit a.row) requests → RowsFit (map requested_row requests)
unfolding requested_row
requests_fit f [] h = RowsFit.none
requests_fit f (a ∷ requests) h = RowsFit.more h.0 (requests_fit f requests h.1)

exclusive_fit : (f : ColumnMap) (n : ℕ) (ks : List ℕ) → Every (λ (a : RowRequest). AllFit a.row) (exclusive_requests f n ks)
unfolding exclusive_requests upper_row lower_row
exclusive_fit f n [] = tt
exclusive_fit f n (k ∷ ks) = (add_fit _ one64 _ (node_fit f n (neg one64) [] AllFit.none), (add_fit _ (neg one64) _ (node_fit f n one64 [] AllFit.none), exclusive_fit f n ks))

by_sets_fit : (f : ColumnMap) (n : ℕ) (ks : List ℕ) → Every (λ (a : RowRequest). AllFit a.row) (requests_by_sets f n ks)
unfolding requests_by_sets node_row
by_sets_fit f n [] = (node_fit f n one64 [] AllFit.none, tt)
by_sets_fit f n (k ∷ ks) = exclusive_fit f n (k ∷ ks)

abbrev pub asks_of : ColumnMap → ℕ → Node → List RowRequest
asks_of f n x = cond x.constant [] (requests_by_sets f n (sets_with_node n 0 f.sets))

pub each_ask : (f : ColumnMap) (P : RowRequest → Type 0) (xs : List Node) (n : ℕ) → Every P (requests_from f n xs) ↔ ((i : ℕ) (x : Node) → get_elem? xs i ≡ some x → Every P (asks_of f (n + i) x))
unfolding requests_from
each_ask f P xs n = each_of P (asks_of f) (requests_from f) (λ m. refl) (λ m x l. refl) xs n

asked_fit : (f : ColumnMap) (xs : List Node) → RowsFit (map requested_row (requests_from f 0 xs))
asked_fit f xs = requests_fit f (requests_from f 0 xs) ((each_ask f (λ (a : RowRequest). AllFit a.row) xs 0).1 (λ i x e. go x.constant (0 + i)))
  where
    go : (b : Bool) (n : ℕ) → Every (λ (a : RowRequest). AllFit a.row) (cond b [] (requests_by_sets f n (sets_with_node n 0 f.sets)))
    go true n = tt
    go false n = by_sets_fit f n (sets_with_node n 0 f.sets)

-- ---- a varying node asks for its node row, or for the rows of the sets that list it; a constant node for none

pub varying_asks : (f : ColumnMap) (P : RowRequest → Type 0) (xs : List Node)
    → Every P (requests_from f 0 xs) ↔ ((i : ℕ) (x : Node) → get_elem? xs i ≡ some x → T (not x.constant) → Every P (requests_by_sets f i (sets_with_node i 0 f.sets)))
varying_asks f P xs =
    let each = each_ask f P xs 0 in (
      λ h i x e t. go x.constant i t (subst (λ (m : ℕ). Every P (asks_of f m x)) (zero-add i) (each.0 h i x e)),
      λ k. each.1 (λ i x e. subst (λ (m : ℕ). Every P (asks_of f m x)) (sym (zero-add i)) (back x.constant i (k i x e))),
    )
  where
    go : (b : Bool) (i : ℕ) → T (not b) → Every P (cond b [] (requests_by_sets f i (sets_with_node i 0 f.sets))) → Every P (requests_by_sets f i (sets_with_node i 0 f.sets))
    go false i t h = h
    go true i t h = absurd t

    back : (b : Bool) (i : ℕ) → (T (not b) → Every P (requests_by_sets f i (sets_with_node i 0 f.sets))) → Every P (cond b [] (requests_by_sets f i (sets_with_node i 0 f.sets)))
    back false i h = h tt
    back true i h = tt

placed_few : (requests : List RowRequest) (ps : List ℕ) → length (placed_node_rows requests ps) ≤ length requests
unfolding placed_node_rows
placed_few [] ps = zero-le
placed_few (a ∷ requests) [] = zero-le
placed_few (a ∷ requests) (p ∷ ps) = suc-le-suc (placed_few requests ps)

pub same_places : (requests : List RowRequest) (ps : List ℕ) → length requests ≡ length ps → node_places_lem (placed_node_rows requests ps) ≡ ps
unfolding placed_node_rows node_places_lem
same_places [] [] l = refl
same_places [] (p ∷ ps) l = let z : 0 ≡ suc (length ps) = l in absurd (omega arith)
same_places (a ∷ requests) [] l = let z : suc (length requests) ≡ 0 = l in absurd (omega arith)
same_places (a ∷ requests) (p ∷ ps) l = ap (λ (r : List ℕ). p ∷ r) (same_places requests ps (let z : suc (length requests) ≡ suc (length ps) = l in omega arith))

pub same_virtual_storages : (vs : List VirtualStorage) (ps : List ℕ) → length vs ≡ length ps → map row_of (placed_virtual_storages vs ps) ≡ ps
unfolding placed_virtual_storages row_of
same_virtual_storages [] [] l = refl
same_virtual_storages [] (p ∷ ps) l = let z : 0 ≡ suc (length ps) = l in absurd (omega arith)
same_virtual_storages (v ∷ vs) [] l = let z : suc (length vs) ≡ 0 = l in absurd (omega arith)
same_virtual_storages (v ∷ vs) (p ∷ ps) l = ap (λ (r : List ℕ). p ∷ r) (same_virtual_storages vs ps (let z : suc (length vs) ≡ suc (length ps) = l in omega arith))

pub elements_append : (v f : List Row) → element_count (v ++ f) ≡ element_count v + element_count f
unfolding element_count
elements_append [] f = sym (zero-add (element_count f))
elements_append (r ∷ v) f = let ih = elements_append v f in omega arith

-- ---- what the build joins

pub record Asked (w : Sentinel) (net : Network) (joined : List (List Element)) : Type 0 where
  pub varying : (programme_of w net).programme.varying ≡ map (fresh_row w) joined
  pub nodes : Placed joined (map requested_row (requests_from (column_map net) 0 net.nodes)) (node_places_lem (programme_of w net).shape.node_rows)
  pub aggregates : Placed joined (map (aggregate_row (column_map net)) net.aggregates) (programme_of w net).shape.aggregates
  pub virtual_storages : Placed joined (map (virtual_storage_row (column_map net)) net.virtual_storages) (map row_of (programme_of w net).shape.virtual_storages)

module _ (w : Sentinel) (net : Network) where
  abbrev pub g : ColumnMap
  g = column_map net

  abbrev pub requests : List RowRequest
  requests = requests_from g 0 net.nodes

  abbrev pub for_nodes : Joined
  for_nodes = add_variable_rows (map requested_row requests) (record { rows = []; places = [] })

  abbrev pub for_aggregates : Joined
  for_aggregates = add_variable_rows (map (aggregate_row g) net.aggregates) (record { rows = for_nodes.rows; places = [] })

  abbrev pub for_virtual_storages : Joined
  for_virtual_storages = add_variable_rows (map (virtual_storage_row g) net.virtual_storages) (record { rows = for_aggregates.rows; places = [] })

  kept_n : JoinKept (map requested_row requests) for_nodes
  kept_n = joins_kept (map requested_row requests) [] _ (asked_fit g net.nodes) (record { fit = RowsFit.none; placed = Placed.none })

  kept_a : JoinKept (map (aggregate_row g) net.aggregates) for_aggregates
  kept_a = joins_kept (map (aggregate_row g) net.aggregates) [] _ (aggregates_fit g net.aggregates) (record { fit = kept_n.fit; placed = Placed.none })

  kept_v : JoinKept (map (virtual_storage_row g) net.virtual_storages) for_virtual_storages
  kept_v = joins_kept (map (virtual_storage_row g) net.virtual_storages) [] _ (virtual_storages_fit g net.virtual_storages) (record { fit = kept_a.fit; placed = Placed.none })

  pub length_n : length requests ≡ length for_nodes.places
  length_n = sym (length-map requests requested_row) ∙ placed_length for_nodes.rows (map requested_row requests) for_nodes.places kept_n.placed

  pub length_a : length net.aggregates ≡ length for_aggregates.places
  length_a = sym (length-map net.aggregates (aggregate_row g)) ∙ placed_length for_aggregates.rows _ for_aggregates.places kept_a.placed

  pub length_v : length net.virtual_storages ≡ length for_virtual_storages.places
  length_v = sym (length-map net.virtual_storages (virtual_storage_row g)) ∙ placed_length for_virtual_storages.rows _ for_virtual_storages.places kept_v.placed

  pub aggregates_length : length (programme_of w net).shape.aggregates ≡ length net.aggregates
  unfolding programme_of assemble
  aggregates_length = sym length_a

  -- what nodes, aggregates and virtual storages ask for has its places among the varying rows
  pub nodes_placed : Placed for_virtual_storages.rows (map requested_row (requests_from (column_map net) 0 net.nodes)) for_nodes.places
  nodes_placed =
      placed_stays (map requested_row requests) for_nodes.places (map (virtual_storage_row g) net.virtual_storages) (record { rows = for_aggregates.rows; places = [] })
      (placed_stays (map requested_row requests) for_nodes.places (map (aggregate_row g) net.aggregates) (record { rows = for_nodes.rows; places = [] }) kept_n.placed)

  pub aggregates_placed : Placed for_virtual_storages.rows (map (aggregate_row (column_map net)) net.aggregates) for_aggregates.places
  aggregates_placed =
      placed_stays (map (aggregate_row g) net.aggregates) for_aggregates.places (map (virtual_storage_row g) net.virtual_storages) (record { rows = for_aggregates.rows; places = [] })
      kept_a.placed

  pub virtual_storages_placed : Placed for_virtual_storages.rows (map (virtual_storage_row (column_map net)) net.virtual_storages) for_virtual_storages.places
  virtual_storages_placed = kept_v.placed

  pub asked : Asked w net for_virtual_storages.rows
  unfolding programme_of assemble
  asked =
      record {
        varying = refl;
        nodes = subst (Placed for_virtual_storages.rows (map requested_row requests)) (sym (same_places requests for_nodes.places length_n)) nodes_placed;
        aggregates = aggregates_placed;
        virtual_storages =
            subst (Placed for_virtual_storages.rows (map (virtual_storage_row g) net.virtual_storages))
            (sym (same_virtual_storages net.virtual_storages for_virtual_storages.places length_v))
            virtual_storages_placed;
      }

-- ---- the ceilings

pub virtual_storages_few : (vs : List VirtualStorage) (ps : List ℕ) → length (placed_virtual_storages vs ps) ≤ length vs
unfolding placed_virtual_storages
virtual_storages_few [] ps = zero-le
virtual_storages_few (v ∷ vs) [] = zero-le
virtual_storages_few (v ∷ vs) (p ∷ ps) = suc-le-suc (virtual_storages_few vs ps)

pub programme_fits : (w : Sentinel) (net : Network) → Good net → length (requests_from (column_map net) 0 net.nodes) ≤ node_row_ceiling
    → T (under_ceilings (column_map net) (programme_of w net).programme) → ProgrammeFits (programme_of w net)
unfolding under_ceilings programme_of assemble column_map mapped_edges rows_of all_columns
programme_fits w net good few_asks under =
    let p : Programme = (programme_of w net).programme in
    let sets : ℕ = length (exclusive_sets net) in
    let a = leb→le sets 128 (and_l (leb sets 128) (leb (length p.varying + length p.fixed) 1024)
    (and_l (leb sets 128 && leb (length p.varying + length p.fixed) 1024) (leb (element_count p.varying + element_count p.fixed) 4096) under)) in
    let b = leb→le (length p.varying + length p.fixed) 1024
    (and_r (leb sets 128) (leb (length p.varying + length p.fixed) 1024)
    (and_l (leb sets 128 && leb (length p.varying + length p.fixed) 1024) (leb (element_count p.varying + element_count p.fixed) 4096) under)) in
    let c = leb→le (element_count p.varying + element_count p.fixed) 4096
    (and_r (leb sets 128 && leb (length p.varying + length p.fixed) 1024) (leb (element_count p.varying + element_count p.fixed) 4096) under) in
    let most = columns_most net in
    let nn = good.node_count in
    let ne = good.edge_count in
    let na = good.aggregate_count in
    let nv = good.virtual_storage_count in
    let cc' = columns_count w (column_map net) in
    record {
      tables =
          record {
            nodes = subst (λ (k : ℕ). k ≤ 256) (sym (length-map net.nodes node_shape)) nn;
            mapped_edges = subst (λ (k : ℕ). k ≤ 512) (sym (pipes_length net.edges (columns net).of (columns_long net))) ne;
            node_rows = let h = placed_few (requests_from (column_map net) 0 net.nodes) (for_nodes w net).places in le_trans h few_asks;
            aggregates = subst (λ (k : ℕ). k ≤ 64) (sym (aggregates_length w net)) na;
            virtual_storages = let h = virtual_storages_few net.virtual_storages (for_virtual_storages w net).places in omega arith;
            rows = b;
            makers = makers_count w net;
            flow_order = flow_length net ∙ sym (pipes_length net.edges (columns net).of (columns_long net));
          };
      columns = subst (λ (k : ℕ). k ≤ 640) (sym cc') (omega arith);
      rows = let l = length-append p.varying p.fixed in omega arith;
      elements = subst (λ (k : ℕ). k ≤ 4096) (sym (elements_append p.varying p.fixed)) c;
      typed = typed_all w (columns net).count (columns net).count sets 0 (zero-add (columns net).count);
      integers = ap (λ (k : ℕ). (columns net).count + k) (integers_all w (columns net).count (columns net).count sets) ∙ sym cc';
    }

-- The store of an accepted build is well shaped. Assumes nothing.
use mathlib.Core.Path.{◌≡◌, refl, sym, ap, ap₂, ◌∙◌, subst}
use mathlib.Core.Logic.{◌⊎◌, inl, inr}
use Prim.Native.Nat.{ℕ, zero, suc, ◌+◌, ◌<◌, ◌≤◌, suc-le-suc, zero-le}
use native.Mathlib.Nat.{add-zero, zero-add, le_refl, le_trans}
use native.Mathlib.Omega.{arith}
use mathlib.Core.Bool.{Bool, true, false, cond, not, ◌&&◌, ◌||◌}
use mathlib.Core.List.{List, [], ◌∷◌, ◌++◌, map, flat_map, append_assoc, Memᴰ}
use mathlib.Core.Option.{Option, some}
use lib.ListN.{length, get_or, get_elem?, length-append, length-map}
use lib.Dec.{T, leb, ltb, eqb, le→leb, lt→ltb, lit≤}
use lib.Ieee.Fits.{and_i, eq→eqb}
use Rattle.layout.specs.Layout.{aggregates_at, edges_at, flow_order_at, makers_at, node_row_ceiling, node_rows_at, virtual_storages_at}
use Rattle.laws.proofs.Tests.{or_l, or_r}
use Rattle.pywr.specs.declared.Sentinel.{Sentinel}
use Rattle.pywr.specs.declared.Sentinel.TheVariants.{Infinity, Largest}
use Rattle.pywr.specs.Network.{Node, Edge, VirtualStorage, Network, listed}
use Rattle.pywr.specs.ColEdgeMap.{columns, MappedEdge, with_columns, mapped_edges}
use Rattle.pywr.specs.ExclusiveSets.{exclusive_sets}
use Rattle.pywr.specs.Rows.{Element, column_map, aggregate_row, virtual_storage_row}
use Rattle.pywr.specs.Programme.{Row, Programme, NodeShape, RowType, continuous, binary_upper, binary_lower, NodeRow, VirtualStorageShape, Built, by_node, by_virtual_storage, by_exclusivity}
use Rattle.pywr.specs.VaryingRows.{RowRequest, requests_from, fresh_row}
use Rattle.pywr.specs.FixedRows.{mass_rows_from, constant_rows_from, exclusivity_rows}
use Rattle.pywr.specs.Build.{all_columns, node_shape, placed_node_rows, placed_virtual_storages, requested_row, assemble, programme_of, element_count, under_ceilings}
use Rattle.pywr.specs.Store.{Store, word, sentinel_code, node_count, edge_count, edge_column_count, set_count, varying_count, fixed_count}
use Rattle.pywr.specs.Store.{elements_kept, node_row_count, aggregate_count, virtual_storage_count, row_count, column_count, start_of, columns_of_row}
use Rattle.pywr.specs.Misshapen.{counts_fit, starts_rise, columns_rise, row_columns_rise, all_entries, well_shaped}
use Rattle.pywr.specs.Misshapen.{node_fits, edge_fits, node_row_fits, aggregate_fits, virtual_storage_fits, makers_of_kind, maker_fits, flow_order_fits}
use Rattle.pywr.specs.Written.{sentinel_word, row_type_word, flag_word, node_words, edge_words, node_row_words, virtual_storage_words, maker_words, count_words}
use Rattle.pywr.specs.Written.{shape_after, starts_from, columns_in, rows_of, built_store}
use Rattle.pywr.proofs.WeightLaws.{pipes_length}
use Rattle.pywr.proofs.EvenLaws.{mapped_edge_of}
use Rattle.pywr.proofs.MassLaws.{Every}
use Rattle.pywr.proofs.StoreLaws.{Holds, holds_left, holds_right, word_at, first_word, node_wide, pipe_wide, node_row_wide}
use Rattle.pywr.proofs.StoreLaws.{virtual_storage_wide, nodes_held, pipes_held, node_rows_held, aggregates_held, virtual_storages_held_lem, maker_wide, makers_held, flow_order_held, count_is}
use Rattle.pywr.proofs.RowsBack.{held_head, held_tail, start_head, part_is, columns_length}
use Rattle.pywr.proofs.Represents.{Roomy, Represents, ProgrammeFits, built_represents}
use Rattle.pywr.proofs.ListLaws.{AllMem, all_none, all_cons, all_append, all_map, every_mem, found_mem, mem_found, not_found, same_some, below_found, found_left, found_map}
use Rattle.pywr.proofs.MembershipLaws.{mem_listed}
use Rattle.pywr.proofs.ReadLaws.{Good, Sound, EdgeOk}
use Rattle.pywr.proofs.JoinLaws.{cols, alike_columns, Placed, places_under}
use Rattle.pywr.proofs.FitLaws.{elements_append, columns_long, columns_most, for_nodes, for_aggregates, for_virtual_storages, integers_all, programme_fits}
use Rattle.pywr.proofs.FitLaws.{nodes_placed, aggregates_placed, virtual_storages_placed}
use Rattle.pywr.proofs.CountLaws.{sets_under, requests_few}
use Rattle.pywr.proofs.ShapeLaws.{Good-row, rising_test, aggregate_good, virtual_storage_good, masses_good, constants_good}
use Rattle.pywr.proofs.MadeLaws.{makers_for, Made, makers_made}
use Rattle.pywr.proofs.FlowLaws.{flow_length, flow_below}
use Rattle.pywr.proofs.ShapeLaws.{actives_good, AskOk, requests_ok, joins_all}

-- ---- tests of entries

all_one : (test : ℕ → Bool) (at count : ℕ) → ((i : ℕ) → i < count → T (test (at + i))) → T (all_entries test 1 at count)
unfolding all_entries
all_one test at zero h = tt
all_one test at (suc count) h =
    and_i (test at) (all_entries test 1 (at + 1) count) (subst (λ (n : ℕ). T (test n)) (add-zero at) (h 0 (suc-le-suc zero-le)))
    (all_one test (at + 1) count (λ i k. let e : at + suc i ≡ at + 1 + i = omega arith in subst (λ (n : ℕ). T (test n)) e (h (suc i) (suc-le-suc k))))

table_all : {A : Type 0} (run : List ℕ) (test : ℕ → Bool) (words : ℕ) (code : A → List ℕ) (P : A → Type 0) → ((x : A) → length (code x) ≡ words)
    → ((at : ℕ) (x : A) → P x → Holds 0 run at (code x) → T (test at))
    → (xs : List A) (at : ℕ) → AllMem P xs → Holds 0 run at (flat_map code xs) → T (all_entries test words at (length xs))
unfolding all_entries flat_map
table_all run test words code P wide pass [] at h holds = tt
table_all run test words code P wide pass (x ∷ xs) at h holds =
    and_i (test at) (all_entries test words (at + words) (length xs))
    (pass at x (h x (Memᴰ.head refl)) (holds_left 0 run at (code x) (flat_map code xs) holds))
    (table_all run test words code P wide pass xs (at + words) (λ y m. h y (Memᴰ.tail m))
    (subst (λ (n : ℕ). Holds 0 run (at + n) (flat_map code xs)) (wide x) (holds_right 0 run at (code x) (flat_map code xs) holds)))

row_all : (run : List ℕ) (test : ℕ → Bool) (n : ℕ) → ((at x : ℕ) → x < n → get_or run at 0 ≡ x → T (test at)) → (xs : List ℕ) (at : ℕ)
    → AllMem (λ (x : ℕ). x < n) xs → Holds 0 run at xs → T (all_entries test 1 at (length xs))
unfolding all_entries
row_all run test n pass [] at h holds = tt
row_all run test n pass (x ∷ xs) at h holds =
    and_i (test at) (all_entries test 1 (at + 1) (length xs)) (pass at x (h x (Memᴰ.head refl)) (held_head 0 run at x xs holds))
    (row_all run test n pass xs (at + 1) (λ y m. h y (Memᴰ.tail m)) (held_tail 0 run at x xs holds))

leb_is : (a b n : ℕ) → a ≡ b → b ≤ n → T (leb a n)
leb_is a b n e h = le→leb a n (subst (λ (k : ℕ). k ≤ n) (sym e) h)

ltb_is : (a b m n : ℕ) → a ≡ b → m ≡ n → b < n → T (ltb a m)
ltb_is a b m n e f h = lt→ltb a m (subst (λ (k : ℕ). a < k) (sym f) (subst (λ (k : ℕ). k < n) (sym e) h))

-- ---- rows of a store

row_columns : (s : Store) (rows : List Row) (r at : ℕ) (pre post : List ℕ) → s.columns ≡ pre ++ (flat_map columns_in rows ++ post) → length pre ≡ at → Holds 0 s.row_starts r (starts_from at rows)
    → (i : ℕ) (x : Row) → get_elem? rows i ≡ some x → columns_of_row s (r + i) ≡ columns_in x
unfolding columns_of_row flat_map starts_from
row_columns s [] r at pre post ec lc hs i x e = not_found x e
row_columns s (y ∷ ys) r at pre post ec lc hs zero x e =
    let n : ℕ = length y.elements in
    let first : get_or s.row_starts r 0 ≡ at = start_head at (y ∷ ys) s.row_starts r hs in
    let second : get_or s.row_starts (r + 1) 0 ≡ at + n = start_head (at + n) ys s.row_starts (r + 1) (held_tail 0 s.row_starts r at (starts_from (at + n) ys) hs) in
    ap (columns_of_row s) (add-zero r)
    ∙ part_is s.columns pre (columns_in y) (flat_map columns_in ys) post (get_or s.row_starts r 0) (get_or s.row_starts (r + 1) 0) at ec lc first
    (second ∙ ap (λ (m : ℕ). at + m) (sym (columns_length y)))
    ∙ ap columns_in (same_some y x e)
row_columns s (y ∷ ys) r at pre post ec lc hs (suc i) x e =
    let n : ℕ = length y.elements in
    let same : r + suc i ≡ r + 1 + i = omega arith in
    ap (columns_of_row s) same
    ∙ row_columns s ys (r + 1) (at + n) (pre ++ columns_in y) post
    (ec ∙ ap (λ l. pre ++ l) (append_assoc (columns_in y) (flat_map columns_in ys) post) ∙ sym (append_assoc pre (columns_in y) (flat_map columns_in ys ++ post)))
    (length-append pre (columns_in y) ∙ ap₂ (λ (a b : ℕ). a + b) lc (columns_length y))
    (held_tail 0 s.row_starts r at (starts_from (at + n) ys) hs) i x e

starts_rise_lem : (s : Store) (rows : List Row) (r at : ℕ) → Holds 0 s.row_starts r (starts_from at rows) → at + element_count rows ≡ elements_kept s → T (starts_rise s r (length rows))
unfolding starts_rise starts_from element_count
starts_rise_lem s [] r at h e = eq→eqb (start_head at [] s.row_starts r h ∙ sym (add-zero at) ∙ e)
starts_rise_lem s (y ∷ ys) r at h e =
    let n : ℕ = length y.elements in
    let first : start_of s r ≡ at = start_head at (y ∷ ys) s.row_starts r h in
    let rest : Holds 0 s.row_starts (r + 1) (starts_from (at + n) ys) = held_tail 0 s.row_starts r at (starts_from (at + n) ys) h in
    let second : start_of s (r + 1) ≡ at + n = start_head (at + n) ys s.row_starts (r + 1) rest in
    and_i (leb (start_of s r) (start_of s (r + 1))) (starts_rise s (r + 1) (length ys)) (le→leb (start_of s r) (start_of s (r + 1)) (omega arith))
    (starts_rise_lem s ys (r + 1) (at + n) rest (let q : at + n + element_count ys ≡ at + (n + element_count ys) = omega arith in q ∙ e))

rows_elements : (p : Programme) → element_count (rows_of p) ≡ element_count p.varying + element_count p.fixed
unfolding rows_of
rows_elements p = elements_append p.varying p.fixed

-- ---- places

module _ (net : Network) (sound : Sound net) (rows : List (List Element)) where
  record NodeRowOk (n : NodeRow) : Type 0 where
    node_under : n.node < length net.nodes
    row_under : n.row < length rows
    has_set_lem : (n.row_type ≡ continuous) ⊎ ((n.set < length (exclusive_sets net)) × Memᴰ ((columns net).count + n.set) (cols (get_or rows n.row [])))

  node_rows_ok_lem : (wanted : List RowRequest) (ps : List ℕ) → Placed rows (map requested_row wanted) ps → Every (AskOk net sound) wanted → AllMem NodeRowOk (placed_node_rows wanted ps)
  unfolding placed_node_rows requested_row
  node_rows_ok_lem [] ps s h = all_none NodeRowOk
  node_rows_ok_lem (a ∷ wanted) (p ∷ ps) (Placed.more l e s) h =
      all_cons NodeRowOk _ (placed_node_rows wanted ps)
      (record { node_under = h.0.node_under; row_under = l; has_set_lem = moved h.0.has_set_lem })
      (node_rows_ok_lem wanted ps s h.1)
    where
      moved : (a.row_type ≡ continuous) ⊎ ((a.set < length (exclusive_sets net)) × Memᴰ ((columns net).count + a.set) (cols a.row))
          → (a.row_type ≡ continuous) ⊎ ((a.set < length (exclusive_sets net)) × Memᴰ ((columns net).count + a.set) (cols (get_or rows p [])))
      moved (inl q) = inl q
      moved (inr q) = inr (q.0, subst (λ (l : List ℕ). Memᴰ ((columns net).count + a.set) l) (sym (alike_columns e)) q.1)
  node_rows_ok_lem (a ∷ wanted) [] s h = elim s [ ]

virtual_storages_under : (n : ℕ) (vs : List VirtualStorage) (ps : List ℕ) → AllMem (λ (p : ℕ). p < n) ps → AllMem (λ (v : VirtualStorageShape). v.row < n) (placed_virtual_storages vs ps)
unfolding placed_virtual_storages
virtual_storages_under n [] ps h = all_none (λ (v : VirtualStorageShape). v.row < n)
virtual_storages_under n (v ∷ vs) [] h = all_none (λ (v : VirtualStorageShape). v.row < n)
virtual_storages_under n (v ∷ vs) (p ∷ ps) h = all_cons (λ (v : VirtualStorageShape). v.row < n) _ (placed_virtual_storages vs ps) (h p (Memᴰ.head refl))
    (virtual_storages_under n vs ps (λ q m. h q (Memᴰ.tail m)))

record PipeOk (nodes edges : ℕ) (p : MappedEdge) : Type 0 where
  from_under : p.from < nodes
  to_under : p.to < nodes
  column_under : p.column < edges

pipe_ends : (nodes : List Node) (es : List Edge) (cs : List (Option ℕ)) → AllMem (EdgeOk nodes) es
    → AllMem (λ (p : MappedEdge). (p.from < length nodes) × (p.to < length nodes)) (with_columns es cs)
unfolding with_columns
pipe_ends nodes [] cs h = all_none (λ (p : MappedEdge). (p.from < length nodes) × (p.to < length nodes))
pipe_ends nodes (e ∷ es) [] h = all_none (λ (p : MappedEdge). (p.from < length nodes) × (p.to < length nodes))
pipe_ends nodes (e ∷ es) (c ∷ cs) h =
    let k = h e (Memᴰ.head refl) in
    all_cons (λ (p : MappedEdge). (p.from < length nodes) × (p.to < length nodes)) _ (with_columns es cs) (k.from_under, k.to_under) (pipe_ends nodes es cs (λ x m. h x (Memᴰ.tail m)))

pipes_ok : (net : Network) → Sound net → AllMem (PipeOk (length net.nodes) (columns net).count) (mapped_edges net)
unfolding mapped_edges
pipes_ok net sound p m =
    let k = pipe_ends net.nodes net.edges (columns net).of sound.good.edges p m in
    let i = mem_found (with_columns net.edges (columns net).of) p m in
    record { from_under = k.0; to_under = k.1; column_under = (mapped_edge_of net sound.noself i.0 p i.1).below }

flag_most : (b : Bool) → flag_word b ≤ 1
unfolding flag_word
flag_most true = le_refl 1
flag_most false = zero-le

type_most : (t : RowType) → row_type_word t ≤ 2
unfolding row_type_word
type_most continuous = zero-le
type_most binary_upper = lit≤ tt
type_most binary_lower = lit≤ tt

sentinel_most : (w : Sentinel) → sentinel_word w ≤ 1
unfolding sentinel_word
sentinel_most Infinity = zero-le
sentinel_most Largest = le_refl 1

nine : (a b c d e f g h i : Bool) → T a → T b → T c → T d → T e → T f → T g → T h → T i → T (a && b && c && d && e && f && g && h && i)
nine a b c d e f g h i ta tb tc td te tf tg th ti =
    and_i (a && b && c && d && e && f && g && h) i
    (and_i (a && b && c && d && e && f && g) h
    (and_i (a && b && c && d && e && f) g
    (and_i (a && b && c && d && e) f (and_i (a && b && c && d) e (and_i (a && b && c) d (and_i (a && b) c (and_i a b ta tb) tc) td) te) tf) tg) th) ti

ten : (a b c d e f g h i j : Bool) → T a → T b → T c → T d → T e → T f → T g → T h → T i → T j → T (a && b && c && d && e && f && g && h && i && j)
ten a b c d e f g h i j ta tb tc td te tf tg th ti tj = and_i (a && b && c && d && e && f && g && h && i) j (nine a b c d e f g h i ta tb tc td te tf tg th ti) tj

eleven : (a b c d e f g h i j k : Bool) → T a → T b → T c → T d → T e → T f → T g → T h → T i → T j → T k → T (a && b && c && d && e && f && g && h && i && j && k)
eleven a b c d e f g h i j k ta tb tc td te tf tg th ti tj tk = and_i (a && b && c && d && e && f && g && h && i && j) k (ten a b c d e f g h i j ta tb tc td te tf tg th ti tj) tk

requests_rise : (net : Network) (sound : Sound net) → AllMem (Good-row net sound) (map requested_row (requests_from (column_map net) 0 net.nodes))
unfolding requested_row
requests_rise net sound = all_map (Good-row net sound) requested_row (requests_from (column_map net) 0 net.nodes)
    (λ a m. (every_mem (AskOk net sound) (requests_from (column_map net) 0 net.nodes) (requests_ok net sound) a m).rises)

fresh_good : (net : Network) (sound : Sound net) (w : Sentinel) (r : List Element) → Good-row net sound r → Good-row net sound (fresh_row w r).elements
unfolding fresh_row
fresh_good net sound w r h = h

shapes_long : (w : Sentinel) (net : Network) → length (programme_of w net).shape.nodes ≡ length net.nodes
unfolding programme_of assemble
shapes_long w net = length-map net.nodes node_shape

shapes_fit : (w : Sentinel) (net : Network) → Good net → AllMem (λ (n : NodeShape). n.kind ≤ 3) (programme_of w net).shape.nodes
unfolding programme_of assemble node_shape
shapes_fit w net good = all_map (λ (n : NodeShape). n.kind ≤ 3) node_shape net.nodes (λ x m. (good.nodes x m).kind_most)

built_pipes : (w : Sentinel) (net : Network) → Sound net → AllMem (PipeOk (length net.nodes) (columns net).count) (programme_of w net).shape.mapped_edges
unfolding programme_of assemble column_map
built_pipes w net sound = pipes_ok net sound

-- ---- the store of an accepted build

module _ (w : Sentinel) (net : Network) (sound : Sound net) (old : Store) (room : Roomy old) (under : T (under_ceilings (column_map net) (programme_of w net).programme)) where
  abbrev b : Built
  b = programme_of w net

  abbrev store : Store
  store = built_store old b

  abbrev joined : List (List Element)
  joined = (for_virtual_storages w net).rows

  few : length (exclusive_sets net) ≤ 128
  few = sets_under net (programme_of w net).programme under

  fits : ProgrammeFits b
  fits = programme_fits w net sound.good (requests_few net sound.good few) under

  counted : (i : ℕ) → i < 11 → get_or (shape_after old.shape b) i 0 ≡ get_or (count_words b) i 0
  counted = count_is old b room.shape fits.tables

  c1 : node_count store ≡ length net.nodes
  unfolding built_store count_words programme_of assemble
  c1 = counted 1 (lit≤ tt) ∙ length-map net.nodes node_shape

  c2 : edge_count store ≡ length net.edges
  unfolding built_store count_words programme_of assemble column_map mapped_edges
  c2 = counted 2 (lit≤ tt) ∙ pipes_length net.edges (columns net).of (columns_long net)

  c3 : edge_column_count store ≡ (columns net).count
  unfolding built_store count_words programme_of assemble column_map
  c3 = counted 3 (lit≤ tt)

  c4 : set_count store ≡ length (exclusive_sets net)
  unfolding built_store count_words programme_of assemble column_map all_columns
  c4 = counted 4 (lit≤ tt) ∙ integers_all w (columns net).count (columns net).count (length (exclusive_sets net))

  c5 : varying_count store ≡ length joined
  unfolding built_store count_words programme_of assemble
  c5 = counted 5 (lit≤ tt) ∙ length-map joined (fresh_row w)

  c5' : varying_count store ≡ length b.programme.varying
  unfolding built_store count_words
  c5' = counted 5 (lit≤ tt)

  c6 : fixed_count store ≡ length b.programme.fixed
  unfolding built_store count_words
  c6 = counted 6 (lit≤ tt)

  c7 : elements_kept store ≡ element_count b.programme.varying + element_count b.programme.fixed
  unfolding built_store count_words
  c7 = counted 7 (lit≤ tt)

  c8 : node_row_count store ≡ length b.shape.node_rows
  unfolding built_store count_words
  c8 = counted 8 (lit≤ tt)

  c9 : aggregate_count store ≡ length b.shape.aggregates
  unfolding built_store count_words
  c9 = counted 9 (lit≤ tt)

  c10 : virtual_storage_count store ≡ length b.shape.virtual_storages
  unfolding built_store count_words
  c10 = counted 10 (lit≤ tt)

  c0 : sentinel_code store ≡ sentinel_word w
  unfolding built_store count_words programme_of assemble
  c0 = counted 0 (lit≤ tt)

  pub rows_count : row_count (built_store old (programme_of w net)) ≡ length (rows_of (programme_of w net).programme)
  unfolding rows_of
  rows_count = ap₂ (λ (x y : ℕ). x + y) c5' c6 ∙ sym (length-append b.programme.varying b.programme.fixed)

  columns_count : column_count store ≡ (columns net).count + length (exclusive_sets net)
  columns_count = ap₂ (λ (x y : ℕ). x + y) c3 c4

  pub held : Represents (built_store old (programme_of w net)) (programme_of w net)
  held = built_represents old b room fits

  counts_ok : T (counts_fit store)
  unfolding counts_fit
  counts_ok =
      let g = sound.good in
      let ne = g.edge_count in
      nine (leb (node_count store) 256) (leb (edge_count store) 512) (leb (edge_column_count store) 512) (leb (set_count store) 128) (leb (row_count store) 1024)
      (leb (elements_kept store) 4096) (leb (node_row_count store) node_row_ceiling) (leb (aggregate_count store) 64) (leb (virtual_storage_count store) 32)
      (leb_is (node_count store) (length net.nodes) 256 c1 g.node_count)
      (leb_is (edge_count store) (length net.edges) 512 c2 ne)
      (leb_is (edge_column_count store) (columns net).count 512 c3 (le_trans (columns_most net) ne))
      (leb_is (set_count store) (length (exclusive_sets net)) 128 c4 few)
      (leb_is (row_count store) (length (rows_of b.programme)) 1024 rows_count fits.rows)
      (leb_is (elements_kept store) (element_count (rows_of b.programme)) 4096 (c7 ∙ sym (rows_elements b.programme)) fits.elements)
      (leb_is (node_row_count store) (length b.shape.node_rows) node_row_ceiling c8 fits.tables.node_rows)
      (leb_is (aggregate_count store) (length b.shape.aggregates) 64 c9 fits.tables.aggregates)
      (leb_is (virtual_storage_count store) (length b.shape.virtual_storages) 32 c10 fits.tables.virtual_storages)

  starts_ok : T (eqb (start_of store 0) 0 && starts_rise store 0 (row_count store))
  starts_ok =
      and_i (eqb (start_of store 0) 0) (starts_rise store 0 (row_count store)) (eq→eqb (start_head 0 (rows_of b.programme) store.row_starts 0 held.starts))
      (subst (λ (n : ℕ). T (starts_rise store 0 n)) (sym rows_count)
      (starts_rise_lem store (rows_of b.programme) 0 0 held.starts (zero-add (element_count (rows_of b.programme)) ∙ rows_elements b.programme ∙ sym c7)))

  -- the columns of row i
  pub of_row : (i : ℕ) (x : Row) → get_elem? (rows_of (programme_of w net).programme) i ≡ some x → columns_of_row (built_store old (programme_of w net)) i ≡ cols x.elements
  unfolding columns_in
  of_row i x e = ap (columns_of_row store) (sym (zero-add i)) ∙ row_columns store (rows_of b.programme) 0 0 [] held.spare_columns held.columns refl held.starts i x e

  joined_good : AllMem (Good-row net sound) joined
  joined_good =
      joins_all (Good-row net sound) (map (virtual_storage_row (column_map net)) net.virtual_storages) (record { rows = (for_aggregates w net).rows; places = [] })
      (all_map (Good-row net sound) (virtual_storage_row (column_map net)) net.virtual_storages (λ v m. virtual_storage_good net sound v))
      (joins_all (Good-row net sound) (map (aggregate_row (column_map net)) net.aggregates) (record { rows = (for_nodes w net).rows; places = [] })
      (all_map (Good-row net sound) (aggregate_row (column_map net)) net.aggregates (λ a m. aggregate_good net sound a))
      (joins_all (Good-row net sound) (map requested_row (requests_from (column_map net) 0 net.nodes)) (record { rows = []; places = [] }) (requests_rise net sound) (all_none (Good-row net sound))))

  rows_good : AllMem (λ (r : Row). Good-row net sound r.elements) (rows_of b.programme)
  unfolding rows_of programme_of assemble
  rows_good =
      let P : Row → Type 0 = (λ (r : Row). Good-row net sound r.elements) in
      let mass : List Row = mass_rows_from (column_map net) 0 net.nodes in
      let cons : List Row = constant_rows_from w (column_map net) 0 net.nodes in
      let exc : List Row = exclusivity_rows (column_map net) net.aggregates in
      all_append P (map (fresh_row w) joined) (mass ++ cons ++ exc) (all_map P (fresh_row w) joined (λ r m. fresh_good net sound w r (joined_good r m)))
      (all_append P (mass ++ cons) exc (all_append P mass cons (every_mem P mass (masses_good net sound)) (every_mem P cons (constants_good net sound w))) (every_mem P exc (actives_good net sound)))

  rows_ok : T (all_entries (row_columns_rise store) 1 0 (row_count store))
  unfolding row_columns_rise
  rows_ok =
      subst (λ (n : ℕ). T (all_entries (λ (r : ℕ). columns_rise (column_count store) 0 (columns_of_row store r)) 1 0 n)) (sym rows_count)
      (all_one (λ (r : ℕ). columns_rise (column_count store) 0 (columns_of_row store r)) 0 (length (rows_of b.programme))
      (λ i h.
      let x = below_found (rows_of b.programme) i h in
      let g = rows_good x.0 (found_mem (rows_of b.programme) i x.0 x.1) in
      subst (λ (c : ℕ). T (columns_rise c 0 (columns_of_row store (0 + i)))) (sym columns_count)
      (subst (λ (l : List ℕ). T (columns_rise ((columns net).count + length (exclusive_sets net)) 0 l)) (sym (ap (columns_of_row store) (zero-add i) ∙ of_row i x.0 x.1))
      (rising_test ((columns net).count + length (exclusive_sets net)) 0 x.0.elements g))))

  -- ---- the tables

  nodes_ok : T (all_entries (node_fits store) 2 11 (node_count store))
  unfolding built_store node_fits node_words
  nodes_ok =
      subst (λ (n : ℕ). T (all_entries (node_fits store) 2 11 n)) (sym (c1 ∙ sym (shapes_long w net)))
      (table_all (shape_after old.shape b) (node_fits store) 2 node_words (λ (n : NodeShape). n.kind ≤ 3) node_wide
      (λ at x k h.
      and_i (leb (word store at) 3) (leb (word store (at + 1)) 1)
      (leb_is (word store at) x.kind 3 (first_word (shape_after old.shape b) at (node_words x) h (lit≤ tt)) k)
      (leb_is (word store (at + 1)) (flag_word x.constant) 1 (word_at (shape_after old.shape b) at (node_words x) h 1 (lit≤ tt)) (flag_most x.constant)))
      b.shape.nodes 11 (shapes_fit w net sound.good) (nodes_held old.shape b room.shape fits.tables))

  edges_ok : T (all_entries (edge_fits store) 3 edges_at (edge_count store))
  unfolding built_store edge_fits edge_words count_words
  edges_ok =
      subst (λ (n : ℕ). T (all_entries (edge_fits store) 3 edges_at n)) (sym (counted 2 (lit≤ tt)))
      (table_all (shape_after old.shape b) (edge_fits store) 3 edge_words (PipeOk (length net.nodes) (columns net).count) pipe_wide
      (λ at x k h.
      let first : word store at ≡ x.from = first_word (shape_after old.shape b) at (edge_words x) h (lit≤ tt) in
      let second : word store (at + 1) ≡ x.to = word_at (shape_after old.shape b) at (edge_words x) h 1 (lit≤ tt) in
      let third : word store (at + 2) ≡ x.column = word_at (shape_after old.shape b) at (edge_words x) h 2 (lit≤ tt) in
      and_i (ltb (word store at) (node_count store) && ltb (word store (at + 1)) (node_count store)) (ltb (word store (at + 2)) (edge_column_count store))
      (and_i (ltb (word store at) (node_count store)) (ltb (word store (at + 1)) (node_count store))
      (ltb_is (word store at) x.from (node_count store) (length net.nodes) first c1 k.from_under)
      (ltb_is (word store (at + 1)) x.to (node_count store) (length net.nodes) second c1 k.to_under))
      (ltb_is (word store (at + 2)) x.column (edge_column_count store) (columns net).count third c3 k.column_under))
      b.shape.mapped_edges edges_at (built_pipes w net sound) (pipes_held old.shape b room.shape fits.tables))

  -- the columns of a varying row
  of_varying : (p : ℕ) → p < length joined → columns_of_row store p ≡ cols (get_or joined p [])
  unfolding rows_of programme_of assemble fresh_row
  of_varying p h = of_row p (fresh_row w (get_or joined p [])) (found_left (map (fresh_row w) joined) _ p (fresh_row w (get_or joined p [])) (found_map (fresh_row w) joined [] p h))

  built_node_rows : AllMem (NodeRowOk net sound joined) b.shape.node_rows
  unfolding programme_of assemble
  built_node_rows = node_rows_ok_lem net sound joined (requests_from (column_map net) 0 net.nodes) (for_nodes w net).places (nodes_placed w net) (requests_ok net sound)

  set_listed : (at : ℕ) (x : NodeRow) → NodeRowOk net sound joined x → word store (at + 1) ≡ x.row → word store (at + 2) ≡ row_type_word x.row_type → word store (at + 3) ≡ x.set
      → (x.row_type ≡ continuous) ⊎ ((x.set < length (exclusive_sets net)) × Memᴰ ((columns net).count + x.set) (cols (get_or joined x.row [])))
      → T (eqb (word store (at + 2)) 0 || (ltb (word store (at + 3)) (set_count store) && listed (edge_column_count store + word store (at + 3)) (columns_of_row store (word store (at + 1)))))
  unfolding row_type_word
  set_listed at x k second third fourth (inl q) =
      or_l (eqb (word store (at + 2)) 0) (ltb (word store (at + 3)) (set_count store)
      && listed (edge_column_count store + word store (at + 3)) (columns_of_row store (word store (at + 1)))) (eq→eqb (third ∙ ap row_type_word q))
  set_listed at x k second third fourth (inr q) =
      let u : Bool = ltb (word store (at + 3)) (set_count store) in
      let v : Bool = listed (edge_column_count store + word store (at + 3)) (columns_of_row store (word store (at + 1))) in
      let row : columns_of_row store (word store (at + 1)) ≡ cols (get_or joined x.row []) = ap (columns_of_row store) second ∙ of_varying x.row k.row_under in
      let col : edge_column_count store + word store (at + 3) ≡ (columns net).count + x.set = ap₂ (λ (m n : ℕ). m + n) c3 fourth in
      or_r (eqb (word store (at + 2)) 0) (u && v)
      (and_i u v (ltb_is (word store (at + 3)) x.set (set_count store) (length (exclusive_sets net)) fourth c4 q.0)
      (subst (λ (l : List ℕ). T (listed (edge_column_count store + word store (at + 3)) l)) (sym row)
      (subst (λ (c : ℕ). T (listed c (cols (get_or joined x.row [])))) (sym col) (mem_listed ((columns net).count + x.set) (cols (get_or joined x.row [])) q.1))))

  node_rows_ok : T (all_entries (node_row_fits store) 4 node_rows_at (node_row_count store))
  unfolding built_store node_row_fits node_row_words count_words
  node_rows_ok =
      subst (λ (n : ℕ). T (all_entries (node_row_fits store) 4 node_rows_at n)) (sym (counted 8 (lit≤ tt)))
      (table_all (shape_after old.shape b) (node_row_fits store) 4 node_row_words (NodeRowOk net sound joined) node_row_wide
      (λ at x k h.
      let first : word store at ≡ x.node = first_word (shape_after old.shape b) at (node_row_words x) h (lit≤ tt) in
      let second : word store (at + 1) ≡ x.row = word_at (shape_after old.shape b) at (node_row_words x) h 1 (lit≤ tt) in
      let third : word store (at + 2) ≡ row_type_word x.row_type = word_at (shape_after old.shape b) at (node_row_words x) h 2 (lit≤ tt) in
      let fourth : word store (at + 3) ≡ x.set = word_at (shape_after old.shape b) at (node_row_words x) h 3 (lit≤ tt) in
      let p : Bool = ltb (word store at) (node_count store) in
      let q : Bool = ltb (word store (at + 1)) (varying_count store) in
      let r : Bool = leb (word store (at + 2)) 2 in
      let z : Bool = eqb (word store (at + 2)) 0 in
      let u : Bool = ltb (word store (at + 3)) (set_count store) in
      let v : Bool = listed (edge_column_count store + word store (at + 3)) (columns_of_row store (word store (at + 1))) in
      and_i (p && q && r) (z || (u && v))
      (and_i (p && q) r
      (and_i p q (ltb_is (word store at) x.node (node_count store) (length net.nodes) first c1 k.node_under)
      (ltb_is (word store (at + 1)) x.row (varying_count store) (length joined) second c5 k.row_under))
      (leb_is (word store (at + 2)) (row_type_word x.row_type) 2 third (type_most x.row_type)))
      (set_listed at x k second third fourth k.has_set_lem))
      b.shape.node_rows node_rows_at built_node_rows (node_rows_held old.shape b room.shape fits.tables))

  aggregates_ok : T (all_entries (aggregate_fits store) 1 aggregates_at (aggregate_count store))
  unfolding built_store aggregate_fits count_words programme_of assemble
  aggregates_ok =
      subst (λ (n : ℕ). T (all_entries (aggregate_fits store) 1 aggregates_at n)) (sym (counted 9 (lit≤ tt)))
      (row_all (shape_after old.shape b) (aggregate_fits store) (length joined) (λ at x k e. ltb_is (word store at) x (varying_count store) (length joined) e c5 k)
      b.shape.aggregates aggregates_at (places_under joined _ _ (aggregates_placed w net)) (aggregates_held old.shape b room.shape fits.tables))

  virtual_storages_ok : T (all_entries (virtual_storage_fits store) 6 virtual_storages_at (virtual_storage_count store))
  unfolding built_store virtual_storage_fits virtual_storage_words count_words programme_of assemble
  virtual_storages_ok =
      subst (λ (n : ℕ). T (all_entries (virtual_storage_fits store) 6 virtual_storages_at n)) (sym (counted 10 (lit≤ tt)))
      (table_all (shape_after old.shape b) (virtual_storage_fits store) 6 virtual_storage_words (λ (v : VirtualStorageShape). v.row < length joined) virtual_storage_wide
      (λ at x k h.
      and_i (ltb (word store at) (varying_count store)) (leb (word store (at + 1)) 1)
      (ltb_is (word store at) x.row (varying_count store) (length joined) (first_word (shape_after old.shape b) at (virtual_storage_words x) h (lit≤ tt)) c5 k)
      (leb_is (word store (at + 1)) (flag_word (not x.period.always)) 1 (word_at (shape_after old.shape b) at (virtual_storage_words x) h 1 (lit≤ tt)) (flag_most (not x.period.always))))
      b.shape.virtual_storages virtual_storages_at
      (virtual_storages_under (length joined) net.virtual_storages (for_virtual_storages w net).places (places_under joined _ _ (virtual_storages_placed w net)))
      (virtual_storages_held_lem old.shape b room.shape fits.tables))

  -- a kind's limit in the store is that in the shape
  limit_is : (kind : ℕ) → makers_of_kind (built_store old (programme_of w net)) kind ≡ makers_for (programme_of w net).shape kind
  unfolding makers_of_kind
  limit_is kind =
      let nodes : node_count store ≡ length b.shape.nodes = c1 ∙ sym (shapes_long w net) in
      λ i. cond (leb kind by_node) (nodes i) (cond (eqb kind by_virtual_storage) (c10 i) (c9 i))

  makers_ok : T (all_entries (maker_fits store) 3 makers_at (row_count store))
  unfolding built_store maker_fits maker_words
  makers_ok =
      subst (λ (n : ℕ). T (all_entries (maker_fits store) 3 makers_at n)) (fits.tables.makers ∙ sym (ap₂ (λ (x y : ℕ). x + y) c5' c6))
      (table_all (shape_after old.shape b) (maker_fits store) 3 maker_words (Made b.shape) maker_wide
      (λ at x k h.
      let first : word store at ≡ x.kind = first_word (shape_after old.shape b) at (maker_words x) h (lit≤ tt) in
      let second : word store (at + 1) ≡ x.index = word_at (shape_after old.shape b) at (maker_words x) h 1 (lit≤ tt) in
      let third : word store (at + 2) ≡ x.shared_by = word_at (shape_after old.shape b) at (maker_words x) h 2 (lit≤ tt) in
      let limit : makers_of_kind store (word store at) ≡ makers_for b.shape x.kind = ap (makers_of_kind store) first ∙ limit_is x.kind in
      let p : Bool = leb (word store at) by_exclusivity in
      let q : Bool = ltb (word store (at + 1)) (makers_of_kind store (word store at)) in
      and_i (p && q) (leb 1 (word store (at + 2)))
      (and_i p q (leb_is (word store at) x.kind by_exclusivity first k.range.kind_most)
      (ltb_is (word store (at + 1)) x.index (makers_of_kind store (word store at)) (makers_for b.shape x.kind) second limit k.range.index_under))
      (le→leb 1 (word store (at + 2)) (subst (λ (n : ℕ). 1 ≤ n) (sym third) k.shared)))
      b.makers makers_at (makers_made w net sound) (makers_held old.shape b room.shape fits.tables))

  flow_order_ok : T (all_entries (flow_order_fits store) 1 flow_order_at (edge_count store))
  unfolding built_store flow_order_fits count_words programme_of assemble
  flow_order_ok =
      subst (λ (n : ℕ). T (all_entries (flow_order_fits store) 1 flow_order_at n)) (flow_length net ∙ sym c2)
      (row_all (shape_after old.shape b) (flow_order_fits store) (length net.edges) (λ at x k e. ltb_is (word store at) x (edge_count store) (length net.edges) e c2 k)
      b.shape.flow_order flow_order_at (flow_below net) (flow_order_held old.shape b room.shape fits.tables))

  pub shaped : T (well_shaped (built_store old (programme_of w net)))
  unfolding well_shaped
  shaped =
      eleven (counts_fit store) (leb (sentinel_code store) 1) (eqb (start_of store 0) 0 && starts_rise store 0 (row_count store))
      (all_entries (row_columns_rise store) 1 0 (row_count store)) (all_entries (node_fits store) 2 11 (node_count store))
      (all_entries (edge_fits store) 3 edges_at (edge_count store)) (all_entries (node_row_fits store) 4 node_rows_at (node_row_count store))
      (all_entries (aggregate_fits store) 1 aggregates_at (aggregate_count store)) (all_entries (virtual_storage_fits store) 6 virtual_storages_at (virtual_storage_count store))
      (all_entries (maker_fits store) 3 makers_at (row_count store)) (all_entries (flow_order_fits store) 1 flow_order_at (edge_count store))
      counts_ok (leb_is (sentinel_code store) (sentinel_word w) 1 c0 (sentinel_most w)) starts_ok rows_ok nodes_ok edges_ok node_rows_ok aggregates_ok virtual_storages_ok makers_ok
      flow_order_ok

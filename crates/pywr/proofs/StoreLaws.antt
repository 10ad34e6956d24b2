-- Reading back what was written: the tables of the shape run. Assumes nothing.
use mathlib.Core.Path.{◌≡◌, refl, sym, ap, ap₂, ◌∙◌, subst}
use Prim.Native.Nat.{ℕ, zero, suc, ◌+◌, ◌*◌, ◌<◌, ◌≤◌}
use native.Mathlib.Nat.{add-zero, add-suc, suc-add, add_assoc, not-suc-le-zero, le_refl, suc-mul, zero-mul, add_comm, zero-add}
use native.Mathlib.Omega.{arith}
use mathlib.Core.Bool.{Bool, true, false, not}
use mathlib.Core.List.{List, [], ◌∷◌, ◌++◌, map, flat_map}
use lib.ListN.{length, get_or, set, length-set, length-append, get_or-append}
use lib.Seq.{sets, length-sets, get_or-set_same, get_or-set_other, get_or-append-add}
use lib.Dec.{eqb, lit≤}
use Rattle.layout.specs.Layout.{aggregates_at, edges_at, flow_order_at, makers_at, node_row_ceiling, node_rows_at, shape_length, virtual_storages_at}
use Rattle.pywr.specs.ColEdgeMap.{MappedEdge}
use Rattle.pywr.specs.Programme.{NodeShape, RowType, continuous, binary_upper, binary_lower, NodeRow, VirtualStorageShape, Maker, Built}
use Rattle.pywr.specs.Store.{Store, row_type_of, entries, node_entry, edge_entry, node_row_entry, virtual_storage_entry, maker_entry, makers_in, shape_of}
use Rattle.pywr.specs.Written.{row_type_word, flag_word, node_words, edge_words, node_row_words, virtual_storage_words, maker_words, count_words, shape_after, built_store}

-- ---- a run of words at an offset

module _ {A : Type 0} (d : A) where
  unfoldable pub Holds : List A → ℕ → List A → Type 0
  Holds run at ws = (i : ℕ) → i < length ws → get_or run (at + i) d ≡ get_or ws i d

  -- a run of stores leaves what is before it
  sets_below : (vs run : List A) (at k : ℕ) → k < at → get_or (sets run at vs) k d ≡ get_or run k d
  sets_below [] run at k h = refl
  sets_below (v ∷ vs) run at k h = sets_below vs (set run at v) (suc at) k (omega arith) ∙ get_or-set_other run at k v d (λ e. let z : k < k = subst (λ (n : ℕ). k < n) (sym e) h in omega arith)

  -- and holds what was stored
  pub sets_holds : (vs run : List A) (at : ℕ) → at + length vs ≤ length run → Holds (sets run at vs) at vs
  unfolding Holds
  sets_holds [] run at h i k = absurd (not-suc-le-zero k)
  sets_holds (v ∷ vs) run at h zero k =
      ap (λ (n : ℕ). get_or (sets (set run at v) (suc at) vs) n d) (add-zero at)
      ∙ sets_below vs (set run at v) (suc at) at (le_refl (suc at))
      ∙ get_or-set_same run at v d (omega arith)
  sets_holds (v ∷ vs) run at h (suc i) k =
      ap (λ (n : ℕ). get_or (sets (set run at v) (suc at) vs) n d) (add-suc at i ∙ sym (suc-add at i))
      ∙ sets_holds vs (set run at v) (suc at) (let l = length-set run at v in omega arith) i (let m : suc i < suc (length vs) = k in omega arith)

  pub holds_after : (vs ws run : List A) (at later : ℕ) → at + length ws ≤ later → Holds run at ws → Holds (sets run later vs) at ws
  unfolding Holds
  holds_after vs ws run at later h holds i k = sets_below vs run later (at + i) (omega arith) ∙ holds i k

  -- a run of stores leaves what is after it
  sets_above : (vs run : List A) (at k : ℕ) → at + length vs ≤ k → get_or (sets run at vs) k d ≡ get_or run k d
  sets_above [] run at k h = refl
  sets_above (v ∷ vs) run at k h = sets_above vs (set run at v) (suc at) k (omega arith)
      ∙ get_or-set_other run at k v d (λ e. let m : at + suc (length vs) ≤ k = h in let z : at < at = (let q = e in omega arith) in omega arith)

  pub holds_before : (vs ws run : List A) (at earlier : ℕ) → earlier + length vs ≤ at → Holds run at ws → Holds (sets run earlier vs) at ws
  unfolding Holds
  holds_before vs ws run at earlier h holds i k = sets_above vs run earlier (at + i) (omega arith) ∙ holds i k

  -- the two halves of what is held
  pub holds_left : (run : List A) (at : ℕ) (ws vs : List A) → Holds run at (ws ++ vs) → Holds run at ws
  unfolding Holds
  holds_left run at ws vs holds i k = holds i (let l = length-append ws vs in omega arith) ∙ get_or-append ws vs d i k

  pub holds_right : (run : List A) (at : ℕ) (ws vs : List A) → Holds run at (ws ++ vs) → Holds run (at + length ws) vs
  unfolding Holds
  holds_right run at ws vs holds i k =
      ap (λ (n : ℕ). get_or run n d) (add_assoc at (length ws) i)
      ∙ holds (length ws + i) (let l = length-append ws vs in omega arith)
      ∙ get_or-append-add ws vs i d

-- ---- a table: entries of so many words, each read back from its words

-- each read as f has it
pub entries_read : {A B C : Type 0} (d : B) (run : List B) (entry : ℕ → C) (words : ℕ) (code : A → List B) (f : A → C)
    → ((x : A) → length (code x) ≡ words) → ((at : ℕ) (x : A) → Holds d run at (code x) → entry at ≡ f x)
    → (xs : List A) (at : ℕ) → Holds d run at (flat_map code xs) → entries entry words at (length xs) ≡ map f xs
unfolding entries flat_map
entries_read d run entry words code f wide reads [] at holds = refl
entries_read d run entry words code f wide reads (x ∷ xs) at holds =
    ap₂ (λ a b. a ∷ b) (reads at x (holds_left d run at (code x) (flat_map code xs) holds))
    (entries_read d run entry words code f wide reads xs (at + words)
    (subst (λ (n : ℕ). Holds d run (at + n) (flat_map code xs)) (wide x) (holds_right d run at (code x) (flat_map code xs) holds)))

pub map_same : {A : Type 0} (xs : List A) → map (λ (x : A). x) xs ≡ xs
map_same [] = refl
map_same {A} (x ∷ xs) = ap (λ (l : List A). x ∷ l) (map_same xs)

entries_back : {A B : Type 0} (d : B) (run : List B) (entry : ℕ → A) (words : ℕ) (code : A → List B)
    → ((x : A) → length (code x) ≡ words) → ((at : ℕ) (x : A) → Holds d run at (code x) → entry at ≡ x)
    → (xs : List A) (at : ℕ) → Holds d run at (flat_map code xs) → entries entry words at (length xs) ≡ xs
entries_back {A} d run entry words code wide reads xs at holds = entries_read d run entry words code (λ (x : A). x) wide reads xs at holds ∙ map_same xs

-- the word at the head, and at the next places
module _ (run : List ℕ) (at : ℕ) (ws : List ℕ) (holds : Holds 0 run at ws) where
  pub word_at : (i : ℕ) → i < length ws → get_or run (at + i) 0 ≡ get_or ws i 0
  unfolding Holds
  word_at i h = holds i h

  pub first_word : 0 < length ws → get_or run at 0 ≡ get_or ws 0 0
  unfolding Holds
  first_word h = ap (λ (n : ℕ). get_or run n 0) (sym (add-zero at)) ∙ holds 0 h

flag_back : (b : Bool) → eqb (flag_word b) 1 ≡ b
unfolding flag_word
flag_back true = refl
flag_back false = refl

period_back : (b : Bool) → eqb (flag_word (not b)) 0 ≡ b
unfolding flag_word
period_back true = refl
period_back false = refl

type_back : (t : RowType) → row_type_of (row_type_word t) ≡ t
unfolding row_type_of row_type_word
type_back continuous = refl
type_back binary_upper = refl
type_back binary_lower = refl

module _ (s : Store) where
  node_reads : (at : ℕ) (x : NodeShape) → Holds 0 s.shape at (node_words x) → node_entry s at ≡ x
  unfolding node_entry node_words
  node_reads at x h =
      let a = first_word s.shape at (node_words x) h (lit≤ tt) in
      let b = word_at s.shape at (node_words x) h 1 (lit≤ tt) in
      λ i. record { kind = a i; constant = (ap (λ (w : ℕ). eqb w 1) b ∙ flag_back x.constant) i }

  pipe_reads : (at : ℕ) (x : MappedEdge) → Holds 0 s.shape at (edge_words x) → edge_entry s at ≡ x
  unfolding edge_entry edge_words
  pipe_reads at x h =
      let a = first_word s.shape at (edge_words x) h (lit≤ tt) in
      let b = word_at s.shape at (edge_words x) h 1 (lit≤ tt) in
      let c = word_at s.shape at (edge_words x) h 2 (lit≤ tt) in
      λ i. record { from = a i; to = b i; column = c i }

  node_row_reads : (at : ℕ) (x : NodeRow) → Holds 0 s.shape at (node_row_words x) → node_row_entry s at ≡ x
  unfolding node_row_entry node_row_words
  node_row_reads at x h =
      let a = first_word s.shape at (node_row_words x) h (lit≤ tt) in
      let b = word_at s.shape at (node_row_words x) h 1 (lit≤ tt) in
      let c = word_at s.shape at (node_row_words x) h 2 (lit≤ tt) in
      let e = word_at s.shape at (node_row_words x) h 3 (lit≤ tt) in
      λ i. record { node = a i; row = b i; row_type = (ap row_type_of c ∙ type_back x.row_type) i; set = e i }

  virtual_storage_reads : (at : ℕ) (x : VirtualStorageShape) → Holds 0 s.shape at (virtual_storage_words x) → virtual_storage_entry s at ≡ x
  unfolding virtual_storage_entry virtual_storage_words
  virtual_storage_reads at x h =
      let a = first_word s.shape at (virtual_storage_words x) h (lit≤ tt) in
      let b = word_at s.shape at (virtual_storage_words x) h 1 (lit≤ tt) in
      let c = word_at s.shape at (virtual_storage_words x) h 2 (lit≤ tt) in
      let e = word_at s.shape at (virtual_storage_words x) h 3 (lit≤ tt) in
      let f = word_at s.shape at (virtual_storage_words x) h 4 (lit≤ tt) in
      let g = word_at s.shape at (virtual_storage_words x) h 5 (lit≤ tt) in
      λ i.
      record {
        row = a i;
        period =
            record { always = (ap (λ (w : ℕ). eqb w 0) b ∙ period_back x.period.always) i; start_month = c i; start_day = e i; end_month = f i; end_day = g i };
      }

  maker_reads : (at : ℕ) (x : Maker) → Holds 0 s.shape at (maker_words x) → maker_entry s at ≡ x
  unfolding maker_entry maker_words
  maker_reads at x h =
      let a = first_word s.shape at (maker_words x) h (lit≤ tt) in
      let b = word_at s.shape at (maker_words x) h 1 (lit≤ tt) in
      let c = word_at s.shape at (maker_words x) h 2 (lit≤ tt) in
      λ i. record { kind = a i; index = b i; shared_by = c i }

  row_reads : (at x : ℕ) → Holds 0 s.shape at (x ∷ []) → get_or s.shape at 0 ≡ x
  row_reads at x h = first_word s.shape at (x ∷ []) h (lit≤ tt)

-- ---- the shape of a built store

pub flat_length : {A : Type 0} (code : A → List ℕ) (words : ℕ) → ((x : A) → length (code x) ≡ words) → (xs : List A) → length (flat_map code xs) ≡ length xs * words
unfolding flat_map
flat_length code words wide [] = sym (zero-mul words)
flat_length code words wide (x ∷ xs) =
    length-append (code x) (flat_map code xs) ∙ ap₂ (λ (a b : ℕ). a + b) (wide x) (flat_length code words wide xs) ∙ add_comm words (length xs * words) ∙ sym (suc-mul (length xs) words)

pub node_wide : (x : NodeShape) → length (node_words x) ≡ 2
unfolding node_words
node_wide x = refl

pub pipe_wide : (x : MappedEdge) → length (edge_words x) ≡ 3
unfolding edge_words
pipe_wide x = refl

pub node_row_wide : (x : NodeRow) → length (node_row_words x) ≡ 4
unfolding node_row_words
node_row_wide x = refl

pub virtual_storage_wide : (x : VirtualStorageShape) → length (virtual_storage_words x) ≡ 6
unfolding virtual_storage_words
virtual_storage_wide x = refl

pub maker_wide : (x : Maker) → length (maker_words x) ≡ 3
unfolding maker_words
maker_wide x = refl

counts_wide : (b : Built) → length (count_words b) ≡ 11
unfolding count_words
counts_wide b = refl

pub singles : (xs : List ℕ) → flat_map (λ (x : ℕ). x ∷ []) xs ≡ xs
unfolding flat_map
singles [] = refl
singles (x ∷ xs) = ap (λ (l : List ℕ). x ∷ l) (singles xs)

pub record TablesFit (b : Built) : Type 0 where
  pub nodes : length b.shape.nodes ≤ 256
  pub mapped_edges : length b.shape.mapped_edges ≤ 512
  pub node_rows : length b.shape.node_rows ≤ node_row_ceiling
  pub aggregates : length b.shape.aggregates ≤ 64
  pub virtual_storages : length b.shape.virtual_storages ≤ 32
  pub rows : length b.programme.varying + length b.programme.fixed ≤ 1024
  pub makers : length b.makers ≡ length b.programme.varying + length b.programme.fixed
  pub flow_order : length b.shape.flow_order ≡ length b.shape.mapped_edges

module _ (b : Built) where
  abbrev node_table : List ℕ
  node_table = flat_map node_words b.shape.nodes

  abbrev pipe_table : List ℕ
  pipe_table = flat_map edge_words b.shape.mapped_edges

  abbrev node_row_table : List ℕ
  node_row_table = flat_map node_row_words b.shape.node_rows

  abbrev virtual_storage_table : List ℕ
  virtual_storage_table = flat_map virtual_storage_words b.shape.virtual_storages

  abbrev maker_table : List ℕ
  maker_table = flat_map maker_words b.makers

  -- the run after each table
  abbrev r1 : List ℕ → List ℕ
  r1 old = sets old 0 (count_words b)

  abbrev r2 : List ℕ → List ℕ
  r2 old = sets (r1 old) 11 node_table

  abbrev r3 : List ℕ → List ℕ
  r3 old = sets (r2 old) edges_at pipe_table

  abbrev r4 : List ℕ → List ℕ
  r4 old = sets (r3 old) node_rows_at node_row_table

  abbrev r5 : List ℕ → List ℕ
  r5 old = sets (r4 old) aggregates_at b.shape.aggregates

  abbrev r6 : List ℕ → List ℕ
  r6 old = sets (r5 old) virtual_storages_at virtual_storage_table

  abbrev r7 : List ℕ → List ℕ
  r7 old = sets (r6 old) makers_at maker_table

module _ (old : List ℕ) (b : Built) (room : shape_length ≤ length old) (fit : TablesFit b) where
  l1 : length (r1 b old) ≡ length old
  l1 = length-sets old 0 (count_words b)

  l2 : length (r2 b old) ≡ length old
  l2 = length-sets (r1 b old) 11 (node_table b) ∙ l1

  l3 : length (r3 b old) ≡ length old
  l3 = length-sets (r2 b old) edges_at (pipe_table b) ∙ l2

  l4 : length (r4 b old) ≡ length old
  l4 = length-sets (r3 b old) node_rows_at (node_row_table b) ∙ l3

  l5 : length (r5 b old) ≡ length old
  l5 = length-sets (r4 b old) aggregates_at b.shape.aggregates ∙ l4

  l6 : length (r6 b old) ≡ length old
  l6 = length-sets (r5 b old) virtual_storages_at (virtual_storage_table b) ∙ l5

  l7 : length (r7 b old) ≡ length old
  l7 = length-sets (r6 b old) makers_at (maker_table b) ∙ l6

  n2 : 11 + length (node_table b) ≤ edges_at
  n2 = let e = flat_length node_words 2 node_wide b.shape.nodes in let h = fit.nodes in omega arith

  n3 : edges_at + length (pipe_table b) ≤ node_rows_at
  n3 = let e = flat_length edge_words 3 pipe_wide b.shape.mapped_edges in let h = fit.mapped_edges in omega arith

  n4 : node_rows_at + length (node_row_table b) ≤ aggregates_at
  n4 = let e = flat_length node_row_words 4 node_row_wide b.shape.node_rows in let h = fit.node_rows in omega arith

  n5 : aggregates_at + length b.shape.aggregates ≤ virtual_storages_at
  n5 = let h = fit.aggregates in omega arith

  n6 : virtual_storages_at + length (virtual_storage_table b) ≤ makers_at
  n6 = let e = flat_length virtual_storage_words 6 virtual_storage_wide b.shape.virtual_storages in let h = fit.virtual_storages in omega arith

  n7 : makers_at + length (maker_table b) ≤ flow_order_at
  n7 = let e = flat_length maker_words 3 maker_wide b.makers in let h = fit.rows in let k = fit.makers in omega arith

  n8 : flow_order_at + length b.shape.flow_order ≤ shape_length
  n8 = let e = fit.flow_order in let h = fit.mapped_edges in omega arith

  -- the flow order is written last, behind every other table
  held_last : (xs : List ℕ) (at : ℕ) → at + length xs ≤ flow_order_at → Holds 0 (r7 b old) at xs → Holds 0 (shape_after old b) at xs
  unfolding shape_after
  held_last xs at n h = holds_after 0 b.shape.flow_order xs (r7 b old) at flow_order_at n h

  pub counts_held : Holds 0 (shape_after old b) 0 (count_words b)
  unfolding shape_after
  counts_held =
      let w = counts_wide b in
      let a = sets_holds 0 (count_words b) old 0 (omega arith) in
      let c = holds_after 0 (node_table b) (count_words b) (r1 b old) 0 11 (omega arith) a in
      let d = holds_after 0 (pipe_table b) (count_words b) (r2 b old) 0 edges_at (omega arith) c in
      let e = holds_after 0 (node_row_table b) (count_words b) (r3 b old) 0 node_rows_at (omega arith) d in
      let f = holds_after 0 b.shape.aggregates (count_words b) (r4 b old) 0 aggregates_at (omega arith) e in
      let g = holds_after 0 (virtual_storage_table b) (count_words b) (r5 b old) 0 virtual_storages_at (omega arith) f in
      let h = holds_after 0 (maker_table b) (count_words b) (r6 b old) 0 makers_at (omega arith) g in
      held_last (count_words b) 0 (omega arith) h

  pub nodes_held : Holds 0 (shape_after old b) 11 (node_table b)
  unfolding shape_after
  nodes_held =
      let n = n2 in
      let c = sets_holds 0 (node_table b) (r1 b old) 11 (let l = l1 in omega arith) in
      let d = holds_after 0 (pipe_table b) (node_table b) (r2 b old) 11 edges_at n c in
      let e = holds_after 0 (node_row_table b) (node_table b) (r3 b old) 11 node_rows_at (omega arith) d in
      let f = holds_after 0 b.shape.aggregates (node_table b) (r4 b old) 11 aggregates_at (omega arith) e in
      let g = holds_after 0 (virtual_storage_table b) (node_table b) (r5 b old) 11 virtual_storages_at (omega arith) f in
      let h = holds_after 0 (maker_table b) (node_table b) (r6 b old) 11 makers_at (omega arith) g in
      held_last (node_table b) 11 (omega arith) h

  pub pipes_held : Holds 0 (shape_after old b) edges_at (pipe_table b)
  unfolding shape_after
  pipes_held =
      let n = n3 in
      let d = sets_holds 0 (pipe_table b) (r2 b old) edges_at (let l = l2 in omega arith) in
      let e = holds_after 0 (node_row_table b) (pipe_table b) (r3 b old) edges_at node_rows_at n d in
      let f = holds_after 0 b.shape.aggregates (pipe_table b) (r4 b old) edges_at aggregates_at (omega arith) e in
      let g = holds_after 0 (virtual_storage_table b) (pipe_table b) (r5 b old) edges_at virtual_storages_at (omega arith) f in
      let h = holds_after 0 (maker_table b) (pipe_table b) (r6 b old) edges_at makers_at (omega arith) g in
      held_last (pipe_table b) edges_at (omega arith) h

  pub node_rows_held : Holds 0 (shape_after old b) node_rows_at (node_row_table b)
  unfolding shape_after
  node_rows_held =
      let n = n4 in
      let e = sets_holds 0 (node_row_table b) (r3 b old) node_rows_at (let l = l3 in omega arith) in
      let f = holds_after 0 b.shape.aggregates (node_row_table b) (r4 b old) node_rows_at aggregates_at n e in
      let g = holds_after 0 (virtual_storage_table b) (node_row_table b) (r5 b old) node_rows_at virtual_storages_at (omega arith) f in
      let h = holds_after 0 (maker_table b) (node_row_table b) (r6 b old) node_rows_at makers_at (omega arith) g in
      held_last (node_row_table b) node_rows_at (omega arith) h

  pub aggregates_held : Holds 0 (shape_after old b) aggregates_at b.shape.aggregates
  unfolding shape_after
  aggregates_held =
      let n = n5 in
      let f = sets_holds 0 b.shape.aggregates (r4 b old) aggregates_at (let l = l4 in omega arith) in
      let g = holds_after 0 (virtual_storage_table b) b.shape.aggregates (r5 b old) aggregates_at virtual_storages_at n f in
      let h = holds_after 0 (maker_table b) b.shape.aggregates (r6 b old) aggregates_at makers_at (omega arith) g in
      held_last b.shape.aggregates aggregates_at (omega arith) h

  pub virtual_storages_held_lem : Holds 0 (shape_after old b) virtual_storages_at (virtual_storage_table b)
  unfolding shape_after
  virtual_storages_held_lem =
      let n = n6 in
      let g = sets_holds 0 (virtual_storage_table b) (r5 b old) virtual_storages_at (let l = l5 in omega arith) in
      let h = holds_after 0 (maker_table b) (virtual_storage_table b) (r6 b old) virtual_storages_at makers_at n g in
      held_last (virtual_storage_table b) virtual_storages_at (omega arith) h

  pub makers_held : Holds 0 (shape_after old b) makers_at (maker_table b)
  unfolding shape_after
  makers_held =
      let n = n7 in
      let h = sets_holds 0 (maker_table b) (r6 b old) makers_at (let l = l6 in omega arith) in
      held_last (maker_table b) makers_at n h

  pub flow_order_held : Holds 0 (shape_after old b) flow_order_at b.shape.flow_order
  unfolding shape_after
  flow_order_held = let n = n8 in sets_holds 0 b.shape.flow_order (r7 b old) flow_order_at (let l = l7 in omega arith)

-- ---- what is read of a built store is what was built

-- a table of one word an entry
numbers_back : (s : Store) (at : ℕ) (xs : List ℕ) → Holds 0 s.shape at xs → entries (λ (i : ℕ). get_or s.shape i 0) 1 at (length xs) ≡ xs
numbers_back s at xs h =
    entries_back 0 s.shape (λ (i : ℕ). get_or s.shape i 0) 1 (λ (x : ℕ). x ∷ []) (λ x. refl) (row_reads s) xs at
    (subst (λ (l : List ℕ). Holds 0 s.shape at l) (sym (singles xs)) h)

module _ (old : Store) (b : Built) (room : shape_length ≤ length old.shape) (fit : TablesFit b) where
  pub count_is : (i : ℕ) → i < 11 → get_or (shape_after old.shape b) i 0 ≡ get_or (count_words b) i 0
  unfolding Holds
  count_is i h = ap (λ (n : ℕ). get_or (shape_after old.shape b) n 0) (sym (zero-add i)) ∙ counts_held old.shape b room fit i (let w = counts_wide b in omega arith)

  pub shape_back : shape_of (built_store old b) ≡ b.shape
  unfolding shape_of built_store count_words
  shape_back =
      let s : Store = built_store old b in
      let run : List ℕ = shape_after old.shape b in
      let nodes : entries (node_entry s) 2 11 (get_or run 1 0) ≡ b.shape.nodes =
      ap (entries (node_entry s) 2 11) (count_is 1 (lit≤ tt))
      ∙ entries_back 0 run (node_entry s) 2 node_words node_wide (node_reads s) b.shape.nodes 11 (nodes_held old.shape b room fit) in
      let mapped_edges : entries (edge_entry s) 3 edges_at (get_or run 2 0) ≡ b.shape.mapped_edges =
      ap (entries (edge_entry s) 3 edges_at) (count_is 2 (lit≤ tt))
      ∙ entries_back 0 run (edge_entry s) 3 edge_words pipe_wide (pipe_reads s) b.shape.mapped_edges edges_at (pipes_held old.shape b room fit) in
      let node_rows : entries (node_row_entry s) 4 node_rows_at (get_or run 8 0) ≡ b.shape.node_rows =
      ap (entries (node_row_entry s) 4 node_rows_at) (count_is 8 (lit≤ tt))
      ∙ entries_back 0 run (node_row_entry s) 4 node_row_words node_row_wide (node_row_reads s) b.shape.node_rows node_rows_at (node_rows_held old.shape b room fit) in
      let aggregates : entries (λ (at : ℕ). get_or run at 0) 1 aggregates_at (get_or run 9 0) ≡ b.shape.aggregates =
      ap (entries (λ (at : ℕ). get_or run at 0) 1 aggregates_at) (count_is 9 (lit≤ tt))
      ∙ numbers_back s aggregates_at b.shape.aggregates (aggregates_held old.shape b room fit) in
      let virtual_storages : entries (virtual_storage_entry s) 6 virtual_storages_at (get_or run 10 0) ≡ b.shape.virtual_storages =
      ap (entries (virtual_storage_entry s) 6 virtual_storages_at) (count_is 10 (lit≤ tt))
      ∙ entries_back 0 run (virtual_storage_entry s) 6 virtual_storage_words virtual_storage_wide (virtual_storage_reads s) b.shape.virtual_storages
      virtual_storages_at (virtual_storages_held_lem old.shape b room fit) in
      let flow : entries (λ (at : ℕ). get_or run at 0) 1 flow_order_at (get_or run 2 0) ≡ b.shape.flow_order =
      ap (entries (λ (at : ℕ). get_or run at 0) 1 flow_order_at) (count_is 2 (lit≤ tt) ∙ sym fit.flow_order)
      ∙ numbers_back s flow_order_at b.shape.flow_order (flow_order_held old.shape b room fit) in
      λ i.
      record {
        nodes = nodes i;
        mapped_edges = mapped_edges i;
        flow_order = flow i;
        edge_columns = count_is 3 (lit≤ tt) i;
        node_rows = node_rows i;
        aggregates = aggregates i;
        virtual_storages = virtual_storages i;
      }

  pub makers_back : makers_in (built_store old b) ≡ b.makers
  unfolding makers_in built_store count_words
  makers_back =
      let s : Store = built_store old b in
      let run : List ℕ = shape_after old.shape b in
      ap (entries (maker_entry s) 3 makers_at) (ap₂ (λ (m n : ℕ). m + n) (count_is 5 (lit≤ tt)) (count_is 6 (lit≤ tt)) ∙ sym fit.makers)
      ∙ entries_back 0 run (maker_entry s) 3 maker_words maker_wide (maker_reads s) b.makers makers_at (makers_held old.shape b room fit)

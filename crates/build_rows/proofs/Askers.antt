-- Those who asked for varying rows, read from the tables, are those of the definition, and every row that they were given is a varying row. Assumes nothing.
use mathlib.Core.Path.{◌≡◌, refl, sym, ap, ◌∙◌, subst}
use Prim.Native.Nat.{ℕ, zero, suc, ◌+◌, ◌*◌, ◌<◌}
use native.Mathlib.Nat.{add-zero}
use native.Mathlib.Omega.{arith}
use mathlib.Core.List.Memᴰ
use mathlib.Core.List.{List, [], ◌∷◌, ◌++◌, map, flat_map}
use lib.ListN.{length, get_or}
use lib.Dec.{lit≤}
use Rattle.layout.specs.Layout.{node_rows_at, aggregates_at, virtual_storages_at}
use Rattle.laws.specs.Part.{part}
use Rattle.laws.proofs.Sets.{part_at}
use Rattle.pywr.specs.Programme.{NodeRow, VirtualStorageShape, Shape, by_node, by_aggregate, by_virtual_storage}
use Rattle.pywr.specs.Makers.{Asker, askers_by_nodes, askers_in_turn, askers}
use Rattle.pywr.specs.Store.{entries}
use Rattle.pywr.specs.Written.{node_row_words, virtual_storage_words}
use Rattle.pywr.proofs.ListLaws.{AllMem}
use Rattle.pywr.proofs.StoreLaws.{Holds, first_word, word_at, node_row_wide, virtual_storage_wide, flat_length, singles, entries_read, map_same}
use Rattle.pywr.proofs.EntryLaws.{entries_length, entries_snoc}
use Rattle.build_sharers.specs.Sharers.{node_asker, entry_asker, askers_to, askers_in, RowsUnder}

-- a part of a run that is known
part_holds : (run ws : List ℕ) (at n : ℕ) → length ws ≡ n → part at n run ≡ ws → Holds 0 run at ws
unfolding Holds
part_holds run ws at n l e i h = sym (part_at run at n i 0 (omega (arith, l))) ∙ ap (λ (x : List ℕ). get_or x i 0) e

-- ---- who asked, by the tables

turn_snoc : (kind index : ℕ) (rows : List ℕ) (row : ℕ)
    → askers_in_turn kind index (rows ++ (row ∷ [])) ≡ askers_in_turn kind index rows ++ (record { kind = kind; index = index + length rows; row = row } ∷ [])
unfolding askers_in_turn
turn_snoc kind index [] row = ap (λ (k : ℕ). record { kind = kind; index = k; row = row } ∷ []) (sym (add-zero index))
turn_snoc kind index (x ∷ rows) row =
    let e : suc index + length rows ≡ index + suc (length rows) = omega arith in
    ap (λ (l : List Asker). record { kind = kind; index = index; row = x } ∷ l)
    (turn_snoc kind (suc index) rows row ∙ ap (λ (k : ℕ). askers_in_turn kind (suc index) rows ++ (record { kind = kind; index = k; row = row } ∷ [])) e)

module _ (shape : List ℕ) where
  abbrev asks_at : ℕ → Asker
  asks_at p = record { kind = by_node; index = get_or shape p 0; row = get_or shape (p + 1) 0 }

  nodes_asked : (count : ℕ) → askers_to (node_asker shape) count ≡ entries asks_at 4 node_rows_at count
  unfolding askers_to entries
  nodes_asked zero = refl
  nodes_asked (suc count) = ap (λ (l : List Asker). l ++ (node_asker shape count ∷ [])) (nodes_asked count) ∙ sym (entries_snoc asks_at 4 node_rows_at count)

  in_turn_asked : (at width kind count : ℕ) → askers_to (entry_asker shape at width kind) count ≡ askers_in_turn kind 0 (entries (λ (p : ℕ). get_or shape p 0) width at count)
  unfolding askers_to entries askers_in_turn
  in_turn_asked at width kind zero = refl
  in_turn_asked at width kind (suc count) =
      let rows : List ℕ = entries (λ (p : ℕ). get_or shape p 0) width at count in
      let row : ℕ = get_or shape (at + width * count) 0 in
      let k : 0 + length rows ≡ count = omega (arith, entries_length (λ (p : ℕ). get_or shape p 0) width at count) in
      ap (λ (l : List Asker). l ++ (entry_asker shape at width kind count ∷ [])) (in_turn_asked at width kind count)
      ∙ ap (λ (j : ℕ). askers_in_turn kind 0 rows ++ (record { kind = kind; index = j; row = row } ∷ [])) (sym k)
      ∙ sym (turn_snoc kind 0 rows row)
      ∙ ap (askers_in_turn kind 0) (sym (entries_snoc (λ (p : ℕ). get_or shape p 0) width at count))

  module _ (b : Shape) (nodes : part node_rows_at (4 * length b.node_rows) shape ≡ flat_map node_row_words b.node_rows)
      (aggregates : part aggregates_at (length b.aggregates) shape ≡ b.aggregates)
      (virtual_storages : part virtual_storages_at (6 * length b.virtual_storages) shape ≡ flat_map virtual_storage_words b.virtual_storages) where
    by_nodes : askers_to (node_asker shape) (length b.node_rows) ≡ askers_by_nodes b.node_rows
    unfolding askers_by_nodes node_row_words
    by_nodes =
        nodes_asked (length b.node_rows)
        ∙ entries_read 0 shape asks_at 4 node_row_words (λ (n : NodeRow). record { kind = by_node; index = n.node; row = n.row }) node_row_wide
        (λ at x h.
        let node = first_word shape at (node_row_words x) h (lit≤ tt) in
        let row = word_at shape at (node_row_words x) h 1 (lit≤ tt) in
        λ i. record { kind = by_node; index = node i; row = row i })
        b.node_rows node_rows_at
        (part_holds shape (flat_map node_row_words b.node_rows) node_rows_at (4 * length b.node_rows) (omega (arith, flat_length node_row_words 4 node_row_wide b.node_rows)) nodes)

    by_aggregates : askers_to (entry_asker shape aggregates_at 1 by_aggregate) (length b.aggregates) ≡ askers_in_turn by_aggregate 0 b.aggregates
    by_aggregates =
        in_turn_asked aggregates_at 1 by_aggregate (length b.aggregates)
        ∙ ap (askers_in_turn by_aggregate 0)
        (entries_read 0 shape (λ (p : ℕ). get_or shape p 0) 1 (λ (x : ℕ). x ∷ []) (λ (x : ℕ). x) (λ x. refl) (λ at x h. first_word shape at (x ∷ []) h (lit≤ tt)) b.aggregates aggregates_at
        (subst (Holds 0 shape aggregates_at) (sym (singles b.aggregates)) (part_holds shape b.aggregates aggregates_at (length b.aggregates) refl aggregates))
        ∙ map_same b.aggregates)

    by_virtual_storages : askers_to (entry_asker shape virtual_storages_at 6 by_virtual_storage) (length b.virtual_storages)
        ≡ askers_in_turn by_virtual_storage 0 (map (λ (v : VirtualStorageShape). v.row) b.virtual_storages)
    unfolding virtual_storage_words
    by_virtual_storages =
        in_turn_asked virtual_storages_at 6 by_virtual_storage (length b.virtual_storages)
        ∙ ap (askers_in_turn by_virtual_storage 0)
        (entries_read 0 shape (λ (p : ℕ). get_or shape p 0) 6 virtual_storage_words (λ (v : VirtualStorageShape). v.row) virtual_storage_wide
        (λ at x h. first_word shape at (virtual_storage_words x) h (lit≤ tt)) b.virtual_storages virtual_storages_at
        (part_holds shape (flat_map virtual_storage_words b.virtual_storages) virtual_storages_at (6 * length b.virtual_storages)
        (omega (arith, flat_length virtual_storage_words 6 virtual_storage_wide b.virtual_storages)) virtual_storages))

    pub askers_are : askers_in shape (length b.node_rows) (length b.aggregates) (length b.virtual_storages) ≡ askers b
    unfolding askers
    askers_are = rw (by_nodes, by_aggregates, by_virtual_storages)

-- ---- the rows that they were given

pub all_under : (rows : ℕ) (all : List Asker) → AllMem (λ (a : Asker). a.row < rows) all → RowsUnder rows all
all_under rows [] h = tt
all_under rows (a ∷ all) h = (h a (Memᴰ.head refl), all_under rows all (λ x m. h x (Memᴰ.tail m)))

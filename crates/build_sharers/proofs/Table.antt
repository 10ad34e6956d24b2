-- The table of makers: cleared, counted in three walks, and whole. Assumes nothing.
use mathlib.Core.Path.{◌≡◌, refl, sym, ap, ap₂, ◌∙◌, subst}
use Prim.Native.Nat.{ℕ, zero, suc, ◌+◌, ◌*◌, ◌-◌, ◌<◌, ◌≤◌}
use native.Mathlib.Nat.{sub-zero, mul-suc}
use native.Mathlib.Omega.{arith}
use mathlib.Core.List.{List, [], ◌++◌, flat_map}
use lib.ListN.{length, take, replicate, length-append, length-replicate, replicate-append-replicate}
use lib.Seq.{sets, length-sets}
use Rattle.layout.specs.Layout.{aggregates_at, makers_at, node_rows_at, node_row_ceiling, shape_length, virtual_storages_at}
use Rattle.laws.specs.Part.{part}
use Rattle.laws.proofs.Runs.{flat_append}
use Rattle.laws.proofs.Sets.{sets_behind, part_same, part_before}
use Rattle.pywr.specs.Programme.{Maker, by_aggregate, by_virtual_storage}
use Rattle.pywr.specs.Makers.{Asker, sharers_of, first_of, maker_of, varying_makers}
use Rattle.pywr.specs.Written.{maker_words}
use Rattle.pywr.proofs.StoreLaws.{maker_wide}
use Rattle.build_append.proofs.RowLaws.{part_more}
use Rattle.build_makers.proofs.Entries.{table_length}
use Rattle.build_sharers.specs.Sharers.{node_asker, entry_asker, askers_to, askers_in, RowsUnder, MakersOf, Counting, Counted}
use Rattle.build_sharers.proofs.Walk.{word_kept, under_left, under_right, askers_length}

-- ---- cleared: nobody has asked

abbrev pub nobody : Maker
nobody = record { kind = 0; index = 0; shared_by = 0 }

none_asked : (r : ℕ) → maker_of [] r ≡ nobody
unfolding maker_of sharers_of first_of
none_asked r = refl

-- entry r of a table of equal entries
module _ (m : Maker) (l : List ℕ) (b n r : ℕ) (h : r < n) (room : b + 3 * n ≤ length l) where
  abbrev front : List ℕ
  front = flat_map maker_words (replicate r m)

  abbrev back : List ℕ
  back = flat_map maker_words (replicate (n - suc r) m)

  front_long : length front ≡ 3 * r
  front_long = table_length (replicate r m) ∙ ap (λ (k : ℕ). 3 * k) (length-replicate r m)

  split : flat_map maker_words (replicate n m) ≡ front ++ (maker_words m ++ back)
  unfolding flat_map
  split =
      let e : r + suc (n - suc r) ≡ n = omega arith in
      ap (λ (k : ℕ). flat_map maker_words (replicate k m)) (sym e)
      ∙ ap (flat_map maker_words) (sym (replicate-append-replicate r (suc (n - suc r)) m))
      ∙ flat_append maker_words (replicate r m) (replicate (suc (n - suc r)) m)

  same_entry : part (b + 3 * r) 3 (sets l b (flat_map maker_words (replicate n m))) ≡ maker_words m
  same_entry =
      let at : ℕ = b + 3 * r in
      let run : List ℕ = sets l b front in
      let is : sets l b (flat_map maker_words (replicate n m)) ≡ sets (sets run at (maker_words m)) (at + 3) back =
      ap (sets l b) split
      ∙ sym (sets_behind l front (maker_words m ++ back) b at (omega (arith, front_long)))
      ∙ sym (sets_behind run (maker_words m) back at (at + 3) (omega (arith, maker_wide m))) in
      ap (part at 3) is
      ∙ part_before (sets run at (maker_words m)) back (at + 3) at 3 (omega arith)
      ∙ part_same run (maker_words m) at 3 (maker_wide m) (omega (arith, length-sets l b front))

module _ (shape shape' : List ℕ) (rows : ℕ) (few : rows ≤ 1024) (room : shape_length ≤ length shape)
    (e : shape' ≡ sets shape (makers_at + 3 * 0) (flat_map maker_words (replicate (rows - 0) nobody))) where
  written : shape' ≡ sets shape makers_at (flat_map maker_words (replicate rows nobody))
  written =
      let z : makers_at + 3 * 0 ≡ makers_at = omega arith in
      e ∙ ap₂ (λ (p k : ℕ). sets shape p (flat_map maker_words (replicate k nobody))) z (sub-zero rows)

  pub cleared : MakersOf [] rows shape'
  cleared r h = ap (part (makers_at + 3 * r) 3) written ∙ same_entry nobody shape makers_at rows r h (omega arith) ∙ ap maker_words (sym (none_asked r))

  pub cleared_kept : take makers_at shape' ≡ take makers_at shape
  cleared_kept = ap (take makers_at) written ∙ part_before shape (flat_map maker_words (replicate rows nobody)) makers_at 0 makers_at (omega arith)

-- ---- the tables name the same askers where the words before the table of makers stay

module _ (shape shape' : List ℕ) (kept : take makers_at shape' ≡ take makers_at shape) where
  pub nodes_same : (count : ℕ) → count ≤ node_row_ceiling → askers_to (node_asker shape') count ≡ askers_to (node_asker shape) count
  unfolding askers_to
  nodes_same zero h = refl
  nodes_same (suc count) h =
      let node = word_kept shape shape' (node_rows_at + 4 * count) (omega arith) kept in
      let row = word_kept shape shape' (node_rows_at + 4 * count + 1) (omega arith) kept in
      rw (nodes_same count (omega arith), node, row)

  pub entries_same : (at width kind count : ℕ) → 1 ≤ width → at + width * count ≤ makers_at
      → askers_to (entry_asker shape' at width kind) count ≡ askers_to (entry_asker shape at width kind) count
  unfolding askers_to
  entries_same at width kind zero w h = refl
  entries_same at width kind (suc count) w h =
      let more : width * suc count ≡ width * count + width = mul-suc width count in
      let row = word_kept shape shape' (at + width * count) (omega (arith, more, w, h)) kept in
      rw (entries_same at width kind count w (omega (arith, more, h)), row)

-- ---- whole

table_from : (all : List Asker) (shape : List ℕ) (row count : ℕ) → ((r : ℕ) → r < row + count → part (makers_at + 3 * r) 3 shape ≡ maker_words (maker_of all r))
    → part (makers_at + 3 * row) (3 * count) shape ≡ flat_map maker_words (varying_makers all row count)
unfolding varying_makers flat_map
table_from all shape row zero h = refl
table_from all shape row (suc count) h =
    let next : makers_at + 3 * row + 3 ≡ makers_at + 3 * suc row = omega arith in
    part_more shape (maker_words (maker_of all row)) (flat_map maker_words (varying_makers all (suc row) count)) (makers_at + 3 * row) 3 (makers_at + 3 * suc row) (3 * count) (3 * suc count)
    next (omega arith) (h row (omega arith)) (table_from all shape (suc row) count (λ r l. h r (omega arith)))

pub table_whole : (all : List Asker) (shape : List ℕ) (rows : ℕ) → MakersOf all rows shape → part makers_at (3 * rows) shape ≡ flat_map maker_words (varying_makers all 0 rows)
table_whole all shape rows held =
    let z : makers_at ≡ makers_at + 3 * 0 = omega arith in
    ap (λ (p : ℕ). part p (3 * rows) shape) z ∙ table_from all shape 0 rows (λ r h. held r (omega (arith, h)))

-- ---- the three walks

module _ (s₀ : List ℕ) (rows node_rows aggregates virtual_storages : ℕ) (few : rows ≤ 1024) (few_node_rows : node_rows ≤ node_row_ceiling) (few_aggregates : aggregates ≤ 64)
    (few_virtual_storages : virtual_storages ≤ 32) (room : shape_length ≤ length s₀) (under : RowsUnder rows (askers_in s₀ node_rows aggregates virtual_storages)) where
  abbrev node_askers : List ℕ → List Asker
  node_askers s = askers_to (node_asker s) node_rows

  abbrev aggregate_askers : List ℕ → List Asker
  aggregate_askers s = askers_to (entry_asker s aggregates_at 1 by_aggregate) aggregates

  abbrev virtual_storage_askers : List ℕ → List Asker
  virtual_storage_askers s = askers_to (entry_asker s virtual_storages_at 6 by_virtual_storage) virtual_storages

  abbrev UnderAll : Type 0
  UnderAll = RowsUnder rows (node_askers s₀) × RowsUnder rows (aggregate_askers s₀) × RowsUnder rows (virtual_storage_askers s₀)

  under_all : UnderAll
  under_all =
      let front = under_left rows (node_askers s₀ ++ aggregate_askers s₀) (virtual_storage_askers s₀) under in (
        under_left rows (node_askers s₀) (aggregate_askers s₀) front,
        under_right rows (node_askers s₀) (aggregate_askers s₀) front,
        under_right rows (node_askers s₀ ++ aggregate_askers s₀) (virtual_storage_askers s₀) under,
      )

  module _ (s₁ : List ℕ) (e₁ : s₁ ≡ sets s₀ (makers_at + 3 * 0) (flat_map maker_words (replicate (rows - 0) nobody))) where
    kept₁ : take makers_at s₁ ≡ take makers_at s₀
    kept₁ = cleared_kept s₀ s₁ rows few room e₁

    nodes₁ : node_askers s₁ ≡ node_askers s₀
    nodes₁ = nodes_same s₀ s₁ kept₁ node_rows few_node_rows

    pub nodes_ready : Counting s₁ (askers_to (node_asker s₁) node_rows)
    nodes_ready =
        record {
          rows = rows;
          all = [];
          few = few;
          room = omega (arith, askers_length (node_asker s₁) node_rows);
          under = subst (RowsUnder rows) (sym nodes₁) under_all.0;
          held = cleared s₀ s₁ rows few room e₁;
        }

    module _ (s₂ : List ℕ) (c₂ : Counted s₁ (askers_to (node_asker s₁) node_rows) s₂) where
      kept₂ : take makers_at s₂ ≡ take makers_at s₀
      kept₂ = c₂.kept ∙ kept₁

      held₂ : MakersOf (node_askers s₀) rows s₂
      held₂ = subst (λ (l : List Asker). MakersOf l rows s₂) nodes₁ (c₂.held rows [] (cleared s₀ s₁ rows few room e₁))

      aggregates₂ : aggregate_askers s₂ ≡ aggregate_askers s₀
      aggregates₂ = entries_same s₀ s₂ kept₂ aggregates_at 1 by_aggregate aggregates (omega arith) (omega arith)

      pub aggregates_ready : Counting s₂ (askers_to (entry_asker s₂ aggregates_at 1 by_aggregate) aggregates)
      aggregates_ready =
          record {
            rows = rows;
            all = node_askers s₀;
            few = few;
            room = omega (arith, askers_length (node_asker s₀) node_rows, askers_length (entry_asker s₂ aggregates_at 1 by_aggregate) aggregates);
            under = subst (RowsUnder rows) (sym aggregates₂) under_all.1;
            held = held₂;
          }

      module _ (s₃ : List ℕ) (c₃ : Counted s₂ (askers_to (entry_asker s₂ aggregates_at 1 by_aggregate) aggregates) s₃) where
        kept₃ : take makers_at s₃ ≡ take makers_at s₀
        kept₃ = c₃.kept ∙ kept₂

        held₃ : MakersOf (node_askers s₀ ++ aggregate_askers s₀) rows s₃
        held₃ = subst (λ (l : List Asker). MakersOf (node_askers s₀ ++ l) rows s₃) aggregates₂ (c₃.held rows (node_askers s₀) held₂)

        virtualStorages₃ : virtual_storage_askers s₃ ≡ virtual_storage_askers s₀
        virtualStorages₃ = entries_same s₀ s₃ kept₃ virtual_storages_at 6 by_virtual_storage virtual_storages (omega arith) (omega arith)

        pub virtual_storages_ready : Counting s₃ (askers_to (entry_asker s₃ virtual_storages_at 6 by_virtual_storage) virtual_storages)
        virtual_storages_ready =
            record {
              rows = rows;
              all = node_askers s₀ ++ aggregate_askers s₀;
              few = few;
              room = omega (
                arith,
                length-append (node_askers s₀) (aggregate_askers s₀),
                askers_length (node_asker s₀) node_rows,
                askers_length (entry_asker s₀ aggregates_at 1 by_aggregate) aggregates,
                askers_length (entry_asker s₃ virtual_storages_at 6 by_virtual_storage) virtual_storages,
              );
              under = subst (RowsUnder rows) (sym virtualStorages₃) under_all.2;
              held = held₃;
            }

        pub all_counted : (s₄ : List ℕ) → Counted s₃ (askers_to (entry_asker s₃ virtual_storages_at 6 by_virtual_storage) virtual_storages) s₄
            → (part makers_at (3 * rows) s₄ ≡ flat_map maker_words (varying_makers (askers_in s₀ node_rows aggregates virtual_storages) 0 rows)) × (take makers_at s₄ ≡ take makers_at s₀)
        all_counted s₄ c₄ =
            let held₄ = subst (λ (l : List Asker). MakersOf (node_askers s₀ ++ aggregate_askers s₀ ++ l) rows s₄) virtualStorages₃ (c₄.held rows (node_askers s₀ ++ aggregate_askers s₀) held₃) in
            (table_whole (askers_in s₀ node_rows aggregates virtual_storages) s₄ rows held₄, c₄.kept ∙ kept₃)

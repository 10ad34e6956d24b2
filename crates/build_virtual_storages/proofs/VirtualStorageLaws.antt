-- The parts of a virtual storage and the virtual storages of a network, each in turn, what a passed record tells of them, and an entry of their table. Assumes nothing.
use mathlib.Core.Path.{◌≡◌, refl, sym, ap, ap₂, ◌∙◌}
use Prim.Native.Nat.{ℕ, suc, ◌+◌, ◌*◌, ◌<◌, ◌≤◌}
use native.Mathlib.Omega.{arith}
use mathlib.Core.Bool.{Bool, true, false, not}
use mir.Val.{bool_byte}
use Rattle.std.specs.Prelude.{Result, Ok}
use mathlib.Core.List.{List, [], ◌∷◌, ◌++◌, flat_map}
use lib.ListN.{length, get_or, set, length-map}
use lib.Seq.{sets}
use lib.Ieee.{Float, neg}
use Rattle.pywr.specs.Bytes.{byte}
use Rattle.pywr.specs.Network.{Part, Period, VirtualStorage}
use Rattle.pywr.specs.Misshapen.{columns_rise}
use Rattle.pywr.specs.Store.{elements_of}
use Rattle.pywr.specs.Rows.{Element, ColumnMap, column_map, add_node, add_parts, virtual_storage_row}
use Rattle.pywr.specs.Programme.{VirtualStorageShape}
use Rattle.pywr.specs.Build.{placed_virtual_storages}
use Rattle.pywr.specs.Written.{flag_word, virtual_storage_words}
use Rattle.pywr.proofs.ListLaws.{found_get, found_map}
use Rattle.fields.specs.Records.{records_at, records_end}
use Rattle.pywr.specs.declared.Refusal.{Refusal}
use Rattle.fields.proofs.RecordLaws.{end_more}
use Rattle.network_virtual_storage.specs.VirtualStorage.{part_at, period_at, virtual_storage_at, virtual_storage_end, check_virtual_storage}
use Rattle.network_laws.specs.Sections.{Sections}
use Rattle.network_laws.specs.Passed.{PartPassed, VirtualStoragePassed}
use Rattle.network_laws.proofs.Passed.{virtual_storage_passed}
use Rattle.network_laws.proofs.Index.{virtual_storage_count_lem, virtual_storage_index}
use Rattle.network_record.specs.declared.Counts.{Counts}
use Rattle.build_row.specs.RowBuilder.{gathered}
use Rattle.build_append.proofs.RowLaws.{flat_snoc}
use Rattle.build_node_row.specs.Tables.{network_of}
use Rattle.build_node_row.specs.NodeAdded.{NodeAdded}
use Rattle.build_row.specs.Gathered.{Gathered}
use Rattle.build_join.proofs.GatherLaws.{Adding, adding_none, adding_more, adding_all}
use Rattle.build_virtual_storages.specs.VirtualStorageRows.{virtual_storage_rows, virtual_storage_table}

-- ---- the parts of the virtual storage at `at`

module _ (file : List ℕ) (c : Counts) (at : ℕ) where
  abbrev f : ColumnMap
  f = column_map (network_of file c)

  abbrev whole : List Element
  whole = virtual_storage_row f (virtual_storage_at file at)

  -- the parts from number k on are left
  abbrev pub AddingParts : ℕ → List ℕ → List Float → ℕ → Type 0
  AddingParts k columns elements n = Adding (add_parts f) (part_at file) (λ x. x + 10) (byte file (at + 7)) whole k (at + 8 + 10 * k) columns elements n

  pub parts_none : (columns : List ℕ) (elements : List Float) → AddingParts 0 columns elements 0
  unfolding virtual_storage_row gathered elements_of columns_rise
  parts_none columns elements =
      let first : at + 8 ≡ at + 8 + 10 * 0 = omega arith in
      adding_none (add_parts f) (part_at file) (λ x. x + 10) (byte file (at + 7)) whole (at + 8 + 10 * 0) columns elements 0
      (ap (λ (k : ℕ). add_parts f (records_at (part_at file) (λ x. x + 10) (byte file (at + 7)) k) []) first) refl (omega arith)

  module _ (k : ℕ) (columns : List ℕ) (elements : List Float) (n : ℕ) (a : AddingParts k columns elements n) where
    pub parts_more : (node : ℕ) (x : Float) (columns' : List ℕ) (elements' : List Float) (r : ℕ) → k < byte file (at + 7)
        → node ≡ (part_at file (at + 8 + 10 * k)).node → x ≡ (part_at file (at + 8 + 10 * k)).factor
        → NodeAdded file c node (neg x) columns elements n columns' elements' r → AddingParts (k + 1) columns' elements' r
    unfolding add_parts
    parts_more node x columns' elements' r lt en ex h =
        adding_more (add_parts f) (part_at file) (λ x. x + 10) (byte file (at + 7)) whole k (at + 8 + 10 * k) columns elements n a
        (λ (p : Part) row. add_node f p.node (neg p.factor) row) (λ x xs row. refl) lt
        (at + 8 + 10 * (k + 1)) columns' elements' r (omega arith)
        (record {
          is = h.row ∙ ap₂ (λ (j : ℕ) (y : Float). add_node f j (neg y) (gathered columns elements n)) en ex;
          rising = h.rising;
          few = h.few;
        })

    pub parts_all : byte file (at + 7) ≤ k → Gathered whole columns elements n
    unfolding add_parts
    parts_all le = adding_all (add_parts f) (part_at file) (λ x. x + 10) (byte file (at + 7)) whole k (at + 8 + 10 * k) columns elements n a (λ row. refl) le

-- ---- a virtual storage that passed

module _ (file : List ℕ) (nodes at : ℕ) (passed : check_virtual_storage file nodes at ≡ Ok (virtual_storage_end file at)) where
  told : VirtualStoragePassed file nodes at
  told = virtual_storage_passed file nodes at (virtual_storage_end file at) passed

  pub virtual_storage_within : virtual_storage_end file at ≤ length file
  virtual_storage_within = told.within

  pub fields_within : at + 8 ≤ length file
  fields_within = omega (arith, told.within)

  pub part_told : (k : ℕ) → k < byte file (at + 7) → PartPassed file nodes (at + 8 + 10 * k)
  part_told = told.parts

-- ---- an entry of the table

-- a flag's word is that of the bool
pub flag_is : (b : Bool) → bool_byte b ≡ flag_word b
unfolding flag_word
flag_is true = refl
flag_is false = refl

pub entry_written : (words : List ℕ) (at row flag start_month start_day end_month end_day : ℕ) (p : Period) → flag ≡ flag_word (not p.always)
    → start_month ≡ p.start_month → start_day ≡ p.start_day → end_month ≡ p.end_month → end_day ≡ p.end_day
    → set (set (set (set (set (set words at row) (at + 1) flag) (at + 2) start_month) (at + 3) start_day) (at + 4) end_month) (at + 5) end_day
    ≡ sets words at (virtual_storage_words (record { row = row; period = p }))
unfolding virtual_storage_words
entry_written words at row flag start_month start_day end_month end_day p ef em ed fm fd =
    let a : at + 1 ≡ suc at = omega arith in
    let b : at + 2 ≡ suc (suc at) = omega arith in
    let c : at + 3 ≡ suc (suc (suc at)) = omega arith in
    let d : at + 4 ≡ suc (suc (suc (suc at))) = omega arith in
    let e : at + 5 ≡ suc (suc (suc (suc (suc at)))) = omega arith in
    rw (a, b, c, d, e, ef, em, ed, fm, fd)

pub entry_same : (words words' : List ℕ) (at row k : ℕ) (p q : Period) → words' ≡ sets words at (virtual_storage_words (record { row = row; period = p })) → row ≡ k → p ≡ q
    → words' ≡ sets words at (virtual_storage_words (record { row = k; period = q }))
entry_same words words' at row k p q e er ep = e ∙ ap₂ (λ (j : ℕ) (z : Period). sets words at (virtual_storage_words (record { row = j; period = z }))) er ep

placed_none : (vs : List VirtualStorage) → placed_virtual_storages vs [] ≡ []
unfolding placed_virtual_storages
placed_none [] = refl
placed_none (v ∷ vs) = refl

placed_more : (vs : List VirtualStorage) (places : List ℕ) (k : ℕ) (d : VirtualStorage) → length places < length vs
    → placed_virtual_storages vs (places ++ (k ∷ [])) ≡ placed_virtual_storages vs places ++ (record { row = k; period = (get_or vs (length places) d).period } ∷ [])
unfolding placed_virtual_storages
placed_more [] places k d h = absurd (omega arith)
placed_more (v ∷ vs) [] k d h = ap (λ (l : List VirtualStorageShape). record { row = k; period = v.period } ∷ l) (placed_none vs)
placed_more (v ∷ vs) (p ∷ ps) k d h = ap (λ (l : List VirtualStorageShape). record { row = p; period = v.period } ∷ l) (placed_more vs ps k d (omega arith))

-- ---- the virtual storages of a network

module _ (file : List ℕ) (c : Counts) (sections : Sections file c.nodes c.edges c.aggregates c.virtual_storages c.virtual_storages_at) where
  abbrev virtual_storages : List VirtualStorage
  virtual_storages = (network_of file c).virtual_storages

  count : length virtual_storages ≡ c.virtual_storages
  count = virtual_storage_count_lem file c.nodes c.edges c.aggregates c.virtual_storages

  pub asked_count : length (virtual_storage_rows (network_of file c)) ≡ c.virtual_storages
  asked_count = length-map virtual_storages (virtual_storage_row (column_map (network_of file c))) ∙ count

  pub table_none : virtual_storage_table (network_of file c) [] ≡ []
  unfolding flat_map
  table_none = ap (flat_map virtual_storage_words) (placed_none virtual_storages)

  module _ (i at : ℕ) (lt : i < c.virtual_storages) (e : at ≡ records_end (virtual_storage_end file) i c.virtual_storages_at) where
    pub virtual_storage_check : check_virtual_storage file c.nodes at ≡ Ok (virtual_storage_end file at)
    virtual_storage_check = rw e (sections.virtual_storages_pass i lt ∙ ap {B = Result ℕ Refusal} (λ (x : ℕ). Ok x) (end_more (virtual_storage_end file) i c.virtual_storages_at))

    pub virtual_storage_next : (next : ℕ) → next ≡ virtual_storage_end file at → next ≡ records_end (virtual_storage_end file) (i + 1) c.virtual_storages_at
    virtual_storage_next next q = q ∙ ap (virtual_storage_end file) e ∙ sym (end_more (virtual_storage_end file) i c.virtual_storages_at)

    virtual_storage_is : get_or virtual_storages i (virtual_storage_at file 0) ≡ virtual_storage_at file at
    virtual_storage_is =
        virtual_storage_index file c.nodes c.edges c.aggregates c.virtual_storages i (virtual_storage_at file 0) lt
        ∙ ap (virtual_storage_at file) (ap (records_end (virtual_storage_end file) i) (sym sections.virtual_storages) ∙ sym e)

    pub asked_under : i < length (virtual_storage_rows (network_of file c))
    asked_under = omega (arith, asked_count)

    pub asked_row : get_or (virtual_storage_rows (network_of file c)) i [] ≡ virtual_storage_row (column_map (network_of file c)) (virtual_storage_at file at)
    asked_row =
        found_get (virtual_storage_rows (network_of file c)) i _ [] (found_map (virtual_storage_row (column_map (network_of file c))) virtual_storages (virtual_storage_at file 0) i (omega (arith, count)))
        ∙ ap (virtual_storage_row (column_map (network_of file c))) virtual_storage_is

    pub table_more : (k : ℕ) (places : List ℕ) → length places ≡ i
        → virtual_storage_table (network_of file c) (places ++ (k ∷ [])) ≡ virtual_storage_table (network_of file c) places ++ virtual_storage_words (record { row = k; period = period_at file at })
    table_more k places q =
        ap (flat_map virtual_storage_words)
        (placed_more virtual_storages places k (virtual_storage_at file 0) (omega (arith, count))
        ∙ ap (λ (v : VirtualStorage). placed_virtual_storages virtual_storages places ++ (record { row = k; period = v.period } ∷ []))
        (ap (λ (j : ℕ). get_or virtual_storages j (virtual_storage_at file 0)) q ∙ virtual_storage_is))
        ∙ flat_snoc virtual_storage_words (placed_virtual_storages virtual_storages places) (record { row = k; period = period_at file at })

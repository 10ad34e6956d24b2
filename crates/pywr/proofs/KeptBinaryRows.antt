-- The binary rows in the store after an accepted build and any list of steps: bounds 0 and the high sentinel, and the smallest of the last accepted step's
-- coefficients. No step writes an element that is not finite. Assumes nothing.
use mathlib.Core.Path.{◌≡◌, refl, sym, ap, ◌∙◌, subst}
use mathlib.Core.Logic.{◌⊎◌, inl, inr}
use Prim.Native.Nat.{ℕ, ◌+◌, ◌<◌}
use mathlib.Core.Bool.{Bool, true, false, cond}
use mathlib.Core.List.Memᴰ
use mathlib.Core.List.{List, [], ◌∷◌, Memᴰ}
use mathlib.Core.Option.{Option, none as no-file, some}
use lib.ListN.{length, get_or, get_elem?}
use lib.Dec.{T, eqb, eqb_refl}
use lib.Ieee.{Float}
use Rattle.pywr.specs.declared.Sentinel.{Sentinel}
use Rattle.pywr.specs.Result.{value}
use Rattle.pywr.specs.Network.{Period, Network}
use Rattle.pywr.specs.NetworkFile.{parse_network}
use Rattle.pywr.specs.ColEdgeMap.{columns}
use Rattle.pywr.specs.Rows.{Element, element, column_map}
use Rattle.pywr.specs.Programme.{Row, Programme, NodeRow, Shape, Built}
use Rattle.pywr.specs.VaryingRows.{fresh_row}
use Rattle.pywr.specs.Build.{assemble, programme_of}
use Rattle.pywr.specs.StepFile.{StepFile}
use Rattle.pywr.specs.StepIntervals.{intervals, Intervals, is_binary}
use Rattle.pywr.specs.Interval.{zero_to_high}
use Rattle.pywr.specs.Step.{change_coefficient, stepped}
use Rattle.pywr.specs.Store.{Store, shape_of, programme_in}
use Rattle.pywr.specs.Calls.{build_answer, build_store, store_of_step, is_accepted}
use Rattle.pywr.specs.Correspondence.{Call, store_after, reports, last_accepted, periods_of, read_by}
use Rattle.pywr.specs.BinaryRows.{Binary, ZeroToHigh, BinaryBounds, SmallestStands, BinaryCoefficients}
use Rattle.pywr.proofs.RowLaws.{own, elements_at, elements_found}
use Rattle.pywr.proofs.BinaryRowLaws.{set_to, zero_to_high_row, coefficient_for}
use Rattle.pywr.proofs.NumberLaws.{FiniteFit}
use Rattle.pywr.proofs.JoinLaws.{cols}
use Rattle.pywr.proofs.ListLaws.{found_below, below_found, found_map}
use Rattle.pywr.proofs.ReadLaws.{Sound, read_sound, same_value}
use Rattle.pywr.proofs.Represents.{Represents, programme_back, same_length}
use Rattle.pywr.proofs.RunLaws.{after, after_held, Reached, run}
use Rattle.pywr.proofs.FitLaws.{asked, for_virtual_storages}
use Rattle.pywr.proofs.AgainLaws.{step_columns}
use Rattle.pywr.proofs.StepReadLaws.{IntervalsOk}
use Rattle.pywr.proofs.SharedLaws.{row_from, has_set_lem}
use Rattle.pywr.proofs.SteppedLaws.{built_elements, stepped_rows, AllRanged, bounds, bounds_elements, step_is_bounds, binary_left, step_row}
use Rattle.pywr.proofs.DemandThree.{build_accepted, build_represents, periods_are, read_alike, file_ok, file_ranged, passed_here}
use Rattle.pywr.proofs.AcceptedLaws.{shape_is}

-- a coefficient that is set is an element of the row
set_member : (c : ℕ) (v : Float) (row : List Element) → Memᴰ c (cols row) → Memᴰ (element c v) (set_to c v row)
unfolding change_coefficient
set_member c v [] m = absurd (Memᴰ.not-nil m)
set_member c v (e ∷ es) m = go (eqb e.column c) refl (Memᴰ.cases_cons m) (λ k. set_member c v es k)
  where
    go : (b : Bool) → eqb e.column c ≡ b → (c ≡ e.column) ⊎ Memᴰ c (cols es) → (Memᴰ c (cols es) → Memᴰ (element c v) (set_to c v es))
        → Memᴰ (element c v) (cond b (element c v ∷ es) (e ∷ set_to c v es))
    go true q k ih = Memᴰ.head refl
    go false q (inr k) ih = Memᴰ.tail (ih k)
    go false q (inl k) ih = absurd (subst T (ap (λ (n : ℕ). eqb n c) k ∙ q) (eqb_refl c))

-- what steps leave of a built row y: its elements, or these with one finite coefficient set
abbrev pub Left : Row → Row → Type 0
Left y x = (x.elements ≡ y.elements) ⊎ ((c : ℕ) × (v : Float) × (x.elements ≡ set_to c v y.elements) × FiniteFit v)

module _ (network_file : List ℕ) (w : Sentinel) (old : Store) (words : List ℕ) (numbers : List Float) (net : Network) (parsed : parse_network network_file ≡ value net)
    (accepted : is_accepted (build_answer w network_file old words numbers) ≡ true) where
  abbrev start : Store
  start = build_store w network_file old words numbers

  abbrev b : Built
  b = programme_of w net

  abbrev fresh : List Row
  fresh = b.programme.varying

  abbrev joined : List (List Element)
  joined = (for_virtual_storages w net).rows

  sound : Sound net
  sound = read_sound network_file net parsed

  held : Represents start b
  held = build_represents w net old network_file words numbers sound (build_accepted w net old network_file words numbers parsed accepted)

  -- ---- the varying rows by the last accepted file

  unfoldable RowsAfter : Option (List ℕ) → List Row → Type 0
  RowsAfter no-file rows = rows ≡ fresh
  RowsAfter (some file) rows =
      (f : StepFile) × (read_by net file ≡ value f) × IntervalsOk (length net.aggregates) (length net.virtual_storages) (intervals w (periods_of net) f)
      × AllRanged w net (intervals w (periods_of net) f) × (rows ≡ stepped_rows w net (intervals w (periods_of net) f))

  rows_after_lem : (o : Option (List ℕ)) (t : Store) → Reached start b held o t → RowsAfter o (programme_in t).varying
  unfolding Reached RowsAfter stepped programme_of assemble
  rows_after_lem no-file t h = ap (λ (q : Store). (programme_in q).varying) h ∙ ap (λ (p : Programme). p.varying) (programme_back start b held)
  rows_after_lem (some file) t h =
      let f : StepFile = h.0 in
      let read : read_by net file ≡ value f = sym (read_alike w net file) ∙ h.1 in
      let passed = passed_here w net f h.3 h.4 in (
        f,
        read,
        file_ok w net sound file f h.3 read passed,
        file_ranged w net sound file f h.3 read passed,
        ap (λ (q : Store). (programme_in q).varying) h.2
            ∙ ap (λ (p : Programme). p.varying) (programme_back (store_of_step start (value f)) (after start b held f) (after_held start b held f))
            ∙ ap (λ (q : List Period). stepped_rows w net (intervals w q f)) (periods_are w net),
      )

  -- ---- a binary row

  abbrev edges : ℕ
  edges = (columns net).count

  module _ (n : NodeRow) (m : Memᴰ n b.shape.node_rows) (binary : T (is_binary n.row_type)) where
    fresh_at : get_elem? fresh n.row ≡ some (fresh_row w (get_or joined n.row []))
    fresh_at = ap (λ (rows : List Row). get_elem? rows n.row) (asked w net).varying ∙ found_map (fresh_row w) joined [] n.row (row_from w net sound n m).under

    module _ (i : Intervals) (ok : IntervalsOk (length net.aggregates) (length net.virtual_storages) i) (ranged : AllRanged w net i)
        (rows : List Row) (is : rows ≡ stepped_rows w net i) where
      least : Float
      least = (binary_left w net sound i ok ranged n m binary).least

      left_elements : List Element
      left_elements = set_to (edges + n.set) least (elements_at n.row (bounds w net sound i ok ranged))

      stepped_at : get_elem? rows n.row ≡ some (zero_to_high_row w left_elements)
      unfolding left_elements least
      stepped_at = ap (λ (l : List Row). get_elem? l n.row) (is ∙ step_is_bounds w net sound i ok ranged) ∙ (binary_left w net sound i ok ranged n m binary).at

      stands_there : Memᴰ (element (edges + n.set) least) left_elements
      unfolding left_elements
      stands_there =
          set_member (edges + n.set) least (elements_at n.row (bounds w net sound i ok ranged))
          (subst (λ (row : List Element). Memᴰ (edges + n.set) (cols row)) (sym (bounds_elements w net sound i ok ranged n.row)) (has_set_lem w net sound n m binary))

    zero_to_high_lem : (t : Store) (o : Option (List ℕ)) → RowsAfter o (programme_in t).varying → ZeroToHigh w t n
    unfolding RowsAfter fresh_row
    zero_to_high_lem t no-file h =
        record { row = fresh_row w (get_or joined n.row []); found = ap (λ (rows : List Row). get_elem? rows n.row) h ∙ fresh_at; lower = refl; upper = refl }
    zero_to_high_lem t (some file) h =
        record {
          row = zero_to_high_row w (left_elements (intervals w (periods_of net) h.0) h.2 h.3 (programme_in t).varying h.4);
          found = stepped_at (intervals w (periods_of net) h.0) h.2 h.3 (programme_in t).varying h.4;
          lower = refl;
          upper = refl;
        }

  -- the store after the list, with what its shape says
  abbrev last : List Call → Store
  last calls = store_after start calls

  abbrev file-of : List Call → Option (List ℕ)
  file-of calls = last_accepted no-file (reports start calls)

  there : (calls : List Call) → RowsAfter (file-of calls) (programme_in (last calls)).varying
  unfolding Reached
  there calls = rows_after_lem (file-of calls) (last calls) (run start b held calls start no-file refl)

  shape : (calls : List Call) → shape_of (last calls) ≡ b.shape
  shape calls = shape_is network_file w old words numbers net parsed accepted calls

  known : (calls : List Call) (n : NodeRow) → Memᴰ n (shape_of (last calls)).node_rows → Memᴰ n b.shape.node_rows
  known calls n k = subst (λ (q : Shape). Memᴰ n q.node_rows) (shape calls) k

  bounds_kept : (calls : List Call) (n : NodeRow) → Binary (last calls) n → ZeroToHigh w (last calls) n
  bounds_kept calls n k = zero_to_high_lem n (known calls n k.0) k.1 (last calls) (file-of calls) (there calls)

  module _ (calls : List Call) (n : NodeRow) (k : Binary (last calls) n) (i : Intervals) (ok : IntervalsOk (length net.aggregates) (length net.virtual_storages) i)
      (ranged : AllRanged w net i) (is : (programme_in (last calls)).varying ≡ stepped_rows w net i) where
    abbrev place : Memᴰ n b.shape.node_rows
    place = known calls n k.0

    abbrev rows : List Row
    rows = (programme_in (last calls)).varying

    on_column_lem : Memᴰ (element (b.shape.edge_columns + n.set) (least n place k.1 i ok ranged rows is)) (left_elements n place k.1 i ok ranged rows is)
    unfolding programme_of assemble column_map
    on_column_lem = stands_there n place k.1 i ok ranged rows is

    smallest : SmallestStands (last calls) (λ j. coefficient_for w i.nodes j) n
    unfolding least
    smallest =
        let left = binary_left w net sound i ok ranged n place k.1 in
        let from = left.from in
        record {
          row = zero_to_high_row w (left_elements n place k.1 i ok ranged rows is);
          found = stepped_at n place k.1 i ok ranged rows is;
          least = least n place k.1 i ok ranged rows is;
          stands =
              subst (λ (q : Shape). Memᴰ (element (q.edge_columns + n.set) (least n place k.1 i ok ranged rows is)) (left_elements n place k.1 i ok ranged rows is)) (sym (shape calls))
              on_column_lem;
          one = (from.0, (subst (λ (q : Shape). Memᴰ from.0 q.node_rows) (sym (shape calls)) from.1, from.2), from.3, from.4);
          each = λ j known-j same. left.each j (known calls j known-j.0) known-j.1 same;
        }

  by_file : (calls : List Call) (file : List ℕ) (f : StepFile) → read_by net file ≡ value f → (n : NodeRow) → Binary (last calls) n
      → RowsAfter (some file) (programme_in (last calls)).varying
      → SmallestStands (last calls) (λ j. coefficient_for w (intervals w (periods_of net) f).nodes j) n
  unfolding RowsAfter
  by_file calls file f read n k h =
      subst (λ (g : StepFile). SmallestStands (last calls) (λ j. coefficient_for w (intervals w (periods_of net) g).nodes j) n)
      (same_value h.0 f (sym h.1 ∙ read))
      (smallest calls n k (intervals w (periods_of net) h.0) h.2 h.3 h.4)

  -- ---- any row

  left_by : (o : Option (List ℕ)) (rows : List Row) → RowsAfter o rows → (p : ℕ) (x : Row) → get_elem? rows p ≡ some x → (y : Row) × (get_elem? fresh p ≡ some y) × Left y x
  unfolding RowsAfter
  left_by no-file rows h p x at = (x, ap (λ (l : List Row). get_elem? l p) (sym h) ∙ at, inl refl)
  left_by (some file) rows h p x at =
      let i : Intervals = intervals w (periods_of net) h.0 in
      let stepped-rows : List Row = stepped_rows w net i in
      let there : get_elem? stepped-rows p ≡ some x = ap (λ (l : List Row). get_elem? l p) (sym h.4) ∙ at in
      let under : p < length fresh = subst (λ (k : ℕ). p < k) (same_length _ _ (step_columns w b.shape i fresh)) (found_below stepped-rows p x there) in
      let y = below_found fresh p under in
      let same : y.0.elements ≡ get_or joined p [] = sym (elements_found fresh p y.0 y.1) ∙ built_elements w net p in
      (y.0, y.1, go y.0 same (step_row w net sound i h.2 h.3 p x there))
    where
      go : (y : Row) → y.elements ≡ get_or joined p []
          → (x.elements ≡ get_or joined p []) ⊎ ((c : ℕ) × (v : Float) × (own x ≡ zero_to_high w) × (x.elements ≡ set_to c v (get_or joined p [])) × FiniteFit v)
          → Left y x
      go y e (inl same) = inl (same ∙ sym e)
      go y e (inr set) = inr (set.0, set.1, set.3 ∙ ap (set_to set.0 set.1) (sym e), set.4)

  pub left_of_built : (calls : List Call) (p : ℕ) (x : Row) → get_elem? (programme_in (store_after (build_store w network_file old words numbers) calls)).varying p ≡ some x
      → (y : Row) × (get_elem? (programme_of w net).programme.varying p ≡ some y) × Left y x
  left_of_built calls p x at = left_by (file-of calls) (programme_in (last calls)).varying (there calls) p x at

-- "these rows stay at lower 0, upper high sentinel, after every step"
pub binary_bounds_kept : BinaryBounds
binary_bounds_kept = bounds_kept

-- "on a shared row the smallest of that step's coefficients stands"
pub binary_coefficients : BinaryCoefficients
binary_coefficients network_file s old words numbers net parsed accepted calls file f q read n k =
    by_file network_file s old words numbers net parsed accepted calls file f read n k
    (subst (λ (o : Option (List ℕ)). RowsAfter network_file s old words numbers net parsed accepted o (programme_in (store_after (build_store s network_file old words numbers) calls)).varying) q
    (there network_file s old words numbers net parsed accepted calls))

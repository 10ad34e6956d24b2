-- The elements of virtual storages' rows in the store after an accepted build and any list of steps: a step changes elements on columns of exclusive sets
-- alone, and such a row has none there. Assumes nothing.
use mathlib.Core.Path.{◌≡◌, refl, sym, ap, ◌∙◌, subst}
use Prim.Native.Nat.{ℕ, zero, suc, ◌+◌, ◌<◌}
use native.Mathlib.Omega.{arith}
use mathlib.Core.Bool.{true}
use mathlib.Core.List.{List, [], ◌∷◌, map}
use mathlib.Core.Option.{Option, none as no-file, some}
use lib.ListN.{length, get_or, get_elem?}
use lib.Ieee.{Float}
use Rattle.laws.proofs.Tests.{of_true}
use Rattle.pywr.specs.declared.Sentinel.{Sentinel}
use Rattle.pywr.specs.declared.Interval.{Interval}
use Rattle.pywr.specs.Result.{value}
use Rattle.pywr.specs.Network.{VirtualStorage, Network}
use Rattle.pywr.specs.NetworkFile.{parse_network}
use Rattle.pywr.specs.ColEdgeMap.{columns}
use Rattle.pywr.specs.Rows.{Element, column_map, virtual_storage_row}
use Rattle.pywr.specs.Programme.{Row, RowType, continuous, binary_upper, binary_lower, NodeRow, VirtualStorageShape, Shape, Built}
use Rattle.pywr.specs.Build.{assemble, programme_of}
use Rattle.pywr.specs.Interval.{sentinels}
use Rattle.pywr.specs.StepIntervals.{intervals, Intervals}
use Rattle.pywr.specs.Step.{adjust, with_bounds, apply_row_bounds, with_coefficient, over_node_rows, interval_for, apply_interval, apply_node_rows}
use Rattle.pywr.specs.Step.{reset_binary_row, reset_binary_rows, apply_coefficient, apply_coefficients, apply_intervals, row_of, periods, step_rows, stepped}
use Rattle.pywr.specs.Store.{Store, programme_in}
use Rattle.pywr.specs.Calls.{build_answer, build_store, is_accepted}
use Rattle.pywr.specs.Correspondence.{Call, store_after, reports, last_accepted, factors_in1024ths}
use Rattle.pywr.specs.ExactElements.{RowExact, ExactElementsKept}
use Rattle.pywr.proofs.RowLaws.{elements_at, elements_found, adjust_keeps}
use Rattle.pywr.proofs.ExclusiveLaws.{Under, change_absent}
use Rattle.pywr.proofs.JoinLaws.{Alike, alike_columns, Placed}
use Rattle.pywr.proofs.AgainLaws.{step_columns}
use Rattle.pywr.proofs.Represents.{Represents, programme_back, same_length}
use Rattle.pywr.proofs.RunLaws.{after, after_held, Reached, run}
use Rattle.pywr.proofs.VaryingLaws.{apply_elements, reset_elements}
use Rattle.pywr.proofs.ListLaws.{found_get, below_found, found_below, found_map, found_from_map, same_some, not_found}
use Rattle.pywr.proofs.ReadLaws.{Sound, read_sound}
use Rattle.pywr.proofs.FitLaws.{asked, for_virtual_storages}
use Rattle.pywr.proofs.SteppedLaws.{built_elements, built_length}
use Rattle.pywr.proofs.ShapeLaws.{virtual_storage_rises}
use Rattle.pywr.proofs.ElementSums.{rising_alike, rising_under, alike_exact}
use Rattle.pywr.proofs.DemandThree.{build_accepted, build_represents}
use Rattle.pywr.proofs.AcceptedLaws.{shape_is}

-- ---- a step and a row without columns of sets

-- a change of each node row that keeps such a row's elements
pass_elements : (n : ℕ) (change : NodeRow → Row → Row) → ((x : NodeRow) (row : Row) → Under n row.elements → (change x row).elements ≡ row.elements)
    → (ns : List NodeRow) (rows : List Row) (p : ℕ) → Under n (elements_at p rows) → elements_at p (over_node_rows change ns rows) ≡ elements_at p rows
unfolding over_node_rows
pass_elements n change keeps [] rows p under = refl
pass_elements n change keeps (x ∷ xs) rows p under =
    let next : List Row = adjust (change x) x.row rows in
    let same : elements_at p next ≡ elements_at p rows = adjust_keeps (change x) (Under n) (keeps x) x.row p rows under in
    pass_elements n change keeps xs next p (subst (Under n) (sym same) under) ∙ same

interval_keeps : (type : RowType) (i : Interval) (x : Row) → (apply_interval type i x).elements ≡ x.elements
unfolding apply_interval apply_row_bounds with_bounds
interval_keeps continuous i x = refl
interval_keeps binary_upper i x = refl
interval_keeps binary_lower i x = refl

binary_keeps : (w : Sentinel) (n k : ℕ) (type : RowType) (x : Row) → Under n x.elements → (reset_binary_row w type (n + k) x).elements ≡ x.elements
unfolding reset_binary_row with_bounds with_coefficient
binary_keeps w n k continuous x under = refl
binary_keeps w n k binary_upper x under = change_absent n k _ x.elements under
binary_keeps w n k binary_lower x under = change_absent n k _ x.elements under

coefficient_keeps : (n k : ℕ) (type : RowType) (i : Interval) (x : Row) → Under n x.elements → (apply_coefficient type (n + k) i x).elements ≡ x.elements
unfolding apply_coefficient with_coefficient
coefficient_keeps n k continuous i x under = refl
coefficient_keeps n k binary_upper i x under = change_absent n k _ x.elements under
coefficient_keeps n k binary_lower i x under = change_absent n k _ x.elements under

step_keeps : (w : Sentinel) (shape : Shape) (i : Intervals) (rows : List Row) (p : ℕ) → Under shape.edge_columns (elements_at p rows)
    → elements_at p (step_rows w shape i rows) ≡ elements_at p rows
unfolding step_rows apply_node_rows reset_binary_rows apply_coefficients
step_keeps w shape i rows p under =
    let n : ℕ = shape.edge_columns in
    let tightened : List Row = apply_intervals (map row_of shape.virtual_storages) i.virtual_storages
    (apply_intervals shape.aggregates i.aggregates (apply_node_rows w i.nodes shape.node_rows (map (with_bounds (sentinels w)) rows))) in
    let reset = reset_elements (sentinels w) rows p in
    let bounds : elements_at p tightened ≡ elements_at p rows =
    apply_elements (map row_of shape.virtual_storages) i.virtual_storages _ p
    ∙ apply_elements shape.aggregates i.aggregates _ p
    ∙ pass_elements n _ (λ x row h. interval_keeps x.row_type (interval_for w i.nodes x) row) shape.node_rows _ p (subst (Under n) (sym reset) under)
    ∙ reset in
    let binary : elements_at p (reset_binary_rows w n shape.node_rows tightened) ≡ elements_at p rows =
    pass_elements n _ (λ x row h. binary_keeps w n x.set x.row_type row h) shape.node_rows tightened p (subst (Under n) (sym bounds) under) ∙ bounds in
    pass_elements n _ (λ x row h. coefficient_keeps n x.set x.row_type (interval_for w i.nodes x) row h) shape.node_rows _ p (subst (Under n) (sym binary) under) ∙ binary

-- ---- lists

placed_at : (rows wanted : List (List Element)) (ps : List ℕ) → Placed rows wanted ps → (n : ℕ) (r : List Element) → get_elem? wanted n ≡ some r
    → (p : ℕ) × (get_elem? ps n ≡ some p) × (p < length rows) × Alike (get_or rows p []) r
placed_at rows [] [] Placed.none n r e = not_found r e
placed_at rows (x ∷ xs) (p ∷ ps) (Placed.more h a rest) zero r e = (p, refl, h, subst (Alike (get_or rows p [])) (same_some x r e) a)
placed_at rows (x ∷ xs) (p ∷ ps) (Placed.more h a rest) (suc n) r e = placed_at rows xs ps rest n r e
placed_at rows [] (p ∷ ps) x4 n r e = elim x4 [ ]
placed_at rows (x ∷ xs) [] x5 n r e = elim x5 [ ]

-- ---- the store

module _ (network_file : List ℕ) (s : Sentinel) (old : Store) (words : List ℕ) (numbers : List Float) (net : Network) (parsed : parse_network network_file ≡ value net)
    (accepted : is_accepted (build_answer s network_file old words numbers) ≡ true) (factors : factors_in1024ths net ≡ true) (calls : List Call)
    (n : ℕ) (v : VirtualStorage) (at : get_elem? net.virtual_storages n ≡ some v) where
  abbrev start : Store
  start = build_store s network_file old words numbers

  abbrev b : Built
  b = programme_of s net

  abbrev joined : List (List Element)
  joined = (for_virtual_storages s net).rows

  sound : Sound net
  sound = read_sound network_file net parsed

  held : Represents start b
  held = build_represents s net old network_file words numbers sound (build_accepted s net old network_file words numbers parsed accepted)

  -- the place of the row, and the row as built
  place : (p : ℕ) × (get_elem? (map row_of b.shape.virtual_storages) n ≡ some p) × (p < length joined) × Alike (get_or joined p []) (virtual_storage_row (column_map net) v)
  place = placed_at joined (map (virtual_storage_row (column_map net)) net.virtual_storages) _ (asked s net).virtual_storages n _
      (found_map (virtual_storage_row (column_map net)) net.virtual_storages v n (found_below net.virtual_storages n v at)
      ∙ ap (λ (u : VirtualStorage). some (virtual_storage_row (column_map net) u)) (found_get net.virtual_storages n v v at))

  module _ (p : ℕ) (under : p < length joined) (same : Alike (get_or joined p []) (virtual_storage_row (column_map net) v)) where
    no_sets : Under b.shape.edge_columns (elements_at p b.programme.varying)
    unfolding programme_of assemble column_map
    no_sets =
        subst (Under (columns net).count) (sym (built_elements s net p))
        (rising_under (columns net).count 0 (get_or joined p [])
        (rising_alike (columns net).count 0 (get_or joined p []) (virtual_storage_row (column_map net) v) (alike_columns same) (virtual_storage_rises net sound v)))

    record Kept (t : Store) : Type 0 where
      elements : elements_at p (programme_in t).varying ≡ get_or joined p []
      long : length (programme_in t).varying ≡ length joined

    kept : (o : Option (List ℕ)) (t : Store) → Reached start b held o t → Kept t
    unfolding Reached stepped
    kept no-file t h =
        let is : programme_in t ≡ b.programme = ap programme_in h ∙ programme_back start b held in
        record { elements = ap (λ q. elements_at p q.varying) is ∙ built_elements s net p; long = ap (λ q. length q.varying) is ∙ built_length s net }
    kept (some file) t h =
        let is : programme_in t ≡ (after start b held h.0).programme = ap programme_in h.2 ∙ programme_back _ (after start b held h.0) (after_held start b held h.0) in
        let rows : List Row = b.programme.varying in
        let i : Intervals = intervals b.programme.sentinel (periods b.shape) h.0 in
        record {
          elements = ap (λ q. elements_at p q.varying) is ∙ step_keeps b.programme.sentinel b.shape i rows p no_sets ∙ built_elements s net p;
          long = ap (λ q. length q.varying) is ∙ same_length _ rows (step_columns b.programme.sentinel b.shape i rows) ∙ built_length s net;
        }

    row_exact : (entry : VirtualStorageShape) → get_elem? b.shape.virtual_storages n ≡ some entry → row_of entry ≡ p → RowExact net n v (store_after start calls)
    unfolding row_of Reached
    row_exact entry listed row_is =
        let t : Store = store_after start calls in
        let k : Kept t = kept (last_accepted no-file (reports start calls)) t (run start b held calls start no-file refl) in
        let l = k.long in
        let found = below_found (programme_in t).varying p (omega arith) in
        record {
          entry = entry;
          listed = ap (λ (q : Shape). get_elem? q.virtual_storages n) (shape_is network_file s old words numbers net parsed accepted calls) ∙ listed;
          row = found.0;
          found = ap (get_elem? (programme_in t).varying) row_is ∙ found.1;
          elements = alike_exact net sound (of_true (factors_in1024ths net) factors) n v at found.0.elements
              (subst (λ (row : List Element). Alike row (virtual_storage_row (column_map net) v)) (sym k.elements ∙ elements_found (programme_in t).varying p found.0 found.1) same);
        }

pub exact_elements_kept : ExactElementsKept
exact_elements_kept network_file s old words numbers net parsed accepted factors calls n v at =
    let at_place = place network_file s old words numbers net parsed accepted factors calls n v at in
    let entry = found_from_map row_of (programme_of s net).shape.virtual_storages n at_place.0 at_place.1 in
    row_exact network_file s old words numbers net parsed accepted factors calls n v at at_place.0 at_place.2 at_place.3 entry.0 entry.1 entry.2

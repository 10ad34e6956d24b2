-- The varying rows that a step leaves of a built programme: which rows intervals tighten, and which have coefficients set. Assumes nothing.
use mathlib.Core.Path.{◌≡◌, refl, sym, ap, ◌∙◌, subst}
use mathlib.Core.Logic.{◌⊎◌, inl, inr, ◌↔◌}
use Prim.Native.Nat.{ℕ, zero, suc, ◌+◌}
use native.Mathlib.Omega.{arith}
use mathlib.Core.Bool.{Bool, true, false, not}
use mathlib.Core.List.Memᴰ
use mathlib.Core.List.{List, [], ◌∷◌, map, Memᴰ}
use mathlib.Core.Option.{some}
use lib.ListN.{length, get_or, get_elem?, length-map}
use lib.IntN.{ℤ}
use lib.Dec.{T}
use lib.Ieee.{Float, neg}
use Rattle.pywr.specs.declared.Sentinel.{Sentinel}
use Rattle.pywr.specs.declared.Interval.{Interval}
use Rattle.pywr.specs.Network.{Network, keep_if}
use Rattle.pywr.specs.ColEdgeMap.{columns}
use Rattle.pywr.specs.Rows.{Element, ColumnMap, column_map, aggregate_row, virtual_storage_row}
use Rattle.pywr.specs.Programme.{Row, RowType, continuous, binary_upper, binary_lower, NodeRow}
use Rattle.pywr.specs.VaryingRows.{RowRequest, requests_from, fresh_row}
use Rattle.pywr.specs.Build.{placed_node_rows, requested_row, assemble, programme_of}
use Rattle.pywr.specs.Interval.{sentinels, zero_to_high}
use Rattle.pywr.specs.StepIntervals.{Intervals, is_binary}
use Rattle.pywr.specs.Step.{interval_for, reset_binary_rows, apply_coefficients, row_of, step_rows}
use Rattle.pywr.specs.BinaryRows.{coefficient_of}
use Rattle.pywr.specs.Plans.{meets, Plan}
use Rattle.pywr.specs.Admits.{row_sum}
use Rattle.pywr.specs.Correspondence.{is_varying_exclusive}
use Rattle.pywr.proofs.BoundLaws.{IsInterval}
use Rattle.pywr.proofs.NumberLaws.{FiniteFit}
use Rattle.pywr.proofs.MassLaws.{Every}
use Rattle.pywr.proofs.JoinLaws.{alike_set, Placed, placed_length}
use Rattle.pywr.proofs.RowLaws.{own, elements_at, elements_found, AllMet, Fitting}
use Rattle.pywr.proofs.VaryingLaws.{alike_row_sum, continuous_rows, node_places_lem, node_intervals_lem, Asked}
use Rattle.pywr.proofs.VaryingLaws.{tightened, tightened_elements, tightened_free, tightened_met, step_is}
use Rattle.pywr.proofs.BinaryRowLaws.{set_to, row_with, MetWith, Binary, coefficient_for, InRange, Final, final, binary_met, after_is}
use Rattle.pywr.proofs.ListLaws.{AllMem, all_cons, not_found, same_some}
use Rattle.pywr.proofs.StepReadLaws.{at_interval, IntervalsOk}
use Rattle.pywr.proofs.SharedLaws.{placed_row, row_from, binary_node, sharers_of_one_set, apart_nodes, apart_aggregates, apart_virtual_storages}
use Rattle.pywr.proofs.ReadLaws.{Sound}
use Rattle.pywr.proofs.FitLaws.{asked, for_nodes, for_virtual_storages, length_n, aggregates_length}

-- ---- the varying rows as built

pub fresh_elements : (w : Sentinel) (joined : List (List Element)) (p : ℕ) → elements_at p (map (fresh_row w) joined) ≡ get_or joined p []
unfolding elements_at fresh_row
fresh_elements w [] p = refl
fresh_elements w (r ∷ rs) zero = refl
fresh_elements w (r ∷ rs) (suc p) = fresh_elements w rs p

pub built_elements : (w : Sentinel) (net : Network) (p : ℕ) → elements_at p (programme_of w net).programme.varying ≡ get_or (for_virtual_storages w net).rows p []
built_elements w net p = ap (elements_at p) (asked w net).varying ∙ fresh_elements w (for_virtual_storages w net).rows p

pub built_length : (w : Sentinel) (net : Network) → length (programme_of w net).programme.varying ≡ length (for_virtual_storages w net).rows
built_length w net = ap length (asked w net).varying ∙ length-map (for_virtual_storages w net).rows (fresh_row w)

-- the varying rows of a built programme after a step
abbrev pub stepped_rows : Sentinel → Network → Intervals → List Row
stepped_rows w net i = step_rows w (programme_of w net).shape i (programme_of w net).programme.varying

-- ---- intervals and places in pairs

-- the requests for rows that an interval tightens
unfoldable pub continuous_asks : List RowRequest → List RowRequest
continuous_asks [] = []
continuous_asks (a ∷ wanted) = keep_if (not (is_binary a.row_type)) a (continuous_asks wanted)

continuous_placed : (joined : List (List Element)) (wanted : List RowRequest) (ps : List ℕ) → Placed joined (map requested_row wanted) (node_places_lem (placed_node_rows wanted ps))
    → Placed joined (map requested_row (continuous_asks wanted)) (node_places_lem (continuous_rows (placed_node_rows wanted ps)))
unfolding placed_node_rows node_places_lem requested_row continuous_asks continuous_rows keep_if
continuous_placed joined [] ps h = Placed.none
continuous_placed joined (a ∷ wanted) (p ∷ ps) (Placed.more u k rest) = go (is_binary a.row_type) (continuous_placed joined wanted ps rest)
  where
    go : (b : Bool) → Placed joined (map requested_row (continuous_asks wanted)) (node_places_lem (continuous_rows (placed_node_rows wanted ps)))
        → Placed joined (map requested_row (keep_if (not b) a (continuous_asks wanted)))
        (node_places_lem (keep_if (not b) (placed_row a p) (continuous_rows (placed_node_rows wanted ps))))
    go true ih = ih
    go false ih = Placed.more u k ih
continuous_placed joined (a ∷ wanted) [] h = elim h [ ]

module _ (w : Sentinel) (joined : List (List Element)) where
  fit_nodes : (is : List Interval) → AllMem IsInterval is → (rows : List NodeRow) (wanted : List (List Element)) → Placed joined wanted (node_places_lem rows)
      → Fitting (length joined) (node_places_lem rows) (node_intervals_lem w is rows)
  unfolding node_places_lem node_intervals_lem
  fit_nodes is ok [] [] Placed.none = Fitting.none
  fit_nodes is ok (n ∷ ns) (r ∷ rs) (Placed.more h e rest) = Fitting.more h (at_interval w is n.node ok) (fit_nodes is ok ns rs rest)
  fit_nodes is ok [] (r ∷ rs) x'' = elim x'' [ ]
  fit_nodes is ok (n ∷ ns) [] x3 = elim x3 [ ]

  fit_places : (ps : List ℕ) (is : List Interval) (wanted : List (List Element)) → Placed joined wanted ps → length is ≡ length ps → AllMem IsInterval is → Fitting (length joined) ps is
  fit_places [] [] [] Placed.none l ok = Fitting.none
  fit_places [] (i ∷ is) [] Placed.none l ok = let z : suc (length is) ≡ 0 = l in absurd (omega arith)
  fit_places (p ∷ ps) [] (r ∷ rs) (Placed.more h e rest) l ok = let z : 0 ≡ suc (length ps) = l in absurd (omega arith)
  fit_places (p ∷ ps) (i ∷ is) (r ∷ rs) (Placed.more h e rest) l ok =
      Fitting.more h (ok i (Memᴰ.head refl))
      (fit_places ps is rs rest (let z : suc (length is) ≡ suc (length ps) = l in omega arith) (λ x m. ok x (Memᴰ.tail m)))
  fit_places [] [] (r ∷ rs) x9 l ok = elim x9 [ ]
  fit_places [] (i ∷ is) (r ∷ rs) x8 l ok = elim x8 [ ]
  fit_places (p ∷ ps) [] [] x6 l ok = elim x6 [ ]
  fit_places (p ∷ ps) (i ∷ is) [] x7 l ok = elim x7 [ ]

module _ (w : Sentinel) (f : ColumnMap) (plan : Plan) where
  pub asked_at : {A : Type 0} (row : A → List Element) (xs : List A) (is : List Interval) → length xs ≡ length is
      → Asked w f plan (map row xs) is ↔ ((n : ℕ) (x : A) → get_elem? xs n ≡ some x → T (meets w (get_or is n (sentinels w)) (row_sum f plan (row x))))
  unfolding Asked
  asked_at row [] is l = (λ h n x e. not_found x e, λ h. tt)
  asked_at row (x ∷ xs) [] l = let z : suc (length xs) ≡ 0 = l in absurd (omega arith)
  asked_at {A} row (x ∷ xs) (i ∷ is) l = both (asked_at row xs is (let z : suc (length xs) ≡ suc (length is) = l in omega arith))
    where
      Meets : (m : ℕ) → A → Type 0
      Meets m y = T (meets w (get_or (i ∷ is) m (sentinels w)) (row_sum f plan (row y)))

      both : {P : Type 0} → P ↔ ((n : ℕ) (y : A) → get_elem? xs n ≡ some y → T (meets w (get_or is n (sentinels w)) (row_sum f plan (row y))))
          → (T (meets w i (row_sum f plan (row x))) × P) ↔ ((n : ℕ) (y : A) → get_elem? (x ∷ xs) n ≡ some y → T (meets w (get_or (i ∷ is) n (sentinels w)) (row_sum f plan (row y))))
      both ih = (λ h. at h.0 (ih.0 h.1), λ h. (h 0 x refl, ih.1 (λ n y e. h (suc n) y e)))
        where
          at : T (meets w i (row_sum f plan (row x))) → ((n : ℕ) (y : A) → get_elem? xs n ≡ some y → T (meets w (get_or is n (sentinels w)) (row_sum f plan (row y))))
              → (n : ℕ) (y : A) → get_elem? (x ∷ xs) n ≡ some y → T (meets w (get_or (i ∷ is) n (sentinels w)) (row_sum f plan (row y)))
          at a b zero y e = subst (λ (z : A). T (meets w i (row_sum f plan (row z)))) (same_some x y e) a
          at a b (suc n) y e = b n y e

  -- a request that asks for a row which an interval tightens
  abbrev pub ContinuousMet : List Interval → RowRequest → Type 0
  ContinuousMet is a = T (not (is_binary a.row_type)) → T (meets w (get_or is a.node (sentinels w)) (row_sum f plan a.row))

  -- each of these requests' rows is in its node row's interval
  abbrev pub NodesAsked : List Interval → List RowRequest → List NodeRow → Type 0
  NodesAsked is asks ns = Asked w f plan (map requested_row asks) (node_intervals_lem w is ns)

  asked_nodes : (is : List Interval) (wanted : List RowRequest) (ps : List ℕ) → length wanted ≡ length ps
      → NodesAsked is (continuous_asks wanted) (continuous_rows (placed_node_rows wanted ps)) ↔ Every (ContinuousMet is) wanted
  unfolding Asked placed_node_rows node_intervals_lem requested_row continuous_asks continuous_rows keep_if
  asked_nodes is [] ps l = (λ h. tt, λ h. tt)
  asked_nodes is (a ∷ wanted) [] l = let z : suc (length wanted) ≡ 0 = l in absurd (omega arith)
  asked_nodes is (a ∷ wanted) (p ∷ ps) l =
      go (is_binary a.row_type) (asked_nodes is wanted ps (let z : suc (length wanted) ≡ suc (length ps) = l in omega arith))
    where
      go : (b : Bool) → NodesAsked is (continuous_asks wanted) (continuous_rows (placed_node_rows wanted ps)) ↔ Every (ContinuousMet is) wanted
          → NodesAsked is (keep_if (not b) a (continuous_asks wanted)) (keep_if (not b) (placed_row a p) (continuous_rows (placed_node_rows wanted ps)))
          ↔ ((T (not b) → T (meets w (get_or is a.node (sentinels w)) (row_sum f plan a.row))) × Every (ContinuousMet is) wanted)
      go true ih = (λ h. (λ t. absurd t, ih.0 h), λ h. ih.1 h.1)
      go false ih = (λ h. (λ t. h.0, ih.0 h.1), λ h. (h.0 tt, ih.1 h.1))

  -- a request that asks for a row whose coefficient is set
  abbrev pub BinaryMet : List Interval → RowRequest → Type 0
  BinaryMet is a = T (is_binary a.row_type) → MetWith f plan w (f.edge_columns + a.set) a.row (coefficient_of a.row_type (get_or is a.node (sentinels w)))

  -- the same of a node row, over rows of these elements
  abbrev NodeRowMet : List Interval → (ℕ → List Element) → NodeRow → Type 0
  NodeRowMet is base n = Binary n → MetWith f plan w (f.edge_columns + n.set) (base n.row) (coefficient_for w is n)

  asked_binary : (is : List Interval) (joined : List (List Element)) (base : ℕ → List Element) → ((p : ℕ) → base p ≡ get_or joined p [])
      → (wanted : List RowRequest) (ps : List ℕ) → length wanted ≡ length ps → Placed joined (map requested_row wanted) (node_places_lem (placed_node_rows wanted ps))
      → AllMem (NodeRowMet is base) (placed_node_rows wanted ps) ↔ Every (BinaryMet is) wanted
  unfolding placed_node_rows requested_row node_places_lem interval_for
  asked_binary is joined base same [] ps l h = (λ k. tt, λ k n m. absurd (Memᴰ.not-nil m))
  asked_binary is joined base same (a ∷ wanted) [] l h = let z : suc (length wanted) ≡ 0 = l in absurd (omega arith)
  asked_binary is joined base same (a ∷ wanted) (p ∷ ps) l (Placed.more u k rest) =
      let ih = asked_binary is joined base same wanted ps (let z : suc (length wanted) ≡ suc (length ps) = l in omega arith) rest in
      let v : Float = coefficient_of a.row_type (get_or is a.node (sentinels w)) in
      let c : ℕ = f.edge_columns + a.set in
      let sum : row_sum f plan (set_to c v (base p)) ≡ row_sum f plan (set_to c v a.row) =
      ap (λ (es : List Element). row_sum f plan (set_to c v es)) (same p) ∙ alike_row_sum f plan (alike_set c v k) in (
        λ h. (λ t. subst (λ (z : ℤ). T (meets w (zero_to_high w) z)) sum (h _ (Memᴰ.head refl) t), ih.0 (λ n m. h n (Memᴰ.tail m))),
        λ h.
            all_cons (NodeRowMet is base) _ (placed_node_rows wanted ps)
            (λ t. subst (λ (z : ℤ). T (meets w (zero_to_high w) z)) (sym sum) (h.0 t)) (ih.1 h.1),
      )

-- ---- what 21 leaves

-- both coefficients of an interval are in range
pub record Ranged (w : Sentinel) (j : Interval) : Type 0 where
  pub upper : InRange w j.upper
  pub lower : InRange w (neg j.lower)

abbrev pub AllRanged : Sentinel → Network → Intervals → Type 0
AllRanged w net i = (n : ℕ) → T (is_varying_exclusive net n) → Ranged w (get_or i.nodes n (sentinels w))

coefficient_ranged : (w : Sentinel) (t : RowType) (j : Interval) → T (is_binary t) → Ranged w j → InRange w (coefficient_of t j)
unfolding coefficient_of is_binary
coefficient_ranged w continuous j h k = absurd h
coefficient_ranged w binary_upper j h k = k.upper
coefficient_ranged w binary_lower j h k = k.lower

-- ---- a step on a built programme

module _ (w : Sentinel) (net : Network) (sound : Sound net) (i : Intervals)
    (ok : IntervalsOk (length net.aggregates) (length net.virtual_storages) i) (ranged : AllRanged w net i) where
  abbrev f : ColumnMap
  f = column_map net

  abbrev pub wanted : List RowRequest
  wanted = requests_from f 0 net.nodes

  abbrev pub rows_of_nodes : List NodeRow
  rows_of_nodes = (programme_of w net).shape.node_rows

  continuous_here : Placed (for_virtual_storages w net).rows (map requested_row (continuous_asks wanted)) (node_places_lem (continuous_rows rows_of_nodes))
  unfolding programme_of assemble
  continuous_here = continuous_placed (for_virtual_storages w net).rows wanted _ (asked w net).nodes

  abbrev pub joined : List (List Element)
  joined = (for_virtual_storages w net).rows

  abbrev pub fresh : List Row
  fresh = (programme_of w net).programme.varying

  fit_n : Fitting (length joined) (node_places_lem (continuous_rows rows_of_nodes)) (node_intervals_lem w i.nodes (continuous_rows rows_of_nodes))
  fit_n = fit_nodes w joined i.nodes ok.nodes (continuous_rows rows_of_nodes) _ continuous_here

  fit_a : Fitting (length joined) (programme_of w net).shape.aggregates i.aggregates
  fit_a =
      fit_places w joined (programme_of w net).shape.aggregates i.aggregates _ (asked w net).aggregates
      (ok.aggregate_count ∙ sym (aggregates_length w net)) ok.aggregates_are

  fit_v : Fitting (length joined) (map row_of (programme_of w net).shape.virtual_storages) i.virtual_storages
  fit_v =
      fit_places w joined (map row_of (programme_of w net).shape.virtual_storages) i.virtual_storages _ (asked w net).virtual_storages
      (ok.virtual_storage_count ∙ sym (length-map net.virtual_storages (virtual_storage_row f)) ∙ placed_length joined _ _ (asked w net).virtual_storages)
      ok.virtual_storages_are

  -- the rows when every interval is applied
  pub bounds : List Row
  bounds = tightened w (programme_of w net).shape i fresh

  pub bounds_elements : (p : ℕ) → elements_at p bounds ≡ get_or joined p []
  unfolding bounds
  bounds_elements = tightened_elements w (programme_of w net).shape i fresh joined (built_length w net) (built_elements w net)

  pub free_here : (n : NodeRow) → Memᴰ n rows_of_nodes → Binary n → (x : Row) × (get_elem? bounds n.row ≡ some x) × (own x ≡ sentinels w)
  unfolding bounds
  free_here n m b =
      tightened_free w (programme_of w net).shape i fresh joined (built_length w net) (built_elements w net)
      n.row (row_from w net sound n m).under (apart_nodes w net sound n m b) (apart_aggregates w net sound n m b) (apart_virtual_storages w net sound n m b)

  pub ranged_here : (n : NodeRow) → Memᴰ n rows_of_nodes → Binary n → InRange w (coefficient_for w i.nodes n)
  unfolding interval_for
  ranged_here n m b = coefficient_ranged w n.row_type (get_or i.nodes n.node (sentinels w)) b (ranged n.node (binary_node w net sound n m b))

  pub step_is_bounds : stepped_rows w net i ≡ apply_coefficients w (columns net).count i.nodes rows_of_nodes (reset_binary_rows w (columns net).count rows_of_nodes bounds)
  unfolding bounds programme_of assemble column_map
  step_is_bounds = step_is w (programme_of w net).shape i fresh

  -- a binary row that a step leaves, over the rows when every interval is applied
  abbrev pub BinaryLeft : (n : NodeRow) → Memᴰ n rows_of_nodes → Binary n → Type 0
  BinaryLeft n m b = Final w (columns net).count i.nodes rows_of_nodes ranged_here (sharers_of_one_set w net sound) bounds free_here n m b

  pub binary_left : (n : NodeRow) (m : Memᴰ n rows_of_nodes) (b : Binary n) → BinaryLeft n m b
  binary_left n m b = final w (columns net).count i.nodes rows_of_nodes ranged_here (sharers_of_one_set w net sound) bounds free_here n m b

  -- a row that a step leaves: the build's elements, or these with one coefficient set, which is finite, at lower 0 and upper the high sentinel
  pub step_row : (p : ℕ) (x : Row) → get_elem? (stepped_rows w net i) p ≡ some x
      → (x.elements ≡ get_or joined p []) ⊎ ((c : ℕ) × (v : Float) × (own x ≡ zero_to_high w) × (x.elements ≡ set_to c v (get_or joined p [])) × FiniteFit v)
  step_row p x at =
      go (after_is w (columns net).count i.nodes rows_of_nodes ranged_here (sharers_of_one_set w net sound) bounds free_here p x
      (ap (λ (rows : List Row). get_elem? rows p) (sym step_is_bounds) ∙ at))
    where
      go : (get_elem? bounds p ≡ some x) ⊎ ((c : ℕ) × (v : Float) × (x ≡ row_with w c (elements_at p bounds) v) × InRange w v)
          → (x.elements ≡ get_or joined p []) ⊎ ((c : ℕ) × (v : Float) × (own x ≡ zero_to_high w) × (x.elements ≡ set_to c v (get_or joined p [])) × FiniteFit v)
      go (inl h) = inl (sym (elements_found bounds p x h) ∙ bounds_elements p)
      go (inr h) = inr (h.0, h.1, ap own h.2, ap (λ (y : Row). y.elements) h.2 ∙ ap (set_to h.0 h.1) (bounds_elements p), h.3.finite)

  module _ (plan : Plan) where
    pub nodes_asked : NodesAsked w f plan i.nodes (continuous_asks wanted) (continuous_rows rows_of_nodes) ↔ Every (ContinuousMet w f plan i.nodes) wanted
    unfolding programme_of assemble
    nodes_asked = asked_nodes w f plan i.nodes wanted (for_nodes w net).places (length_n w net)

    binary_asked : (base : ℕ → List Element) → ((p : ℕ) → base p ≡ get_or (for_virtual_storages w net).rows p [])
        → AllMem (NodeRowMet w f plan i.nodes base) rows_of_nodes ↔ Every (BinaryMet w f plan i.nodes) wanted
    unfolding programme_of assemble column_map
    binary_asked base same = asked_binary w f plan i.nodes (for_virtual_storages w net).rows base same wanted (for_nodes w net).places (length_n w net) (asked w net).nodes

    pub bounds_met : AllMet w f plan 0 bounds
        ↔ (NodesAsked w f plan i.nodes (continuous_asks wanted) (continuous_rows rows_of_nodes) × Asked w f plan (map (aggregate_row f) net.aggregates) i.aggregates
        × Asked w f plan (map (virtual_storage_row f) net.virtual_storages) i.virtual_storages)
    unfolding bounds
    bounds_met =
        tightened_met w (programme_of w net).shape i fresh joined (built_length w net) (built_elements w net) f plan
        (map requested_row (continuous_asks wanted)) (map (aggregate_row f) net.aggregates) (map (virtual_storage_row f) net.virtual_storages)
        continuous_here (asked w net).aggregates (asked w net).virtual_storages fit_n fit_a fit_v 0

    pub step_met : AllMet w f plan 0 (stepped_rows w net i) ↔ (AllMet w f plan 0 bounds × Every (BinaryMet w f plan i.nodes) wanted)
    unfolding programme_of assemble column_map
    step_met =
        let e = step_is_bounds in
        let k = binary_met w (columns net).count i.nodes rows_of_nodes ranged_here (sharers_of_one_set w net sound) bounds free_here f plan in
        let q = binary_asked (λ p. elements_at p bounds) bounds_elements in (
          λ h. let r = k.0 (subst (λ (rows : List Row). AllMet w f plan 0 rows) e h) in (r.0, q.0 r.1),
          λ h. subst (λ (rows : List Row). AllMet w f plan 0 rows) (sym e) (k.1 (h.0, q.1 h.1)),
        )

-- The varying rows after a step are met exactly if every interval holds the sum of the row that its maker asked for. Assumes nothing.
use mathlib.Core.Path.{◌≡◌, refl, sym, ap, ◌∙◌, subst}
use mathlib.Core.Logic.{◌↔◌}
use Prim.Native.Nat.{ℕ, zero, suc, ◌<◌}
use mathlib.Core.Bool.{not}
use mathlib.Core.List.Memᴰ
use mathlib.Core.List.{List, [], ◌∷◌, map}
use mathlib.Core.Option.{some}
use lib.ListN.{length, get_or, get_elem?, length-map}
use lib.IntN.{ℤ}
use lib.Dec.{T}
use lib.Ieee.{binary64}
use Rattle.doubles.proofs.Order.{neg_num}
use Rattle.pywr.specs.declared.Sentinel.{Sentinel}
use Rattle.pywr.specs.declared.Interval.{Interval}
use Rattle.pywr.specs.Numbers.{high, low}
use Rattle.pywr.specs.Rows.{Element, ColumnMap}
use Rattle.pywr.specs.Programme.{Row, RowType, continuous, binary_upper, binary_lower, NodeRow, Shape}
use Rattle.pywr.specs.Interval.{sentinels}
use Rattle.pywr.specs.Network.{keep_if}
use Rattle.pywr.specs.StepIntervals.{Intervals, is_binary}
use Rattle.pywr.specs.Step.{adjust, with_bounds, apply_row_bounds, over_node_rows, apply_interval, interval_for, apply_node_rows}
use Rattle.pywr.specs.Step.{reset_binary_rows, apply_coefficients, apply_intervals, row_of, step_rows}
use Rattle.pywr.specs.Plans.{meets, Plan}
use Rattle.pywr.specs.Admits.{on_column, row_sum}
use Rattle.pywr.proofs.BoundLaws.{IsInterval, high_bound}
use Rattle.pywr.proofs.RowLaws.{own, Sane, adjust_length, adjust_elements, adjust_sane, elements_at, AllMet, Fitting, sums, Applied, apply_met, reset_met}
use Rattle.pywr.proofs.SumLaws.{row_weighed}
use Rattle.pywr.proofs.JoinLaws.{Alike, alike_sum, Placed}
use Rattle.pywr.proofs.ListLaws.{not_found, same_some, AllMem, below_found}

-- the continuous node rows, in order
unfoldable pub continuous_rows : List NodeRow → List NodeRow
continuous_rows [] = []
continuous_rows (n ∷ ns) = keep_if (not (is_binary n.row_type)) n (continuous_rows ns)

-- the interval of each node row's node
unfoldable pub node_intervals_lem : Sentinel → List Interval → List NodeRow → List Interval
node_intervals_lem w is [] = []
node_intervals_lem w is (n ∷ ns) = get_or is n.node (sentinels w) ∷ node_intervals_lem w is ns

unfoldable pub node_places_lem : List NodeRow → List ℕ
node_places_lem [] = []
node_places_lem (n ∷ ns) = n.row ∷ node_places_lem ns

pub adjust_none : (r : ℕ) (rows : List Row) → adjust (λ x. x) r rows ≡ rows
unfolding adjust
adjust_none r [] = refl
adjust_none zero (x ∷ xs) = refl
adjust_none (suc r) (x ∷ xs) = ap (λ (l : List Row). x ∷ l) (adjust_none r xs)

-- the intervals of these node rows applied in turn
abbrev applied : Sentinel → List Interval → List NodeRow → List Row → List Row
applied w is ns rows = apply_intervals (node_places_lem ns) (node_intervals_lem w is ns) rows

node_rows_are : (w : Sentinel) (is : List Interval) (ns : List NodeRow) (rows : List Row) → apply_node_rows w is ns rows ≡ applied w is (continuous_rows ns) rows
unfolding apply_node_rows over_node_rows apply_intervals node_intervals_lem node_places_lem continuous_rows keep_if apply_interval interval_for is_binary
node_rows_are w is [] rows = refl
node_rows_are w is (n ∷ ns) rows = go n.row_type (λ r. node_rows_are w is ns r)
  where
    go : (t : RowType) → ((r : List Row) → apply_node_rows w is ns r ≡ applied w is (continuous_rows ns) r)
        → apply_node_rows w is ns (adjust (apply_interval t (interval_for w is n)) n.row rows) ≡ applied w is (keep_if (not (is_binary t)) n (continuous_rows ns)) rows
    go continuous ih = ih (adjust (apply_row_bounds (interval_for w is n)) n.row rows)
    go binary_upper ih = ap (apply_node_rows w is ns) (adjust_none n.row rows) ∙ ih rows
    go binary_lower ih = ap (apply_node_rows w is ns) (adjust_none n.row rows) ∙ ih rows

pub alike_row_sum : (f : ColumnMap) (plan : Plan) {a b : List Element} → Alike a b → row_sum f plan a ≡ row_sum f plan b
alike_row_sum f plan {a} {b} same = row_weighed f plan a ∙ alike_sum (on_column f plan) same ∙ sym (row_weighed f plan b)

module _ (w : Sentinel) (f : ColumnMap) (plan : Plan) where
  -- each asked row's sum is in its interval
  unfoldable pub Asked : List (List Element) → List Interval → Type 0
  Asked [] is = Unit {0}
  Asked (r ∷ rs) [] = Unit {0}
  Asked (r ∷ rs) (i ∷ is) = T (meets w i (row_sum f plan r)) × Asked rs is

  -- from places to rows
  pub applied_asked : (rows : List (List Element)) (sum : ℕ → ℤ) → ((p : ℕ) → p < length rows → sum p ≡ row_sum f plan (get_or rows p []))
      → (asked : List (List Element)) (ps : List ℕ) (is : List Interval) → Placed rows asked ps → Applied w f plan sum ps is ↔ Asked asked is
  unfolding Applied Asked
  applied_asked rows sum e [] [] is Placed.none = (λ h. tt, λ h. tt)
  applied_asked rows sum e (r ∷ rs) (p ∷ ps) [] (Placed.more h q rest) = (λ k. tt, λ k. tt)
  applied_asked rows sum e (r ∷ rs) (p ∷ ps) (i ∷ is) (Placed.more h q rest) =
      let ih = applied_asked rows sum e rs ps is rest in
      let s : sum p ≡ row_sum f plan r = e p h ∙ alike_row_sum f plan q in
      (λ k. (subst (λ (v : ℤ). T (meets w i v)) s k.0, ih.0 k.1), λ k. (subst (λ (v : ℤ). T (meets w i v)) (sym s) k.0, ih.1 k.1))
  applied_asked rows sum e [] (p ∷ ps) is x'' = elim x'' [ ]
  applied_asked rows sum e (r ∷ rs) [] is x3 = elim x3 [ ]

-- ---- what a run of intervals leaves alone

apply_length : (rs : List ℕ) (is : List Interval) (rows : List Row) → length (apply_intervals rs is rows) ≡ length rows
unfolding apply_intervals
apply_length [] is rows = refl
apply_length (r ∷ rs) [] rows = refl
apply_length (r ∷ rs) (i ∷ is) rows = apply_length rs is (adjust (apply_row_bounds i) r rows) ∙ adjust_length (apply_row_bounds i) r rows

pub apply_elements : (rs : List ℕ) (is : List Interval) (rows : List Row) (k : ℕ) → elements_at k (apply_intervals rs is rows) ≡ elements_at k rows
unfolding apply_intervals
apply_elements [] is rows k = refl
apply_elements (r ∷ rs) [] rows k = refl
apply_elements (r ∷ rs) (i ∷ is) rows k = apply_elements rs is (adjust (apply_row_bounds i) r rows) k ∙ adjust_elements i r k rows

apply_sane : (n : ℕ) (rs : List ℕ) (is : List Interval) (rows : List Row) → Fitting n rs is → Sane rows → Sane (apply_intervals rs is rows)
unfolding apply_intervals
apply_sane n [] [] rows Fitting.none s = s
apply_sane n (r ∷ rs) (i ∷ is) rows (Fitting.more h ii fs) s = apply_sane n rs is (adjust (apply_row_bounds i) r rows) fs (adjust_sane i ii r rows s)
apply_sane n [] (i ∷ is) rows x4 s = elim x4 [ ]
apply_sane n (r ∷ rs) [] rows x4 s = elim x4 [ ]

pub adjust_apart : (g : Row → Row) (r p : ℕ) (rows : List Row) → ¬ (r ≡ p) → get_elem? (adjust g r rows) p ≡ get_elem? rows p
unfolding adjust
adjust_apart g r p [] n = refl
adjust_apart g zero zero (x ∷ xs) n = absurd (n refl)
adjust_apart g zero (suc p) (x ∷ xs) n = refl
adjust_apart g (suc r) zero (x ∷ xs) n = refl
adjust_apart g (suc r) (suc p) (x ∷ xs) n = adjust_apart g r p xs (λ e. n (ap suc e))

apply_apart : (rs : List ℕ) (is : List Interval) (rows : List Row) (p : ℕ) → AllMem (λ (q : ℕ). ¬ (q ≡ p)) rs → get_elem? (apply_intervals rs is rows) p ≡ get_elem? rows p
unfolding apply_intervals
apply_apart [] is rows p h = refl
apply_apart (r ∷ rs) [] rows p h = refl
apply_apart (r ∷ rs) (i ∷ is) rows p h = apply_apart rs is _ p (λ q m. h q (Memᴰ.tail m)) ∙ adjust_apart (apply_row_bounds i) r p rows (h r (Memᴰ.head refl))

reset_own : (w : Sentinel) (rows : List Row) (p : ℕ) (x : Row) → get_elem? (map (with_bounds (sentinels w)) rows) p ≡ some x → own x ≡ sentinels w
unfolding with_bounds
reset_own w [] p x e = not_found x e
reset_own w (y ∷ ys) zero x e = ap own (sym (same_some _ x e))
reset_own w (y ∷ ys) (suc p) x e = reset_own w ys p x e

pub sentinels_interval : (w : Sentinel) → IsInterval (sentinels w)
unfolding sentinels low
sentinels_interval w = record { lower = neg_num binary64 (high w) (high_bound w); upper = high_bound w }

reset_sane : (w : Sentinel) (rows : List Row) → Sane (map (with_bounds (sentinels w)) rows)
unfolding with_bounds
reset_sane w [] = Sane.none
reset_sane w (x ∷ xs) = Sane.more (sentinels_interval w) (reset_sane w xs)

pub reset_elements : (i : Interval) (rows : List Row) (k : ℕ) → elements_at k (map (with_bounds i) rows) ≡ elements_at k rows
unfolding with_bounds elements_at
reset_elements i [] k = refl
reset_elements i (x ∷ xs) zero = refl
reset_elements i (x ∷ xs) (suc k) = reset_elements i xs k

-- ---- the intervals of a step, all applied

module _ (w : Sentinel) (shape : Shape) (i : Intervals) (rows : List Row) where
  abbrev pub node_places : List ℕ
  node_places = node_places_lem (continuous_rows shape.node_rows)

  abbrev pub virtual_storage_places : List ℕ
  virtual_storage_places = map row_of shape.virtual_storages

  abbrev pub node_intervals : List Interval
  node_intervals = node_intervals_lem w i.nodes (continuous_rows shape.node_rows)

  abbrev reset : List Row
  reset = map (with_bounds (sentinels w)) rows

  abbrev nodes_done : List Row
  nodes_done = apply_intervals node_places node_intervals reset

  abbrev aggregates_done : List Row
  aggregates_done = apply_intervals shape.aggregates i.aggregates nodes_done

  abbrev pub tightened : List Row
  tightened = apply_intervals virtual_storage_places i.virtual_storages aggregates_done

  -- a step leaves these, but for the binary rows
  pub step_is : step_rows w shape i rows ≡ apply_coefficients w shape.edge_columns i.nodes shape.node_rows (reset_binary_rows w shape.edge_columns shape.node_rows tightened)
  unfolding step_rows
  step_is =
      ap (λ (a : List Row).
      apply_coefficients w shape.edge_columns i.nodes shape.node_rows
      (reset_binary_rows w shape.edge_columns shape.node_rows
      (apply_intervals virtual_storage_places i.virtual_storages (apply_intervals shape.aggregates i.aggregates a))))
      (node_rows_are w i.nodes shape.node_rows reset)

  module _ (joined : List (List Element)) (long : length rows ≡ length joined) (same : (p : ℕ) → elements_at p rows ≡ get_or joined p []) where
    reset_long : length reset ≡ length joined
    reset_long = length-map rows (with_bounds (sentinels w)) ∙ long

    nodes_long : length nodes_done ≡ length joined
    nodes_long = apply_length node_places node_intervals reset ∙ reset_long

    aggregates_long : length aggregates_done ≡ length joined
    aggregates_long = apply_length shape.aggregates i.aggregates nodes_done ∙ nodes_long

    reset_same : (p : ℕ) → elements_at p reset ≡ get_or joined p []
    reset_same p = reset_elements (sentinels w) rows p ∙ same p

    nodes_same : (p : ℕ) → elements_at p nodes_done ≡ get_or joined p []
    nodes_same p = apply_elements node_places node_intervals reset p ∙ reset_same p

    aggregates_same : (p : ℕ) → elements_at p aggregates_done ≡ get_or joined p []
    aggregates_same p = apply_elements shape.aggregates i.aggregates nodes_done p ∙ nodes_same p

    pub tightened_elements : (p : ℕ) → elements_at p tightened ≡ get_or joined p []
    tightened_elements p = apply_elements virtual_storage_places i.virtual_storages aggregates_done p ∙ aggregates_same p

    -- a row that no interval is for keeps the sentinels
    pub tightened_free : (p : ℕ) → p < length joined
        → AllMem (λ (q : ℕ). ¬ (q ≡ p)) node_places → AllMem (λ (q : ℕ). ¬ (q ≡ p)) shape.aggregates → AllMem (λ (q : ℕ). ¬ (q ≡ p)) virtual_storage_places
        → (x : Row) × (get_elem? tightened p ≡ some x) × (own x ≡ sentinels w)
    tightened_free p h not_n not_a not_v =
        let b = below_found reset p (subst (λ (m : ℕ). p < m) (sym reset_long) h) in
        let there =
        apply_apart virtual_storage_places i.virtual_storages aggregates_done p not_v
        ∙ apply_apart shape.aggregates i.aggregates nodes_done p not_a
        ∙ apply_apart node_places node_intervals reset p not_n
        ∙ b.1 in
        (b.0, there, reset_own w rows p b.0 b.1)

    module _ (f : ColumnMap) (plan : Plan) (asked_n asked_a asked_v : List (List Element))
        (placed_n : Placed joined asked_n node_places) (placed_a : Placed joined asked_a shape.aggregates) (placed_v : Placed joined asked_v virtual_storage_places)
        (fit_n : Fitting (length joined) node_places node_intervals)
        (fit_a : Fitting (length joined) shape.aggregates i.aggregates)
        (fit_v : Fitting (length joined) virtual_storage_places i.virtual_storages) where
      nodes_sane : Sane nodes_done
      nodes_sane = apply_sane (length joined) node_places node_intervals reset fit_n (reset_sane w rows)

      aggregates_sane : Sane aggregates_done
      aggregates_sane = apply_sane (length joined) shape.aggregates i.aggregates nodes_done fit_a nodes_sane

      pub tightened_met : (n : ℕ)
          → AllMet w f plan n tightened ↔ (Asked w f plan asked_n node_intervals × Asked w f plan asked_a i.aggregates × Asked w f plan asked_v i.virtual_storages)
      tightened_met n =
          let a0 = apply_met w f plan node_places node_intervals reset (subst (λ (m : ℕ). Fitting m node_places node_intervals) (sym reset_long) fit_n) (reset_sane w rows) n in
          let a1 = apply_met w f plan shape.aggregates i.aggregates nodes_done
          (subst (λ (m : ℕ). Fitting m shape.aggregates i.aggregates) (sym nodes_long) fit_a) nodes_sane n in
          let a2 = apply_met w f plan virtual_storage_places i.virtual_storages aggregates_done
          (subst (λ (m : ℕ). Fitting m virtual_storage_places i.virtual_storages) (sym aggregates_long) fit_v) aggregates_sane n in
          let b0 = applied_asked w f plan joined (sums w f plan reset) (λ p h. ap (row_sum f plan) (reset_same p)) asked_n node_places node_intervals placed_n in
          let b1 = applied_asked w f plan joined (sums w f plan nodes_done) (λ p h. ap (row_sum f plan) (nodes_same p)) asked_a shape.aggregates i.aggregates placed_a in
          let b2 = applied_asked w f plan joined (sums w f plan aggregates_done) (λ p h. ap (row_sum f plan) (aggregates_same p)) asked_v virtual_storage_places i.virtual_storages placed_v in (
            λ h.
                let x2 = a2.0 h in
                let x1 = a1.0 x2.1 in
                let x0 = a0.0 x1.1 in
                (b0.0 x0.0, b1.0 x1.0, b2.0 x2.0),
            λ k. a2.1 (b2.1 k.2, a1.1 (b1.1 k.1, a0.1 (b0.1 k.0, reset_met w f plan rows n))),
          )

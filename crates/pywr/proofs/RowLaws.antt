-- A step's folds over the varying rows: what a step applies to its rows is met exactly if each interval is met by its row's sum. Assumes nothing.
use mathlib.Core.Path.{◌≡◌, refl, sym, ap, subst}
use mathlib.Core.Logic.{◌↔◌}
use Prim.Native.Nat.{ℕ, zero, suc, ◌<◌}
use native.Mathlib.Nat.{not-suc-le-zero, le_of_suc-le-suc}
use mathlib.Core.Bool.{Bool}
use mathlib.Core.List.{List, [], ◌∷◌, map}
use mathlib.Core.Option.{some}
use lib.ListN.{length, get_elem?}
use lib.IntN.{ℤ}
use lib.Dec.{T}
use lib.Ieee.{binary64, lt, le, eq, neg, of_bits}
use lib.Ieee.Fits.{and_i, and_l, and_r}
use Rattle.doubles.proofs.Order.{larger_num, smaller_num}
use Rattle.pywr.specs.declared.Sentinel.{Sentinel}
use Rattle.pywr.specs.declared.Sentinel.TheVariants.{Infinity, Largest}
use Rattle.pywr.specs.declared.Interval.{Interval}
use Rattle.pywr.specs.Numbers.{high, low, lesser, greater}
use Rattle.pywr.specs.Rows.{Element, ColumnMap}
use Rattle.pywr.specs.Programme.{Row}
use Rattle.pywr.specs.Interval.{tighten, sentinels}
use Rattle.pywr.specs.Step.{adjust, with_bounds, apply_row_bounds, apply_intervals}
use Rattle.pywr.specs.Plans.{meets, Plan, lower_met, upper_met, all_from}
use Rattle.pywr.specs.Admits.{row_sum, row_met}
use Rattle.pywr.proofs.ListLaws.{not_found, same_some}
use Rattle.pywr.proofs.BoundLaws.{IsInterval, tighten_met}

-- the interval of a row
abbrev pub own : Row → Interval
own r = record { lower = r.lower; upper = r.upper }

-- every row's interval is one of doubles
pub data Sane : List Row → Type 0 where
  none : Sane []
  more : {r : Row} {rs : List Row} → IsInterval (own r) → Sane rs → Sane (r ∷ rs)

-- the elements of row r
unfoldable pub elements_at : ℕ → List Row → List Element
elements_at r [] = []
elements_at zero (x ∷ xs) = x.elements
elements_at (suc r) (x ∷ xs) = elements_at r xs

pub elements_found : (rows : List Row) (p : ℕ) (x : Row) → get_elem? rows p ≡ some x → elements_at p rows ≡ x.elements
unfolding elements_at
elements_found [] p x e = not_found x e
elements_found (y ∷ ys) zero x e = ap (λ (r : Row). r.elements) (same_some y x e)
elements_found (y ∷ ys) (suc p) x e = elements_found ys p x e

module _ (w : Sentinel) (f : ColumnMap) (plan : Plan) where
  abbrev pub AllMet : ℕ → List Row → Type 0
  AllMet n rows = T (all_from (row_met w f plan) n rows)

  -- one interval on one row
  pub adjust_met : (i : Interval) → IsInterval i → (r : ℕ) (rows : List Row) → Sane rows → r < length rows → (n : ℕ)
      → AllMet n (adjust (apply_row_bounds i) r rows) ↔ (T (meets w i (row_sum f plan (elements_at r rows))) × AllMet n rows)
  unfolding adjust apply_row_bounds with_bounds all_from row_met elements_at
  adjust_met i ii r [] none h n = absurd (not-suc-le-zero h)
  adjust_met i ii zero (x ∷ xs) (more ix ss) h n =
      let v : ℤ = row_sum f plan x.elements in
      let t = tighten_met w (own x) i v ix ii in
      let rest : Bool = all_from (row_met w f plan) (suc n) xs in (
        λ k.
            let p = t.0 (and_l (meets w (tighten (own x) i) v) rest k) in
            (p.1, and_i (meets w (own x) v) rest p.0 (and_r (meets w (tighten (own x) i) v) rest k)),
        λ k. and_i (meets w (tighten (own x) i) v) rest (t.1 (and_l (meets w (own x) v) rest k.1, k.0)) (and_r (meets w (own x) v) rest k.1),
      )
  adjust_met i ii (suc r) (x ∷ xs) (more ix ss) h n =
      let here : Bool = meets w (own x) (row_sum f plan x.elements) in
      let ih = adjust_met i ii r xs ss (le_of_suc-le-suc h) (suc n) in
      let after : Bool = all_from (row_met w f plan) (suc n) (adjust (apply_row_bounds i) r xs) in
      let rest : Bool = all_from (row_met w f plan) (suc n) xs in (
        λ k. let p = ih.0 (and_r here after k) in (p.0, and_i here rest (and_l here after k) p.1),
        λ k. and_i here after (and_l here rest k.1) (ih.1 (k.0, and_r here rest k.1)),
      )

-- ---- what an applied interval leaves alone

pub adjust_length : (g : Row → Row) (r : ℕ) (rows : List Row) → length (adjust g r rows) ≡ length rows
unfolding adjust
adjust_length g r [] = refl
adjust_length g zero (x ∷ xs) = refl
adjust_length g (suc r) (x ∷ xs) = ap suc (adjust_length g r xs)

-- a change that leaves the elements of such rows leaves those of row k
pub adjust_keeps : (change : Row → Row) (Such : List Element → Type 0) → ((x : Row) → Such x.elements → (change x).elements ≡ x.elements) → (r k : ℕ) (rows : List Row)
    → Such (elements_at k rows) → elements_at k (adjust change r rows) ≡ elements_at k rows
unfolding adjust elements_at
adjust_keeps change Such keeps r k [] h = refl
adjust_keeps change Such keeps zero zero (x ∷ xs) h = keeps x h
adjust_keeps change Such keeps zero (suc k) (x ∷ xs) h = refl
adjust_keeps change Such keeps (suc r) zero (x ∷ xs) h = refl
adjust_keeps change Such keeps (suc r) (suc k) (x ∷ xs) h = adjust_keeps change Such keeps r k xs h

pub adjust_elements : (i : Interval) (r k : ℕ) (rows : List Row) → elements_at k (adjust (apply_row_bounds i) r rows) ≡ elements_at k rows
unfolding apply_row_bounds with_bounds
adjust_elements i r k rows = adjust_keeps (apply_row_bounds i) (λ row. Unit {0}) (λ x h. refl) r k rows tt

tighten_sane : (a b : Interval) → IsInterval a → IsInterval b → IsInterval (tighten a b)
unfolding tighten greater lesser
tighten_sane a b ia ib =
    record {
      lower = larger_num binary64 a.lower b.lower ia.lower ib.lower;
      upper = smaller_num binary64 a.upper b.upper ia.upper ib.upper;
    }

pub adjust_sane : (i : Interval) → IsInterval i → (r : ℕ) (rows : List Row) → Sane rows → Sane (adjust (apply_row_bounds i) r rows)
unfolding adjust apply_row_bounds with_bounds
adjust_sane i ii r [] none = none
adjust_sane i ii zero (x ∷ xs) (more ix ss) = more (tighten_sane (own x) i ix ii) ss
adjust_sane i ii (suc r) (x ∷ xs) (more ix ss) = more ix (adjust_sane i ii r xs ss)

-- ---- intervals applied one after another

-- rows and intervals in pairs, each row under the count
pub data Fitting (n : ℕ) : List ℕ → List Interval → Type 0 where
  none : Fitting n [] []
  more : {r : ℕ} {rs : List ℕ} {i : Interval} {is : List Interval} → r < n → IsInterval i → Fitting n rs is → Fitting n (r ∷ rs) (i ∷ is)

module _ (w : Sentinel) (f : ColumnMap) (plan : Plan) where
  abbrev pub sums : List Row → ℕ → ℤ
  sums rows r = row_sum f plan (elements_at r rows)

  -- each interval holds its row's sum
  unfoldable pub Applied : (ℕ → ℤ) → List ℕ → List Interval → Type 0
  Applied sum [] is = Unit {0}
  Applied sum (r ∷ rs) [] = Unit {0}
  Applied sum (r ∷ rs) (i ∷ is) = T (meets w i (sum r)) × Applied sum rs is

  applied_same : (s t : ℕ → ℤ) → ((r : ℕ) → s r ≡ t r) → (rs : List ℕ) (is : List Interval) → Applied s rs is → Applied t rs is
  unfolding Applied
  applied_same s t e [] is a = tt
  applied_same s t e (r ∷ rs) [] a = tt
  applied_same s t e (r ∷ rs) (i ∷ is) a = (subst (λ (v : ℤ). T (meets w i v)) (e r) a.0, applied_same s t e rs is a.1)

  pub apply_met : (rs : List ℕ) (is : List Interval) (rows : List Row) → Fitting (length rows) rs is → Sane rows → (n : ℕ)
      → AllMet w f plan n (apply_intervals rs is rows) ↔ (Applied (sums rows) rs is × AllMet w f plan n rows)
  unfolding apply_intervals Applied
  apply_met [] [] rows none ss n = (λ k. (tt, k), λ k. k.1)
  apply_met (r ∷ rs) (i ∷ is) rows (more h ii fs) ss n =
      let next : List Row = adjust (apply_row_bounds i) r rows in
      let fs' : Fitting (length next) rs is = subst (λ (m : ℕ). Fitting m rs is) (sym (adjust_length (apply_row_bounds i) r rows)) fs in
      let same : (k : ℕ) → sums next k ≡ sums rows k = (λ k. ap (row_sum f plan) (adjust_elements i r k rows)) in
      let ih = apply_met rs is next fs' (adjust_sane i ii r rows ss) n in
      let one = adjust_met w f plan i ii r rows ss h n in (
        λ k.
            let p = ih.0 k in
            let q = one.0 p.1 in
            ((q.0, applied_same (sums next) (sums rows) same rs is p.0), q.1),
        λ k. ih.1 (applied_same (sums rows) (sums next) (λ j. sym (same j)) rs is k.0.1, one.1 (k.0.0, k.1)),
      )
  apply_met [] (i ∷ is) rows x4 ss n = elim x4 [ ]
  apply_met (r ∷ rs) [] rows x4 ss n = elim x4 [ ]

-- ---- the reset: both sentinels bind nothing

pub free : (w : Sentinel) (v : ℤ) → T (meets w (sentinels w) v)
unfolding meets sentinels lower_met upper_met low high neg of_bits le lt eq
free Infinity v = tt
free Largest v = tt

pub reset_met : (w : Sentinel) (f : ColumnMap) (plan : Plan) (rows : List Row) (n : ℕ) → AllMet w f plan n (map (with_bounds (sentinels w)) rows)
unfolding all_from row_met with_bounds
reset_met w f plan [] n = tt
reset_met w f plan (x ∷ xs) n =
    and_i (meets w (sentinels w) (row_sum f plan x.elements)) (all_from (row_met w f plan) (suc n) (map (with_bounds (sentinels w)) xs))
    (free w (row_sum f plan x.elements))
    (reset_met w f plan xs (suc n))

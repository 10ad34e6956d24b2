-- The bounds of a varying exclusive node in a step that 14 and 21 let through are strictly between the sentinels, so finite. Assumes nothing.
use mathlib.Core.Path.{◌≡◌, refl, sym, ap, ◌∙◌, subst}
use Prim.Native.Nat.{ℕ, zero, suc, ◌+◌}
use native.Mathlib.Nat.{add-zero, add-suc, suc-add, zero-add}
use native.Mathlib.Omega.{arith}
use mathlib.Core.Bool.{Bool, true, false, cond, not, ◌&&◌, ◌||◌}
use mathlib.Core.List.{List, [], ◌∷◌}
use mathlib.Core.Option.{Option, none, some}
use lib.ListN.{get_elem?}
use lib.Dec.{T, T_not, not_T}
use lib.Ieee.{Float, nan, inf, fin, binary64, lt, le, eq, neg, of_bits}
use lib.Ieee.Fits.{neg-fits}
use Rattle.laws.proofs.Tests.{or_l, or_r}
use Rattle.doubles.proofs.Units.{neg_neg, neg_finite}
use Rattle.doubles.proofs.Order.{le_neg, neg_num}
use Rattle.pywr.specs.declared.Sentinel.{Sentinel}
use Rattle.pywr.specs.declared.Sentinel.TheVariants.{Infinity, Largest}
use Rattle.pywr.specs.declared.Interval.{Interval}
use Rattle.pywr.specs.Result.{value, first_refused, refused_if}
use Rattle.pywr.specs.Numbers.{high, low}
use Rattle.pywr.specs.StepIntervals.{Intervals, is_crossed, is_beyond, bad_interval, ordered}
use Rattle.pywr.proofs.BoundLaws.{IsBound, IsInterval, high_bound}
use Rattle.pywr.proofs.NumberLaws.{FiniteFit}
use Rattle.pywr.proofs.ListLaws.{not_found, same_some}
use Rattle.pywr.proofs.BinaryRowLaws.{InRange}
use Rattle.pywr.proofs.SteppedLaws.{Ranged}

-- ---- one bound

inside_finite : (w : Sentinel) (x : Float) → IsBound x → T (not (is_beyond w x)) → FiniteFit x
unfolding is_beyond low high le lt eq neg of_bits
inside_finite w nan b h = absurd b.1
inside_finite Infinity (inf true) b h = absurd h
inside_finite Infinity (inf false) b h = absurd h
inside_finite Largest (inf true) b h = absurd h
inside_finite Largest (inf false) b h = absurd h
inside_finite w (fin s m e) b h = record { finite = tt; fit = b.0 }

pub inside : (w : Sentinel) (x : Float) → IsBound x → T (not (is_beyond w x)) → InRange w x
unfolding is_beyond
inside w x b h =
    record {
      finite = unfold is_beyond in inside_finite w x b h;
      under = λ t. T_not (le x (low w) || le (high w) x) h (or_r (le x (low w)) (le (high w) x) t);
    }

pub inside_neg : (w : Sentinel) (x : Float) → IsBound x → T (not (is_beyond w x)) → InRange w (neg x)
unfolding is_beyond low
inside_neg w x b h =
    let f : FiniteFit x = (unfold is_beyond low in inside_finite w x b h) in
    let hb : IsBound (high w) = high_bound w in
    let same : le (high w) (neg x) ≡ le x (neg (high w)) =
    ap (λ (y : Float). le y (neg x)) (sym (neg_neg (high w))) ∙ le_neg binary64 x (neg (high w)) b (neg_num binary64 (high w) hb) in
    record {
      finite = record { finite = rw (neg_finite x) f.finite; fit = neg-fits binary64 x f.fit };
      under = λ t. T_not (le x (neg (high w)) || le (high w) x) h (or_l (le x (neg (high w))) (le (high w) x) (subst T same t));
    }

-- ---- the pass

module _ (w : Sentinel) (exclusive : ℕ → Bool) where
  abbrev NoneRefused : ℕ → List Interval → Type 0
  NoneRefused n is = ◌≡◌ {A = Option (ℕ × ℕ)} (first_refused (bad_interval w exclusive) n is) none

  good_at : (n : ℕ) (is : List Interval) → NoneRefused n is → (k : ℕ) (i : Interval) → get_elem? is k ≡ some i → bad_interval w exclusive (n + k) i ≡ none
  unfolding first_refused
  good_at n [] e k i at = not_found i at
  good_at n (j ∷ is) e k i at = go (bad_interval w exclusive n j) refl e k i at (λ e' q y at'. good_at (suc n) is e' q y at')
    where
      go : (o : Option ℕ) → bad_interval w exclusive n j ≡ o
          → ◌≡◌ {A = Option (ℕ × ℕ)} (elim o [ none ↦ first_refused (bad_interval w exclusive) (suc n) is | some number ↦ some (number, n) ]) none
          → (k : ℕ) (i : Interval) → get_elem? (j ∷ is) k ≡ some i
          → (NoneRefused (suc n) is → (q : ℕ) (y : Interval) → get_elem? is q ≡ some y → bad_interval w exclusive (suc n + q) y ≡ none)
          → bad_interval w exclusive (n + k) i ≡ none
      go (some number) q e' k' i' at' ih = not_found _ (sym e')
      go none q e' zero i' at' ih =
          subst (λ (m : ℕ). bad_interval w exclusive m i' ≡ none) (sym (add-zero n))
          (subst (λ (y : Interval). bad_interval w exclusive n y ≡ none) (same_some j i' at') q)
      go none q e' (suc k') i' at' ih = subst (λ (m : ℕ). bad_interval w exclusive m i' ≡ none) (suc-add n k' ∙ sym (add-suc n k')) (ih e' k' i' at')

  good_inside : (n : ℕ) (i : Interval) → T (exclusive n) → bad_interval w exclusive n i ≡ none → T (not (is_beyond w i.lower || is_beyond w i.upper))
  unfolding bad_interval
  good_inside n i t e = go (is_crossed i) (exclusive n) (is_beyond w i.lower || is_beyond w i.upper) t e
    where
      go : (a b c : Bool) → T b → ◌≡◌ {A = Option ℕ} (cond a (some 14) (cond (b && c) (some 21) none)) none → T (not c)
      go true b c t e = not_found _ (sym e)
      go false true true t e = not_found _ (sym e)
      go false true false t e = tt
      go false false c t e = absurd t

  ordered_good : (i j : Intervals) → ordered w exclusive i ≡ value j → NoneRefused 0 i.nodes
  unfolding ordered refused_if
  ordered_good i j e = go (first_refused (bad_interval w exclusive) 0 i.nodes) e
    where
      go : (o : Option (ℕ × ℕ)) → refused_if i o ≡ value j → ◌≡◌ {A = Option (ℕ × ℕ)} o none
      go none e = refl
      go (some found) e = let z : ◌≡◌ {A = ℕ} 0 1 = cc in absurd (omega arith)

-- 21 "a bound at or beyond either sentinel on such a node": of a step that passes it, the interval of a varying exclusive node
pub ordered_ranged : (w : Sentinel) (exclusive : ℕ → Bool) (i j : Intervals) → ordered w exclusive i ≡ value j
    → (n : ℕ) (x : Interval) → get_elem? i.nodes n ≡ some x → IsInterval x → T (exclusive n) → Ranged w x
ordered_ranged w exclusive i j e n x at ix t =
    let good : bad_interval w exclusive n x ≡ none =
    subst (λ (k : ℕ). bad_interval w exclusive k x ≡ none) (zero-add n)
    (good_at w exclusive 0 i.nodes (ordered_good w exclusive i j e) n x at) in
    let h = good_inside w exclusive n x t good in
    let lo : Bool = is_beyond w x.lower in
    let up : Bool = is_beyond w x.upper in
    record {
      upper = inside w x.upper ix.upper (not_T up (λ u. T_not (lo || up) h (or_r lo up u)));
      lower = inside_neg w x.lower ix.lower (not_T lo (λ u. T_not (lo || up) h (or_l lo up u)));
    }

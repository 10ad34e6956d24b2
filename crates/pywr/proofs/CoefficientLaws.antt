-- Doubles of whole numbers against a count, and the finite coefficients of exclusive rows. Assumes nothing.
use mathlib.Core.Path.{◌≡◌, refl, sym, ap, ap₂, ◌∙◌, subst}
use mathlib.Core.Logic.{◌↔◌}
use Prim.Native.Nat.{ℕ, suc, ◌*◌, ◌^◌, ◌<◌, ◌≤◌}
use native.Mathlib.Nat.{zero-mul, le_refl, le_trans, mul-le-mul_right, le_of_mul-le-mul_right}
use native.Mathlib.Omega.{arith}
use mathlib.Core.Bool.{Bool, true, false, cond, not, ◌&&◌}
use lib.IntN.{ℤ, pos, negsuc, neg_ℤ, ◌+ℤ◌, ◌-ℤ◌, ◌*ℤ◌, +ℤ_comm, +ℤ_idr, *ℤ_comm, *ℤ-zero}
use lib.Signed.{le_z}
use lib.Dec.{T, leb, le→leb, leb→le, nleb→lt, lit≤, lit<}
use lib.Ieee.{Float, nan, inf, fin, binary64, fits, is_nan, lt, le, eq, round, neg, of_bits}
use lib.Ieee.Order.{round_mono}
use lib.Ieee.Fits.{and_i, and_l, and_r, neg-fits}
use Rattle.laws.proofs.Tests.{tests, or_r, or_elim, by_cases}
use Rattle.doubles.specs.Units.{mag, signed as with-sign, rank}
use Rattle.doubles.specs.Rounding.{Rounds}
use Rattle.doubles.proofs.Integers.{ints, neg_plus, neg_less, add-mulℤ, neg-mulℤ, mul-negℤ, scale_le}
use Rattle.doubles.proofs.Units.{neg_rank, neg_finite}
use Rattle.doubles.proofs.Order.{neg_num, le→Z}
use Rattle.doubles.proofs.Rounding.{round_num}
use Rattle.doubles.proofs.Sums.{of_nat}
use Rattle.pywr.specs.declared.Sentinel.{Sentinel}
use Rattle.pywr.specs.declared.Sentinel.TheVariants.{Infinity, Largest}
use Rattle.pywr.specs.Numbers.{double, zero64, million, millionth, high, low, lesser, greater}
use Rattle.pywr.specs.Plans.{exact, meets, units_in_one, signed, is_finite, times_one, lower_met, upper_met}
use Rattle.pywr.specs.Allows.{on_amount}
use Rattle.pywr.proofs.ExactLaws.{units_pos, finite_is, exact_rank, exact_neg}
use Rattle.pywr.proofs.BoundLaws.{IsBound, high_bound, lower_mono, upper_mono}
use Rattle.pywr.proofs.NumberLaws.{FiniteFit}

-- ---- integers

pub nonneg_times_one : (z : ℤ) → le_z (pos 0) (times_one z) ≡ le_z (pos 0) z
unfolding times_one
nonneg_times_one z = ap₂ (λ (a b : ℤ). le_z a b) (sym (*ℤ-zero (pos units_in_one))) (*ℤ_comm z (pos units_in_one)) ∙ scale_le units_in_one (pos 0) z units_pos

-- what a coefficient and an amount sum to
pub times_one_less : (a b : ℤ) → times_one a +ℤ (neg_ℤ (pos units_in_one) *ℤ b +ℤ pos 0) ≡ times_one (a -ℤ b)
unfolding times_one
times_one_less a b =
    ap (λ (y : ℤ). a *ℤ pos units_in_one +ℤ y) (+ℤ_idr (neg_ℤ (pos units_in_one) *ℤ b) ∙ *ℤ_comm (neg_ℤ (pos units_in_one)) b ∙ mul-negℤ b (pos units_in_one)
    ∙ sym (neg-mulℤ b (pos units_in_one))) ∙ sym (add-mulℤ a (neg_ℤ b) (pos units_in_one))

pub less_times_one : (a b : ℤ) → times_one (neg_ℤ a) +ℤ (pos units_in_one *ℤ b +ℤ pos 0) ≡ times_one (b -ℤ a)
unfolding times_one
less_times_one a b =
    ap (λ (y : ℤ). neg_ℤ a *ℤ pos units_in_one +ℤ y) (+ℤ_idr (pos units_in_one *ℤ b) ∙ *ℤ_comm (pos units_in_one) b)
    ∙ +ℤ_comm (neg_ℤ a *ℤ pos units_in_one) (b *ℤ pos units_in_one)
    ∙ sym (add-mulℤ b (neg_ℤ a) (pos units_in_one))

pub on_times_one : (on : Bool) (x : Float) → exact x *ℤ pos (cond on units_in_one 0) ≡ times_one (on_amount on x)
unfolding times_one on_amount
on_times_one true x = refl
on_times_one false x = *ℤ-zero (exact x) ∙ sym (ap pos (zero-mul units_in_one))

pub on_neg : (on : Bool) (x : Float) → on_amount on (neg x) ≡ neg_ℤ (on_amount on x)
unfolding on_amount
on_neg true x = exact_neg x
on_neg false x = refl

-- ---- bounds 0 and the high sentinel

pub zero_up : (w : Sentinel) (v : ℤ) → T (meets w (record { lower = zero64; upper = high w }) v) ↔ T (le_z (pos 0) v)
unfolding meets lower_met upper_met le lt eq low high neg of_bits is_finite zero64 exact signed times_one units_in_one
zero_up Infinity v = (λ h. and_l (le_z (pos 0) v) true h, λ h. and_i (le_z (pos 0) v) true h tt)
zero_up Largest v = (λ h. and_l (le_z (pos 0) v) true h, λ h. and_i (le_z (pos 0) v) true h tt)

-- ---- finite coefficients

million_is : million ≡ fin false 15625 (pos 6)
unfolding million double round
million_is = refl

millionth_is : millionth ≡ fin false 4722366482869645 (negsuc 71)
unfolding millionth round
millionth_is = refl

million_fits : T (fits binary64 (fin false 15625 (pos 6)))
unfolding fits
million_fits = tt

millionth_fits : T (fits binary64 (fin false 4722366482869645 (negsuc 71)))
unfolding fits
millionth_fits = tt

cond_fit : (b : Bool) (x y : Float) → FiniteFit x → FiniteFit y → FiniteFit (cond b x y)
cond_fit true x y p q = p
cond_fit false x y p q = q

lesser_finite : (x m : Float) → IsBound x → T (not (eq x (inf true))) → FiniteFit m → FiniteFit (lesser x m)
unfolding lesser lt eq is_nan
lesser_finite nan m b h f = absurd b.1
lesser_finite (inf true) m b h f = absurd h
lesser_finite (inf false) nan b h f = absurd f.finite
lesser_finite (inf false) (inf t) b h f = absurd f.finite
lesser_finite (inf false) (fin t n d) b h f = f
lesser_finite (fin s k e) m b h f = cond_fit (lt m (fin s k e)) m (fin s k e) f (record { finite = tt; fit = b.0 })

greater_finite : (x m : Float) → IsBound x → T (not (eq x (inf false))) → FiniteFit m → FiniteFit (greater x m)
unfolding greater lt eq is_nan
greater_finite nan m b h f = absurd b.1
greater_finite (inf false) m b h f = absurd h
greater_finite (inf true) nan b h f = absurd f.finite
greater_finite (inf true) (inf t) b h f = absurd f.finite
greater_finite (inf true) (fin t n d) b h f = f
greater_finite (fin s k e) m b h f = cond_fit (lt (fin s k e) m) m (fin s k e) f (record { finite = tt; fit = b.0 })

pub upper_finite : (x : Float) → IsBound x → T (not (eq x (inf true))) → FiniteFit (lesser x million)
upper_finite x b h = lesser_finite x million b h (subst FiniteFit (sym million_is) (record { finite = tt; fit = million_fits }))

pub lower_finite : (x : Float) → IsBound x → T (not (eq x (inf false))) → FiniteFit (neg (greater x millionth))
lower_finite x b h =
    let g = greater_finite x millionth b h (subst FiniteFit (sym millionth_is) (record { finite = tt; fit = millionth_fits })) in
    record { finite = rw (neg_finite (greater x millionth)) g.finite; fit = neg-fits binary64 (greater x millionth) g.fit }

-- ---- doubles of whole numbers

double_bound : (n : ℕ) → IsBound (double n)
unfolding double
double_bound n = round_num binary64 false n 1

double_order : (m n : ℕ) → m ≤ n → T (le (double m) (double n))
unfolding double
double_order m n h = round_mono binary64 m 1 n 1 (le_refl 1) (le_refl 1) (mul-le-mul_right 1 h)

-- the high sentinel is far above every count
high_rank : (w : Sentinel) → rank binary64 (high w) ≡ pos (mag binary64 (high w))
unfolding high of_bits
high_rank Infinity = refl
high_rank Largest = refl

high_far : (w : Sentinel) → 1000 * units_in_one < mag binary64 (high w)
unfolding high of_bits mag units_in_one
high_far Infinity = lit< tt
high_far Largest = lit< tt

module _ (n : ℕ) (h : n ≤ 2 ^ 53) where
  whole : Rounds binary64 false (n * 2 ^ 1074) (double n)
  unfolding double
  whole = of_nat binary64 false n h

  whole_rank : rank binary64 (double n) ≡ pos (n * units_in_one)
  unfolding units_in_one
  whole_rank = ap₂ (λ (s : Bool) (k : ℕ). with-sign s k) whole.sign_is whole.mag_given

  whole_exact : exact (double n) ≡ pos (n * units_in_one)
  whole_exact = exact_rank (double n) whole.fit whole.is_finite ∙ whole_rank

  whole_finite : T (is_finite (double n))
  whole_finite = rw (finite_is (double n)) whole.is_finite

  not_low : (w : Sentinel) → T (le (double n) (low w)) → ⊥
  unfolding low
  not_low w t =
      let b : IsBound (high w) = high_bound w in
      let k : T (le_z (pos (n * units_in_one)) (neg_ℤ (pos (mag binary64 (high w))))) = subst T
      (ap₂ (λ (y z : ℤ). le_z y z) whole_rank (neg_rank binary64 (high w) b.1 ∙ ap neg_ℤ (high_rank w))) (le→Z binary64 (double n) (neg (high w)) (double_bound n) (neg_num binary64 (high w) b) t) in
      let m : ℕ = mag binary64 (high w) in
      omega (ints, high_far w, neg_plus (pos m), neg_less (pos m))

  not_high : (w : Sentinel) → n ≤ 1000 → T (le (high w) (double n)) → ⊥
  not_high w l t =
      let k : T (le_z (pos (mag binary64 (high w))) (pos (n * units_in_one))) = subst T (ap₂ (λ (y z : ℤ). le_z y z) (high_rank w) whole_rank)
      (le→Z binary64 (high w) (double n) (high_bound w) (double_bound n) t) in
      omega (tests, high_far w, mul-le-mul_right units_in_one l)

-- "min_active..max_active": a bound that is the double of a whole number, against a count
module _ (w : Sentinel) (k : ℕ) (small : k ≤ 100) where
  abbrev v : ℤ
  v = times_one (pos (k * units_in_one))

  times_one_le : (a b : ℕ) → T (le_z (times_one (pos (a * units_in_one))) (times_one (pos (b * units_in_one)))) ↔ (a ≤ b)
  unfolding times_one
  times_one_le a b = (
    λ h. le_of_mul-le-mul_right (le_of_mul-le-mul_right (leb→le (a * units_in_one * units_in_one) (b * units_in_one * units_in_one) h) units_pos) units_pos,
    λ h.
        le→leb (a * units_in_one * units_in_one) (b * units_in_one * units_in_one) (mul-le-mul_right units_in_one (mul-le-mul_right units_in_one h)),
  )

  lower_at : (n : ℕ) → n ≤ 101 → T (lower_met w (double n) v) ↔ (n ≤ k)
  unfolding lower_met
  lower_at n h =
      let few : n ≤ 2 ^ 53 = le_trans h (lit≤ tt) in
      let e : exact (double n) ≡ pos (n * units_in_one) = whole_exact n few in
      let free : Bool = le (double n) (low w) in
      let f : Bool = is_finite (double n) in
      let l : Bool = le_z (times_one (exact (double n))) v in (
        λ t. or_elim free (f && l) t (λ u. absurd (not_low n few w u)) (λ u. (times_one_le n k).0 (subst (λ (z : ℤ). T (le_z (times_one z) v)) e (and_r f l u))),
        λ t. or_r free (f && l) (and_i f l (whole_finite n few) (subst (λ (z : ℤ). T (le_z (times_one z) v)) (sym e) ((times_one_le n k).1 t))),
      )

  upper_at : (n : ℕ) → n ≤ 100 → T (upper_met w (double n) v) ↔ (k ≤ n)
  unfolding upper_met
  upper_at n h =
      let few : n ≤ 2 ^ 53 = le_trans h (lit≤ tt) in
      let e : exact (double n) ≡ pos (n * units_in_one) = whole_exact n few in
      let free : Bool = le (high w) (double n) in
      let f : Bool = is_finite (double n) in
      let l : Bool = le_z v (times_one (exact (double n))) in (
        λ t. or_elim free (f && l) t (λ u. absurd (not_high n few w (le_trans h (lit≤ tt)) u)) (λ u. (times_one_le k n).0 (subst (λ (z : ℤ). T (le_z v (times_one z))) e (and_r f l u))),
        λ t. or_r free (f && l) (and_i f l (whole_finite n few) (subst (λ (z : ℤ). T (le_z v (times_one z))) (sym e) ((times_one_le k n).1 t))),
      )

  lower_count : (m : ℕ) → T (lower_met w (double m) v) ↔ T (leb m k)
  lower_count m =
      (λ h. by_cases (leb m k) (λ t. t) (λ t. absurd (over (nleb→lt m k t) h)), λ t. (lower_at m (let l = leb→le m k t in omega arith)).1 (leb→le m k t))
    where
      over : suc k ≤ m → T (lower_met w (double m) v) → ⊥
      over l h =
          let g : suc k ≤ k = (lower_at (suc k) (omega arith)).0 (lower_mono w (double (suc k)) (double m) v (double_bound (suc k)) (double_bound m) (double_order (suc k) m l) h) in
          omega arith

  upper_count : (m : ℕ) → T (upper_met w (double m) v) ↔ T (leb k m)
  upper_count m = (
    λ h. by_cases (leb k m) (λ t. t) (λ t. absurd (under (nleb→lt k m t) h)),
    λ t. upper_mono w (double k) (double m) v (double_bound k) (double_bound m)
        (double_order k m (leb→le k m t)) ((upper_at k small).1 (le_refl k)),
  )
    where
      under : suc m ≤ k → T (upper_met w (double m) v) → ⊥
      under l h = let g : k ≤ m = (upper_at m (omega arith)).0 h in omega arith

pub count_met : (w : Sentinel) (k : ℕ) → k ≤ 100 → (m n : ℕ) → T (meets w (record { lower = double m; upper = double n }) (times_one (pos (k * units_in_one)))) ↔ T (leb m k && leb k n)
unfolding meets
count_met w k small m n =
    let a : Bool = lower_met w (double m) (times_one (pos (k * units_in_one))) in
    let b : Bool = upper_met w (double n) (times_one (pos (k * units_in_one))) in
    let l = lower_count w k small m in
    let u = upper_count w k small n in
    (λ h. and_i (leb m k) (leb k n) (l.0 (and_l a b h)) (u.0 (and_r a b h)), λ h. and_i a b (l.1 (and_l (leb m k) (leb k n) h)) (u.1 (and_r (leb m k) (leb k n) h)))

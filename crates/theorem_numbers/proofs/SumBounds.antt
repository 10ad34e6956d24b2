-- Sums of doubles that are small: where x is at most a times 2 ^ 40 and y at most b times that, their sum is at most a + b times that, whatever is rounded; and a
-- sum is −0.0 only where its first operand is. Assumes nothing.
use mathlib.Core.Path.{◌≡◌, refl, sym, ap, ◌∙◌, subst}
use Prim.Native.Nat.{ℕ, zero, suc, ◌+◌, ◌-◌, ◌*◌, ◌^◌, ◌≤◌, ◌<◌, zero-le}
use native.Mathlib.Nat.{le_trans, le_of_eq, lt_of_le_of_lt, add-le-add, add-mul, mul-le-mul_right}
use native.Mathlib.Omega.{arith}
use mathlib.Core.Bool.{Bool, true, false, not, ◌&&◌, cond}
use lib.Dec.{T, T_not, not_T, ltb, eqb, eqb→eq, lit<, lit≤}
use lib.Pow.{pow_pos}
use lib.Ieee.{Float, binary64, fits, add, div, neg, of_bits, to_bits, low}
use lib.Ieee.Bits.{of_bits-to_bits}
use lib.Ieee.Fits.{add-fits, and_l, and_r, div-fits, neg-fits}
use lib.Ieee.Scale.{finite, overflow}
use Rattle.laws.proofs.Tests.{tests}
use Rattle.doubles.specs.Units.{sign, mag, not_minus_zero}
use Rattle.doubles.specs.Rounding.{snap, Representable, add_sign, add_mag}
use Rattle.doubles.specs.Costs.{two}
use Rattle.doubles.proofs.Units.{neg_mag, neg_finite}
use Rattle.doubles.proofs.Rounding.{round_sign, snap_is, snap_mono, round_held, add_is, add_mag_le}
use Rattle.doubles.proofs.Sums.{zero_mag, zero_grain}
use Rattle.doubles.proofs.Monotone.{add_num}
use Rattle.doubles.proofs.Errors.{under_finite}
use Rattle.doubles.proofs.Halves.{half_near}
use Rattle.pywr.specs.Numbers.{zero64, one64, two64, is_small, of_pattern}
use Rattle.pywr.proofs.NumberLaws.{FiniteFit}
use Rattle.pywr.proofs.CostReadLaws.{UpTo, most, small_cost_lem}
use Rattle.theorem_numbers.specs.ProgrammeNumbers.{minus_zero_bits, is_minus_zero}

-- what each term of a sum keeps under, 2 ^ 40 in units: over 1e12
unfoldable pub largest_term : ℕ
largest_term = 2 ^ 1114

-- a finite double of at most n of these
pub record Within (n : ℕ) (x : Float) : Type 0 where
  pub fit : T (fits binary64 x)
  pub is_finite : T (finite x)
  pub most : mag binary64 x ≤ n * largest_term

pub within_finite : (n : ℕ) (x : Float) → Within n x → FiniteFit x
within_finite n x u = record { finite = u.is_finite; fit = u.fit }

-- how many terms a sum may have
abbrev pub most_terms : ℕ
most_terms = 1000000

terms_under : most_terms * largest_term < overflow binary64
unfolding largest_term
terms_under = lit< tt

terms_held : (n : ℕ) → n ≤ most_terms → Representable binary64 (n * largest_term)
unfolding largest_term
terms_held n h = record {
  q = n;
  j = 1114;
  few = lt_of_le_of_lt h (lit< tt);
  is = refl;
  under = unfold largest_term in lt_of_le_of_lt (mul-le-mul_right (2 ^ 1114) h) terms_under;
}

-- ---- magnitudes

module _ (a b : ℕ) (x y : Float) (room : a + b ≤ most_terms) (u : Within a x) (v : Within b y) where
  exact_most : add_mag (sign x) (mag binary64 x) (sign y) (mag binary64 y) ≤ (a + b) * largest_term
  exact_most = le_trans (add_mag_le (sign x) (mag binary64 x) (sign y) (mag binary64 y)) (le_trans (add-le-add u.most v.most) (le_of_eq (sym (add-mul a b largest_term))))

  sum_most : mag binary64 (add binary64 x y) ≤ (a + b) * largest_term
  sum_most =
      let w : ℕ = add_mag (sign x) (mag binary64 x) (sign y) (mag binary64 y) in
      let s : Bool = add_sign (sign x) (mag binary64 x) (sign y) (mag binary64 y) in
      let L : ℕ = 2 ^ low binary64 in
      let Lp = pow_pos (low binary64) in
      le_trans (le_of_eq (ap (mag binary64) (add_is binary64 x y u.fit v.fit u.is_finite v.is_finite) ∙ snap_is binary64 s w L))
      (le_trans (snap_mono binary64 w L ((a + b) * largest_term) L Lp Lp (mul-le-mul_right L exact_most))
      (le_of_eq (sym (snap_is binary64 false ((a + b) * largest_term) L) ∙ (round_held binary64 false ((a + b) * largest_term) (terms_held (a + b) room)).mag_given)))

  pub add_within : Within (a + b) (add binary64 x y)
  add_within = record {
    fit = add-fits binary64 x y;
    is_finite =
        under_finite binary64 (add binary64 x y) (add_num binary64 x y u.fit v.fit u.is_finite v.is_finite).1
        (lt_of_le_of_lt sum_most (terms_held (a + b) room).under);
    most = sum_most;
  }

pub wider : (a b : ℕ) (x : Float) → a ≤ b → Within a x → Within b x
wider a b x h u = record { fit = u.fit; is_finite = u.is_finite; most = le_trans u.most (mul-le-mul_right largest_term h) }

pub neg_within : (n : ℕ) (x : Float) → Within n x → Within n (neg x)
neg_within n x u = record { fit = neg-fits binary64 x u.fit; is_finite = rw (neg_finite x) u.is_finite; most = le_trans (le_of_eq (neg_mag binary64 x)) u.most }

pub half_within : (n : ℕ) (x : Float) → Within n x → Within n (div binary64 x two64)
unfolding two64
half_within n x u =
    let h = half_near binary64 x u.fit u.is_finite in
    record { fit = div-fits binary64 x two; is_finite = h.is_finite; most = le_trans (at_most (mag binary64 (div binary64 x two)) (mag binary64 x) h.over) u.most }
  where
    at_most : (a b : ℕ) → 2 * a ≤ b + 1 → a ≤ b
    at_most a b h = omega arith

pub zero_within : (n : ℕ) → Within n zero64
unfolding zero64
zero_within n = record { fit = (zero_grain binary64 0).fit; is_finite = tt; most = le_trans (le_of_eq (zero_mag binary64)) zero-le }

pub one_within : Within 1 one64
unfolding one64 fits mag largest_term
one_within = record { fit = tt; is_finite = tt; most = lit≤ tt }

-- what is at most 1e12 in magnitude, and a pattern of such
pub up_to_within : (x : Float) → UpTo most x → Within 1 x
unfolding largest_term
up_to_within x u = record { fit = u.fit; is_finite = u.is_finite; most = le_trans u.most (lit≤ tt) }

pub small_within : (bits : ℕ) → T (is_small bits) → Within 1 (of_pattern bits)
small_within bits t = up_to_within (of_pattern bits) (small_cost_lem bits t)

-- ---- −0.0

-- a sum of ±a and ±b that is 0 is positive unless ±a is −0
zero_sum : (s : Bool) (a : ℕ) (t : Bool) (b : ℕ) → add_mag s a t b ≡ 0 → T (not (s && eqb a 0)) → T (not (add_sign s a t b))
zero_sum false a false b e h = tt
zero_sum true a true b e h = absurd (T_not (eqb a 0) h (let z : a + b ≡ 0 = e in omega tests))
zero_sum false a true b e h = go (ltb a b) (λ t. omega tests) e
  where
    go : (c : Bool) → (T c → a < b) → cond c (b - a) (a - b) ≡ 0 → T (not (cond c true false))
    go true k e = let l = k tt in let z : b - a ≡ 0 = e in absurd (omega arith)
    go false k e = tt
zero_sum true a false b e h = go (ltb a b) (ltb b a) (λ t. omega tests) e
  where
    go : (c d : Bool) → (T d → b < a) → cond c (b - a) (a - b) ≡ 0 → T (not (cond c false d))
    go true d k e = tt
    go false true k e = let l = k tt in let z : a - b ≡ 0 = e in absurd (omega arith)
    go false false k e = tt

-- one unit or more is not rounded to 0
one_held : Representable binary64 1
one_held = record { q = 1; j = 0; few = lit< tt; is = refl; under = lit< tt }

snap_kept : (w : ℕ) → snap binary64 w (2 ^ low binary64) ≡ 0 → w ≡ 0
snap_kept zero e = refl
snap_kept (suc w) e =
    let L : ℕ = 2 ^ low binary64 in
    let Lp = pow_pos (low binary64) in
    let one : snap binary64 1 L ≡ 1 = sym (snap_is binary64 false 1 L) ∙ (round_held binary64 false 1 one_held).mag_given in
    let more = snap_mono binary64 1 L (suc w) L Lp Lp (mul-le-mul_right L (let k : 1 ≤ suc w = omega arith in k)) in
    absurd (omega arith)

pub add_plain : (x y : Float) → T (fits binary64 x) → T (fits binary64 y) → T (finite x) → T (finite y) → T (not_minus_zero binary64 x) → T (not_minus_zero binary64 (add binary64 x y))
add_plain x y p q n k h =
    let w : ℕ = add_mag (sign x) (mag binary64 x) (sign y) (mag binary64 y) in
    let s : Bool = add_sign (sign x) (mag binary64 x) (sign y) (mag binary64 y) in
    let L : ℕ = 2 ^ low binary64 in
    let r : Float = add binary64 x y in
    let is = add_is binary64 x y p q n k in
    let sign-is : sign r ≡ s = ap sign is ∙ round_sign binary64 s w L in
    let mag_is : mag binary64 r ≡ snap binary64 w L = ap (mag binary64) is ∙ snap_is binary64 s w L in
    not_T (sign r && eqb (mag binary64 r) 0)
    (λ t.
    T_not s (zero_sum (sign x) (mag binary64 x) (sign y) (mag binary64 y) (snap_kept w (sym mag_is ∙ eqb→eq (mag binary64 r) 0 (and_r (sign r) (eqb (mag binary64 r) 0) t))) h)
    (subst T sign-is (and_l (sign r) (eqb (mag binary64 r) 0) t)))

minus_zero : not_minus_zero binary64 (of_bits binary64 minus_zero_bits) ≡ false
unfolding of_bits mag
minus_zero = refl

-- by its bits
pub plain_bits : (x : Float) → T (fits binary64 x) → T (not_minus_zero binary64 x) → T (not (is_minus_zero x))
unfolding is_minus_zero
plain_bits x p h =
    not_T (eqb (to_bits binary64 x) minus_zero_bits)
    (λ t. subst T (ap (not_minus_zero binary64) (sym (of_bits-to_bits binary64 x p) ∙ ap (of_bits binary64) (eqb→eq (to_bits binary64 x) minus_zero_bits t)) ∙ minus_zero) h)

-- The order of magnitudes by bit patterns: without their signs the patterns of numbers, infinities among them, compare as the numbers' magnitudes do.
-- Assumes nothing.
use mathlib.Core.Path.{◌≡◌, sym, ap, ◌∙◌, subst}
use mathlib.Core.Logic.{⊎_elim}
use Prim.Native.Nat.{ℕ, zero, suc, ◌+◌, ◌-◌, ◌*◌, ◌/◌, ◌%◌, ◌^◌, ◌≤◌, ◌<◌}
use native.Mathlib.Nat.{eq-or-lt_of_le, le-mul_of_pos_right, mul-add, add-mul, suc-mul, two-pow-succ, mul-le-mul_right, mul-le-mul_left}
use native.Mathlib.Nat.{mul-lt-mul_of_pos_right, mod-lt, mod-mod_of_dvd, dvd-mul_right, div-add-mod'}
use native.Mathlib.Omega.{arith}
use mathlib.Core.Bool.{Bool, true, false, ◌&&◌, and-true}
use lib.IntN.{pos, neg_ℤ}
use lib.Dec.{T, leb, ltb, eqb, eqb→eq}
use lib.Signed.{le_z}
use lib.Pow.{pow-add, pow_pos, pow_mono}
use lib.Ieee.{Float, Format, prec, emax, low, hid, ones, top, odd, of_fields, of_bits, neg, le, fits}
use lib.Ieee.Bits.{of_bits-fits}
use lib.Ieee.Exact.{HasValue, odd_sign}
use lib.Ieee.Fits.{two, eq→eqb}
use lib.Ieee.Scale.{overflow}
use Rattle.laws.proofs.Tests.{tests, same_test, to_true, by_cases, cond_yes, cond_no}
use Rattle.doubles.specs.Units.{sign, mag, signed, rank, Num}
use Rattle.doubles.proofs.Integers.{ints, neg_plus, neg_less, le_z_neg}
use Rattle.doubles.proofs.Units.{neg_rank, inf_mag}
use Rattle.doubles.proofs.Order.{le_rank, neg_num}
use Rattle.doubles.proofs.Rounding.{value_mag}

-- ---- an exponent's field x and the digits t, in units; h is the weight of the leading digit

unfoldable fields_mag : ℕ → ℕ → ℕ → ℕ
fields_mag h zero t = t * 2 ^ 0
fields_mag h (suc x) t = (h + t) * 2 ^ x

doubled : (h t p q : ℕ) → t < h → 0 < p → p + p ≤ q → (h + t) * p < h * q
doubled h t p q l o k =
    let a : (h + t) * p < (h + h) * p = mul-lt-mul_of_pos_right (omega arith) o in
    let b : h * (p + p) ≤ h * q = mul-le-mul_left h k in
    omega (arith, add-mul h h p, mul-add h p p)

field_over : (h x t y u : ℕ) → t < h → x < y → fields_mag h x t < fields_mag h y u
unfolding fields_mag
field_over h x t zero u l k = absurd (omega arith)
field_over h zero t (suc y) u l k = let a = le-mul_of_pos_right (h + u) (pow_pos y) in omega arith
field_over h (suc x) t (suc y) u l k =
    let p : 2 ^ suc x ≤ 2 ^ y = pow_mono (omega arith) in
    let a = doubled h t (2 ^ x) (2 ^ y) l (pow_pos x) (omega (arith, two-pow-succ x)) in
    let b : h * 2 ^ y ≤ (h + u) * 2 ^ y = mul-le-mul_right (2 ^ y) (omega arith) in
    omega arith

digits_over : (h x t u : ℕ) → t < u → fields_mag h x t < fields_mag h x u
unfolding fields_mag
digits_over h zero t u l = omega arith
digits_over h (suc x) t u l = mul-lt-mul_of_pos_right (omega arith) (pow_pos x)

module _ (h x t y u : ℕ) (t-in : t < h) (u-in : u < h) where
  field_le : x * h + t ≤ y * h + u → x ≤ y
  field_le l =
      by_cases (ltb y x)
      (λ k. let a : suc y * h ≤ x * h = mul-le-mul_right h (omega tests) in absurd (omega (arith, suc-mul y h)))
      (λ k. omega tests)

  fields_lt : x * h + t < y * h + u → fields_mag h x t < fields_mag h y u
  fields_lt l =
      ⊎_elim
      (λ (e : x ≡ y). let m : x * h ≡ y * h = ap (λ (z : ℕ). z * h) e in
      subst (λ (z : ℕ). fields_mag h x t < fields_mag h z u) e (digits_over h x t u (omega arith)))
      (λ (k : x < y). field_over h x t y u t-in k)
      (eq-or-lt_of_le (field_le (omega arith)))

-- ---- the magnitude that a pattern stands for

infinity_mag : (f : Format) (x t : ℕ) → suc x ≡ ones f → t ≡ 0 → overflow f ≡ (hid f + t) * 2 ^ x
infinity_mag f x t e z =
    let k : low f + suc (emax f) ≡ prec f - 1 + x = omega (arith, two f) in
    let d : hid f ≡ hid f + t = omega arith in
    ap (λ (i : ℕ). 2 ^ i) k ∙ pow-add 2 (prec f - 1) x ∙ ap (λ (i : ℕ). i * 2 ^ x) d

module _ (f : Format) (s : Bool) (v : Float) (fit : T (fits f v)) where
  finite_mag : (q k : ℕ) → v ≡ odd (prec f) s q k (low f) → mag f v ≡ q * 2 ^ k
  finite_mag q k e = (value_mag f v s (q * 2 ^ k) fit (subst (λ (w : Float). HasValue w s (q * 2 ^ k) (2 ^ low f)) (sym e) (odd_sign (prec f) s q k (low f)))).1

  fields_mag_lem : (x t : ℕ) → x * hid f + t ≤ ones f * hid f → t < hid f → v ≡ of_fields f s x t → mag f v ≡ fields_mag (hid f) x t
  unfolding of_fields fields_mag
  fields_mag_lem zero t l t-in e = finite_mag t 0 e
  fields_mag_lem (suc x) t l t-in e =
      by_cases (eqb (suc x) (ones f))
      (λ k.
      let o : suc x ≡ ones f = eqb→eq (suc x) (ones f) k in
      let m : suc x * hid f ≡ ones f * hid f = ap (λ (z : ℕ). z * hid f) o in
      let z : t ≡ 0 = omega arith in
      ap (mag f) (e ∙ cond_yes (eqb (suc x) (ones f)) _ _ k ∙ cond_yes (eqb t 0) _ _ (eq→eqb z)) ∙ inf_mag f s ∙ infinity_mag f x t o z)
      (λ k. finite_mag (hid f + t) x (e ∙ cond_no (eqb (suc x) (ones f)) _ _ k))

-- r is a pattern without its sign
pattern_mag : Format → ℕ → ℕ
pattern_mag f r = fields_mag (hid f) (r / hid f) (r % hid f)

module _ (f : Format) where
  digits_in : (r : ℕ) → r % hid f < hid f
  digits_in r = mod-lt r (pow_pos (prec f - 1))

  pattern_lt : (r q : ℕ) → r < q → pattern_mag f r < pattern_mag f q
  unfolding pattern_mag
  pattern_lt r q l =
      fields_lt (hid f) (r / hid f) (r % hid f) (q / hid f) (q % hid f) (digits_in r) (digits_in q)
      (omega (arith, div-add-mod' r (hid f), div-add-mod' q (hid f)))

  pattern_mag_lem : (b : ℕ) → b % top f ≤ ones f * hid f → mag f (of_bits f b) ≡ pattern_mag f (b % top f)
  unfolding of_bits pattern_mag
  pattern_mag_lem b l =
      fields_mag_lem f (leb (top f) b) (of_bits f b) (of_bits-fits f b) (b % top f / hid f) (b % top f % hid f)
      (omega (arith, div-add-mod' (b % top f) (hid f))) (digits_in (b % top f))
      (ap (of_fields f (leb (top f) b) (b % top f / hid f)) (sym (mod-mod_of_dvd (hid f) b (dvd-mul_right (hid f) (suc (ones f))))))

  -- `ones f * hid f` is an infinity's pattern
  pub pattern_order : (b c : ℕ) → b % top f ≤ ones f * hid f → c % top f ≤ ones f * hid f → leb (mag f (of_bits f b)) (mag f (of_bits f c)) ≡ leb (b % top f) (c % top f)
  pattern_order b c l k =
      rw (pattern_mag_lem b l, pattern_mag_lem c k)
      (same_test _ _ (
        (λ t. by_cases (ltb (c % top f) (b % top f)) (λ n. let o = pattern_lt (c % top f) (b % top f) (omega tests) in absurd (omega tests)) (λ n. omega tests)),
        (λ t. ⊎_elim (λ (e : b % top f ≡ c % top f). let o = ap (pattern_mag f) e in omega tests) (λ (n : b % top f < c % top f). let o = pattern_lt (b % top f) (c % top f) n in omega tests) (eq-or-lt_of_le (omega tests))),
      ))

-- ---- a number within a bound and its negation

below_zero : (a b : ℕ) → le_z (neg_ℤ (pos a)) (pos b) ≡ true
below_zero a b = to_true _ (omega (ints, neg_plus (pos a), neg_less (pos a)))

signed_within : (s : Bool) (a b : ℕ) → (le_z (neg_ℤ (pos b)) (signed s a) && le_z (signed s a) (pos b)) ≡ leb a b
signed_within false a b = rw (below_zero b a)
signed_within true a b = rw (le_z_neg (pos a) (pos b), below_zero a b) (and-true (leb a b))

pub within_mag : (f : Format) (x b : Float) → Num f x → Num f b → sign b ≡ false → (le (neg b) x && le x b) ≡ leb (mag f x) (mag f b)
within_mag f x b p q e =
    let r : rank f b ≡ pos (mag f b) = ap (λ (s : Bool). signed s (mag f b)) e in
    rw (le_rank f (neg b) x (neg_num f b q) p, le_rank f x b p q, neg_rank f b q.1, r) (signed_within (sign x) (mag f x) (mag f b))

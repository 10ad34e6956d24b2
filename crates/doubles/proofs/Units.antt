-- Magnitudes and ranks: what `fits` says of them, the order and equality of doubles by their ranks, negation, and that a value is its sign and magnitude.
-- Assumes nothing.
use mathlib.Core.Path.{◌≡◌, refl, sym, ap, ap₂, ◌∙◌, subst}
use mathlib.Core.Logic.{◌⊎◌, inl, inr}
use Prim.Native.Nat.{ℕ, zero, suc, ◌+◌, ◌-◌, ◌*◌, ◌/◌, ◌^◌, ◌≤◌, ◌<◌}
use native.Mathlib.Nat.{le_of_suc-le-suc, lt_of_not-le, not-le_of_lt, zero-mul, mul-one, mul_assoc, mul_comm}
use native.Mathlib.Nat.{mul_right_comm, add-mul, mul-pos, mul-div_cancel, mul-lt-mul_of_pos_right, lt_of_mul-lt-mul_right, sub-add_cancel}
use native.Mathlib.Omega.{arith}
use mathlib.Core.Bool.{Bool, true, false, not, ◌&&◌, ◌||◌, beq, cond, and-true}
use lib.IntN.{ℤ, pos, negsuc, neg_ℤ, neg_ℤ-neg_ℤ, ◌*ℤ◌, *ℤ_comm, nat_abs, pos-ne-negsuc}
use lib.Dec.{T, not_T, ltb, eqb, leb→le, ltb→lt, eqb→eq}
use lib.Signed.{le_z, lt_z}
use lib.Pow.{pow-add, pow_pos, pow-lt}
use lib.Ieee.{Float, nan, inf, fin, Format, prec, emax, low, up, down, size, neg, lt, le, eq, below, level, fits, to_bits, of_bits, top, hid}
use lib.Ieee.Fits.{and_i, and_l, and_r, down_pos, eq→eqb}
use lib.Ieee.Scale.{finite, overflow}
use lib.Ieee.Bits.{of_bits-to_bits}
use Rattle.laws.proofs.Tests.{tests, same_test, to_true, to_false}
use Rattle.doubles.specs.Integers.{plus, less, eq_z}
use Rattle.doubles.specs.Units.{sign, shift, mag, signed, rank, number, not_minus_zero}
use Rattle.doubles.proofs.Integers.{ints, neg_plus, neg_less, scale_lt, scale_eq, eqZ→eq, eq→eqZ, le_z_split}

-- ---- a number with its sign

pub signed_not : (s : Bool) (n : ℕ) → signed (not s) n ≡ neg_ℤ (signed s n)
signed_not false n = refl
signed_not true n = sym (neg_ℤ-neg_ℤ (pos n))

pub signed_times : (s : Bool) (n p : ℕ) → signed s (n * p) ≡ signed s n *ℤ pos p
signed_times false n p = refl
signed_times true zero p = ap (λ (z : ℕ). neg_ℤ (pos z)) (zero-mul p) ∙ sym (ap pos (zero-mul p))
signed_times true (suc n) p = refl

pub abs_signed : (s : Bool) (n : ℕ) → nat_abs (signed s n) ≡ n
abs_signed false n = refl
abs_signed true zero = refl
abs_signed true (suc n) = refl

signed_within : (s : Bool) (n : ℕ) → (plus (signed s n) ≤ n) × (less (signed s n) ≤ n)
signed_within false n = omega arith
signed_within true n = omega (arith, neg_plus (pos n), neg_less (pos n))

signed_eq : (s t : Bool) (a b : ℕ) → signed s a ≡ signed t b → ((s ≡ t) × (a ≡ b)) ⊎ ((a ≡ 0) × (b ≡ 0))
signed_eq false false a b h = inl (refl, ap nat_abs h)
signed_eq false true a zero h = inr (ap nat_abs h, refl)
signed_eq false true a (suc b) h = absurd (pos-ne-negsuc a b h)
signed_eq true false zero b h = inr (refl, sym (ap nat_abs h))
signed_eq true false (suc a) b h = absurd (pos-ne-negsuc b a (sym h))
signed_eq true true zero zero h = inl (refl, refl)
signed_eq true true zero (suc b) h = absurd (pos-ne-negsuc 0 b h)
signed_eq true true (suc a) zero h = absurd (pos-ne-negsuc 0 a (sym h))
signed_eq true true (suc a) (suc b) h = inl (refl, ap nat_abs h)

-- ---- what `fits` says

down_fits : (f : Format) (s : Bool) (m : ℕ) (e : ℤ) → T (fits f (fin s (suc m) e)) → down e ≤ 2 ^ low f
unfolding fits
down_fits f s m e t = leb→le (down e) (2 ^ low f) (search (and_l, and_r))

pub digits_fit : (f : Format) (s : Bool) (m : ℕ) (e : ℤ) → T (fits f (fin s m e)) → m < 2 ^ prec f
unfolding fits
digits_fit f s zero e t = pow_pos (prec f)
digits_fit f s (suc m) e t = ltb→lt (suc m) (2 ^ prec f) (search (and_l, and_r))

top_fits : (f : Format) (s : Bool) (m : ℕ) (e : ℤ) → T (fits f (fin s m e)) → m * up e < 2 ^ suc (emax f) * down e
unfolding fits
top_fits f s zero e t = rw zero-mul (mul-pos (pow_pos (suc (emax f))) (down_pos e))
top_fits f s (suc m) e t = ltb→lt (suc m * up e) (2 ^ suc (emax f) * down e) (search (and_l, and_r))

-- the magnitude is the value: m * up e / down e is mag / 2 ^ low
shift_is : (f : Format) (m : ℕ) (e : ℤ) → down e ≤ 2 ^ low f → m * up e * 2 ^ low f ≡ m * 2 ^ shift f e * down e
shift_is f m (pos k) h = mul_assoc m (2 ^ k) (2 ^ low f) ∙ ap (λ (z : ℕ). m * z) (sym (pow-add 2 k (low f))) ∙ sym (mul-one (m * 2 ^ (k + low f)))
shift_is f m (negsuc k) h =
    let j : suc k ≤ low f = le_of_suc-le-suc (lt_of_not-le (λ (g : suc (low f) ≤ suc k). not-le_of_lt (pow-lt g) h)) in
    ap (λ (z : ℕ). z * 2 ^ low f) (mul-one m)
    ∙ ap (λ (z : ℕ). m * z) (ap (λ (z : ℕ). 2 ^ z) (sym (sub-add_cancel j)) ∙ pow-add 2 (low f - suc k) (suc k))
    ∙ sym (mul_assoc m (2 ^ (low f - suc k)) (2 ^ suc k))

pub mag_is : (f : Format) (s : Bool) (m : ℕ) (e : ℤ) → T (fits f (fin s m e)) → m * up e * 2 ^ low f ≡ mag f (fin s m e) * down e
unfolding mag
mag_is f s zero e t = simp zero-mul
mag_is f s (suc m) e t = shift_is f (suc m) e (down_fits f s m e t)

pub quotient_is_mag : (f : Format) (s : Bool) (m : ℕ) (e : ℤ) → T (fits f (fin s m e)) → m * up e * 2 ^ low f / down e ≡ mag f (fin s m e)
quotient_is_mag f s m e t = ap (λ (z : ℕ). z / down e) (mag_is f s m e t) ∙ mul-div_cancel (mag f (fin s m e)) (down_pos e)

-- a finite value that fits is below the infinities
pub mag_under : (f : Format) (x : Float) → T (fits f x) → T (finite x) → mag f x < overflow f
mag_under f nan t u = absurd u
mag_under f (inf s) t u = absurd u
mag_under f (fin s m e) t u =
    lt_of_mul-lt-mul_right (down e)
    (subst (λ (z : ℕ). z < overflow f * down e) (mag_is f s m e t)
    (subst (λ (z : ℕ). m * up e * 2 ^ low f < z)
    (mul_right_comm (2 ^ suc (emax f)) (down e) (2 ^ low f) ∙ ap (λ (z : ℕ). z * down e) (mul_comm (2 ^ suc (emax f)) (2 ^ low f) ∙ sym (pow-add 2 (low f) (suc (emax f)))))
    (mul-lt-mul_of_pos_right (top_fits f s m e t) (pow_pos (low f)))))

pub inf_mag : (f : Format) (s : Bool) → mag f (inf s) ≡ overflow f
unfolding mag
inf_mag f s = refl

-- the two sides of a comparison of finite values, and of their sum, in units
pub side : (f : Format) (s : Bool) (m : ℕ) (e d : ℤ) → T (fits f (fin s m e)) → m * up e * down d * 2 ^ low f ≡ mag f (fin s m e) * (down e * down d)
side f s m e d t = mul_right_comm (m * up e) (down d) (2 ^ low f) ∙ ap (λ (z : ℕ). z * down d) (mag_is f s m e t) ∙ mul_assoc (mag f (fin s m e)) (down e) (down d)

pub other_side : (f : Format) (s : Bool) (m : ℕ) (e d : ℤ) → T (fits f (fin s m e)) → m * up e * down d * 2 ^ low f ≡ mag f (fin s m e) * (down d * down e)
other_side f s m e d t = side f s m e d t ∙ ap (λ (z : ℕ). mag f (fin s m e) * z) (mul_comm (down e) (down d))

-- ---- the tests on signs and magnitudes are those on integers

below_is : (s t : Bool) (a b : ℕ) → below s a t b ≡ lt_z (signed s a) (signed t b)
below_is false false a b = refl
below_is false true a b = sym (to_false (lt_z (pos a) (neg_ℤ (pos b))) (omega (ints, neg_plus (pos b), neg_less (pos b))))
below_is true false a b =
    same_test (ltb 0 (a + b)) (lt_z (neg_ℤ (pos a)) (pos b)) (λ h. omega (tests, ints, neg_plus (pos a), neg_less (pos a)), λ h. omega (tests, ints, neg_plus (pos a), neg_less (pos a)))
below_is true true a b =
    same_test (ltb b a) (lt_z (neg_ℤ (pos a)) (neg_ℤ (pos b)))
    (λ h. omega (tests, ints, neg_plus (pos a), neg_less (pos a), neg_plus (pos b), neg_less (pos b)), λ h. omega (tests, ints, neg_plus (pos a), neg_less (pos a), neg_plus (pos b), neg_less (pos b)))

-- of opposite signs
zeros : (a b : ℕ) (x y : ℤ) → (a ≡ b → a ≡ 0 → x ≡ y) → (x ≡ y → (a ≡ b) × (a ≡ 0)) → eqb a b && eqb a 0 ≡ eq_z x y
zeros a b x y there back =
    same_test (eqb a b && eqb a 0) (eq_z x y) (
      λ h. eq→eqZ x y (there (eqb→eq a b (and_l (eqb a b) (eqb a 0) h)) (eqb→eq a 0 (and_r (eqb a b) (eqb a 0) h))),
      λ h. let e = back (eqZ→eq x y h) in and_i (eqb a b) (eqb a 0) (eq→eqb e.0) (eq→eqb e.1),
    )

level_is : (s t : Bool) (a b : ℕ) → level s a t b ≡ eq_z (signed s a) (signed t b)
level_is false false a b = and-true (eqb a b)
level_is true true a b =
    and-true (eqb a b)
    ∙ same_test (eqb a b) (eq_z (neg_ℤ (pos a)) (neg_ℤ (pos b))) (
      λ h. eq→eqZ (neg_ℤ (pos a)) (neg_ℤ (pos b)) (ap (λ (n : ℕ). neg_ℤ (pos n)) (eqb→eq a b h)),
      λ h. let e = eqZ→eq (neg_ℤ (pos a)) (neg_ℤ (pos b)) h in omega
          (tests, ints, neg_plus (pos a), neg_less (pos a), neg_plus (pos b), neg_less (pos b)),
    )
level_is false true a b = zeros a b (pos a) (neg_ℤ (pos b)) (λ p q. omega (ints, neg_plus (pos b), neg_less (pos b))) (λ e. omega (ints, neg_plus (pos b), neg_less (pos b)))
level_is true false a b = zeros a b (neg_ℤ (pos a)) (pos b) (λ p q. omega (ints, neg_plus (pos a), neg_less (pos a))) (λ e. omega (ints, neg_plus (pos a), neg_less (pos a)))

-- ---- the same numbers in another unit: A / K is a / L
module _ (A B a b L K : ℕ) (Lp : 0 < L) (Kp : 0 < K) (p : A * L ≡ a * K) (q : B * L ≡ b * K) where
  in_units : (s : Bool) (C c : ℕ) → C * L ≡ c * K → pos L *ℤ signed s C ≡ pos K *ℤ signed s c
  in_units s C c r = *ℤ_comm (pos L) (signed s C) ∙ sym (signed_times s C L) ∙ ap (signed s) r ∙ signed_times s c K ∙ *ℤ_comm (signed s c) (pos K)

  unit_below : (s t : Bool) → below s A t B ≡ below s a t b
  unit_below s t =
      below_is s t A B
      ∙ sym (scale_lt L (signed s A) (signed t B) Lp)
      ∙ ap₂ (λ (x y : ℤ). lt_z x y) (in_units s A a p) (in_units t B b q)
      ∙ scale_lt K (signed s a) (signed t b) Kp
      ∙ sym (below_is s t a b)

  unit_level : (s t : Bool) → level s A t B ≡ level s a t b
  unit_level s t =
      level_is s t A B
      ∙ same_test (eq_z (signed s A) (signed t B)) (eq_z (signed s a) (signed t b)) (
        λ h. eq→eqZ (signed s a) (signed t b) (scale_eq K (signed s a) (signed t b) Kp (sym (in_units s A a p) ∙ ap (λ (z : ℤ). pos L *ℤ z) (eqZ→eq (signed s A) (signed t B) h) ∙ in_units t B b q)),
        λ h. eq→eqZ (signed s A) (signed t B) (scale_eq L (signed s A) (signed t B) Lp (in_units s A a p ∙ ap (λ (z : ℤ). pos K *ℤ z) (eqZ→eq (signed s a) (signed t b) h) ∙ sym (in_units t B b q))),
      )
      ∙ sym (level_is s t a b)

  pub unit_lt : ltb A B ≡ ltb a b
  unit_lt = unit_below false false

  pub unit_sum : (A + B) * L ≡ (a + b) * K
  unit_sum = add-mul A B L ∙ ap₂ (λ (u v : ℕ). u + v) p q ∙ sym (add-mul a b K)

-- ---- beside an infinity, of magnitude o

over : (s t : Bool) (a o : ℕ) → a < o → lt_z (signed t a) (signed s o) ≡ not s
over false t a o h = to_true (lt_z (signed t a) (pos o)) (omega (ints, signed_within t a))
over true t a o h = to_false (lt_z (signed t a) (neg_ℤ (pos o))) (omega (ints, signed_within t a, neg_plus (pos o), neg_less (pos o)))

under : (s t : Bool) (a o : ℕ) → a < o → lt_z (signed s o) (signed t a) ≡ s
under false t a o h = to_false (lt_z (pos o) (signed t a)) (omega (ints, signed_within t a))
under true t a o h = to_true (lt_z (neg_ℤ (pos o)) (signed t a)) (omega (ints, signed_within t a, neg_plus (pos o), neg_less (pos o)))

apart : (x y : ℤ) → (x ≡ y → ⊥) → eq_z x y ≡ false
apart x y h = to_false (eq_z x y) (not_T (eq_z x y) (λ t. h (eqZ→eq x y t)))

far : (s t : Bool) (a o : ℕ) → a < o → signed t a ≡ signed s o → ⊥
far s t a o h e = let k : nat_abs (signed t a) ≡ nat_abs (signed s o) = ap nat_abs e in omega (arith, abs_signed t a, abs_signed s o)

between : (s t : Bool) (o : ℕ) → 0 < o → (lt_z (signed s o) (signed t o) ≡ s && not t) × (eq_z (signed s o) (signed t o) ≡ beq s t)
between false false o h = (to_false (lt_z (pos o) (pos o)) (omega ints), to_true (eq_z (pos o) (pos o)) (eq→eqZ (pos o) (pos o) refl))
between false true o h =
    (to_false (lt_z (pos o) (neg_ℤ (pos o))) (omega (ints, neg_plus (pos o), neg_less (pos o))), apart (pos o) (neg_ℤ (pos o)) (λ e. omega (ints, neg_plus (pos o), neg_less (pos o))))
between true false o h =
    (to_true (lt_z (neg_ℤ (pos o)) (pos o)) (omega (ints, neg_plus (pos o), neg_less (pos o))), apart (neg_ℤ (pos o)) (pos o) (λ e. omega (ints, neg_plus (pos o), neg_less (pos o))))
between true true o h = (to_false (lt_z (neg_ℤ (pos o)) (neg_ℤ (pos o))) (omega ints), to_true (eq_z (neg_ℤ (pos o)) (neg_ℤ (pos o))) (eq→eqZ (neg_ℤ (pos o)) (neg_ℤ (pos o)) refl))

-- ---- Rust's comparisons are those of the ranks, for a format's values that are no NaN

module _ (f : Format) where
  pub lt_is : (x y : Float) → T (fits f x) → T (fits f y) → T (number x) → T (number y) → lt x y ≡ lt_z (rank f x) (rank f y)
  unfolding lt mag
  lt_is nan y p q n k = absurd n
  lt_is (inf s) nan p q n k = absurd k
  lt_is (inf s) (inf t) p q n k = sym (between s t (overflow f) (pow_pos (low f + suc (emax f)))).0
  lt_is (inf s) (fin t m e) p q n k = sym (under s t (mag f (fin t m e)) (overflow f) (mag_under f (fin t m e) q tt))
  lt_is (fin s m e) nan p q n k = absurd k
  lt_is (fin s m e) (inf t) p q n k = sym (over t s (mag f (fin s m e)) (overflow f) (mag_under f (fin s m e) p tt))
  lt_is (fin s m e) (fin t n d) p q _ _ =
      unit_below (m * up e * down d) (n * up d * down e) (mag f (fin s m e)) (mag f (fin t n d)) (2 ^ low f) (down e * down d) (pow_pos (low f))
      (mul-pos (down_pos e) (down_pos d)) (side f s m e d p) (other_side f t n d e q) s t
      ∙ below_is s t (mag f (fin s m e)) (mag f (fin t n d))

  pub eq_is : (x y : Float) → T (fits f x) → T (fits f y) → T (number x) → T (number y) → eq x y ≡ eq_z (rank f x) (rank f y)
  unfolding eq mag
  eq_is nan y p q n k = absurd n
  eq_is (inf s) nan p q n k = absurd k
  eq_is (inf s) (inf t) p q n k = sym (between s t (overflow f) (pow_pos (low f + suc (emax f)))).1
  eq_is (inf s) (fin t m e) p q n k = sym (apart (signed s (overflow f)) (rank f (fin t m e)) (λ h. far s t (mag f (fin t m e)) (overflow f) (mag_under f (fin t m e) q tt) (sym h)))
  eq_is (fin s m e) nan p q n k = absurd k
  eq_is (fin s m e) (inf t) p q n k = sym (apart (rank f (fin s m e)) (signed t (overflow f)) (far t s (mag f (fin s m e)) (overflow f) (mag_under f (fin s m e) p tt)))
  eq_is (fin s m e) (fin t n d) p q _ _ =
      unit_level (m * up e * down d) (n * up d * down e) (mag f (fin s m e)) (mag f (fin t n d)) (2 ^ low f) (down e * down d) (pow_pos (low f))
      (mul-pos (down_pos e) (down_pos d)) (side f s m e d p) (other_side f t n d e q) s t
      ∙ level_is s t (mag f (fin s m e)) (mag f (fin t n d))

  pub le_is : (x y : Float) → T (fits f x) → T (fits f y) → T (number x) → T (number y) → le x y ≡ le_z (rank f x) (rank f y)
  unfolding le
  le_is x y p q n k = ap₂ (λ (u v : Bool). u || v) (lt_is x y p q n k) (eq_is x y p q n k) ∙ sym (le_z_split (rank f x) (rank f y))

-- ---- negation

pub neg_sign : (x : Float) → T (number x) → sign (neg x) ≡ not (sign x)
unfolding neg
neg_sign nan n = absurd n
neg_sign (inf s) n = refl
neg_sign (fin s m e) n = refl

pub neg_mag : (f : Format) (x : Float) → mag f (neg x) ≡ mag f x
unfolding neg mag
neg_mag f nan = refl
neg_mag f (inf s) = refl
neg_mag f (fin s m e) = refl

pub neg_rank : (f : Format) (x : Float) → T (number x) → rank f (neg x) ≡ neg_ℤ (rank f x)
neg_rank f x n = ap₂ (λ (s : Bool) (a : ℕ). signed s a) (neg_sign x n) (neg_mag f x) ∙ signed_not (sign x) (mag f x)

pub neg_neg : (x : Float) → neg (neg x) ≡ x
unfolding neg
neg_neg nan = refl
neg_neg (inf true) = refl
neg_neg (inf false) = refl
neg_neg (fin true m e) = refl
neg_neg (fin false m e) = refl

pub neg_finite : (x : Float) → finite (neg x) ≡ finite x
unfolding neg
neg_finite nan = refl
neg_finite (inf s) = refl
neg_finite (fin s m e) = refl

pub finite_number : (x : Float) → T (finite x) → T (number x)
finite_number nan n = n
finite_number (inf s) n = tt
finite_number (fin s m e) n = tt

-- ---- a finite value is its sign and its magnitude, and but for the sign of a zero its rank

-- the bit pattern of a finite value
pattern : Format → Bool → ℕ → ℕ
pattern f s n = cond s (top f) 0 + (size n - prec f) * hid f + n / 2 ^ (size n - prec f)

to_bits_at : (f : Format) (x : Float) → T (fits f x) → T (finite x) → to_bits f x ≡ pattern f (sign x) (mag f x)
unfolding to_bits pattern
to_bits_at f nan t u = absurd u
to_bits_at f (inf s) t u = absurd u
to_bits_at f (fin s m e) t u = ap (λ (n : ℕ). cond s (top f) 0 + (size n - prec f) * hid f + n / 2 ^ (size n - prec f)) (quotient_is_mag f s m e t)

module _ (f : Format) (x y : Float) (p : T (fits f x)) (q : T (fits f y)) (n : T (finite x)) (k : T (finite y)) where
  pub same_value : sign x ≡ sign y → mag f x ≡ mag f y → x ≡ y
  same_value s m =
      sym (of_bits-to_bits f x p) ∙ ap (λ (b : ℕ). of_bits f b) (to_bits_at f x p n ∙ ap₂ (λ (t : Bool) (a : ℕ). pattern f t a) s m ∙ sym (to_bits_at f y q k)) ∙ of_bits-to_bits f y q

  pub same_rank : rank f x ≡ rank f y → (x ≡ y) ⊎ ((mag f x ≡ 0) × (mag f y ≡ 0))
  same_rank h = go (signed_eq (sign x) (sign y) (mag f x) (mag f y) h)
    where
      go : ((sign x ≡ sign y) × (mag f x ≡ mag f y)) ⊎ ((mag f x ≡ 0) × (mag f y ≡ 0)) → (x ≡ y) ⊎ ((mag f x ≡ 0) × (mag f y ≡ 0))
      go (inl e) = inl (same_value e.0 e.1)
      go (inr z) = inr z

  -- where neither is -0.0, equal ranks are equal values, bit for bit
  pub same_bits : T (not_minus_zero f x) → T (not_minus_zero f y) → rank f x ≡ rank f y → x ≡ y
  same_bits u v h = go (same_rank h)
    where
      plain : (s : Bool) (a : ℕ) → a ≡ 0 → T (not (s && eqb a 0)) → s ≡ false
      plain false a e t = refl
      plain true a e t = absurd (subst (λ (z : ℕ). T (not (eqb z 0))) e t)

      go : (x ≡ y) ⊎ ((mag f x ≡ 0) × (mag f y ≡ 0)) → x ≡ y
      go (inl e) = e
      go (inr z) = same_value (plain (sign x) (mag f x) z.0 u ∙ sym (plain (sign y) (mag f y) z.1 v)) (z.0 ∙ sym z.1)

  -- so there `==` is equality of the bits
  pub eq_same : T (not_minus_zero f x) → T (not_minus_zero f y) → T (eq x y) → x ≡ y
  eq_same u v t = same_bits u v (eqZ→eq (rank f x) (rank f y) (subst T (eq_is f x y p q (finite_number x n) (finite_number y k)) t))

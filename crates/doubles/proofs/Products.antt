-- Products and quotients in units, and 1.0 and -1.0 as factors. Assumes nothing.
use mathlib.Core.Path.{◌≡◌, refl, sym, ap, ap₂, ◌∙◌, subst}
use Prim.Native.Nat.{ℕ, zero, suc, ◌+◌, ◌*◌, ◌^◌, ◌<◌}
use native.Mathlib.Nat.{lt_irrefl, mul_comm, mul_assoc, mul_right_comm, mul-pos, one-mul, zero-mul, zero-add, eq_of_mul-eq-mul_right, mul-mul-mul_comm, zero-lt-suc}
use mathlib.Core.Bool.{Bool, true, false, not, cond}
use lib.IntN.{ℤ}
use lib.Dec.{T, eqb, ltb→lt, eqb-suc-zero}
use lib.Pow.{pow_pos}
use lib.Ieee.{Float, nan, inf, fin, Format, binary32, binary64, low, up, down, unlike, round, mul, div, neg, fits}
use lib.Ieee.Fits.{neg-fits, down_pos, up_pos}
use lib.Ieee.Scale.{round_same, finite}
use lib.Ieee.Positive.{positive, positive-finite}
use Rattle.doubles.specs.Units.{shift, sign, mag, one_of}
use Rattle.doubles.specs.Rounding.{Rounds}
use Rattle.doubles.proofs.Units.{mag_is, side, other_side, same_value, neg_sign, neg_mag, neg_finite, finite_number}
use Rattle.doubles.proofs.Rounding.{round_held, mag_held}

-- ---- a product and a quotient, by magnitudes

-- A / C * (B / D), and A / C over B / C, where A / C is a / L
product_units : (A B a b L C D : ℕ) → A * L ≡ a * C → B * L ≡ b * D → A * B * (L * L) ≡ a * b * (C * D)
product_units A B a b L C D p q = mul-mul-mul_comm A B L L ∙ ap₂ (λ (u v : ℕ). u * v) p q ∙ mul-mul-mul_comm a C b D

quotient_units : (A B a b L C : ℕ) → 0 < L → A * L ≡ a * C → B * L ≡ b * C → A * b ≡ a * B
quotient_units A B a b L C Lp p q =
    eq_of_mul-eq-mul_right L Lp (A * b) (a * B)
    (mul_right_comm A b L ∙ ap (λ (z : ℕ). z * b) p ∙ mul_assoc a C b ∙ ap (λ (z : ℕ). a * z) (mul_comm C b ∙ sym q) ∙ sym (mul_assoc a B L))

pub mul_is : (f : Format) (x y : Float) → T (fits f x) → T (fits f y) → T (finite x) → T (finite y)
    → mul f x y ≡ round f (unlike (sign x) (sign y)) (mag f x * mag f y) (2 ^ low f * 2 ^ low f)
unfolding mul
mul_is f nan y p q n k = absurd n
mul_is f (inf s) y p q n k = absurd n
mul_is f (fin s m e) nan p q n k = absurd k
mul_is f (fin s m e) (inf t) p q n k = absurd k
mul_is f (fin s m e) (fin t n d) p q _ _ =
    round_same f (unlike s t) (m * up e * (n * up d)) (down e * down d) (mag f (fin s m e) * mag f (fin t n d)) (2 ^ low f * 2 ^ low f)
    (mul-pos (down_pos e) (down_pos d)) (mul-pos (pow_pos (low f)) (pow_pos (low f)))
    (product_units (m * up e) (n * up d) (mag f (fin s m e)) (mag f (fin t n d)) (2 ^ low f) (down e) (down d) (mag_is f s m e p) (mag_is f t n d q))

pub mag_zero : (f : Format) (s : Bool) (m : ℕ) (e : ℤ) → 0 < mag f (fin s m e) → 0 < m
unfolding mag
mag_zero f s zero e h = absurd (lt_irrefl 0 (subst (λ (z : ℕ). 0 < z) (zero-mul (2 ^ shift f e)) h))
mag_zero f s (suc m) e h = zero-lt-suc m

not_zero : (n : ℕ) → 0 < n → eqb n 0 ≡ false
not_zero zero h = absurd (lt_irrefl 0 h)
not_zero (suc n) h = eqb-suc-zero n

pub div_is : (f : Format) (x y : Float) → T (fits f x) → T (fits f y) → T (finite x) → T (finite y) → 0 < mag f y
    → div f x y ≡ round f (unlike (sign x) (sign y)) (mag f x) (mag f y)
unfolding div
div_is f nan y p q n k h = absurd n
div_is f (inf s) y p q n k h = absurd n
div_is f (fin s m e) nan p q n k h = absurd k
div_is f (fin s m e) (inf t) p q n k h = absurd k
div_is f (fin s m e) (fin t n d) p q _ _ h =
    let N = mag_zero f t n d h in
    ap (λ (b : Bool). cond b (cond (eqb m 0) nan (inf (unlike s t))) (round f (unlike s t) (m * up e * down d) (n * up d * down e))) (not_zero n N)
    ∙ round_same f (unlike s t) (m * up e * down d) (n * up d * down e) (mag f (fin s m e)) (mag f (fin t n d)) (mul-pos (mul-pos N (up_pos d)) (down_pos e)) h
    (quotient_units (m * up e * down d) (n * up d * down e) (mag f (fin s m e)) (mag f (fin t n d)) (2 ^ low f) (down e * down d) (pow_pos (low f)) (side f s m e d p) (other_side f t n d e q))

-- ---- 1 and -1 as factors
one_fits : (f : Format) (t : Bool) → T (fits f (one_of t))
unfolding fits
one_fits binary32 t = tt
one_fits binary64 t = tt

one_mag : (f : Format) (t : Bool) → mag f (one_of t) ≡ 2 ^ low f
unfolding mag
one_mag f t = one-mul (2 ^ (0 + low f)) ∙ ap (λ (z : ℕ). 2 ^ z) (zero-add (low f))

pub mul_one_of : (f : Format) (x : Float) (t : Bool) → T (fits f x) → T (finite x) → Rounds f (unlike (sign x) t) (mag f x) (mul f x (one_of t))
mul_one_of f x t p n =
    let L = 2 ^ low f in
    let Lp = pow_pos (low f) in
    let a = mag f x in
    let e : mul f x (one_of t) ≡ round f (unlike (sign x) t) a L =
    mul_is f x (one_of t) p (one_fits f t) n tt
    ∙ ap (λ (v : ℕ). round f (unlike (sign x) t) (a * v) (L * L)) (one_mag f t)
    ∙ round_same f (unlike (sign x) t) (a * L) (L * L) a L (mul-pos Lp Lp) Lp (mul_assoc a L L) in
    subst (Rounds f (unlike (sign x) t) a) (sym e) (round_held f (unlike (sign x) t) a (mag_held f x p n))

unlike_true : (s : Bool) → unlike s true ≡ not s
unlike_true true = refl
unlike_true false = refl

unlike_false : (s : Bool) → unlike s false ≡ s
unlike_false true = refl
unlike_false false = refl

pub mul_plus_one : (f : Format) (x : Float) → T (fits f x) → T (finite x) → mul f x (one_of false) ≡ x
mul_plus_one f x p n = let r = mul_one_of f x false p n in same_value f (mul f x (one_of false)) x r.fit p r.is_finite n (r.sign_is ∙ unlike_false (sign x)) r.mag_given

pub mul_minus_one : (f : Format) (x : Float) → T (fits f x) → T (finite x) → mul f x (one_of true) ≡ neg x
mul_minus_one f x p n =
    let r = mul_one_of f x true p n in
    same_value f (mul f x (one_of true)) (neg x) r.fit (neg-fits f x p) r.is_finite (rw (neg_finite x) n)
    (r.sign_is ∙ unlike_true (sign x) ∙ sym (neg_sign x (finite_number x n))) (r.mag_given ∙ sym (neg_mag f x))

-- ---- a quotient by a finite value above 0.0 has the numerator's sign

pub positive_mag : (f : Format) (y : Float) → T (positive y) → 0 < mag f y
unfolding mag
positive_mag f nan t = absurd t
positive_mag f (inf s) t = absurd t
positive_mag f (fin true m e) t = absurd t
positive_mag f (fin false m e) t = mul-pos (ltb→lt 0 m t) (pow_pos (shift f e))

positive_sign : (y : Float) → T (positive y) → sign y ≡ false
positive_sign nan t = refl
positive_sign (inf s) t = absurd t
positive_sign (fin true m e) t = absurd t
positive_sign (fin false m e) t = refl

pub div_positive : (f : Format) (x y : Float) → T (fits f x) → T (fits f y) → T (finite x) → T (positive y) → div f x y ≡ round f (sign x) (mag f x) (mag f y)
div_positive f x y p q n t =
    div_is f x y p q n (positive-finite y t) (positive_mag f y t)
    ∙ ap (λ (b : Bool). round f b (mag f x) (mag f y)) (ap (unlike (sign x)) (positive_sign y t) ∙ unlike_false (sign x))

pub inf_over : (f : Format) (s : Bool) (y : Float) → T (positive y) → div f (inf s) y ≡ inf s
unfolding div
inf_over f s nan t = absurd t
inf_over f s (inf u) t = absurd t
inf_over f s (fin true m e) t = absurd t
inf_over f s (fin false m e) t = ap inf (unlike_false s)

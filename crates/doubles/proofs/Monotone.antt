-- Sums, differences and quotients are no NaN and keep the order, whatever is rounded or overflows; and so what is raised to 0.0 and negated, over a positive
-- value, is not over what is raised to 0.0. Assumes nothing.
use mathlib.Core.Path.{◌≡◌, sym, ap, ◌∙◌, subst}
use Prim.Native.Nat.{ℕ, ◌+◌, ◌^◌, ◌≤◌, ◌<◌}
use native.Mathlib.Nat.{mul-le-mul_right, zero-mul}
use mathlib.Core.Bool.{Bool, true, false}
use lib.IntN.{ℤ, pos, nat_abs}
use lib.Dec.{T, lt→ltb}
use lib.Signed.{le_z}
use lib.Pow.{pow_pos}
use lib.Ieee.{Float, nan, inf, fin, Format, low, add, sub, div, neg, lt, le, eq, fits}
use lib.Ieee.Fits.{neg-fits}
use lib.Ieee.Scale.{finite}
use lib.Ieee.Positive.{positive}
use Rattle.laws.proofs.Tests.{tests, cond_both}
use Rattle.doubles.specs.Units.{sign, mag, signed, Num, rank, zero+}
use Rattle.doubles.specs.Rounding.{snap, add_sign, add_mag}
use Rattle.doubles.specs.Bounds.{raised}
use Rattle.doubles.proofs.Integers.{ints, le_z_add, neg_plus, neg_less}
use Rattle.doubles.proofs.Units.{neg_finite, finite_number}
use Rattle.doubles.proofs.Order.{neg_num, cond_num, le→Z, Z→le, le_refl_num, le_trans_num, not_lt_le, le_neg, not_over_finite}
use Rattle.doubles.proofs.Rounding.{round_num, round_rank, snap_mono, snap_zero, add_is, add_signed}
use Rattle.doubles.proofs.Products.{div_positive, mag_zero, positive_mag, inf_over}

-- ---- rounding keeps the order of numbers with a sign

signed_mono : (h : ℕ → ℕ) → h 0 ≡ 0 → ((a b : ℕ) → a ≤ b → h a ≤ h b) → (s t : Bool) (a b : ℕ) → T (le_z (signed s a) (signed t b)) → T (le_z (signed s (h a)) (signed t (h b)))
signed_mono h z m false false a b k = let l = m a b (let k = k in omega tests) in omega tests
signed_mono h z m false true a b k =
    let e : (a ≡ 0) × (b ≡ 0) = omega (ints, neg_plus (pos b), neg_less (pos b)) in
    rw (e.0, e.1, z) tt
signed_mono h z m true false a b k = omega (ints, neg_plus (pos (h a)), neg_less (pos (h a)))
signed_mono h z m true true a b k =
    let l = m b a (omega (ints, neg_plus (pos a), neg_less (pos a), neg_plus (pos b), neg_less (pos b))) in
    omega (ints, neg_plus (pos (h a)), neg_less (pos (h a)), neg_plus (pos (h b)), neg_less (pos (h b)))

module _ (f : Format) (c : ℕ) (C : 0 < c) where
  snap_over : (s t : Bool) (a b : ℕ) → T (le_z (signed s a) (signed t b)) → T (le_z (signed s (snap f a c)) (signed t (snap f b c)))
  snap_over = signed_mono (λ (a : ℕ). snap f a c) (snap_zero f c C) (λ a b h. snap_mono f a c b c C C (mul-le-mul_right c h))

-- ---- sums
add_rank_snap : (f : Format) (x y : Float) → T (fits f x) → T (fits f y) → T (finite x) → T (finite y)
    → rank f (add f x y) ≡ signed (add_sign (sign x) (mag f x) (sign y) (mag f y)) (snap f (add_mag (sign x) (mag f x) (sign y) (mag f y)) (2 ^ low f))
add_rank_snap f x y p q n k = ap (rank f) (add_is f x y p q n k) ∙ round_rank f (add_sign (sign x) (mag f x) (sign y) (mag f y)) (add_mag (sign x) (mag f x) (sign y) (mag f y)) (2 ^ low f)

pub add_num : (f : Format) (x y : Float) → T (fits f x) → T (fits f y) → T (finite x) → T (finite y) → Num f (add f x y)
add_num f x y p q n k = subst (Num f) (sym (add_is f x y p q n k)) (round_num f (add_sign (sign x) (mag f x) (sign y) (mag f y)) (add_mag (sign x) (mag f x) (sign y) (mag f y)) (2 ^ low f))

pub add_mono : (f : Format) (x x' y y' : Float) → T (fits f x) → T (fits f x') → T (fits f y) → T (fits f y') → T (finite x) → T (finite x') → T (finite y) → T (finite y')
    → T (le x x') → T (le y y') → T (le (add f x y) (add f x' y'))
add_mono f x x' y y' p p' q q' n n' k k' h l =
    Z→le f (add f x y) (add f x' y') (add_num f x y p q n k) (add_num f x' y' p' q' n' k')
    (rw (add_rank_snap f x y p q n k, add_rank_snap f x' y' p' q' n' k')
    (snap_over f (2 ^ low f) (pow_pos (low f)) (add_sign (sign x) (mag f x) (sign y) (mag f y)) (add_sign (sign x') (mag f x') (sign y') (mag f y'))
    (add_mag (sign x) (mag f x) (sign y) (mag f y)) (add_mag (sign x') (mag f x') (sign y') (mag f y'))
    (rw (add_signed (sign x) (mag f x) (sign y) (mag f y), add_signed (sign x') (mag f x') (sign y') (mag f y'))
    (le_z_add (rank f x) (rank f x') (rank f y) (rank f y') (le→Z f x x' (p, finite_number x n) (p', finite_number x' n') h) (le→Z f y y' (q, finite_number y k) (q', finite_number y' k') l)))))

-- x - y grows with x and shrinks as y grows
pub sub_mono : (f : Format) (x x' y y' : Float) → T (fits f x) → T (fits f x') → T (fits f y) → T (fits f y') → T (finite x) → T (finite x') → T (finite y) → T (finite y')
    → T (le x x') → T (le y' y) → T (le (sub f x y) (sub f x' y'))
unfolding sub
sub_mono f x x' y y' p p' q q' n n' k k' h l =
    add_mono f x x' (neg y) (neg y') p p' (neg-fits f y q) (neg-fits f y' q') n n' (rw (neg_finite y) k) (rw (neg_finite y') k') h
    (subst T (sym (le_neg f y' y (q', finite_number y' k') (q, finite_number y k))) l)

pub sub_num : (f : Format) (x y : Float) → T (fits f x) → T (fits f y) → T (finite x) → T (finite y) → Num f (sub f x y)
unfolding sub
sub_num f x y p q n k = add_num f x (neg y) p (neg-fits f y q) n (rw (neg_finite y) k)

-- ---- quotients by a finite value above 0.0

-- what is not under a value above 0.0, nor over a finite one, is above 0.0
pub positive_between : (f : Format) (x y z : Float) → Num f x → Num f y → T (positive x) → T (finite z) → T (le x y) → T (le y z) → T (positive y)
unfolding le lt eq
positive_between f nan y z p q t n h k = absurd t
positive_between f (inf s) y z p q t n h k = absurd t
positive_between f (fin true m e) y z p q t n h k = absurd t
positive_between f (fin false m e) nan z p q t n h k = absurd q.1
positive_between f (fin false m e) (inf true) z p q t n h k = absurd h
positive_between f (fin false m e) (inf false) z p q t n h k = absurd (not_over_finite z n k)
positive_between f (fin false m e) (fin true b d) z p q t n h k =
    let l = le→Z f (fin false m e) (fin true b d) p q h in
    absurd (omega (ints, positive_mag f (fin false m e) t, neg_plus (pos (mag f (fin true b d))), neg_less (pos (mag f (fin true b d)))))
positive_between f (fin false m e) (fin false b d) z p q t n h k =
    let l = le→Z f (fin false m e) (fin false b d) p q h in
    lt→ltb 0 b (mag_zero f false b d (omega (tests, positive_mag f (fin false m e) t)))

pub div_num : (f : Format) (x y : Float) → Num f x → T (fits f y) → T (positive y) → Num f (div f x y)
div_num f nan y p q t = absurd p.1
div_num f (inf s) y p q t = subst (Num f) (sym (inf_over f s y t)) p
div_num f (fin s m e) y p q t = subst (Num f) (sym (div_positive f (fin s m e) y p.0 q tt t)) (round_num f s (mag f (fin s m e)) (mag f y))

pub div_mono : (f : Format) (x x' y : Float) → T (fits f x) → T (fits f x') → T (fits f y) → T (finite x) → T (finite x') → T (positive y) → T (le x x') → T (le (div f x y) (div f x' y))
div_mono f x x' y p p' q n n' t h =
    Z→le f (div f x y) (div f x' y) (div_num f x y (p, finite_number x n) q t) (div_num f x' y (p', finite_number x' n') q t)
    (rw (div_positive f x y p q n t, div_positive f x' y p' q n' t, round_rank f (sign x) (mag f x) (mag f y), round_rank f (sign x') (mag f x') (mag f y))
    (snap_over f (mag f y) (positive_mag f y t) (sign x) (sign x') (mag f x) (mag f x') (le→Z f x x' (p, finite_number x n) (p', finite_number x' n') h)))

-- the sign stays: at an infinity, and at a value that is finite
zero_num : (f : Format) → Num f zero+
unfolding fits
zero_num f = (tt, tt)

zero_rank : (f : Format) → rank f zero+ ≡ pos 0
unfolding mag
zero_rank f = ap pos (zero-mul (2 ^ (0 + low f)))

zero_div : (f : Format) (y : Float) → T (fits f y) → T (positive y) → rank f (div f zero+ y) ≡ pos 0
zero_div f y q t =
    ap (rank f) (div_positive f zero+ y (zero_num f).0 q tt t) ∙ round_rank f false (mag f zero+) (mag f y)
    ∙ ap (λ (z : ℕ). pos (snap f z (mag f y))) (ap nat_abs (zero_rank f)) ∙ ap pos (snap_zero f (mag f y) (positive_mag f y t))

pub div_above : (f : Format) (x y : Float) → Num f x → T (fits f y) → T (positive y) → T (le zero+ x) → T (le zero+ (div f x y))
div_above f nan y p q t h = absurd p.1
div_above f (inf s) y p q t h = subst (λ (z : Float). T (le zero+ z)) (sym (inf_over f s y t)) h
div_above f (fin s m e) y p q t h =
    let d = div_num f (fin s m e) y p q t in
    Z→le f zero+ (div f (fin s m e) y) (zero_num f) d
    (subst (λ (u : ℤ). T (le_z u (rank f (div f (fin s m e) y)))) (zero_div f y q t ∙ sym (zero_rank f))
    (le→Z f (div f zero+ y) (div f (fin s m e) y) (div_num f zero+ y (zero_num f) q t) d (div_mono f zero+ (fin s m e) y (zero_num f).0 p.0 q tt tt t h)))

pub div_below : (f : Format) (x y : Float) → Num f x → T (fits f y) → T (positive y) → T (le x zero+) → T (le (div f x y) zero+)
div_below f nan y p q t h = absurd p.1
div_below f (inf s) y p q t h = subst (λ (z : Float). T (le z zero+)) (sym (inf_over f s y t)) h
div_below f (fin s m e) y p q t h =
    let d = div_num f (fin s m e) y p q t in
    Z→le f (div f (fin s m e) y) zero+ d (zero_num f)
    (subst (λ (u : ℤ). T (le_z (rank f (div f (fin s m e) y)) u)) (zero_div f y q t ∙ sym (zero_rank f))
    (le→Z f (div f (fin s m e) y) (div f zero+ y) d (div_num f zero+ y (zero_num f) q t) (div_mono f (fin s m e) zero+ y p.0 (zero_num f).0 q tt tt t h)))

-- ---- raised to 0.0, over a finite value above 0.0

pub raised_num : (f : Format) (d : Float) → Num f d → Num f (raised d)
raised_num f d p = cond_num f (lt d zero+) zero+ d (zero_num f) p

raised_above : (f : Format) (d : Float) → Num f d → T (le zero+ (raised d))
raised_above f d p = cond_both (λ (z : Float). T (le zero+ z)) (lt d zero+) zero+ d (λ t. le_refl_num f zero+ (zero_num f)) (λ t. not_lt_le f d zero+ p (zero_num f) t)

minus_zero_le : T (le (neg zero+) zero+)
unfolding neg le lt eq
minus_zero_le = tt

-- "less than empty, more than full" never cross: -raised a / y is not over raised b / y
pub raised_in_order : (f : Format) (a b y : Float) → Num f a → Num f b → T (fits f y) → T (positive y) → T (le (div f (neg (raised a)) y) (div f (raised b) y))
raised_in_order f a b y p q d t =
    let na = raised_num f a p in
    let nb = raised_num f b q in
    let nn = neg_num f (raised a) na in
    let below : T (le (neg (raised a)) zero+) = le_trans_num f (neg (raised a)) (neg zero+) zero+ nn (neg_num f zero+ (zero_num f)) (zero_num f)
    (subst T (sym (le_neg f zero+ (raised a) (zero_num f) na)) (raised_above f a p)) minus_zero_le in
    le_trans_num f (div f (neg (raised a)) y) zero+ (div f (raised b) y) (div_num f (neg (raised a)) y nn d t) (zero_num f) (div_num f (raised b) y nb d t)
    (div_below f (neg (raised a)) y nn d t below) (div_above f (raised b) y nb d t (raised_above f b q))

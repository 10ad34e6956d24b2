-- Half of a double: exact where the units are even, and off by half a unit at most. Assumes nothing.
use mathlib.Core.Path.{◌≡◌, sym, ap, ◌∙◌, subst}
use Prim.Native.Nat.{ℕ, zero, suc, ◌+◌, ◌*◌, ◌^◌, ◌≤◌, ◌<◌}
use native.Mathlib.Nat.{le_trans, le_of_eq, lt_of_le_of_lt, lt_of_lt_of_le, mul_assoc, mul_left_comm, mul-pos, mul-one, one-mul, mul-lt-mul_of_pos_right, le_of_mul-le-mul_right, pow-succ', add-zero}
use native.Mathlib.Omega.{arith}
use lib.Dec.{T, lit<}
use lib.Pow.{pow_pos, pow-lt}
use lib.Ieee.{Float, Format, binary32, binary64, prec, emax, low, round, div, fits}
use lib.Ieee.Scale.{round_same, finite, overflow}
use Rattle.doubles.specs.Units.{sign, mag}
use Rattle.doubles.specs.Rounding.{snap, Representable, Rounds}
use Rattle.doubles.specs.Sums.{Grain, Room}
use Rattle.doubles.specs.Costs.{two, Halved}
use Rattle.doubles.proofs.Rounding.{mag_held, round_held, round_sign, round_num, snap_is}
use Rattle.doubles.proofs.Products.{div_positive}
use Rattle.doubles.proofs.Errors.{snap_near, under_finite}

two_fits : (f : Format) → T (fits f two)
unfolding fits
two_fits binary32 = tt
two_fits binary64 = tt

two_mag : (f : Format) → mag f two ≡ 2 * 2 ^ low f
unfolding mag
two_mag f = one-mul (2 ^ (1 + low f)) ∙ ap (λ (z : ℕ). 2 ^ z) (one_more (low f)) ∙ pow-succ' 2 (low f)
  where
    one_more : (n : ℕ) → 1 + n ≡ suc n
    one_more n = omega arith

half_is : (f : Format) (x : Float) → T (fits f x) → T (finite x) → div f x two ≡ round f (sign x) (mag f x) (2 * 2 ^ low f)
half_is f x p n = div_positive f x two p (two_fits f) n tt ∙ ap (λ (z : ℕ). round f (sign x) (mag f x) z) (two_mag f)

-- an even number of units
held_half : (f : Format) (w : ℕ) → Representable f (2 * w) → Representable f w
held_half f w h = go h.j h.is
  where
    under : w < overflow f
    under = lt_of_le_of_lt (twice w) h.under
      where
        twice : (w : ℕ) → w ≤ 2 * w
        twice w = omega arith

    go : (j : ℕ) → 2 * w ≡ h.q * 2 ^ j → Representable f w
    go zero e = record { q = w; j = 0; few = lt_of_le_of_lt (small w h.q (e ∙ mul-one h.q)) h.few; is = sym (mul-one w); under = under }
      where
        small : (w q : ℕ) → 2 * w ≡ q → w ≤ q
        small w q e = omega arith
    go (suc j) e = record { q = h.q; j = j; few = h.few; is = same w (h.q * 2 ^ j) (e ∙ ap (λ (z : ℕ). h.q * z) (pow-succ' 2 j) ∙ mul_left_comm h.q 2 (2 ^ j)); under = under }
      where
        same : (w z : ℕ) → 2 * w ≡ 2 * z → w ≡ z
        same w z e = omega arith

pub half_exact : (f : Format) (x : Float) (w : ℕ) → T (fits f x) → T (finite x) → mag f x ≡ 2 * w → Rounds f (sign x) w (div f x two)
half_exact f x w p n e =
    let L = 2 ^ low f in
    subst (Rounds f (sign x) w) (sym (half_is f x p n ∙ ap (λ (z : ℕ). round f (sign x) z (2 * L)) e
    ∙ round_same f (sign x) (2 * w) (2 * L) w L (mul-pos (lit< tt) (pow_pos (low f))) (pow_pos (low f)) (mul_assoc 2 w L ∙ mul_left_comm 2 w L)))
    (round_held f (sign x) w (held_half f w (subst (Representable f) e (mag_held f x p n))))

-- any number of units: half of it, to within half a unit
room_zero : (f : Format) → Room f 0
room_zero binary32 = lit< tt
room_zero binary64 = lit< tt

pub half_near : (f : Format) (x : Float) → T (fits f x) → T (finite x) → Halved f x (div f x two)
half_near f x p n = go (mag_held f x p n)
  where
    L : ℕ
    L = 2 ^ low f

    step : (s q l : ℕ) → 2 * (s * (2 * l)) ≤ 2 * (q * l) + 1 * (2 * l) → (2 * s) * l ≤ (q + 1) * l
    step s q l h = omega arith

    back : (s q l : ℕ) → 2 * (q * l) ≤ 2 * (s * (2 * l)) + 1 * (2 * l) → q * l ≤ (2 * s + 1) * l
    back s q l h = omega arith

    half_under : (a b o : ℕ) → 2 * a ≤ b + 1 → b < o → 1 < o → a < o
    half_under a b o h k l = omega arith

    odd : mag f x < 2 ^ prec f → Halved f x (div f x two)
    odd h =
        let q = mag f x in
        let e = half_is f x p n in
        let m : mag f (div f x two) ≡ snap f q (2 * L) = ap (mag f) e ∙ snap_is f (sign x) q (2 * L) in
        let Lp = pow_pos (low f) in
        let s = snap_near f q (2 * L) 0 (mul-pos (lit< tt) Lp) (wide q (2 ^ prec f) L (2 ^ (prec f + 0)) h Lp (ap (λ (z : ℕ). 2 ^ z) (add-zero (prec f)))) (room_zero f) in
        let a : 2 * snap f q (2 * L) ≤ q + 1 = le_of_mul-le-mul_right (step (snap f q (2 * L)) q L s.0) Lp in
        let b : q ≤ 2 * snap f q (2 * L) + 1 = le_of_mul-le-mul_right (back (snap f q (2 * L)) q L s.1) Lp in
        record {
          is_finite = subst (λ (z : Float). T (finite z)) (sym e)
              (under_finite f (round f (sign x) q (2 * L)) (round_num f (sign x) q (2 * L)).1
              (subst (λ (z : ℕ). z < overflow f) (sym (snap_is f (sign x) q (2 * L)))
              (half_under (snap f q (2 * L)) q (overflow f) a (mag_held f x p n).under (pow-lt {i = 0} (zero_lt (low f) (emax f))))));
          sign_is = ap sign e ∙ round_sign f (sign x) q (2 * L);
          over = le_trans (le_of_eq (ap (λ (z : ℕ). 2 * z) m)) a;
          under = le_trans b (le_of_eq (ap (λ (z : ℕ). 2 * z + 1) (sym m)));
        }
      where
        wide : (q u l v : ℕ) → q < u → 0 < l → v ≡ u → q * l < v * (2 * l)
        wide q u l v h k e = subst (λ (z : ℕ). q * l < z * (2 * l)) (sym e) (lt_of_lt_of_le (mul-lt-mul_of_pos_right h k) (more u l))
          where
            more : (u l : ℕ) → u * l ≤ u * (2 * l)
            more u l = omega arith

        zero_lt : (a b : ℕ) → 0 < a + suc b
        zero_lt a b = omega arith

    go : Representable f (mag f x) → Halved f x (div f x two)
    go h = at h.j h.is
      where
        at : (j : ℕ) → mag f x ≡ h.q * 2 ^ j → Halved f x (div f x two)
        at zero e = odd (subst (λ (z : ℕ). z < 2 ^ prec f) (sym (e ∙ mul-one h.q)) h.few)
        at (suc j) e =
            let w = h.q * 2 ^ j in
            let d : mag f x ≡ 2 * w = e ∙ ap (λ (z : ℕ). h.q * z) (pow-succ' 2 j) ∙ mul_left_comm h.q 2 (2 ^ j) in
            let r = half_exact f x w p n d in
            record { is_finite = r.is_finite; sign_is = r.sign_is; over = omega (arith, r.mag_given, d); under = omega (arith, r.mag_given, d) }

-- ---- a multiple of 2 ^ (g + 1) units, and its half, are multiples of 2 ^ g

doubled : (c g : ℕ) → c * 2 ^ suc g ≡ 2 * (c * 2 ^ g)
doubled c g = ap (λ (z : ℕ). c * z) (pow-succ' 2 g) ∙ mul_left_comm c 2 (2 ^ g)

pub finer_grain : (f : Format) (g : ℕ) (x : Float) → Grain f (suc g) x → Grain f g x
finer_grain f g x p = record { fit = p.fit; is_finite = p.is_finite; count = 2 * p.count; is = p.is ∙ doubled p.count g ∙ sym (mul_assoc 2 p.count (2 ^ g)) }

pub half_grain : (f : Format) (g : ℕ) (x : Float) → Grain f (suc g) x → Grain f g (div f x two)
half_grain f g x p =
    let r = half_exact f x (p.count * 2 ^ g) p.fit p.is_finite (p.is ∙ doubled p.count g) in
    record { fit = r.fit; is_finite = r.is_finite; count = p.count; is = r.mag_given }

-- How far rounding moves a fraction: by at most half of 2 ^ j units, where the fraction is below 2 ^ (prec + j) units. So a run of n additions is off by at
-- most n / 2 times 2 ^ j; and from 2 ^ (prec - 1 + j) units on every value is a multiple of 2 ^ j. Assumes nothing.
use mathlib.Core.Path.{◌≡◌, sym, ap, ◌∙◌, subst}
use mathlib.Core.List.{List, [], ◌∷◌}
use Prim.Native.Nat.{ℕ, zero, suc, ◌+◌, ◌-◌, ◌*◌, ◌/◌, ◌%◌, ◌^◌, ◌≤◌, ◌<◌, compare, Ordering}
use native.Mathlib.Nat.{le_trans, le_of_eq, lt_of_le_of_lt, lt_of_lt_of_le, mul_comm, mul_assoc, mul-pos, mul-le-mul_left}
use native.Mathlib.Nat.{mul-le-mul_right, mul-lt-mul_of_pos_right, le_of_mul-le-mul_right, lt_of_mul-lt-mul_right, div-add-mod', mod-lt, div-lt_iff_lt-mul, suc-mul}
use native.Mathlib.Nat.{two-pow-succ, lt_irrefl, lt_of_not-le, not-le_of_lt, mul-div_cancel, sub-add_cancel}
use native.Mathlib.Omega.{arith}
use mathlib.Core.Bool.{Bool, true, false, not}
use lib.IntN.{ℤ, pos, ◌+ℤ◌, +ℤ_assoc, +ℤ_idr}
use lib.Dec.{T, is_le, compare_is_eq, leb→le, nleb→lt, eqb→eq}
use lib.Pow.{pow-add, pow_pos, pow_mono}
use lib.ListN.{length}
use lib.Ieee.{Float, nan, inf, fin, Format, prec, low, size, nearest, add, fits}
use lib.Ieee.Digits.{size-le, size-lt}
use lib.Ieee.Fits.{add-fits, two, two-le_pos}
use lib.Ieee.Nearest.{closest}
use lib.Ieee.Order.{kept, drop}
use lib.Ieee.Scale.{finite, overflow, grid}
use Rattle.doubles.specs.Units.{sign, mag, signed, number, rank}
use Rattle.doubles.specs.Rounding.{snap, add_sign, add_mag}
use Rattle.doubles.specs.Sums.{Room, Each, add_all, ranks, mags}
use Rattle.doubles.specs.Errors.{Off, Added, Near}
use Rattle.doubles.proofs.Integers.{sum_is, neg_plus, neg_less}
use Rattle.doubles.proofs.Rounding.{snap_is, snap_grid, round_rank, add_mag_le, add_is, add_signed}
use Rattle.doubles.proofs.Monotone.{add_num}

-- ---- to the nearest whole number

-- (q * u + r) / u
nearest_near : (q r u : ℕ) (o : Ordering) → r < u → (T (is_le o) → r * 2 ≤ u) → (T (not (is_le o)) → u < r * 2) → (T (compare_is_eq o) → r * 2 ≡ u)
    → (2 * (nearest q o * u) ≤ 2 * (q * u + r) + u) × (2 * (q * u + r) ≤ 2 * (nearest q o * u) + u)
nearest_near q r u Ordering.lt h a b c = let k = a tt in omega arith
nearest_near q r u Ordering.eq h a b c = go (q % 2) (omega arith)
  where
    go : (z : ℕ) → z < 2 → (2 * ((q + z) * u) ≤ 2 * (q * u + r) + u) × (2 * (q * u + r) ≤ 2 * ((q + z) * u) + u)
    go zero l = omega (arith, c tt)
    go (suc zero) l = omega (arith, c tt)
    go (suc (suc z)) l = absurd (omega arith)
nearest_near q r u Ordering.gt h a b c = let k = b tt in omega arith

closest_near : (n u : ℕ) → 0 < u → (2 * (closest n u * u) ≤ 2 * n + u) × (2 * n ≤ 2 * (closest n u * u) + u)
closest_near n u U =
    subst (λ (z : ℕ). (2 * (closest n u * u) ≤ 2 * z + u) × (2 * z ≤ 2 * (closest n u * u) + u)) (div-add-mod' n u)
    (nearest_near (n / u) (n % u) u (compare (n % u * 2) u) (mod-lt n U) (leb→le (n % u * 2) u) (nleb→lt (n % u * 2) u) (eqb→eq (n % u * 2) u))

-- ---- in units: a / c, below 2 ^ (prec + j) units
few : (z p j : ℕ) → z ≤ p + j → z - p ≤ j
few z p j h = omega arith

module _ (f : Format) (a c j : ℕ) (C : 0 < c) (small : a * 2 ^ low f < 2 ^ (prec f + j) * c) where
  grid_near : (2 * (grid f a c * c) ≤ 2 * (a * 2 ^ low f) + 2 ^ j * c) × (2 * (a * 2 ^ low f) ≤ 2 * (grid f a c * c) + 2 ^ j * c)
  grid_near =
      let n = a * 2 ^ low f in
      let k = drop (prec f) n c in
      let u = c * 2 ^ k in
      let k-le : k ≤ j = few (size (n / c)) (prec f) j (size-le (n / c) (prec f + j) ((div-lt_iff_lt-mul C).1 small)) in
      let u-le : u ≤ 2 ^ j * c = le_trans (mul-le-mul_left c (pow_mono k-le)) (le_of_eq (mul_comm c (2 ^ j))) in
      let g : grid f a c * c ≡ closest n u * u = mul_assoc (closest n u) (2 ^ k) c ∙ ap (λ (z : ℕ). closest n u * z) (mul_comm (2 ^ k) c) in
      let h = closest_near n u (mul-pos C (pow_pos k)) in
      step (grid f a c * c) (closest n u * u) n u (2 ^ j * c) g u-le h.0 h.1
    where
      step : (g x n u v : ℕ) → g ≡ x → u ≤ v → 2 * x ≤ 2 * n + u → 2 * n ≤ 2 * x + u → (2 * g ≤ 2 * n + v) × (2 * n ≤ 2 * g + v)
      step g x n u v e h k l = omega arith

  -- it does not overflow
  grid_under : Room f j → grid f a c < overflow f
  grid_under r =
      let tail : j ≤ prec f + j = omega arith in
      lt_of_lt_of_le (lt_of_mul-lt-mul_right c
      (step (grid f a c * c) (a * 2 ^ low f) (2 ^ j * c) (2 ^ (prec f + j)) (2 ^ suc (prec f + j)) c small (mul-le-mul_right c (pow_mono tail))
      (two-pow-succ (prec f + j)) grid_near.0)) (pow_mono r)
    where
      step : (g n v w u c : ℕ) → n < w * c → v ≤ w * c → u ≡ w + w → 2 * g ≤ 2 * n + v → g < u * c
      step g n v w u c h k e l = rw e (omega arith)

  pub snap_near : Room f j → (2 * (snap f a c * c) ≤ 2 * (a * 2 ^ low f) + 2 ^ j * c) × (2 * (a * 2 ^ low f) ≤ 2 * (snap f a c * c) + 2 ^ j * c)
  snap_near r = rw (snap_grid f a c (grid_under r)) grid_near

-- w units, a whole number of them
pub snap_units : (f : Format) (w j : ℕ) → Room f j → w < 2 ^ (prec f + j) → (2 * snap f w (2 ^ low f) ≤ 2 * w + 2 ^ j) × (2 * w ≤ 2 * snap f w (2 ^ low f) + 2 ^ j)
snap_units f w j r h =
    let L = 2 ^ low f in
    let Lp = pow_pos (low f) in
    let n = snap_near f w L j Lp (mul-lt-mul_of_pos_right h Lp) r in
    (le_of_mul-le-mul_right (omega (arith, n.0)) Lp, le_of_mul-le-mul_right (omega (arith, n.1)) Lp)

-- ---- numbers with a sign: 2 |z - w| ≤ d
pub off_same : (z : ℤ) → Off z z 0
off_same z = record { over = omega arith; under = omega arith }

pub off_trans : {a b c : ℤ} {d e : ℕ} → Off a b d → Off b c e → Off a c (d + e)
off_trans p q = record { over = omega arith; under = omega arith }

pub off_add : (a b c : ℤ) {d : ℕ} → Off a b d → Off (a +ℤ c) (b +ℤ c) d
off_add a b c p = record { over = omega (arith, sum_is a c, sum_is b c); under = omega (arith, sum_is a c, sum_is b c) }

pub off_le : {a b : ℤ} {d e : ℕ} → d ≤ e → Off a b d → Off a b e
off_le h p = record { over = omega arith; under = omega arith }

pub off_signed : (s : Bool) (a b d : ℕ) → 2 * a ≤ 2 * b + d → 2 * b ≤ 2 * a + d → Off (signed s a) (signed s b) d
off_signed false a b d h k = record { over = omega arith; under = omega arith }
off_signed true a b d h k = record {
  over = omega (arith, neg_plus (pos a), neg_less (pos a), neg_plus (pos b), neg_less (pos b));
  under = omega
      (arith, neg_plus (pos a), neg_less (pos a), neg_plus (pos b), neg_less (pos b));
}

-- ---- one addition
-- a number below the infinities is finite
pub under_finite : (f : Format) (x : Float) → T (number x) → mag f x < overflow f → T (finite x)
unfolding mag
under_finite f nan n h = n
under_finite f (inf s) n h = lt_irrefl (overflow f) h
under_finite f (fin s m e) n h = tt

pub add_near : (f : Format) (j : ℕ) (x y : Float) → Room f j → T (fits f x) → T (fits f y) → T (finite x) → T (finite y) → mag f x + mag f y < 2 ^ (prec f + j) → Added f j x y (add f x y)
add_near f j x y r p q n k h =
    let s : Bool = add_sign (sign x) (mag f x) (sign y) (mag f y) in
    let w : ℕ = add_mag (sign x) (mag f x) (sign y) (mag f y) in
    let l = add_mag_le (sign x) (mag f x) (sign y) (mag f y) in
    let W : w < 2 ^ (prec f + j) = lt_of_le_of_lt l h in
    let e = add_is f x y p q n k in
    let m : mag f (add f x y) ≡ snap f w (2 ^ low f) = ap (mag f) e ∙ snap_is f s w (2 ^ low f) in
    let t = snap_units f w j r W in
    let tail : j ≤ prec f + j = omega arith in
    record {
      off =
          subst (λ (z : ℤ). Off (rank f (add f x y)) z (2 ^ j)) (add_signed (sign x) (mag f x) (sign y) (mag f y))
          (rw (e, round_rank f s w (2 ^ low f)) (off_signed s (snap f w (2 ^ low f)) w (2 ^ j) t.0 t.1));
      within = omega (arith, m, t.0, l);
      is_finite = under_finite f (add f x y) (add_num f x y p q n k).1 (omega (arith, m, t.0, W, pow_mono tail, pow_mono r));
    }

-- ---- a run of them. The bound leaves 2 ^ j for each addition, twice what it can be off by
pub add_all_near : (f : Format) (j : ℕ) → Room f j → (acc : Float) (xs : List Float) → T (fits f acc) → T (finite acc) → Each (λ x. T (fits f x) × T (finite x)) xs
    → mag f acc + mags f xs + length xs * 2 ^ j < 2 ^ (prec f + j) → Near f (rank f acc +ℤ ranks f xs) (length xs * 2 ^ j) (add_all f acc xs)
add_all_near f j r acc [] p n ps h = record { off = subst (λ (z : ℤ). Off (rank f acc) z (0 * 2 ^ j)) (sym (+ℤ_idr (rank f acc))) (off_le (omega arith) (off_same (rank f acc))); is_finite = n }
add_all_near f j r acc (x ∷ xs) p n ps h =
    let a = add_near f j acc x r p ps.0.0 n ps.0.1 (omega (arith, suc-mul (length xs) (2 ^ j))) in
    let b = add_all_near f j r (add f acc x) xs (add-fits f acc x) a.is_finite ps.1 (omega (arith, suc-mul (length xs) (2 ^ j), a.within)) in
    record {
      off = subst (λ (z : ℤ). Off (rank f (add_all f acc (x ∷ xs))) z (suc (length xs) * 2 ^ j)) (+ℤ_assoc (rank f acc) (rank f x) (ranks f xs))
          (off_le (omega (arith, suc-mul (length xs) (2 ^ j))) (off_trans b.off (off_add (rank f (add f acc x)) (rank f acc +ℤ rank f x) (ranks f xs) a.off)));
      is_finite = b.is_finite;
    }

-- ---- from 2 ^ (prec - 1 + j) units on every value is a multiple of 2 ^ j
digits : (w j : ℕ) → 2 ^ j ≤ w → j < size w
digits w j h = lt_of_not-le (λ (g : size w ≤ j). not-le_of_lt (lt_of_lt_of_le (size-lt w) (pow_mono g)) h)

pub snap_multiple : (f : Format) (w j : ℕ) → Room f j → 2 ^ (prec f - 1 + j) ≤ w → w < 2 ^ (prec f + j) → (c : ℕ) × (snap f w (2 ^ low f) ≡ c * 2 ^ j)
snap_multiple f w j r h k =
    let L = 2 ^ low f in
    let Lp = pow_pos (low f) in
    let p = prec f in
    let d = drop p (w * L) L in
    let d-is : d ≡ size w - p = ap (λ (z : ℕ). size z - p) (mul-div_cancel w Lp) in
    let d-ge : j ≤ d = le_trans (enough (size w) p j (two-le_pos p (two f)) (digits w (p - 1 + j) h)) (le_of_eq (sym d-is)) in
    let q = kept p (w * L) L in (
      q * 2 ^ (d - j),
      snap_grid f w L (grid_under f w L j Lp (mul-lt-mul_of_pos_right k Lp) r)
          ∙ ap (λ (z : ℕ). q * z) (ap (λ (z : ℕ). 2 ^ z) (sym (sub-add_cancel d-ge)) ∙ pow-add 2 (d - j) j) ∙ sym (mul_assoc q (2 ^ (d - j)) (2 ^ j)),
    )
  where
    enough : (z p j : ℕ) → 0 < p → p - 1 + j < z → j ≤ z - p
    enough z p j P h = omega arith

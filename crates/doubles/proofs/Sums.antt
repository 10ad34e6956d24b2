-- Sums without rounding: a run of grained values, added from the left, is exact as long as the magnitudes together come to at most 2 ^ prec grains; and what
-- does not start at -0.0 is never -0.0. So two orders of a run give the same bits. Assumes nothing.
use mathlib.Core.Path.{◌≡◌, refl, sym, ap, ap₂, ◌∙◌, subst}
use mathlib.Core.Logic.{◌⊎◌, inl, inr}
use mathlib.Core.List.{List, [], ◌∷◌, ◌++◌}
use Prim.Native.Nat.{ℕ, zero, suc, ◌+◌, ◌-◌, ◌*◌, ◌/◌, ◌%◌, ◌^◌, ◌≤◌, ◌<◌}
use native.Mathlib.Nat.{le_trans, le_of_eq, lt_of_le_of_lt, lt_of_lt_of_le, mul_comm, mul-sub, add-mul, one-mul, eq-or-lt_of_le, le_of_mul-le-mul_right, mul-le-mul_right}
use native.Mathlib.Nat.{suc-mul, zero-mul, zero-add, add-zero, mul_right_comm, div-add-mod', eq_of_mul-eq-mul_right, mul-one, not-suc-le-zero, le_of_suc-le-suc}
use native.Mathlib.Omega.{arith}
use mathlib.Core.Bool.{Bool, true, false, not, ◌&&◌, beq, cond}
use lib.IntN.{ℤ, pos, negsuc, ◌+ℤ◌, ◌*ℤ◌, nat_abs, +ℤ_assoc, +ℤ_idl, +ℤ_idr}
use lib.Dec.{T, T_not, not_T, ltb, leb, eqb, leb→le, eqb→eq, lit<}
use lib.Pow.{pow-add, pow_pos, pow-lt}
use lib.ListN.{length, take, get_or}
use lib.Ieee.{Float, nan, inf, fin, Format, binary32, binary64, prec, low, up, down, round, add, neg, of_int, fits, whole}
use lib.Ieee.Fits.{two, and_i, and_l, and_r, eq→eqb, down_pos, neg-fits}
use lib.Ieee.Scale.{round_same, finite, overflow}
use Rattle.laws.proofs.Tests.{tests, cond_both}
use Rattle.doubles.specs.Units.{sign, mag, signed, rank, zero+, not_minus_zero, one_of}
use Rattle.doubles.specs.Rounding.{Representable, Rounds, add_sign, add_mag}
use Rattle.doubles.specs.Sums.{Grain, Room, Summed, Each, run, add_all, ranks, mags}
use Rattle.doubles.proofs.Integers.{swap-addℤ}
use Rattle.doubles.proofs.Units.{mag_is, signed_times, same_bits, neg_mag, neg_finite}
use Rattle.doubles.proofs.Rounding.{mag_held, round_held, add_mag_le, add_exact, add_rank, add_signed}

-- ---- up to 2 ^ prec grains the format has every multiple of the grain

one_lt : (f : Format) → 1 < 2 ^ prec f
one_lt f = pow-lt {i = 0} (lt_of_lt_of_le (lit< tt) (two f))

pub grain_held : (f : Format) (g w c : ℕ) → Room f g → w ≡ c * 2 ^ g → w ≤ 2 ^ prec f * 2 ^ g → Representable f w
grain_held f g w c r e h = go (eq-or-lt_of_le (le_of_mul-le-mul_right (subst (λ (z : ℕ). z ≤ 2 ^ prec f * 2 ^ g) e h) (pow_pos g)))
  where
    below : w < overflow f
    below = lt_of_le_of_lt h (subst (λ (z : ℕ). z < overflow f) (pow-add 2 (prec f) g) (pow-lt r))

    go : (c ≡ 2 ^ prec f) ⊎ (c < 2 ^ prec f) → Representable f w
    go (inl t) = record { q = 1; j = prec f + g; few = one_lt f; is = e ∙ ap (λ (z : ℕ). z * 2 ^ g) t ∙ sym (pow-add 2 (prec f) g) ∙ sym (one-mul (2 ^ (prec f + g))); under = below }
    go (inr l) = record { q = c; j = g; few = l; is = e; under = below }

-- ---- the sum of two

add_mag_grain : (s t : Bool) (a b c d p : ℕ) → a ≡ c * p → b ≡ d * p → (n : ℕ) × (add_mag s a t b ≡ n * p)
add_mag_grain s t a b c d p e h = go (beq s t) (ltb a b)
  where
    less : (a b c d : ℕ) → a ≡ c * p → b ≡ d * p → a - b ≡ (c - d) * p
    less a b c d e h = ap₂ (λ (u v : ℕ). u - v) (e ∙ mul_comm c p) (h ∙ mul_comm d p) ∙ sym (mul-sub p c d) ∙ mul_comm p (c - d)

    go : (x y : Bool) → (n : ℕ) × (cond x (a + b) (cond y (b - a) (a - b)) ≡ n * p)
    go true y = (c + d, ap₂ (λ (u v : ℕ). u + v) e h ∙ sym (add-mul c d p))
    go false true = (d - c, less b a d c h e)
    go false false = (c - d, less a b c d e h)

-- a sum is -0.0 only where both are
sum_plain : (s : Bool) (a : ℕ) (t : Bool) (b : ℕ) → T (not ((s && eqb a 0) && (t && eqb b 0))) → T (not (add_sign s a t b && eqb (add_mag s a t b) 0))
sum_plain false a false b h = tt
sum_plain true a true b h = not_T (eqb (a + b) 0) (λ u. let e : (a ≡ 0) × (b ≡ 0) = omega tests in T_not (eqb a 0 && eqb b 0) h (and_i (eqb a 0) (eqb b 0) (eq→eqb e.0) (eq→eqb e.1)))
sum_plain false a true b h = go (ltb a b) (λ t. omega tests)
  where
    go : (c : Bool) → (T c → a < b) → T (not (cond c true false && eqb (cond c (b - a) (a - b)) 0))
    go true k = not_T (eqb (b - a) 0) (λ u. let l = k tt in omega tests)
    go false k = tt
sum_plain true a false b h = go (ltb a b) (ltb b a) (λ t. omega tests)
  where
    go : (c d : Bool) → (T d → b < a) → T (not (cond c false d && eqb (cond c (b - a) (a - b)) 0))
    go true d k = tt
    go false true k = not_T (eqb (a - b) 0) (λ u. let l = k tt in omega tests)
    go false false k = tt

module _ (f : Format) (g : ℕ) (x y : Float) (r : Room f g) (p : Grain f g x) (q : Grain f g y) (h : mag f x + mag f y ≤ 2 ^ prec f * 2 ^ g) where
  add_here : Rounds f (add_sign (sign x) (mag f x) (sign y) (mag f y)) (add_mag (sign x) (mag f x) (sign y) (mag f y)) (add f x y)
  add_here =
      let m = add_mag_grain (sign x) (sign y) (mag f x) (mag f y) p.count q.count (2 ^ g) p.is q.is in
      add_exact f x y p.fit q.fit p.is_finite q.is_finite
      (grain_held f g (add_mag (sign x) (mag f x) (sign y) (mag f y)) m.0 r m.1 (le_trans (add_mag_le (sign x) (mag f x) (sign y) (mag f y)) h))

  pub add_grains : Summed f g (rank f x +ℤ rank f y) (mag f x + mag f y) (add f x y)
  add_grains =
      let m = add_mag_grain (sign x) (sign y) (mag f x) (mag f y) p.count q.count (2 ^ g) p.is q.is in
      let a = add_here in
      record {
        grain = record { fit = a.fit; is_finite = a.is_finite; count = m.0; is = a.mag_given ∙ m.1 };
        total = ap₂ (λ (u : Bool) (v : ℕ). signed u v) a.sign_is a.mag_given ∙ add_signed (sign x) (mag f x) (sign y) (mag f y);
        within = le_trans (le_of_eq a.mag_given) (add_mag_le (sign x) (mag f x) (sign y) (mag f y));
      }

  -- it is -0.0 only where x and y are
  pub add_plain_both : T (not ((sign x && eqb (mag f x) 0) && (sign y && eqb (mag f y) 0))) → T (not_minus_zero f (add f x y))
  add_plain_both n =
      subst (λ (u : Bool). T (not (u && eqb (mag f (add f x y)) 0))) (sym add_here.sign_is)
      (subst (λ (v : ℕ). T (not (add_sign (sign x) (mag f x) (sign y) (mag f y) && eqb v 0))) (sym add_here.mag_given) (sum_plain (sign x) (mag f x) (sign y) (mag f y) n))

  pub add_plain : T (not_minus_zero f x) → T (not_minus_zero f (add f x y))
  add_plain n =
      add_plain_both (not_T ((sign x && eqb (mag f x) 0) && (sign y && eqb (mag f y) 0)) (λ u. T_not (sign x && eqb (mag f x) 0) n (and_l (sign x && eqb (mag f x) 0) (sign y && eqb (mag f y) 0) u)))

-- ---- a run

-- a loop over a slice makes one step more
pub run_step : (op : Float → Float → Float) (acc : Float) (xs : List Float) (i : ℕ) → i < length xs → run op acc (take (suc i) xs) ≡ op (run op acc (take i xs)) (get_or xs i nan)
run_step op acc [] i h = absurd (not-suc-le-zero h)
run_step op acc (x ∷ xs) zero h = refl
run_step op acc (x ∷ xs) (suc i) h = run_step op (op acc x) xs i (le_of_suc-le-suc h)

pub add_all_lem : (f : Format) (g : ℕ) → Room f g → (acc : Float) (xs : List Float) → Grain f g acc → Each (Grain f g) xs → mag f acc + mags f xs ≤ 2 ^ prec f * 2 ^ g
    → Summed f g (rank f acc +ℤ ranks f xs) (mag f acc + mags f xs) (add_all f acc xs)
add_all_lem f g r acc [] p ps h = record { grain = p; total = sym (+ℤ_idr (rank f acc)); within = omega arith }
add_all_lem f g r acc (x ∷ xs) p ps h =
    let a = add_grains f g acc x r p ps.0 (omega arith) in
    let b = add_all_lem f g r (add f acc x) xs a.grain ps.1 (omega (arith, a.within)) in
    record {
      grain = b.grain;
      total = b.total ∙ ap (λ (z : ℤ). z +ℤ ranks f xs) a.total ∙ +ℤ_assoc (rank f acc) (rank f x) (ranks f xs);
      within = omega (arith, b.within, a.within);
    }

pub add_all_plain : (f : Format) (g : ℕ) → Room f g → (acc : Float) (xs : List Float) → Grain f g acc → Each (Grain f g) xs → mag f acc + mags f xs ≤ 2 ^ prec f * 2 ^ g
    → T (not_minus_zero f acc) → T (not_minus_zero f (add_all f acc xs))
add_all_plain f g r acc [] p ps h n = n
add_all_plain f g r acc (x ∷ xs) p ps h n =
    let k : mag f acc + mag f x ≤ 2 ^ prec f * 2 ^ g = omega arith in
    let a = add_grains f g acc x r p ps.0 k in
    add_all_plain f g r (add f acc x) xs a.grain ps.1 (omega (arith, a.within)) (add_plain f g acc x r p ps.0 k n)

-- from 0.0
pub zero_grain : (f : Format) (g : ℕ) → Grain f g zero+
unfolding fits mag
zero_grain f g = record { fit = tt; is_finite = tt; count = 0; is = zero-mul (2 ^ (0 + low f)) ∙ sym (zero-mul (2 ^ g)) }

pub zero_mag : (f : Format) → mag f zero+ ≡ 0
unfolding mag
zero_mag f = zero-mul (2 ^ (0 + low f))

from_zero : (f : Format) (n : ℕ) (xs : List Float) → mags f xs ≤ n → mag f zero+ + mags f xs ≤ n
from_zero f n xs h = omega (arith, zero_mag f)

pub sum_all : (f : Format) (g : ℕ) → Room f g → (xs : List Float) → Each (Grain f g) xs → mags f xs ≤ 2 ^ prec f * 2 ^ g → Summed f g (ranks f xs) (mags f xs) (add_all f zero+ xs)
sum_all f g r xs ps h =
    let s = add_all_lem f g r zero+ xs (zero_grain f g) ps (from_zero f (2 ^ prec f * 2 ^ g) xs h) in
    record {
      grain = s.grain;
      total = s.total ∙ ap (λ (z : ℕ). pos z +ℤ ranks f xs) (zero_mag f) ∙ +ℤ_idl (ranks f xs);
      within = omega (arith, s.within, zero_mag f);
    }

pub sum_plain_all : (f : Format) (g : ℕ) → Room f g → (xs : List Float) → Each (Grain f g) xs → mags f xs ≤ 2 ^ prec f * 2 ^ g → T (not_minus_zero f (add_all f zero+ xs))
sum_plain_all f g r xs ps h = add_all_plain f g r zero+ xs (zero_grain f g) ps (from_zero f (2 ^ prec f * 2 ^ g) xs h) tt

-- two runs with one sum have one result, bit for bit
pub same_sum : (f : Format) (g : ℕ) → Room f g → (xs ys : List Float) → Each (Grain f g) xs → Each (Grain f g) ys → mags f xs ≤ 2 ^ prec f * 2 ^ g → mags f ys ≤ 2 ^ prec f * 2 ^ g
    → ranks f xs ≡ ranks f ys → add_all f zero+ xs ≡ add_all f zero+ ys
same_sum f g r xs ys ps qs h k e =
    let a = sum_all f g r xs ps h in
    let b = sum_all f g r ys qs k in
    same_bits f (add_all f zero+ xs) (add_all f zero+ ys) a.grain.fit b.grain.fit a.grain.is_finite b.grain.is_finite (sum_plain_all f g r xs ps h)
    (sum_plain_all f g r ys qs k) (a.total ∙ e ∙ sym b.total)

-- n values of at most B units each
pub mags_le : (f : Format) (B : ℕ) (xs : List Float) → Each (λ x. mag f x ≤ B) xs → mags f xs ≤ length xs * B
mags_le f B [] ps = omega arith
mags_le f B (x ∷ xs) ps = omega (arith, mags_le f B xs ps.1, ps.0, suc-mul (length xs) B)

-- ---- grains

pub grain_rank : (f : Format) (g : ℕ) (x : Float) → (p : Grain f g x) → rank f x ≡ signed (sign x) p.count *ℤ pos (2 ^ g)
grain_rank f g x p = ap (λ (z : ℕ). signed (sign x) z) p.is ∙ signed_times (sign x) p.count (2 ^ g)

-- a whole number by the library's test is one of grain `low`
whole_at : (f : Format) (s : Bool) (m : ℕ) (e : ℤ) → T (fits f (fin s m e)) → m * up e % down e ≡ 0 → mag f (fin s m e) ≡ m * up e / down e * 2 ^ low f
whole_at f s m e t h =
    eq_of_mul-eq-mul_right (down e) (down_pos e) (mag f (fin s m e)) (m * up e / down e * 2 ^ low f)
    (sym (mag_is f s m e t)
    ∙ ap (λ (z : ℕ). z * 2 ^ low f) (sym (div-add-mod' (m * up e) (down e)) ∙ ap (λ (z : ℕ). m * up e / down e * down e + z) h ∙ add-zero (m * up e / down e * down e))
    ∙ mul_right_comm (m * up e / down e) (down e) (2 ^ low f))

pub whole_grain : (f : Format) (x : Float) → T (fits f x) → T (whole f x) → Grain f (low f) x × (mag f x ≤ 2 ^ prec f * 2 ^ low f)
unfolding whole
whole_grain f nan t u = absurd u
whole_grain f (inf s) t u = absurd u
whole_grain f (fin s m e) t u =
    let v = and_l (eqb (m * up e % down e) 0 && leb (m * up e / down e) (2 ^ prec f)) (not (s && eqb m 0)) u in
    let i = whole_at f s m e t (eqb→eq (m * up e % down e) 0 (and_l (eqb (m * up e % down e) 0) (leb (m * up e / down e) (2 ^ prec f)) v)) in (
      record { fit = t; is_finite = tt; count = m * up e / down e; is = i },
      le_trans (le_of_eq i) (mul-le-mul_right (2 ^ low f) (leb→le (m * up e / down e) (2 ^ prec f) (and_r (eqb (m * up e % down e) 0) (leb (m * up e / down e) (2 ^ prec f)) v))),
    )

pub one_grain : (t : Bool) → Grain binary64 1074 (one_of t)
unfolding fits mag
one_grain t = record { fit = tt; is_finite = tt; count = 1; is = refl }

pub neg_grain : (f : Format) (g : ℕ) (x : Float) → Grain f g x → Grain f g (neg x)
neg_grain f g x p = record { fit = neg-fits f x p.fit; is_finite = rw (neg_finite x) p.is_finite; count = p.count; is = neg_mag f x ∙ p.is }

-- ---- a whole number of a program, as a double
pub of_nat : (f : Format) (s : Bool) (n : ℕ) → n ≤ 2 ^ prec f → Rounds f s (n * 2 ^ low f) (round f s n 1)
of_nat f s n h =
    subst (Rounds f s (n * 2 ^ low f)) (sym (round_same f s n 1 (n * 2 ^ low f) (2 ^ low f) (lit< tt) (pow_pos (low f)) (sym (mul-one (n * 2 ^ low f)))))
    (round_held f s (n * 2 ^ low f) (grain_held f (low f) (n * 2 ^ low f) n (room_low f) refl (mul-le-mul_right (2 ^ low f) h)))
  where
    room_low : (f : Format) → Room f (low f)
    room_low binary32 = lit< tt
    room_low binary64 = lit< tt

pub of_int_rank : (f : Format) (z : ℤ) → nat_abs z ≤ 2 ^ prec f → rank f (of_int f z) ≡ z *ℤ pos (2 ^ low f)
unfolding of_int
of_int_rank f (pos n) h = let r = of_nat f false n h in ap₂ (λ (u : Bool) (v : ℕ). signed u v) r.sign_is r.mag_given
of_int_rank f (negsuc n) h = let r = of_nat f true (suc n) h in ap₂ (λ (u : Bool) (v : ℕ). signed u v) r.sign_is r.mag_given

-- ---- a value added to 0.0 keeps its rank, whatever its grain

module _ (f : Format) (x : Float) (p : T (fits f x)) (n : T (finite x)) where
  zero_held : Representable f (add_mag false (mag f zero+) (sign x) (mag f x))
  zero_held = subst (Representable f) (sym (zero_plus (sign x) (mag f x) (mag f zero+) (zero_mag f))) (mag_held f x p n)
    where
      zero_plus : (s : Bool) (b a : ℕ) → a ≡ 0 → add_mag false a s b ≡ b
      zero_plus false b a e = ap (λ (z : ℕ). z + b) e ∙ zero-add b
      zero_plus true b a e = cond_both (λ (w : ℕ). w ≡ b) (ltb a b) (b - a) (a - b) (λ t. omega tests) (λ t. omega tests)

  pub add_zero_rank : rank f (add f zero+ x) ≡ rank f x
  add_zero_rank = add_rank f zero+ x (zero_grain f 0).fit p tt n zero_held ∙ ap (λ (z : ℕ). pos z +ℤ rank f x) (zero_mag f) ∙ +ℤ_idl (rank f x)

  pub add_zero_finite : T (finite (add f zero+ x))
  add_zero_finite = (add_exact f zero+ x (zero_grain f 0).fit p tt n zero_held).is_finite

-- ---- the order of a run does not change its exact sum

pub ranks_insert : (f : Format) (xs : List Float) (y : Float) (zs : List Float) → ranks f (xs ++ y ∷ zs) ≡ rank f y +ℤ ranks f (xs ++ zs)
ranks_insert f [] y zs = refl
ranks_insert f (x ∷ xs) y zs = ap (λ (z : ℤ). rank f x +ℤ z) (ranks_insert f xs y zs) ∙ swap-addℤ (rank f x) (rank f y) (ranks f (xs ++ zs))

pub mags_insert : (f : Format) (xs : List Float) (y : Float) (zs : List Float) → mags f (xs ++ y ∷ zs) ≡ mag f y + mags f (xs ++ zs)
mags_insert f [] y zs = refl
mags_insert f (x ∷ xs) y zs = omega (arith, mags_insert f xs y zs)

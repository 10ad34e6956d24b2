-- A column's cost: edge costs added from 0.0, each a sum of two nodes' parts, each a node's cost, its negation or its half.
-- Whole costs: no addition rounds, so every order gives the same bits. Costs of at most 1,000: any order is within 2 ^ -24 of the exact sum of the exact edge costs.
-- Half of an odd number of units is no whole number of them, so exact costs are counted in half units: twice the rank. Assumes nothing.
use mathlib.Core.Path.{◌≡◌, sym, ap, ◌∙◌, subst}
use mathlib.Core.List.{List, [], ◌∷◌, map}
use Prim.Native.Nat.{ℕ, suc, ◌+◌, ◌*◌, ◌^◌, ◌≤◌, ◌<◌}
use native.Mathlib.Nat.{le_refl, le_trans, le_of_eq, mul-le-mul_right}
use native.Mathlib.Omega.{arith}
use mathlib.Core.Bool.{Bool, true, false}
use lib.IntN.{ℤ, pos, neg_ℤ, ◌+ℤ◌, +ℤ_idl}
use lib.Dec.{T, lit<, lit≤}
use lib.ListN.{length, length-map}
use lib.Ieee.{Float, binary64, add, div, neg, fits}
use lib.Ieee.Fits.{div-fits, neg-fits, add-fits}
use lib.Ieee.Scale.{finite}
use Rattle.doubles.specs.Units.{sign, mag, signed, rank, zero+}
use Rattle.doubles.specs.Sums.{Room, Grain, Each, add_all, ranks, mags}
use Rattle.doubles.specs.Errors.{Off, Near}
use Rattle.doubles.specs.Costs.{two, twice, Part, edge_off, EdgeCost, total, All}
use Rattle.doubles.proofs.Integers.{sum_is, neg_plus, neg_less}
use Rattle.doubles.proofs.Units.{neg_mag, neg_finite}
use Rattle.doubles.proofs.Sums.{mags_le, zero_mag, zero_grain, same_sum}
use Rattle.doubles.proofs.Errors.{off_same, off_trans, off_le, add_near, add_all_near}
use Rattle.doubles.proofs.Halves.{half_near}

-- ---- whole costs: grains of a half. Any file's costs are in: 512 edges of two parts, each at most 10 ^ 12
half_room : Room binary64 1073
half_room = lit< tt

pub whole_costs_lem : (xs ys : List Float) → length xs ≤ 512 → length ys ≤ 512 → Each (Grain binary64 1073) xs → Each (Grain binary64 1073) ys
    → Each (λ x. mag binary64 x ≤ 2000000000000 * 2 ^ 1074) xs → Each (λ x. mag binary64 x ≤ 2000000000000 * 2 ^ 1074) ys
    → ranks binary64 xs ≡ ranks binary64 ys → add_all binary64 zero+ xs ≡ add_all binary64 zero+ ys
whole_costs_lem xs ys n m ps qs bs cs e = same_sum binary64 1073 half_room xs ys ps qs (fits_in xs n bs) (fits_in ys m cs) e
  where
    fits_in : (zs : List Float) → length zs ≤ 512 → Each (λ x. mag binary64 x ≤ 2000000000000 * 2 ^ 1074) zs → mags binary64 zs ≤ 2 ^ 53 * 2 ^ 1073
    fits_in zs k b = le_trans (mags_le binary64 (2000000000000 * 2 ^ 1074) zs b) (le_trans (mul-le-mul_right (2000000000000 * 2 ^ 1074) k) (lit≤ tt))

-- ---- costs of at most 1,000

-- a node's cost as it is, and its negation
pub part_own : (x : Float) → T (fits binary64 x) → T (finite x) → mag binary64 x ≤ 1000 * 2 ^ 1074 → Part x (twice x)
part_own x p n h = record { fit = p; is_finite = n; within = h; off = off_le (lit≤ tt) (off_same (twice x)) }

pub part_neg : (x : Float) → T (fits binary64 x) → T (finite x) → mag binary64 x ≤ 1000 * 2 ^ 1074 → Part (neg x) (twice (neg x))
part_neg x p n h = part_own (neg x) (neg-fits binary64 x p) (rw (neg_finite x) n) (le_trans (le_of_eq (neg_mag binary64 x)) h)

-- half of it: the exact part is `rank x` half units
signed_double : (s : Bool) (a b : ℕ) → 2 * a ≤ b + 1 → b ≤ 2 * a + 1 → Off (signed s a +ℤ signed s a) (signed s b) 2
signed_double false a b h k = record { over = omega arith; under = omega arith }
signed_double true a b h k = record {
  over = omega (arith, sum_is (neg_ℤ (pos a)) (neg_ℤ (pos a)), neg_plus (pos a), neg_less (pos a), neg_plus (pos b), neg_less (pos b));
  under = omega (arith, sum_is (neg_ℤ (pos a)) (neg_ℤ (pos a)), neg_plus (pos a), neg_less (pos a), neg_plus (pos b), neg_less (pos b));
}

at_most : (a b c : ℕ) → 2 * a ≤ b + 1 → b ≤ c → 1 ≤ c → a ≤ c
at_most a b c h k l = omega arith

pub part_half : (x : Float) → T (fits binary64 x) → T (finite x) → mag binary64 x ≤ 1000 * 2 ^ 1074 → Part (div binary64 x two) (rank binary64 x)
part_half x p n h =
    let v = half_near binary64 x p n in
    let y = div binary64 x two in
    record {
      fit = div-fits binary64 x two;
      is_finite = v.is_finite;
      within = at_most (mag binary64 y) (mag binary64 x) (1000 * 2 ^ 1074) v.over h (lit≤ tt);
      off = subst (λ (z : ℤ). Off (z +ℤ z) (rank binary64 x) 2) (ap (λ (s : Bool). signed s (mag binary64 y)) (sym v.sign_is))
          (signed_double (sign x) (mag binary64 y) (mag binary64 x) v.over v.under);
    }

-- ---- an edge: the sum of two parts, off by 2 ^ 1032 half units and what the parts are off by
off_double : (a b : ℤ) (d : ℕ) → Off a b d → Off (a +ℤ a) (b +ℤ b) (2 * d)
off_double a b d p = record { over = omega (arith, sum_is a a, sum_is b b); under = omega (arith, sum_is a a, sum_is b b) }

off_sum : (a b c d : ℤ) (m n : ℕ) → Off a b m → Off c d n → Off (a +ℤ c) (b +ℤ d) (m + n)
off_sum a b c d m n p q = record { over = omega (arith, sum_is a c, sum_is b d); under = omega (arith, sum_is a c, sum_is b d) }

off_swap : (a b e : ℤ) (d : ℕ) → Off ((a +ℤ a) +ℤ (b +ℤ b)) e d → Off ((a +ℤ b) +ℤ (a +ℤ b)) e d
off_swap a b e d p = record {
  over = omega (arith, sum_is (a +ℤ a) (b +ℤ b), sum_is a a, sum_is b b, sum_is (a +ℤ b) (a +ℤ b), sum_is a b);
  under = omega (arith, sum_is (a +ℤ a) (b +ℤ b), sum_is a a, sum_is b b, sum_is (a +ℤ b) (a +ℤ b), sum_is a b);
}

edge_room : Room binary64 1032
edge_room = lit< tt

edge_within : (r a b l v : ℕ) → 2 * r ≤ 2 * (a + b) + v → a ≤ 1000 * l → b ≤ 1000 * l → v ≤ l → r ≤ 2001 * l
edge_within r a b l v h p q k = omega arith

edge_small : (a b l u : ℕ) → a ≤ 1000 * l → b ≤ 1000 * l → 2000 * l < u → a + b < u
edge_small a b l u p q h = omega arith

pub edge_cost_lem : (x y : Float) (d e : ℤ) → Part x d → Part y e → EdgeCost (add binary64 x y) (d +ℤ e)
edge_cost_lem x y d e p q =
    let a = add_near binary64 1032 x y edge_room p.fit q.fit p.is_finite q.is_finite
    (edge_small (mag binary64 x) (mag binary64 y) (2 ^ 1074) (2 ^ (53 + 1032)) p.within q.within (lit< tt)) in
    let r = add binary64 x y in
    record {
      fit = add-fits binary64 x y;
      is_finite = a.is_finite;
      within = edge_within (mag binary64 r) (mag binary64 x) (mag binary64 y) (2 ^ 1074) (2 ^ 1032) a.within p.within q.within (lit≤ tt);
      off = off_trans (off_double (rank binary64 r) (rank binary64 x +ℤ rank binary64 y) (2 ^ 1032) a.off)
          (off_swap (rank binary64 x) (rank binary64 y) (d +ℤ e) 4 (off_sum (twice x) d (twice y) e 2 2 p.off q.off));
    }

-- ---- a column: at most 512 edges, in the order of the list
module _ {A : Type 0} (cost : A → Float) (exact : A → ℤ) where
  finite_all : (xs : List A) → All cost exact xs → Each (λ r. T (fits binary64 r) × T (finite r)) (map cost xs)
  finite_all [] ps = tt
  finite_all (x ∷ xs) ps = ((ps.0.fit, ps.0.is_finite), finite_all xs ps.1)

  within_all : (xs : List A) → All cost exact xs → Each (λ r. mag binary64 r ≤ 2001 * 2 ^ 1074) (map cost xs)
  within_all [] ps = tt
  within_all (x ∷ xs) ps = (ps.0.within, within_all xs ps.1)

  -- the edges' own errors add up
  edges_off : (d : ℕ) (xs : List A) → All cost exact xs → edge_off ≤ d → Off (ranks binary64 (map cost xs) +ℤ ranks binary64 (map cost xs)) (total exact xs) (length xs * d)
  edges_off d [] ps h = off_le (omega arith) (off_same (pos 0))
  edges_off d (x ∷ xs) ps h =
      off_le (le_of_eq (step (length xs) d))
      (off_swap (rank binary64 (cost x)) (ranks binary64 (map cost xs)) (exact x +ℤ total exact xs) (d + length xs * d)
      (off_sum (twice (cost x)) (exact x) (ranks binary64 (map cost xs) +ℤ ranks binary64 (map cost xs)) (total exact xs) d (length xs * d) (off_le h ps.0.off) (edges_off d xs ps.1 h)))
    where
      step : (n d : ℕ) → d + n * d ≡ suc n * d
      step n d = omega arith

  -- the rounded sum is near the sum of the rounded costs, where the doubles stand 2 ^ 1041 units apart at most
  sum_near : (xs : List A) → length xs ≤ 512 → All cost exact xs
      → Near binary64 (rank binary64 zero+ +ℤ ranks binary64 (map cost xs)) (length (map cost xs) * 2 ^ 1041) (add_all binary64 zero+ (map cost xs))
  sum_near xs n ps =
      let rs = map cost xs in
      let j : ℕ = 1041 in
      let L : length rs ≤ 512 = le_trans (le_of_eq (length-map xs cost)) n in
      add_all_near binary64 j (lit< tt) zero+ rs (zero_grain binary64 0).fit tt (finite_all xs ps)
      (small (mag binary64 zero+) (mags binary64 rs) (length rs) (2001 * 2 ^ 1074) (2 ^ j) (2 ^ (53 + j)) (zero_mag binary64)
      (mags_le binary64 (2001 * 2 ^ 1074) rs (within_all xs ps)) L (lit< tt))
    where
      small : (z m n b v u : ℕ) → z ≡ 0 → m ≤ n * b → n ≤ 512 → 512 * b + 512 * v < u → z + m + n * v < u
      small z m n b v u e h k l = omega (arith, mul-le-mul_right b k, mul-le-mul_right v k)

  pub column_finite : (xs : List A) → length xs ≤ 512 → All cost exact xs → T (finite (add_all binary64 zero+ (map cost xs)))
  column_finite xs n ps = (sum_near xs n ps).is_finite

  -- within 2 ^ -24: that is 2 ^ 1051 half units, and `Off` counts twice the distance
  pub column_near : (xs : List A) → length xs ≤ 512 → All cost exact xs → Off (twice (add_all binary64 zero+ (map cost xs))) (total exact xs) (2 ^ 1052)
  column_near xs n ps =
      let rs = map cost xs in
      let j : ℕ = 1041 in
      let L : length rs ≤ 512 = le_trans (le_of_eq (length-map xs cost)) n in
      let a = off_double (rank binary64 (add_all binary64 zero+ rs)) (rank binary64 zero+ +ℤ ranks binary64 rs) (length rs * 2 ^ j) (sum_near xs n ps).off in
      let b = subst (λ (z : ℤ). Off (twice (add_all binary64 zero+ rs)) (z +ℤ z) (2 * (length rs * 2 ^ j)))
      (ap (λ (z : ℕ). pos z +ℤ ranks binary64 rs) (zero_mag binary64) ∙ +ℤ_idl (ranks binary64 rs)) a in
      off_le (enough (length rs) (length xs) (2 ^ j) edge_off (2 ^ 1052) L n (lit≤ tt)) (off_trans b (edges_off edge_off xs ps (le_refl edge_off)))
    where
      enough : (m n v w u : ℕ) → m ≤ 512 → n ≤ 512 → 2 * (512 * v) + 512 * w ≤ u → 2 * (m * v) + n * w ≤ u
      enough m n v w u h k l = omega (arith, mul-le-mul_right v h, mul-le-mul_right w k)

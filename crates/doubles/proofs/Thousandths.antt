-- k / 1000 rounded once, for k up to 9,999,999,999: a larger k gives a larger double, so that k is found by halving an interval of whole numbers, and it is the
-- only one. Assumes nothing.
use mathlib.Core.Path.{◌≡◌, refl, sym, ap, ap₂, ◌∙◌, subst}
use Prim.Native.Nat.{ℕ, suc, ◌+◌, ◌*◌, ◌^◌, ◌≤◌, ◌<◌}
use native.Mathlib.Nat.{le_trans, le_of_eq, le_of_lt, lt_of_le_of_lt, not-le_of_lt, mul_assoc, mul_right_comm, mul-le-mul_right, le_of_suc-le-suc, lt_of_not-le, le_antisymm}
use native.Mathlib.Omega.{arith}
use mathlib.Core.Bool.{Bool, false, not}
use lib.IntN.{ℤ, pos}
use lib.Dec.{T, T_not, leb, ltb, leb→le, le→leb, ltb→lt, lt→ltb, lit<, lit≤}
use lib.Signed.{le_z, lt_z}
use lib.Ieee.{Float, binary64, unlike, round, div, lt, le, eq, of_int, fits}
use lib.Ieee.Scale.{round_same}
use Rattle.laws.proofs.Tests.{tests, same_test, by_cases}
use Rattle.doubles.specs.Units.{sign, mag, Num, rank}
use Rattle.doubles.specs.Rounding.{snap}
use Rattle.doubles.specs.Sums.{Room}
use Rattle.doubles.specs.Thousandths.{thousandths, most, thousand}
use Rattle.doubles.proofs.Integers.{ints, eqZ→eq}
use Rattle.doubles.proofs.Units.{eq_is}
use Rattle.doubles.proofs.Order.{le_rank, lt_rank}
use Rattle.doubles.proofs.Rounding.{snap_is, snap_mono, round_sign, round_num, round_rank}
use Rattle.doubles.proofs.Sums.{of_nat}
use Rattle.doubles.proofs.Products.{div_is}
use Rattle.doubles.proofs.Errors.{snap_near}

-- ---- k / 1000 is below 2 ^ 24, where the doubles stand 2 ^ -29 apart
pub room : Room binary64 1045
room = lit< tt

pub small : (k : ℕ) → k ≤ most → k * 2 ^ 1074 < 2 ^ (53 + 1045) * 1000
small k h = lt_of_le_of_lt (mul-le-mul_right (2 ^ 1074) h) (lit< tt)

apart : (i k L v x y : ℕ) → i < k → 2 * (x * 1000) ≤ 2 * (i * L) + v → 2 * (k * L) ≤ 2 * (y * 1000) + v → v < L → suc i * L ≤ k * L → x < y
apart i k L v x y h p q r s = omega arith

pub thousandths_strict : (i k : ℕ) → i < k → k ≤ most → snap binary64 i 1000 < snap binary64 k 1000
thousandths_strict i k h m =
    apart i k (2 ^ 1074) (2 ^ 1045 * 1000) (snap binary64 i 1000) (snap binary64 k 1000) h
    (snap_near binary64 i 1000 1045 (lit< tt) (small i (le_trans (le_of_lt h) m)) room).0
    (snap_near binary64 k 1000 1045 (lit< tt) (small k m) room).1
    (lit< tt) (mul-le-mul_right (2 ^ 1074) h)

pub thousandths_order : (i k : ℕ) → i ≤ most → k ≤ most → leb (snap binary64 i 1000) (snap binary64 k 1000) ≡ leb i k
thousandths_order i k a b =
    same_test (leb (snap binary64 i 1000) (snap binary64 k 1000)) (leb i k) (
      λ t. le→leb i k (le_of_suc-le-suc (lt_of_not-le (λ (g : suc k ≤ i). not-le_of_lt (thousandths_strict k i g a) (leb→le (snap binary64 i 1000) (snap binary64 k 1000) t)))),
      λ t. le→leb (snap binary64 i 1000) (snap binary64 k 1000) (snap_mono binary64 i 1000 k 1000 (lit< tt) (lit< tt) (mul-le-mul_right 1000 (leb→le i k t))),
    )

-- ---- distinct numbers, distinct doubles
pub thousandths_only : (s t : Bool) (i k : ℕ) → i ≤ most → k ≤ most → thousandths s i ≡ thousandths t k → (s ≡ t) × (i ≡ k)
thousandths_only s t i k a b e =
    let m : snap binary64 i 1000 ≡ snap binary64 k 1000 = sym (snap_is binary64 s i 1000) ∙ ap (mag binary64) e ∙ snap_is binary64 t k 1000 in (
      sym (round_sign binary64 s i 1000) ∙ ap sign e ∙ round_sign binary64 t k 1000,
      le_antisymm (leb→le i k (subst T (thousandths_order i k a b) (le→leb (snap binary64 i 1000) (snap binary64 k 1000) (le_of_eq m))))
          (leb→le k i (subst T (thousandths_order k i b a) (le→leb (snap binary64 k 1000) (snap binary64 i 1000) (le_of_eq (sym m))))),
    )

-- ---- the program's test: `(i as f64) / 1000.0 <= x`

pub thousand_is : (T (fits binary64 thousand)) × (mag binary64 thousand ≡ 1000 * 2 ^ 1074)
unfolding fits mag
thousand_is = (tt, refl)

pub divided : (k : ℕ) → k ≤ 2 ^ 53 → div binary64 (of_int binary64 (pos k)) thousand ≡ thousandths false k
unfolding of_int
divided k h =
    let x : Float = round binary64 false k 1 in
    let v = of_nat binary64 false k h in
    let L : ℕ = 2 ^ 1074 in
    div_is binary64 x thousand v.fit thousand_is.0 v.is_finite tt (subst (λ (z : ℕ). 0 < z) (sym thousand_is.1) (lit< tt))
    ∙ ap (λ (s : Bool). round binary64 (unlike s false) (mag binary64 x) (mag binary64 thousand)) v.sign_is
    ∙ ap₂ (λ (a b : ℕ). round binary64 false a b) v.mag_given thousand_is.1
    ∙ round_same binary64 false (k * L) (1000 * L) k 1000 (lit< tt) (lit< tt) (mul_right_comm k L 1000 ∙ mul_assoc k 1000 L)

pub test_is : (i k : ℕ) → i ≤ most → k ≤ most → le (div binary64 (of_int binary64 (pos i)) thousand) (thousandths false k) ≡ leb i k
test_is i k a b =
    ap (λ (x : Float). le x (thousandths false k)) (divided i (le_trans a (lit≤ tt)))
    ∙ le_rank binary64 (thousandths false i) (thousandths false k) (round_num binary64 false i 1000) (round_num binary64 false k 1000)
    ∙ ap₂ (λ (u v : ℤ). le_z u v) (round_rank binary64 false i 1000) (round_rank binary64 false k 1000)
    ∙ thousandths_order i k a b

-- ---- the search: every k below lo is too small, and lo is not. Then a k that gives x is lo
lt_at : (x : Float) (k : ℕ) → Num binary64 x → lt (thousandths false k) x ≡ lt_z (pos (snap binary64 k 1000)) (rank binary64 x)
lt_at x k p = lt_rank binary64 (thousandths false k) x (round_num binary64 false k 1000) p ∙ ap (λ (u : ℤ). lt_z u (rank binary64 x)) (round_rank binary64 false k 1000)

eq_at : (x : Float) (k : ℕ) → Num binary64 x → T (eq (thousandths false k) x) → pos (snap binary64 k 1000) ≡ rank binary64 x
eq_at x k p t =
    sym (round_rank binary64 false k 1000)
    ∙ eqZ→eq (rank binary64 (thousandths false k)) (rank binary64 x)
    (subst T (eq_is binary64 (thousandths false k) x (round_num binary64 false k 1000).0 p.0 (round_num binary64 false k 1000).1 p.1) t)

pub search_only : (x : Float) (lo : ℕ) → Num binary64 x → ((k : ℕ) → k < lo → T (lt (thousandths false k) x)) → (lo ≤ most → T (not (lt (thousandths false lo) x)))
    → (k : ℕ) → k ≤ most → T (eq (thousandths false k) x) → k ≡ lo
search_only x lo p small big k h t =
    let e = eq_at x k p t in
    by_cases (ltb k lo)
    (λ (u : T (ltb k lo)). let v = subst T (lt_at x k p) (small k (ltb→lt k lo u)) in absurd (below (snap binary64 k 1000) (rank binary64 x) v e))
    (λ (u : T (not (ltb k lo))).
    by_cases (ltb lo k)
    (λ (w : T (ltb lo k)).
    let l = ltb→lt lo k w in
    let s = thousandths_strict lo k l h in
    absurd (T_not (lt (thousandths false lo) x) (big (le_trans (le_of_lt l) h))
    (subst T (sym (lt_at x lo p)) (subst (λ (z : ℤ). T (lt_z (pos (snap binary64 lo 1000)) z)) e (lt→ltb (snap binary64 lo 1000) (snap binary64 k 1000) s)))))
    (λ (w : T (not (ltb lo k))). omega tests))
  where
    below : (n : ℕ) (z : ℤ) → T (lt_z (pos n) z) → pos n ≡ z → ⊥
    below n z h e = omega ints

-- what is below x stays below it further down
pub lt_down : (x : Float) (k m : ℕ) → Num binary64 x → k ≤ m → T (lt (thousandths false m) x) → T (lt (thousandths false k) x)
lt_down x k m p h t =
    let s = snap_mono binary64 k 1000 m 1000 (lit< tt) (lit< tt) (mul-le-mul_right 1000 h) in
    subst T (sym (lt_at x k p)) (further (snap binary64 k 1000) (snap binary64 m 1000) (rank binary64 x) s (subst T (lt_at x m p) t))
  where
    further : (a b : ℕ) (z : ℤ) → a ≤ b → T (lt_z (pos b) z) → T (lt_z (pos a) z)
    further a b z h t = omega ints

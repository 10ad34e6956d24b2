-- The other way to a k with k / 1000 = x: x * 1000.0, then 2 ^ 52 added and taken off again, which rounds to a whole number. Where x is k / 1000 rounded once,
-- that number is k. Assumes nothing.
use mathlib.Core.Path.{◌≡◌, refl, sym, ap, ap₂, ◌∙◌, subst}
use Prim.Native.Nat.{ℕ, suc, ◌+◌, ◌-◌, ◌*◌, ◌^◌, ◌≤◌, ◌<◌}
use native.Mathlib.Nat.{le_trans, le_of_eq, lt_of_le_of_lt, mul_assoc, mul-pos, mul-le-mul_right, lt_of_mul-lt-mul_right, le_antisymm, le_of_suc-le-suc, add-mul}
use native.Mathlib.Omega.{arith}
use mathlib.Core.Bool.{Bool, true, false}
use lib.IntN.{pos}
use lib.Dec.{T, ltb, lit<, lit≤}
use lib.Pow.{pow_pos}
use lib.Ieee.{Float, Format, binary64, unlike, round, add, sub, mul, neg, of_int, fits}
use lib.Ieee.Fits.{round-fits, mul-fits, add-fits, neg-fits}
use lib.Ieee.Scale.{finite, overflow}
use Rattle.laws.proofs.Tests.{tests, cond_no}
use Rattle.doubles.specs.Units.{sign, mag}
use Rattle.doubles.specs.Rounding.{snap, Rounds, add_sign, add_mag}
use Rattle.doubles.specs.Thousandths.{thousandths, most, thousand, shifter}
use Rattle.doubles.proofs.Units.{same_value, neg_sign, neg_mag}
use Rattle.doubles.proofs.Rounding.{snap_is, snap_same, round_sign, round_num, add_is, add_exact}
use Rattle.doubles.proofs.Sums.{grain_held, of_nat}
use Rattle.doubles.proofs.Products.{mul_is}
use Rattle.doubles.proofs.Errors.{snap_near, snap_units, snap_multiple, under_finite}
use Rattle.doubles.proofs.Thousandths.{thousand_is, small, room}

abbrev L : ℕ
L = 2 ^ 1074

shifter_is : T (fits binary64 shifter) × (mag binary64 shifter ≡ 2 ^ 52 * 2 ^ 1074)
unfolding fits mag
shifter_is = (tt, refl)

-- ---- x * 1000.0 is k, to within 2 ^ -19
pub record Around (f : Format) (x : Float) (w v : ℕ) : Type 0 where
  pub fit : T (fits f x)
  pub is_finite : T (finite x)
  pub sign_is : sign x ≡ false
  pub over : 2 * mag f x ≤ 2 * w + v
  pub under : 2 * w ≤ 2 * mag f x + v

first : (k m l v u o : ℕ) → 2 * (m * 1000) ≤ 2 * (k * l) + v → k * l ≤ u → u + v < o → m * 1000 < o
first k m l v u o h p q = omega arith

second : (y m w v u : ℕ) → 2 * y ≤ 2 * (m * 1000) + v → 2 * (m * 1000) ≤ 2 * w + u → 2 * y ≤ 2 * w + (u + v)
second y m w v u h k = omega arith

third : (y m w v u : ℕ) → 2 * (m * 1000) ≤ 2 * y + v → 2 * w ≤ 2 * (m * 1000) + u → 2 * w ≤ 2 * y + (u + v)
third y m w v u h k = omega arith

below_top : (y w v u o : ℕ) → 2 * y ≤ 2 * w + v → w ≤ u → u + v < o → y < o
below_top y w v u o h p q = omega arith

pub times_thousand : (k : ℕ) → k ≤ most → Around binary64 (mul binary64 (thousandths false k) thousand) (k * 2 ^ 1074) (2 ^ 1056)
times_thousand k h =
    let x = thousandths false k in
    let y = mul binary64 x thousand in
    let m = snap binary64 k 1000 in
    let n = snap_near binary64 k 1000 1045 (lit< tt) (small k h) room in
    let kl : k * 2 ^ 1074 ≤ most * 2 ^ 1074 = mul-le-mul_right (2 ^ 1074) h in
    let W : m * 1000 < 2 ^ (53 + 1055) = first k m (2 ^ 1074) (2 ^ 1045 * 1000) (most * 2 ^ 1074) (2 ^ (53 + 1055)) n.0 kl (lit< tt) in
    let e : y ≡ round binary64 false (m * (1000 * L)) (L * L) =
    mul_is binary64 x thousand (round-fits binary64 false k 1000) thousand_is.0 (x_finite k h) tt
    ∙ ap (λ (s : Bool). round binary64 (unlike s false) (mag binary64 x * mag binary64 thousand) (L * L)) (round_sign binary64 false k 1000)
    ∙ ap₂ (λ (a b : ℕ). round binary64 false (a * b) (L * L)) (snap_is binary64 false k 1000) thousand_is.1 in
    let z : mag binary64 y ≡ snap binary64 (m * 1000) L =
    ap (mag binary64) e ∙ snap_is binary64 false (m * (1000 * L)) (L * L)
    ∙ snap_same binary64 (m * (1000 * L)) (L * L) (m * 1000) L (mul-pos (pow_pos 1074) (pow_pos 1074)) (pow_pos 1074) (scaled m 1000 L) in
    let t = snap_units binary64 (m * 1000) 1055 (lit< tt) W in
    let o = second (snap binary64 (m * 1000) L) m (k * 2 ^ 1074) (2 ^ 1055) (2 ^ 1045 * 1000) t.0 n.0 in
    let u = third (snap binary64 (m * 1000) L) m (k * 2 ^ 1074) (2 ^ 1055) (2 ^ 1045 * 1000) t.1 n.1 in
    let over : 2 * mag binary64 y ≤ 2 * (k * 2 ^ 1074) + 2 ^ 1056 = widen (mag binary64 y) (snap binary64 (m * 1000) L) (k * 2 ^ 1074) (2 ^ 1045 * 1000 + 2 ^ 1055) (2 ^ 1056) z o (lit≤ tt) in
    record {
      fit = mul-fits binary64 x thousand;
      is_finite = subst (λ (v : Float). T (finite v)) (sym e)
          (under_finite binary64 (round binary64 false (m * (1000 * L)) (L * L)) (round_num binary64 false (m * (1000 * L)) (L * L)).1
          (subst (λ (v : Float). mag binary64 v < overflow binary64) e (below_top (mag binary64 y) (k * 2 ^ 1074) (2 ^ 1056) (most * 2 ^ 1074) (overflow binary64) over kl (lit< tt))));
      sign_is = ap sign e ∙ round_sign binary64 false (m * (1000 * L)) (L * L);
      over = over;
      under = narrow (mag binary64 y) (snap binary64 (m * 1000) L) (k * 2 ^ 1074) (2 ^ 1045 * 1000 + 2 ^ 1055) (2 ^ 1056) z u (lit≤ tt);
    }
  where
    scaled : (m t l : ℕ) → m * (t * l) * l ≡ m * t * (l * l)
    scaled m t l = ap (λ (z : ℕ). z * l) (sym (mul_assoc m t l)) ∙ mul_assoc (m * t) l l

    widen : (y s w v o : ℕ) → y ≡ s → 2 * s ≤ 2 * w + v → v ≤ o → 2 * y ≤ 2 * w + o
    widen y s w v o e h k = omega arith

    narrow : (y s w v o : ℕ) → y ≡ s → 2 * w ≤ 2 * s + v → v ≤ o → 2 * w ≤ 2 * y + o
    narrow y s w v o e h k = omega arith

    x_finite : (k : ℕ) → k ≤ most → T (finite (thousandths false k))
    x_finite k h =
        let n = snap_near binary64 k 1000 1045 (lit< tt) (small k h) room in
        under_finite binary64 (thousandths false k) (round_num binary64 false k 1000).1
        (subst (λ (v : ℕ). v < overflow binary64) (sym (snap_is binary64 false k 1000))
        (under (snap binary64 k 1000) k (2 ^ 1074) (2 ^ 1045 * 1000) (most * 2 ^ 1074) (overflow binary64) n.0 (mul-le-mul_right (2 ^ 1074) h) (lit< tt)))
      where
        under : (m k l v u o : ℕ) → 2 * (m * 1000) ≤ 2 * (k * l) + v → k * l ≤ u → u + v < o → m < o
        under m k l v u o h p q = omega arith

-- ---- 2 ^ 52 added: a whole number, the nearest
exactly : (c k s l v y : ℕ) → 2 * (c * l) ≤ 2 * (y + s * l) + l → 2 * (y + s * l) ≤ 2 * (c * l) + l → 2 * y ≤ 2 * (k * l) + v → 2 * (k * l) ≤ 2 * y + v → v < l
    → (c * l < suc (k + s) * l) × ((k + s) * l < suc c * l)
exactly c k s l v y a b p q r = omega arith

pub shifted : (k : ℕ) (y : Float) → k ≤ most → Around binary64 y (k * 2 ^ 1074) (2 ^ 1056) → Rounds binary64 false ((k + 2 ^ 52) * 2 ^ 1074) (add binary64 y shifter)
shifted k y h a =
    let s = 2 ^ 52 in
    let v = mag binary64 y + s * 2 ^ 1074 in
    let e : add binary64 y shifter ≡ round binary64 false v L =
    add_is binary64 y shifter a.fit shifter_is.0 a.is_finite tt
    ∙ ap₂ (λ (g : Bool) (m : ℕ). round binary64 (add_sign g (mag binary64 y) false m) (add_mag g (mag binary64 y) false m) L) a.sign_is shifter_is.1 in
    let hi : v < 2 ^ (53 + 1074) = below (mag binary64 y) (k * 2 ^ 1074) (2 ^ 1056) (most * 2 ^ 1074) (s * 2 ^ 1074) (2 ^ (53 + 1074)) a.over (mul-le-mul_right (2 ^ 1074) h) (lit< tt) in
    let lo : 2 ^ (53 - 1 + 1074) ≤ v = le_trans (lit≤ tt) (above (mag binary64 y) (s * 2 ^ 1074)) in
    let m = snap_multiple binary64 v 1074 (lit< tt) lo hi in
    let t = snap_units binary64 v 1074 (lit< tt) hi in
    let z : mag binary64 (add binary64 y shifter) ≡ m.0 * 2 ^ 1074 = ap (mag binary64) e ∙ snap_is binary64 false v L ∙ m.1 in
    let x = exactly m.0 k s (2 ^ 1074) (2 ^ 1056) (mag binary64 y)
    (subst (λ (u : ℕ). 2 * u ≤ 2 * v + 2 ^ 1074) m.1 t.0) (subst (λ (u : ℕ). 2 * v ≤ 2 * u + 2 ^ 1074) m.1 t.1) a.over a.under (lit< tt) in
    let c : m.0 ≡ k + s = le_antisymm (le_of_suc-le-suc (lt_of_mul-lt-mul_right (2 ^ 1074) x.0)) (le_of_suc-le-suc (lt_of_mul-lt-mul_right (2 ^ 1074) x.1)) in
    let w : mag binary64 (add binary64 y shifter) ≡ (k + s) * 2 ^ 1074 = z ∙ ap (λ (u : ℕ). u * 2 ^ 1074) c in
    record {
      fit = add-fits binary64 y shifter;
      is_finite = subst (λ (u : Float). T (finite u)) (sym e)
          (under_finite binary64 (round binary64 false v L) (round_num binary64 false v L).1
          (subst (λ (u : Float). mag binary64 u < overflow binary64) e
          (subst (λ (u : ℕ). u < overflow binary64) (sym w) (lt_of_le_of_lt (mul-le-mul_right (2 ^ 1074) (plus_le k most s h)) (lit< tt)))));
      sign_is = ap sign e ∙ round_sign binary64 false v L;
      mag_given = w;
    }
  where
    below : (y w v u s o : ℕ) → 2 * y ≤ 2 * w + v → w ≤ u → u + v + s < o → y + s < o
    below y w v u s o h p q = omega arith

    above : (y s : ℕ) → s ≤ y + s
    above y s = omega arith

    plus_le : (k m s : ℕ) → k ≤ m → k + s ≤ m + s
    plus_le k m s h = omega arith

-- ---- and taken off again
pub unshifted : (k : ℕ) (z : Float) → k ≤ most → Rounds binary64 false ((k + 2 ^ 52) * 2 ^ 1074) z → sub binary64 z shifter ≡ of_int binary64 (pos k)
unfolding sub of_int
unshifted k z h r =
    let s : ℕ = 2 ^ 52 in
    let d : Float = neg shifter in
    let a : ℕ = mag binary64 z in
    let b : ℕ = mag binary64 d in
    let more : s ≤ k + s = omega arith in
    let big : b ≤ a = le_trans (le_of_eq (neg_mag binary64 shifter ∙ shifter_is.1)) (le_trans (mul-le-mul_right (2 ^ 1074) more) (le_of_eq (sym r.mag_given))) in
    let w : add_mag (sign z) a (sign d) b ≡ k * 2 ^ 1074 =
    ap₂ (λ (g i : Bool). add_mag g a i b) r.sign_is (neg_sign shifter tt)
    ∙ cond_no (ltb a b) (b - a) (a - b) (omega tests)
    ∙ ap₂ (λ (u v : ℕ). u - v) r.mag_given (neg_mag binary64 shifter ∙ shifter_is.1)
    ∙ off k s (2 ^ 1074) in
    let g : add_sign (sign z) a (sign d) b ≡ false = ap₂ (λ (g i : Bool). add_sign g a i b) r.sign_is (neg_sign shifter tt) ∙ cond_no (ltb a b) true false (omega tests) in
    let q = add_exact binary64 z d r.fit (neg-fits binary64 shifter shifter_is.0) r.is_finite tt
    (grain_held binary64 1074 (add_mag (sign z) a (sign d) b) k (lit< tt) w (le_trans (le_of_eq w) (mul-le-mul_right {n = 2 ^ 53} (2 ^ 1074) (le_trans h (lit≤ tt))))) in
    let n = of_nat binary64 false k (le_trans h (lit≤ tt)) in
    same_value binary64 (add binary64 z d) (round binary64 false k 1) q.fit n.fit q.is_finite n.is_finite (q.sign_is ∙ g ∙ sym n.sign_is) (q.mag_given ∙ w ∙ sym n.mag_given)
  where
    off : (k s l : ℕ) → (k + s) * l - s * l ≡ k * l
    off k s l = omega (arith, add-mul k s l)

-- the whole way
pub found_by_times : (k : ℕ) → k ≤ most → sub binary64 (add binary64 (mul binary64 (thousandths false k) thousand) shifter) shifter ≡ of_int binary64 (pos k)
found_by_times k h = unshifted k (add binary64 (mul binary64 (thousandths false k) thousand) shifter) h (shifted k (mul binary64 (thousandths false k) thousand) h (times_thousand k h))

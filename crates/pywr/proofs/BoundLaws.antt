-- Bounds as exact amounts meet them: a tightened interval is met exactly where both are. Assumes nothing.
use mathlib.Core.Path.{◌≡◌, refl, ap, ◌∙◌, subst}
use mathlib.Core.Logic.{◌↔◌}
use mathlib.Core.Bool.{◌||◌}
use lib.IntN.{ℤ, pos, ◌*ℤ◌, *ℤ_comm}
use lib.Signed.{le_z}
use lib.Dec.{T}
use lib.Ieee.{Float, nan, inf, fin, binary64, fits, le, neg, of_bits}
use lib.Ieee.Fits.{and_i, and_l, and_r}
use lib.Ieee.Scale.{finite}
use Rattle.doubles.specs.Units.{Num, rank}
use Rattle.doubles.specs.Bounds.{larger, smaller, meets_lower, meets_upper}
use Rattle.doubles.proofs.Order.{larger_num, smaller_num}
use Rattle.doubles.proofs.Bounds.{lower_weaker, lower_both, upper_weaker, upper_both}
use Rattle.pywr.specs.declared.Sentinel.{Sentinel}
use Rattle.pywr.specs.declared.Sentinel.TheVariants.{Infinity, Largest}
use Rattle.pywr.specs.declared.Interval.{Interval}
use Rattle.pywr.specs.Numbers.{high, low, lesser, greater}
use Rattle.pywr.specs.Interval.{tighten}
use Rattle.pywr.specs.Plans.{exact, meets, units_in_one, is_finite, times_one, lower_met, upper_met}
use Rattle.pywr.proofs.ExactLaws.{units_pos, exact_rank}

-- what a bound has to be: a double, and no NaN
abbrev pub IsBound : Float → Type 0
IsBound x = Num binary64 x

pub high_bound : (w : Sentinel) → IsBound (high w)
unfolding high of_bits fits
high_bound Infinity = (tt, tt)
high_bound Largest = (tt, tt)

times_one_rank : (x : Float) → T (fits binary64 x) → T (finite x) → times_one (exact x) ≡ pos units_in_one *ℤ rank binary64 x
unfolding times_one
times_one_rank x p n = *ℤ_comm (exact x) (pos units_in_one) ∙ ap (λ (z : ℤ). pos units_in_one *ℤ z) (exact_rank x p n)

pub lower_is : (w : Sentinel) (x : Float) (v : ℤ) → IsBound x → lower_met w x v ≡ meets_lower binary64 units_in_one (high w) v x
unfolding lower_met is_finite low
lower_is w nan v b = absurd b.1
lower_is w (inf s) v b = refl
lower_is w (fin s m e) v b = ap (λ (z : ℤ). le (fin s m e) (neg (high w)) || le_z z v) (times_one_rank (fin s m e) b.0 tt)

pub upper_is : (w : Sentinel) (x : Float) (v : ℤ) → IsBound x → upper_met w x v ≡ meets_upper binary64 units_in_one (high w) v x
unfolding upper_met is_finite
upper_is w nan v b = absurd b.1
upper_is w (inf s) v b = refl
upper_is w (fin s m e) v b = ap (λ (z : ℤ). le (high w) (fin s m e) || le_z v z) (times_one_rank (fin s m e) b.0 tt)

-- what meets a bound meets every weaker one
pub lower_mono : (w : Sentinel) (x y : Float) (v : ℤ) → IsBound x → IsBound y → T (le x y) → T (lower_met w y v) → T (lower_met w x v)
lower_mono w x y v bx by h k = rw (lower_is w x v bx) (lower_weaker binary64 units_in_one units_pos (high w) (high_bound w) v x y bx by h (subst T (lower_is w y v by) k))

pub upper_mono : (w : Sentinel) (x y : Float) (v : ℤ) → IsBound x → IsBound y → T (le x y) → T (upper_met w x v) → T (upper_met w y v)
upper_mono w x y v bx by h k = rw (upper_is w y v by) (upper_weaker binary64 units_in_one units_pos (high w) (high_bound w) v x y bx by h (subst T (upper_is w x v bx) k))

module _ (w : Sentinel) (v : ℤ) (x y : Float) (bx : IsBound x) (by : IsBound y) where
  greater_met : T (lower_met w (greater x y) v) ↔ (T (lower_met w x v) × T (lower_met w y v))
  unfolding greater
  greater_met = rw (lower_is w (larger x y) v (larger_num binary64 x y bx by), lower_is w x v bx, lower_is w y v by) (lower_both binary64 units_in_one units_pos (high w) (high_bound w) v x y bx by)

  lesser_met : T (upper_met w (lesser x y) v) ↔ (T (upper_met w x v) × T (upper_met w y v))
  unfolding lesser
  lesser_met = rw (upper_is w (smaller x y) v (smaller_num binary64 x y bx by), upper_is w x v bx, upper_is w y v by) (upper_both binary64 units_in_one units_pos (high w) (high_bound w) v x y bx by)

pub record IsInterval (i : Interval) : Type 0 where
  pub lower : IsBound i.lower
  pub upper : IsBound i.upper

-- "On a shared row": what meets the tightened interval meets both, and the other way round
pub tighten_met : (w : Sentinel) (a b : Interval) (v : ℤ) → IsInterval a → IsInterval b → T (meets w (tighten a b) v) ↔ (T (meets w a v) × T (meets w b v))
unfolding meets tighten
tighten_met w a b v ia ib =
    let g = greater_met w v a.lower b.lower ia.lower ib.lower in
    let l = lesser_met w v a.upper b.upper ia.upper ib.upper in (
      λ h.
          let p = g.0 (and_l (lower_met w (greater a.lower b.lower) v) (upper_met w (lesser a.upper b.upper) v) h) in
          let q = l.0 (and_r (lower_met w (greater a.lower b.lower) v) (upper_met w (lesser a.upper b.upper) v) h) in
          (and_i (lower_met w a.lower v) (upper_met w a.upper v) p.0 q.0, and_i (lower_met w b.lower v) (upper_met w b.upper v) p.1 q.1),
      λ h.
          and_i (lower_met w (greater a.lower b.lower) v) (upper_met w (lesser a.upper b.upper) v)
          (g.1 (and_l (lower_met w a.lower v) (upper_met w a.upper v) h.0, and_l (lower_met w b.lower v) (upper_met w b.upper v) h.1))
          (l.1 (and_r (lower_met w a.lower v) (upper_met w a.upper v) h.0, and_r (lower_met w b.lower v) (upper_met w b.upper v) h.1)),
    )

-- Bounds that tighten: an amount meets the larger of two lower bounds exactly if it meets both, and the sentinel binds nothing; and so for the smaller
-- of two upper bounds, which are lower bounds with the signs turned. The sentinel may be an infinity or a finite value: nothing here asks which.
-- Assumes nothing.
use mathlib.Core.Path.{◌≡◌, sym, ap, ap₂, ◌∙◌, subst}
use mathlib.Core.Logic.{◌↔◌}
use Prim.Native.Nat.{ℕ, ◌<◌}
use mathlib.Core.Bool.{Bool, true, false, ◌&&◌, ◌||◌}
use lib.IntN.{ℤ, pos, neg_ℤ, ◌*ℤ◌}
use lib.Dec.{T}
use lib.Signed.{le_z}
use lib.Ieee.{Float, nan, inf, fin, Format, neg, lt, le}
use lib.Ieee.Fits.{and_l, and_r}
use lib.Ieee.Scale.{finite}
use Rattle.laws.proofs.Tests.{or_l, or_r, or_elim, cond_both}
use Rattle.doubles.specs.Units.{Num, rank}
use Rattle.doubles.specs.Bounds.{larger, smaller, meets_lower, meets_upper}
use Rattle.doubles.proofs.Integers.{le_z_trans, le_z_neg, scale_le, mul-negℤ}
use Rattle.doubles.proofs.Units.{neg_rank, neg_finite}
use Rattle.doubles.proofs.Order.{neg_num, le→Z, lt_le, le_refl_num, le_trans_num, not_lt_le, le_neg, smaller_num, neg_smaller, least_le, not_over_finite}

module _ (f : Format) (p : ℕ) (P : 0 < p) (h : Float) (H : Num f h) where
  abbrev lower : ℤ → Float → Bool
  lower a x = meets_lower f p h a x

  -- what meets a lower bound meets every weaker one
  pub lower_weaker : (a : ℤ) (x y : Float) → Num f x → Num f y → T (le x y) → T (lower a y) → T (lower a x)
  lower_weaker a x y r q k m =
      or_elim (le y (neg h)) (finite y && le_z (pos p *ℤ rank f y) a) m
      (λ u. or_l (le x (neg h)) (finite x && le_z (pos p *ℤ rank f x) a) (le_trans_num f x y (neg h) r q (neg_num f h H) k u)) (go x r k)
    where
      go : (x : Float) → Num f x → T (le x y) → T (finite y && le_z (pos p *ℤ rank f y) a) → T (lower a x)
      go nan r k u = absurd r.1
      go (inf true) r k u = or_l (le (inf true) (neg h)) false (least_le (neg h) (neg_num f h H).1)
      go (inf false) r k u = absurd (not_over_finite y (and_l (finite y) (le_z (pos p *ℤ rank f y) a) u) k)
      go (fin s m e) r k u =
          let x : Float = fin s m e in
          or_r (le x (neg h)) (le_z (pos p *ℤ rank f x) a)
          (le_z_trans (pos p *ℤ rank f x) (pos p *ℤ rank f y) a (subst T (sym (scale_le p (rank f x) (rank f y) P)) (le→Z f x y r q k)) (and_r (finite y) (le_z (pos p *ℤ rank f y) a) u))

  pub lower_both : (a : ℤ) (x y : Float) → Num f x → Num f y → T (lower a (larger x y)) ↔ (T (lower a x) × T (lower a y))
  lower_both a x y r q =
      cond_both (λ (z : Float). T (lower a z) ↔ (T (lower a x) × T (lower a y))) (lt x y) y x
      (λ t. (λ m. (lower_weaker a x y r q (lt_le x y t) m, m), λ m. m.1))
      (λ t. (λ m. (m, lower_weaker a y x q r (not_lt_le f x y r q t) m), λ m. m.0))

  pub lower_free : (a : ℤ) → T (lower a (neg h))
  lower_free a = or_l (le (neg h) (neg h)) (finite (neg h) && le_z (pos p *ℤ rank f (neg h)) a) (le_refl_num f (neg h) (neg_num f h H))

  -- an upper bound is a lower bound with the signs turned
  pub upper_is_lower : (a : ℤ) (x : Float) → Num f x → meets_upper f p h a x ≡ lower (neg_ℤ a) (neg x)
  upper_is_lower a x r =
      ap₂ (λ (u v : Bool). u || v) (sym (le_neg f h x H r))
      (ap₂ (λ (u v : Bool). u && v) (sym (neg_finite x))
      (sym (le_z_neg a (pos p *ℤ rank f x)) ∙ ap (λ (z : ℤ). le_z z (neg_ℤ a)) (sym (mul-negℤ (pos p) (rank f x)) ∙ ap (λ (z : ℤ). pos p *ℤ z) (sym (neg_rank f x r.1)))))

  pub upper_weaker : (a : ℤ) (x y : Float) → Num f x → Num f y → T (le x y) → T (meets_upper f p h a x) → T (meets_upper f p h a y)
  upper_weaker a x y r q k m =
      rw (upper_is_lower a y q)
      (lower_weaker (neg_ℤ a) (neg y) (neg x) (neg_num f y q) (neg_num f x r) (subst T (sym (le_neg f x y r q)) k) (subst T (upper_is_lower a x r) m))

  pub upper_both : (a : ℤ) (x y : Float) → Num f x → Num f y → T (meets_upper f p h a (smaller x y)) ↔ (T (meets_upper f p h a x) × T (meets_upper f p h a y))
  upper_both a x y r q =
      rw (upper_is_lower a (smaller x y) (smaller_num f x y r q), neg_smaller f x y r q, upper_is_lower a x r, upper_is_lower a y q)
      (lower_both (neg_ℤ a) (neg x) (neg y) (neg_num f x r) (neg_num f y q))

  pub upper_free : (a : ℤ) → T (meets_upper f p h a h)
  upper_free a = rw (upper_is_lower a h H) (lower_free (neg_ℤ a))

-- The order of doubles that are no NaN, by their ranks: transitivity, negation, the larger and the smaller of two, and what lies between finite values.
-- Assumes nothing.
use mathlib.Core.Path.{◌≡◌, sym, ap, ap₂, ◌∙◌, subst}
use mathlib.Core.Bool.{Bool, true, false, not, cond}
use lib.IntN.{ℤ}
use lib.Dec.{T, not_T}
use lib.Signed.{le_z, lt_z}
use lib.Ieee.{Float, nan, inf, fin, Format, neg, lt, le, eq}
use lib.Ieee.Fits.{neg-fits, cond-fits}
use lib.Ieee.Scale.{finite}
use Rattle.laws.proofs.Tests.{or_l, ap_cond}
use Rattle.doubles.specs.Integers.{max_z, min_z}
use Rattle.doubles.specs.Units.{number, Num, rank}
use Rattle.doubles.specs.Bounds.{larger, smaller}
use Rattle.doubles.proofs.Integers.{ints, le_z_trans, le_z_refl, le_z_neg, lt_z_neg}
use Rattle.doubles.proofs.Units.{lt_is, le_is, neg_rank}

-- ---- numbers

neg_number : (x : Float) → T (number x) → T (number (neg x))
unfolding neg
neg_number nan n = n
neg_number (inf s) n = tt
neg_number (fin s m e) n = tt

pub neg_num : (f : Format) (x : Float) → Num f x → Num f (neg x)
neg_num f x p = (neg-fits f x p.0, neg_number x p.1)

cond_number : (b : Bool) (x y : Float) → T (number x) → T (number y) → T (number (cond b x y))
cond_number true x y p q = p
cond_number false x y p q = q

pub cond_num : (f : Format) (b : Bool) (x y : Float) → Num f x → Num f y → Num f (cond b x y)
cond_num f b x y p q = (cond-fits f b x y p.0 q.0, cond_number b x y p.1 q.1)

pub lt_le : (x y : Float) → T (lt x y) → T (le x y)
unfolding le
lt_le x y t = or_l (lt x y) (eq x y) t

module _ (f : Format) where
  module _ (x y : Float) (p : Num f x) (q : Num f y) where
    pub le_rank : le x y ≡ le_z (rank f x) (rank f y)
    le_rank = le_is f x y p.0 q.0 p.1 q.1

    pub lt_rank : lt x y ≡ lt_z (rank f x) (rank f y)
    lt_rank = lt_is f x y p.0 q.0 p.1 q.1

    pub le→Z : T (le x y) → T (le_z (rank f x) (rank f y))
    le→Z t = subst T le_rank t

    pub Z→le : T (le_z (rank f x) (rank f y)) → T (le x y)
    Z→le t = subst T (sym le_rank) t

  pub le_refl_num : (x : Float) → Num f x → T (le x x)
  le_refl_num x p = Z→le x x p p (le_z_refl (rank f x))

  pub le_trans_num : (x y z : Float) → Num f x → Num f y → Num f z → T (le x y) → T (le y z) → T (le x z)
  le_trans_num x y z p q r h k = Z→le x z p r (le_z_trans (rank f x) (rank f y) (rank f z) (le→Z x y p q h) (le→Z y z q r k))

  pub not_lt_le : (x y : Float) → Num f x → Num f y → T (not (lt x y)) → T (le y x)
  not_lt_le x y p q t = let u : T (not (lt_z (rank f x) (rank f y))) = subst (λ (b : Bool). T (not b)) (lt_rank x y p q) t in Z→le y x q p (omega ints)

  pub le_not_lt : (x y : Float) → Num f x → Num f y → T (le y x) → T (not (lt x y))
  le_not_lt x y p q t = not_T (lt x y) (λ u. let v = subst T (lt_rank x y p q) u in let w = le→Z y x q p t in omega ints)

  pub le_neg : (x y : Float) → Num f x → Num f y → le (neg y) (neg x) ≡ le x y
  le_neg x y p q =
      le_rank (neg y) (neg x) (neg_num f y q) (neg_num f x p)
      ∙ ap₂ (λ (a b : ℤ). le_z a b) (neg_rank f y q.1) (neg_rank f x p.1)
      ∙ le_z_neg (rank f x) (rank f y)
      ∙ sym (le_rank x y p q)

  pub lt_neg : (x y : Float) → Num f x → Num f y → lt (neg y) (neg x) ≡ lt x y
  lt_neg x y p q =
      lt_rank (neg y) (neg x) (neg_num f y q) (neg_num f x p)
      ∙ ap₂ (λ (a b : ℤ). lt_z a b) (neg_rank f y q.1) (neg_rank f x p.1)
      ∙ lt_z_neg (rank f x) (rank f y)
      ∙ sym (lt_rank x y p q)

  -- ---- the larger and the smaller of two

  module _ (x y : Float) (p : Num f x) (q : Num f y) where
    pub larger_num : Num f (larger x y)
    larger_num = cond_num f (lt x y) y x q p

    pub smaller_num : Num f (smaller x y)
    smaller_num = cond_num f (lt y x) y x q p

    pub larger_rank : rank f (larger x y) ≡ max_z (rank f x) (rank f y)
    larger_rank = ap_cond (rank f) (lt x y) y x ∙ ap (λ (b : Bool). cond b (rank f y) (rank f x)) (lt_rank x y p q)

    pub smaller_rank : rank f (smaller x y) ≡ min_z (rank f x) (rank f y)
    smaller_rank = ap_cond (rank f) (lt y x) y x ∙ ap (λ (b : Bool). cond b (rank f y) (rank f x)) (lt_rank y x q p)

    pub neg_smaller : neg (smaller x y) ≡ larger (neg x) (neg y)
    neg_smaller = ap_cond neg (lt y x) y x ∙ ap (λ (b : Bool). cond b (neg y) (neg x)) (sym (lt_neg y x q p))

-- ---- the infinities

pub least_le : (y : Float) → T (number y) → T (le (inf true) y)
unfolding le lt eq
least_le nan n = n
least_le (inf true) n = tt
least_le (inf false) n = tt
least_le (fin s m e) n = tt

pub not_over_finite : (y : Float) → T (finite y) → T (le (inf false) y) → ⊥
unfolding le lt eq
not_over_finite nan t u = t
not_over_finite (inf s) t u = t
not_over_finite (fin s m e) t u = u

-- b finite, -b ≤ x and x ≤ b: x is finite
pub between_finite : (b x : Float) → T (finite b) → T (le (neg b) x) → T (le x b) → T (finite x)
unfolding le lt eq neg
between_finite nan x n h l = absurd n
between_finite (inf s) x n h l = absurd n
between_finite (fin s m e) nan n h l = h
between_finite (fin s m e) (inf true) n h l = h
between_finite (fin s m e) (inf false) n h l = l
between_finite (fin s m e) (fin t k d) n h l = tt

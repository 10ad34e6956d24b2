-- Integers: `omega` over them, the laws of the product, and the order under sums, negation and a positive factor. Assumes nothing.
use mathlib.Core.Path.{◌≡◌, refl, sym, ap, ◌∙◌, subst}
use Prim.Native.Nat.{ℕ, zero, suc, ◌+◌, ◌-◌, ◌*◌, ◌≤◌, ◌<◌}
use native.Mathlib.Nat.{mul-le-mul_left, le_of_mul-le-mul_left}
use native.Mathlib.Omega.{arith}
use mathlib.Core.Bool.{not, ◌&&◌, ◌||◌}
use lib.IntN.{ℤ, pos, negsuc, neg_ℤ, sub_ℕ, ◌+ℤ◌, ◌*ℤ◌, *ℤ_comm}
use lib.Dec.{T, not_T, ltb, eqb→eq, eqb_refl}
use lib.Signed.{le_z, lt_z}
use lib.Ieee.Fits.{and_i, and_l, and_r}
use Rattle.laws.proofs.Tests.{tests, same_test, or_l, or_r, or_elim, by_cases, cond_both}
use Rattle.doubles.specs.Integers.{plus, less, eq_z, max_z, min_z}

-- ---- equality and order as statements on naturals

pub ℤ-eq : (a b : ℤ) → plus a + less b ≡ plus b + less a → a ≡ b
ℤ-eq (pos a) (pos b) h = ap pos (let k : a + 0 ≡ b + 0 = h in omega arith)
ℤ-eq (pos a) (negsuc b) h = let k : a + suc b ≡ 0 + 0 = h in absurd (omega arith)
ℤ-eq (negsuc a) (pos b) h = let k : 0 + 0 ≡ b + suc a = h in absurd (omega arith)
ℤ-eq (negsuc a) (negsuc b) h = ap negsuc (let k : 0 + suc b ≡ 0 + suc a = h in omega arith)

pub eq→ℕ : (a b : ℤ) → a ≡ b → plus a + less b ≡ plus b + less a
eq→ℕ a b e = ap (λ (z : ℤ). plus z + less b) e ∙ sym (ap (λ (z : ℤ). plus b + less z) e)

pub le→ℕ : (a b : ℤ) → T (le_z a b) → plus a + less b ≤ plus b + less a
le→ℕ (pos a) (pos b) t = omega tests
le→ℕ (pos a) (negsuc b) t = absurd t
le→ℕ (negsuc a) (pos b) t = omega arith
le→ℕ (negsuc a) (negsuc b) t = omega tests

pub ℕ→le : (a b : ℤ) → plus a + less b ≤ plus b + less a → T (le_z a b)
ℕ→le (pos a) (pos b) h = omega tests
ℕ→le (pos a) (negsuc b) h = let k : a + suc b ≤ 0 + 0 = h in absurd (omega arith)
ℕ→le (negsuc a) (pos b) h = tt
ℕ→le (negsuc a) (negsuc b) h = omega tests

pub lt→ℕ : (a b : ℤ) → T (lt_z a b) → plus a + less b < plus b + less a
lt→ℕ (pos a) (pos b) t = omega tests
lt→ℕ (pos a) (negsuc b) t = absurd t
lt→ℕ (negsuc a) (pos b) t = omega arith
lt→ℕ (negsuc a) (negsuc b) t = omega tests

pub ℕ→lt : (a b : ℤ) → plus a + less b < plus b + less a → T (lt_z a b)
ℕ→lt (pos a) (pos b) h = omega tests
ℕ→lt (pos a) (negsuc b) h = let k : a + suc b < 0 + 0 = h in absurd (omega arith)
ℕ→lt (negsuc a) (pos b) h = tt
ℕ→lt (negsuc a) (negsuc b) h = omega tests

-- where the test fails
pub nlt→ℕ : (a b : ℤ) → T (not (lt_z a b)) → plus b + less a ≤ plus a + less b
nlt→ℕ (pos a) (pos b) t = omega tests
nlt→ℕ (pos a) (negsuc b) t = omega arith
nlt→ℕ (negsuc a) (pos b) t = absurd t
nlt→ℕ (negsuc a) (negsuc b) t = omega tests

pub ℕ→nlt : (a b : ℤ) → plus b + less a ≤ plus a + less b → T (not (lt_z a b))
ℕ→nlt a b h = not_T (lt_z a b) (λ t. let k = lt→ℕ a b t in omega arith)

-- with these `omega` reads and proves `T (le_z a b)`, `T (lt_z a b)`, its negation and `a ≡ b` of integers. Each sum, negation and product in them wants its law
-- in the list: `omega (ints, sum_is a b)`
pub ruleset ints = (arith, le→ℕ, ℕ→le, lt→ℕ, ℕ→lt, nlt→ℕ, ℕ→nlt, eq→ℕ, ℤ-eq)

-- ---- sum, negation, product

sub_is : (a b : ℕ) → plus (sub_ℕ a b) + b ≡ a + less (sub_ℕ a b)
sub_is a b = cond_both (λ (z : ℤ). plus z + b ≡ a + less z) (ltb a b) (negsuc (b - suc a)) (pos (a - b)) (λ t. omega tests) (λ t. omega tests)

pub sum_is : (a b : ℤ) → plus (a +ℤ b) + (less a + less b) ≡ plus a + plus b + less (a +ℤ b)
sum_is (pos a) (pos b) = omega arith
sum_is (pos a) (negsuc b) = omega (arith, sub_is a (suc b))
sum_is (negsuc a) (pos b) = omega (arith, sub_is b (suc a))
sum_is (negsuc a) (negsuc b) = omega arith

pub neg_plus : (a : ℤ) → plus (neg_ℤ a) ≡ less a
neg_plus (pos zero) = refl
neg_plus (pos (suc n)) = refl
neg_plus (negsuc n) = refl

pub neg_less : (a : ℤ) → less (neg_ℤ a) ≡ plus a
neg_less (pos zero) = refl
neg_less (pos (suc n)) = refl
neg_less (negsuc n) = refl

pub mul_is : (a b : ℤ) → plus (a *ℤ b) + (plus a * less b + less a * plus b) ≡ plus a * plus b + less a * less b + less (a *ℤ b)
mul_is (pos a) (pos b) = omega arith
mul_is (pos a) (negsuc b) = omega (arith, neg_plus (pos (a * suc b)), neg_less (pos (a * suc b)))
mul_is (negsuc a) (pos b) = omega (arith, neg_plus (pos (suc a * b)), neg_less (pos (suc a * b)))
mul_is (negsuc a) (negsuc b) = omega arith

pub add-mulℤ : (a b c : ℤ) → (a +ℤ b) *ℤ c ≡ a *ℤ c +ℤ b *ℤ c
add-mulℤ a b c =
    omega (ints, mul_is (a +ℤ b) c, mul_is a c, mul_is b c, sum_is (a *ℤ c) (b *ℤ c), ap (λ (z : ℕ). z * plus c) (sum_is a b), ap (λ (z : ℕ). z * less c) (sum_is a b))

pub mul-addℤ : (a b c : ℤ) → a *ℤ (b +ℤ c) ≡ a *ℤ b +ℤ a *ℤ c
mul-addℤ a b c = rw (*ℤ_comm a (b +ℤ c), *ℤ_comm a b, *ℤ_comm a c) (add-mulℤ b c a)

pub neg-mulℤ : (a b : ℤ) → neg_ℤ a *ℤ b ≡ neg_ℤ (a *ℤ b)
neg-mulℤ a b =
    omega (
      ints,
      mul_is (neg_ℤ a) b,
      mul_is a b,
      neg_plus (a *ℤ b),
      neg_less (a *ℤ b),
      ap (λ (z : ℕ). z * plus b) (neg_plus a),
      ap (λ (z : ℕ). z * less b)
          (neg_plus a),
      ap (λ (z : ℕ). z * plus b) (neg_less a),
      ap (λ (z : ℕ). z * less b) (neg_less a),
    )

pub mul-negℤ : (a b : ℤ) → a *ℤ neg_ℤ b ≡ neg_ℤ (a *ℤ b)
mul-negℤ a b = rw (*ℤ_comm a (neg_ℤ b), *ℤ_comm a b) (neg-mulℤ b a)

pub mul-assocℤ : (a b c : ℤ) → (a *ℤ b) *ℤ c ≡ a *ℤ (b *ℤ c)
mul-assocℤ a b c =
    omega (
      ints,
      mul_is (a *ℤ b) c,
      mul_is a (b *ℤ c),
      ap (λ (z : ℕ). z * plus c) (mul_is a b),
      ap (λ (z : ℕ). z * less c) (mul_is a b),
      ap
          (λ (z : ℕ). plus a * z) (mul_is b c),
      ap (λ (z : ℕ). less a * z) (mul_is b c),
    )

pub swap-addℤ : (a b c : ℤ) → a +ℤ (b +ℤ c) ≡ b +ℤ (a +ℤ c)
swap-addℤ a b c = omega (ints, sum_is a (b +ℤ c), sum_is b c, sum_is b (a +ℤ c), sum_is a c)

-- ---- order

pub le_z_refl : (a : ℤ) → T (le_z a a)
le_z_refl a = omega ints

pub le_z_trans : (a b c : ℤ) → T (le_z a b) → T (le_z b c) → T (le_z a c)
le_z_trans a b c h k = omega ints

pub le_z_antisym : (a b : ℤ) → T (le_z a b) → T (le_z b a) → a ≡ b
le_z_antisym a b h k = omega ints

pub le_z_add : (a b c d : ℤ) → T (le_z a b) → T (le_z c d) → T (le_z (a +ℤ c) (b +ℤ d))
le_z_add a b c d h k = omega (ints, sum_is a c, sum_is b d)

pub le_z_neg : (a b : ℤ) → le_z (neg_ℤ b) (neg_ℤ a) ≡ le_z a b
le_z_neg a b =
    same_test (le_z (neg_ℤ b) (neg_ℤ a)) (le_z a b)
    (λ h. omega (ints, neg_plus a, neg_less a, neg_plus b, neg_less b), λ h. omega (ints, neg_plus a, neg_less a, neg_plus b, neg_less b))

pub lt_z_neg : (a b : ℤ) → lt_z (neg_ℤ b) (neg_ℤ a) ≡ lt_z a b
lt_z_neg a b =
    same_test (lt_z (neg_ℤ b) (neg_ℤ a)) (lt_z a b)
    (λ h. omega (ints, neg_plus a, neg_less a, neg_plus b, neg_less b), λ h. omega (ints, neg_plus a, neg_less a, neg_plus b, neg_less b))

-- a positive factor
pub scale_le : (p : ℕ) (a b : ℤ) → 0 < p → le_z (pos p *ℤ a) (pos p *ℤ b) ≡ le_z a b
scale_le p a b P =
    same_test (le_z (pos p *ℤ a) (pos p *ℤ b)) (le_z a b) (
      λ h. ℕ→le a b (le_of_mul-le-mul_left (omega (arith, mul_is (pos p) a, mul_is (pos p) b, le→ℕ (pos p *ℤ a) (pos p *ℤ b) h)) P),
      λ h. ℕ→le (pos p *ℤ a) (pos p *ℤ b) (omega (arith, mul_is (pos p) a, mul_is (pos p) b, mul-le-mul_left p (le→ℕ a b h))),
    )

pub scale_lt : (p : ℕ) (a b : ℤ) → 0 < p → lt_z (pos p *ℤ a) (pos p *ℤ b) ≡ lt_z a b
scale_lt p a b P =
    same_test (lt_z (pos p *ℤ a) (pos p *ℤ b)) (lt_z a b) (
      λ h. by_cases (lt_z a b) (λ t. t) (λ t. let k = subst T (sym (scale_le p b a P)) (omega ints) in absurd (omega ints)),
      λ h. by_cases (lt_z (pos p *ℤ a) (pos p *ℤ b)) (λ t. t) (λ t. let k = subst T (scale_le p b a P) (omega ints) in absurd (omega ints)),
    )

pub scale_eq : (p : ℕ) (a b : ℤ) → 0 < p → pos p *ℤ a ≡ pos p *ℤ b → a ≡ b
scale_eq p a b P e =
    le_z_antisym a b (subst T (scale_le p a b P) (subst (λ (z : ℤ). T (le_z (pos p *ℤ a) z)) e (le_z_refl (pos p *ℤ a))))
    (subst T (scale_le p b a P) (subst (λ (z : ℤ). T (le_z z (pos p *ℤ a))) e (le_z_refl (pos p *ℤ a))))

-- 0 ≤ b - a
pub difference_le : (a b : ℤ) → le_z (pos 0) (b +ℤ neg_ℤ a) ≡ le_z a b
difference_le a b =
    same_test (le_z (pos 0) (b +ℤ neg_ℤ a)) (le_z a b)
    (λ h. omega (ints, sum_is b (neg_ℤ a), neg_plus a, neg_less a), λ h. omega (ints, sum_is b (neg_ℤ a), neg_plus a, neg_less a))

-- ---- equality as a test

pub eqZ→eq : (a b : ℤ) → T (eq_z a b) → a ≡ b
eqZ→eq (pos a) (pos b) t = ap pos (eqb→eq a b t)
eqZ→eq (pos a) (negsuc b) t = absurd t
eqZ→eq (negsuc a) (pos b) t = absurd t
eqZ→eq (negsuc a) (negsuc b) t = ap negsuc (eqb→eq a b t)

pub eq→eqZ : (a b : ℤ) → a ≡ b → T (eq_z a b)
eq→eqZ a b e = subst (λ (z : ℤ). T (eq_z a z)) e (self a)
  where
    self : (a : ℤ) → T (eq_z a a)
    self (pos a) = eqb_refl a
    self (negsuc a) = eqb_refl a

pub le_z_split : (a b : ℤ) → le_z a b ≡ lt_z a b || eq_z a b
le_z_split a b =
    same_test (le_z a b) (lt_z a b || eq_z a b) (
      λ h. by_cases (lt_z a b) (λ t. or_l (lt_z a b) (eq_z a b) t) (λ t. or_r (lt_z a b) (eq_z a b) (eq→eqZ a b (omega ints))),
      λ h. or_elim (lt_z a b) (eq_z a b) h (λ t. omega ints) (λ t. let e = eqZ→eq a b t in omega ints),
    )

-- ---- a bound by the smaller, and by the larger, of two

pub le_min : (a b c : ℤ) → le_z a (min_z b c) ≡ le_z a b && le_z a c
le_min a b c =
    cond_both (λ (z : ℤ). le_z a z ≡ le_z a b && le_z a c) (lt_z c b) c b
    (λ t. same_test (le_z a c) (le_z a b && le_z a c) (λ h. and_i (le_z a b) (le_z a c) (omega ints) h, λ h. and_r (le_z a b) (le_z a c) h))
    (λ t. same_test (le_z a b) (le_z a b && le_z a c) (λ h. and_i (le_z a b) (le_z a c) h (omega ints), λ h. and_l (le_z a b) (le_z a c) h))

pub max_le : (a b c : ℤ) → le_z (max_z a b) c ≡ le_z a c && le_z b c
max_le a b c =
    cond_both (λ (z : ℤ). le_z z c ≡ le_z a c && le_z b c) (lt_z a b) b a
    (λ t. same_test (le_z b c) (le_z a c && le_z b c) (λ h. and_i (le_z a c) (le_z b c) (omega ints) h, λ h. and_r (le_z a c) (le_z b c) h))
    (λ t. same_test (le_z a c) (le_z a c && le_z b c) (λ h. and_i (le_z a c) (le_z b c) h (omega ints), λ h. and_l (le_z a c) (le_z b c) h))

-- Tests: a Bool, and the fact that it stands for. Assumes nothing.
use mathlib.Core.Path.{◌≡◌, refl, sym, subst}
use mathlib.Core.Logic.{◌↔◌}
use Prim.Native.Nat.{ℕ, ◌<◌, ◌≤◌}
use native.Mathlib.Omega.{arith}
use mathlib.Core.Bool.{Bool, true, false, not, cond, ◌||◌}
use lib.Dec.{T, not_T, leb, ltb, eqb, leb→le, le→leb, nleb→lt, ltb→lt, lt→ltb, nltb→le, eqb→eq}
use lib.Ieee.Fits.{eq→eqb}

-- ---- numbers: with this set `omega` reads and proves `T (leb a b)`, `T (ltb a b)`, `T (eqb a b)` and their negations

pub lt→nleb : (m n : ℕ) → n < m → T (not (leb m n))
lt→nleb m n h = not_T (leb m n) (λ t. let k = leb→le m n t in omega arith)

pub le→nltb : (m n : ℕ) → n ≤ m → T (not (ltb m n))
le→nltb m n h = not_T (ltb m n) (λ t. let k = ltb→lt m n t in omega arith)

pub ruleset tests = (arith, leb→le, le→leb, nleb→lt, lt→nleb, ltb→lt, lt→ltb, nltb→le, le→nltb, eqb→eq, eq→eqb)

-- ---- truth

pub same_test : (a b : Bool) → T a ↔ T b → a ≡ b
same_test true true h = refl
same_test true false h = absurd (h.0 tt)
same_test false true h = absurd (h.1 tt)
same_test false false h = refl

pub of_true : (b : Bool) → b ≡ true → T b
of_true b e = subst T (sym e) tt

pub to_true : (b : Bool) → T b → b ≡ true
to_true true t = refl
to_true false t = absurd t

pub to_false : (b : Bool) → T (not b) → b ≡ false
to_false true t = absurd t
to_false false t = refl

-- ---- either test

pub or_l : (a b : Bool) → T a → T (a || b)
or_l true b t = tt
or_l false b t = absurd t

pub or_r : (a b : Bool) → T b → T (a || b)
or_r true b t = tt
or_r false b t = t

pub or_elim : {X : Type 0} (a b : Bool) → T (a || b) → (T a → X) → (T b → X) → X
or_elim true b t f g = f tt
or_elim false b t f g = g t

-- ---- a test decided

pub by_cases : {X : Type 0} (b : Bool) → (T b → X) → (T (not b) → X) → X
by_cases true f g = f tt
by_cases false f g = g tt

pub cond_yes : {X : Type 0} (b : Bool) (x y : X) → T b → cond b x y ≡ x
cond_yes true x y t = refl
cond_yes false x y t = absurd t

pub cond_no : {X : Type 0} (b : Bool) (x y : X) → T (not b) → cond b x y ≡ y
cond_no true x y t = absurd t
cond_no false x y t = refl

pub ap_cond : {X Y : Type 0} (g : X → Y) (b : Bool) (x y : X) → g (cond b x y) ≡ cond b (g x) (g y)
ap_cond g true x y = refl
ap_cond g false x y = refl

-- what holds of either answer holds of the answer
pub cond_both : {X : Type 0} (P : X → Type 0) (b : Bool) (x y : X) → (T b → P x) → (T (not b) → P y) → P (cond b x y)
cond_both P true x y f g = f tt
cond_both P false x y f g = g tt

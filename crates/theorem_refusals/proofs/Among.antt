-- Refusals among a set of numbers: each way to make a result. Assumes nothing.
use mathlib.Core.Path.{◌≡◌, refl, subst}
use Prim.Native.Nat.{ℕ, suc}
use mathlib.Core.Bool.{Bool, true, false}
use mathlib.Core.List.{List, [], ◌∷◌}
use mathlib.Core.Option.{Option, none, some}
use lib.Dec.{T}
use Rattle.pywr.specs.Result.{value, Result, refused, ◌>>=◌, need, first_refused, refused_if}
use Rattle.pywr.specs.Bytes.{u8, u16, u32, bits64, checked}
use Rattle.theorem_refusals.specs.RefusalNumbers.{Among, passed, told}

pub bind_among : {numbers : ℕ → Bool} {A B : Type 0} (r : Result A) (k : A → Result B) → Among numbers r → ((x : A) → Among numbers (k x)) → Among numbers (r >>= k)
unfolding ◌>>=◌
bind_among (value x) k h g = g x
bind_among (refused n p) k (told t) g = told t

pub need_among : {numbers : ℕ → Bool} {A : Type 0} (ok : Bool) (n p : ℕ) (x : A) → T (numbers n) → Among numbers (need ok n p x)
unfolding need
need_among true n p x t = passed
need_among false n p x t = told t

pub checked_among : {numbers : ℕ → Bool} (n p : ℕ) (ok : ℕ → Bool) (field : Result ℕ) → T (numbers n) → Among numbers field → Among numbers (checked n p ok field)
unfolding checked
checked_among n p ok field t h = bind_among field _ h (λ x. need_among (ok x) n p x t)

module _ {numbers : ℕ → Bool} (file : List ℕ) (place short : ℕ) (t : T (numbers short)) where
  pub u8_among : (at : ℕ) → Among numbers (u8 file place short at)
  unfolding u8
  u8_among at = need_among _ short place _ t

  pub u16_among : (at : ℕ) → Among numbers (u16 file place short at)
  unfolding u16
  u16_among at = need_among _ short place _ t

  pub u32_among : (at : ℕ) → Among numbers (u32 file place short at)
  unfolding u32
  u32_among at = need_among _ short place _ t

  pub bits_among : (at : ℕ) → Among numbers (bits64 file place short at)
  unfolding bits64
  bits_among at = need_among _ short place _ t

-- more numbers
pub more_among : {numbers more : ℕ → Bool} {A : Type 0} (r : Result A) → ((n : ℕ) → T (numbers n) → T (more n)) → Among numbers r → Among more r
more_among (value x) w h = passed
more_among (refused n p) w (told t) = told (w n t)

-- a test's numbers, asked of a list
pub first_among : {numbers : ℕ → Bool} {A B : Type 0} (test : ℕ → A → Option ℕ) → ((i : ℕ) (x : A) (n : ℕ) → test i x ≡ some n → T (numbers n)) → (i : ℕ) (xs : List A) (y : B)
    → Among numbers (refused_if y (first_refused test i xs))
unfolding first_refused refused_if
first_among test ok i [] y = passed
first_among {numbers} {A} {B} test ok i (x ∷ xs) y = go (test i x) refl (first_among test ok (suc i) xs y)
  where
    go : (o : Option ℕ) → test i x ≡ o → Among numbers (refused_if y (first_refused test (suc i) xs))
        → Among numbers {A = B} (refused_if y (elim o [ none ↦ first_refused test (suc i) xs | some number ↦ some (number, i) ]))
    go none q rest = rest
    go (some n) q rest = told (ok i x n q)

-- what a refusal's number is
pub number_among : {numbers : ℕ → Bool} {A : Type 0} (r : Result A) (n p : ℕ) → Among numbers r → r ≡ refused n p → T (numbers n)
number_among {numbers} {A} r n p h e = go (subst (λ (q : Result A). Among numbers q) e h)
  where
    go : Among numbers {A = A} (refused n p) → T (numbers n)
    go (told t) = t

-- The result of a reading or a call: a value, or one refusal. Assumes nothing.
use Rattle.std.specs.Prelude.{ℕ, suc, List, [], ◌∷◌, Bool, cond}
use Rattle.std.proofs.Math.Option.{Option, none, some}

-- "A refusal is its number and a place."
pub data Result (A : Type 0) : Type 0 where
  value : A → Result A
  refused : ℕ → ℕ → Result A

-- the first refusal ends the reading
infixl 20 ◌>>=◌
unfoldable pub ◌>>=◌ : {A B : Type 0} → Result A → (A → Result B) → Result B
value a >>= next = next a
refused number place >>= next = refused number place

-- x where the test passes, else the refusal
unfoldable pub need : {A : Type 0} → Bool → ℕ → ℕ → A → Result A
need ok number place x = cond ok (value x) (refused number place)

-- the first of a list at which the test gives a refusal: its number, and the place, which is the index; the first of the list has this one
unfoldable pub first_refused : {A : Type 0} → (ℕ → A → Option ℕ) → ℕ → List A → Option (ℕ × ℕ)
first_refused test index [] = none
first_refused test index (x ∷ xs) = elim (test index x) [ none ↦ first_refused test (suc index) xs | some number ↦ some (number, index) ]

-- x, or the refusal that was found
unfoldable pub refused_if : {A : Type 0} → A → Option (ℕ × ℕ) → Result A
refused_if x none = value x
refused_if x (some found) = refused found.0 found.1

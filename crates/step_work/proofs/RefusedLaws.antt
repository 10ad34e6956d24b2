-- The first refusal that a test gives of the intervals that a function numbers. Assumes nothing.
use mathlib.Core.Path.{◌≡◌, refl, ap, ◌∙◌}
use Prim.Native.Nat.{ℕ, zero, suc, ◌+◌, ◌<◌}
use native.Mathlib.Nat.{add-zero}
use native.Mathlib.Numerals.{add-one}
use native.Mathlib.Omega.{arith}
use mathlib.Core.Option.{Option, none, some}
use Rattle.pywr.specs.declared.Interval.{Interval}
use Rattle.pywr.specs.Result.{first_refused}
use Rattle.pywr.specs.Store.{entries}

later : (j k : ℕ) → j + 1 + k ≡ j + suc k
later j k = omega arith

module _ (test : ℕ → Interval → Option ℕ) (f : ℕ → Interval) where
  -- what the test says of interval k
  abbrev said : ℕ → Option ℕ
  said k = test k (f k)

  pub none_refused : (n j : ℕ) → ((k : ℕ) → k < n → said (j + k) ≡ none) → first_refused test j (entries f 1 j n) ≡ none
  unfolding entries first_refused
  none_refused zero j h = refl
  none_refused (suc n) j h =
      let e : said j ≡ none = simp add-zero at (h 0 (omega arith)) in
      rw (e, first_refused, ← (add-one j)) (none_refused n (j + 1) (λ k lt. ap said (later j k) ∙ h (suc k) (omega arith)))

  pub first_refused_lem : (n j i number : ℕ) → i < n → ((k : ℕ) → k < i → said (j + k) ≡ none) → said (j + i) ≡ some number
      → first_refused test j (entries f 1 j n) ≡ some (number, j + i)
  unfolding entries first_refused
  first_refused_lem zero j i number lt h e = absurd (omega arith)
  first_refused_lem (suc n) j zero number lt h e =
      let q : said j ≡ some number = simp add-zero at e in
      rw (q, first_refused, add-zero)
  first_refused_lem (suc n) j (suc i) number lt h e =
      let q : said j ≡ none = simp add-zero at (h 0 (omega arith)) in
      rw (q, first_refused, ← (add-one j), ← (later j i))
      (first_refused_lem n (j + 1) i number (omega arith) (λ k b. ap said (later j k) ∙ h (suc k) (omega arith)) (ap said (later j i) ∙ e))

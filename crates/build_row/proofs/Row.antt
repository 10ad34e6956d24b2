-- add_element on the row that two runs hold: an element put in its place, or added to the one that stands there. Assumes nothing.
use Prim.Native.Nat.{ℕ, zero, suc, ◌<◌, ◌≤◌, zero-le, suc-le-suc}
use mathlib.Core.Path.{◌≡◌, sym, ◌∙◌, ap}
use mathlib.Core.List.{List, [], ◌∷◌}
use native.Mathlib.Omega.{arith}
use native.Mathlib.Nat.{le_of_suc-le-suc}
use lib.ListN.{length, get_or, set}
use lib.Ieee.{Float, nan, binary64, add}
use Rattle.pywr.specs.Numbers.{zero64}
use Rattle.pywr.specs.Rows.{Element, element, add_element}
use Rattle.pywr.specs.Store.{elements_of}
use Rattle.pywr.proofs.ElementLaws.{add_none, add_under, add_at, add_over}
use Rattle.build_row.proofs.Insert.{placed}

module _ (c : ℕ) (x : Float) where
  pub row_placed : (cs : List ℕ) (xs : List Float) (p : ℕ) → length cs ≡ length xs
      → p ≤ length cs → ((k : ℕ) → k < p → get_or cs k 0 < c) → (p < length cs → c < get_or cs p 0)
      → elements_of (placed p c cs) (placed p (add binary64 zero64 x) xs) ≡ add_element c x (elements_of cs xs)
  unfolding elements_of
  row_placed [] [] zero e w under over = sym (add_none c x)
  row_placed [] [] (suc p) e w under over = absurd (omega arith)
  row_placed [] (y ∷ xs) p e w under over = absurd (omega arith)
  row_placed (d ∷ cs) [] p e w under over = absurd (omega arith)
  row_placed (d ∷ cs) (y ∷ xs) zero e w under over = sym (add_under c x (element d y) (elements_of cs xs) (over (suc-le-suc zero-le)))
  row_placed (d ∷ cs) (y ∷ xs) (suc p) e w under over =
      ap (λ (es : List Element). element d y ∷ es) (row_placed cs xs p (omega arith) (le_of_suc-le-suc w) (λ k h. under (suc k) (suc-le-suc h)) (λ h. over (suc-le-suc h)))
      ∙ sym (add_over c x (element d y) (elements_of cs xs) (under 0 (suc-le-suc zero-le)))

  pub row_added : (cs : List ℕ) (xs : List Float) (p : ℕ) → length cs ≡ length xs
      → p < length cs → ((k : ℕ) → k < p → get_or cs k 0 < c) → get_or cs p 0 ≡ c
      → elements_of cs (set xs p (add binary64 (get_or xs p nan) x)) ≡ add_element c x (elements_of cs xs)
  unfolding elements_of
  row_added [] xs p e w under at = absurd (omega arith)
  row_added (d ∷ cs) [] p e w under at = absurd (omega arith)
  row_added (d ∷ cs) (y ∷ xs) zero e w under at =
      ap (λ (k : ℕ). element k (add binary64 y x) ∷ elements_of cs xs) at ∙ sym (add_at c x (element d y) (elements_of cs xs) (sym at))
  row_added (d ∷ cs) (y ∷ xs) (suc p) e w under at =
      ap (λ (es : List Element). element d y ∷ es) (row_added cs xs p (omega arith) (le_of_suc-le-suc w) (λ k h. under (suc k) (suc-le-suc h)) at)
      ∙ sym (add_over c x (element d y) (elements_of cs xs) (under 0 (suc-le-suc zero-le)))

-- An element added to a row: the row is empty, or its first element's column is over, at or under the new one. Assumes nothing.
use mathlib.Core.Path.{◌≡◌, refl, sym, subst}
use Prim.Native.Nat.{ℕ, ◌<◌}
use native.Mathlib.Omega.{arith}
use mathlib.Core.Bool.{Bool, true, false}
use mathlib.Core.List.{List, [], ◌∷◌}
use lib.Dec.{ltb, eqb}
use lib.Ieee.{Float, binary64, add}
use borrow.Author.Tests.{ltb-true, ltb-false, eqb-true, eqb-false, lt-ltb, le-ltb, eq-eqb, ne_eqb}
use Rattle.pywr.specs.Numbers.{zero64}
use Rattle.pywr.specs.Rows.{Element, element, add_element}

pub add_none : (c : ℕ) (x : Float) → add_element c x [] ≡ element c (add binary64 zero64 x) ∷ []
unfolding add_element
add_none c x = refl

module _ (c : ℕ) (x : Float) (e : Element) (es : List Element) where
  -- a new element in front
  pub add_under : c < e.column → add_element c x (e ∷ es) ≡ element c (add binary64 zero64 x) ∷ e ∷ es
  unfolding add_element
  add_under h = rw (lt-ltb c e.column h)

  -- the value added to the first element's
  pub add_at : c ≡ e.column → add_element c x (e ∷ es) ≡ element c (add binary64 e.value x) ∷ es
  unfolding add_element
  add_at q = rw (le-ltb c e.column (omega arith), eq-eqb c e.column q)

  -- the element goes behind the first
  pub add_over : e.column < c → add_element c x (e ∷ es) ≡ e ∷ add_element c x es
  unfolding add_element
  add_over h = rw (le-ltb c e.column (omega arith), ne_eqb c e.column (λ q. omega arith))

  -- what holds in each of the three cases holds of the row
  pub add_cases : (P : List Element → Type 0) → (c < e.column → P (element c (add binary64 zero64 x) ∷ e ∷ es))
      → (c ≡ e.column → P (element c (add binary64 e.value x) ∷ es)) → (e.column < c → P (e ∷ add_element c x es)) → P (add_element c x (e ∷ es))
  add_cases P under at over = go (ltb c e.column) refl (eqb c e.column) refl
    where
      go : (a : Bool) → ltb c e.column ≡ a → (b : Bool) → eqb c e.column ≡ b → P (add_element c x (e ∷ es))
      go true p b q = let h = ltb-true c e.column p in subst P (sym (add_under h)) (under h)
      go false p true q = let h = eqb-true c e.column q in subst P (sym (add_at h)) (at h)
      go false p false q =
          let l = ltb-false c e.column p in
          let n = eqb-false c e.column q in
          let h : e.column < c = omega arith in
          subst P (sym (add_over h)) (over h)

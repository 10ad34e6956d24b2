-- Looking for a column in a row from the row's end. Assumes nothing.
use mathlib.Core.Path.{◌≡◌, sym, ◌∙◌, ap}
use Prim.Native.Nat.{ℕ, suc, ◌-◌, ◌≤◌, ◌<◌}
use native.Mathlib.Omega.{arith}
use mathlib.Core.Bool.{true, false, ◌||◌, or-true, or-false, or_assoc}
use mathlib.Core.List.{List, [], ◌∷◌, ◌++◌}
use lib.ListN.{length, get_or, take, drop_of_length-le, length-take}
use lib.Seq.{slice, take-suc, drop-append-le, length-take-le}
use lib.Dec.{eqb}
use borrow.Author.Tests.{eq-eqb, ne_eqb}
use Rattle.pywr.specs.Network.{listed}

listed_last : (c : ℕ) (xs : List ℕ) (x : ℕ) → listed c (xs ++ (x ∷ [])) ≡ (listed c xs || eqb c x)
unfolding listed
listed_last c [] x = or-false (eqb c x)
listed_last c (y ∷ xs) x = rw (listed_last c xs x) (sym (or_assoc (eqb c y) (listed c xs) (eqb c x)))

module _ (c : ℕ) (columns : List ℕ) (start k : ℕ) where
  last_of : start < k → k ≤ length columns → listed c (slice start k columns) ≡ (listed c (slice start (k - 1) columns) || eqb c (get_or columns (k - 1) 0))
  last_of lt le =
      let q : k ≡ suc (k - 1) = omega arith in
      let room : start ≤ length (take (k - 1) columns) = omega (arith, length-take-le (k - 1) columns (omega arith)) in
      ap (λ (j : ℕ). listed c (slice start j columns)) q
      ∙ rw (take-suc columns (k - 1) 0 (omega arith), drop-append-le start (take (k - 1) columns) (get_or columns (k - 1) 0 ∷ []) room)
      (listed_last c (slice start (k - 1) columns) (get_or columns (k - 1) 0))

  pub found : start < k → k ≤ length columns → c ≡ get_or columns (k - 1) 0 → listed c (slice start k columns) ≡ true
  found lt le e = last_of lt le ∙ rw (eq-eqb c (get_or columns (k - 1) 0) e) (or-true (listed c (slice start (k - 1) columns)))

  pub further : start < k → k ≤ length columns → (c ≡ get_or columns (k - 1) 0 → ⊥) → listed c (slice start k columns) ≡ listed c (slice start (k - 1) columns)
  further lt le n = last_of lt le ∙ rw (ne_eqb c (get_or columns (k - 1) 0) n) (or-false (listed c (slice start (k - 1) columns)))

  pub absent : k ≤ start → listed c (slice start k columns) ≡ false
  unfolding listed
  absent le = rw (drop_of_length-le (take k columns) {i = start} (omega (arith, length-take k columns)))

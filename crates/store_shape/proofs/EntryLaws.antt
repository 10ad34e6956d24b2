-- The entries of a table by number. Assumes nothing.
use mathlib.Core.Path.{◌≡◌, refl, sym, ap, ap₂, ◌∙◌}
use Prim.Native.Nat.{ℕ, zero, suc, ◌+◌, ◌*◌, ◌<◌}
use native.Mathlib.Omega.{arith}
use mathlib.Core.List.{List, ◌∷◌, map}
use lib.ListN.{get_or}
use Rattle.pywr.specs.Store.{entries}
pub use Rattle.pywr.proofs.EntryLaws.{first_entry, next_entry, entries_length}

module _ {A : Type 0} where
  pub entries_at : (entry : ℕ → A) (words at count k : ℕ) (d : A) → k < count → get_or (entries entry words at count) k d ≡ entry (at + words * k)
  unfolding entries
  entries_at entry words at zero k d lt = absurd (omega arith)
  entries_at entry words at (suc count) zero d lt = ap entry (first_entry words at)
  entries_at entry words at (suc count) (suc k) d lt = entries_at entry words (at + words) count k d (omega arith) ∙ ap entry (next_entry words at k)

  -- two tables with equal entries, at places of their own
  pub entries_same : (f g : ℕ → A) (v w i j count : ℕ) → ((k : ℕ) → k < count → f (i + v * k) ≡ g (j + w * k)) → entries f v i count ≡ entries g w j count
  unfolding entries
  entries_same f g v w i j zero h = refl
  entries_same f g v w i j (suc count) h =
      ap₂ (λ (x : A) (xs : List A). x ∷ xs)
      (ap f (first_entry v i) ∙ h 0 (omega arith) ∙ sym (ap g (first_entry w j)))
      (entries_same f g v w (i + v) (j + w) count (λ k lt. ap f (next_entry v i k) ∙ h (suc k) (omega arith) ∙ sym (ap g (next_entry w j k))))

-- entries each read as another table has them
pub entries_map : {A B : Type 0} (read : A → B) (entry : ℕ → A) (other : ℕ → B) (words at count : ℕ) → ((k : ℕ) → k < count → read (entry (at + words * k)) ≡ other (at + words * k))
    → map read (entries entry words at count) ≡ entries other words at count
unfolding entries
entries_map read entry other words at zero h = refl
entries_map {A} {B} read entry other words at (suc count) h =
    ap₂ (λ (x : B) (xs : List B). x ∷ xs)
    (ap (λ (n : ℕ). read (entry n)) (first_entry words at) ∙ h 0 (omega arith) ∙ sym (ap other (first_entry words at)))
    (entries_map read entry other words (at + words) count
    (λ k lt. ap (λ (n : ℕ). read (entry n)) (next_entry words at k) ∙ h (suc k) (omega arith) ∙ sym (ap other (next_entry words at k))))

-- The entries of a table by number. Assumes nothing.
use mathlib.Core.Path.{◌≡◌, refl, sym, ap, ◌∙◌}
use Prim.Native.Nat.{ℕ, zero, suc, ◌+◌, ◌*◌, ◌<◌}
use native.Mathlib.Nat.{add-zero, mul-zero, mul-suc, add_assoc, add_comm, not-suc-le-zero, le_of_suc-le-suc}
use mathlib.Core.Bool.{Bool, true, ◌&&◌}
use mathlib.Core.List.{List, [], ◌∷◌, ◌++◌}
use mathlib.Core.Option.{some}
use lib.ListN.{length, get_elem?}
use lib.Ieee.Fits.{and_l, and_r}
use Rattle.laws.proofs.Tests.{of_true, to_true}
use Rattle.pywr.specs.Store.{entries}
use Rattle.pywr.specs.Misshapen.{all_entries}

-- where the first entry stands, and entry k of those behind it
pub first_entry : (words at : ℕ) → at ≡ at + words * 0
first_entry words at = rw (mul-zero, add-zero)

pub next_entry : (words at k : ℕ) → at + words + words * k ≡ at + words * suc k
next_entry words at k = rw (mul-suc, add_comm (words * k) words) (add_assoc at words (words * k))

pub entries_length : {A : Type 0} (entry : ℕ → A) (words at count : ℕ) → length (entries entry words at count) ≡ count
unfolding entries
entries_length entry words at zero = refl
entries_length entry words at (suc count) = ap suc (entries_length entry words (at + words) count)

-- one entry more
pub entries_snoc : {A : Type 0} (entry : ℕ → A) (words at count : ℕ) → entries entry words at (suc count) ≡ entries entry words at count ++ (entry (at + words * count) ∷ [])
unfolding entries
entries_snoc entry words at zero = ap (λ (p : ℕ). entry p ∷ []) (first_entry words at)
entries_snoc {A} entry words at (suc count) =
    ap (λ (l : List A). entry at ∷ l)
    (entries_snoc entry words (at + words) count ∙ ap (λ (p : ℕ). entries entry words (at + words) count ++ (entry p ∷ [])) (next_entry words at count))

-- what a table that passed tells of each of its entries
pub entry_passes : (test : ℕ → Bool) (words count at : ℕ) → all_entries test words at count ≡ true → (i : ℕ) → i < count → test (at + words * i) ≡ true
unfolding all_entries
entry_passes test words zero at e i lt = absurd (not-suc-le-zero lt)
entry_passes test words (suc count) at e zero lt =
    ap test (sym (first_entry words at)) ∙ to_true (test at) (and_l (test at) (all_entries test words (at + words) count) (of_true (test at && all_entries test words (at + words) count) e))
entry_passes test words (suc count) at e (suc i) lt =
    let rest = and_r (test at) (all_entries test words (at + words) count) (of_true (test at && all_entries test words (at + words) count) e) in
    ap test (sym (next_entry words at i)) ∙ entry_passes test words count (at + words) (to_true (all_entries test words (at + words) count) rest) i (le_of_suc-le-suc lt)

pub entry_found : {A : Type 0} (entry : ℕ → A) (words at count i : ℕ) → i < count → get_elem? (entries entry words at count) i ≡ some (entry (at + words * i))
unfolding entries
entry_found entry words at zero i lt = absurd (not-suc-le-zero lt)
entry_found entry words at (suc count) zero lt = ap (λ (n : ℕ). some (entry n)) (first_entry words at)
entry_found entry words at (suc count) (suc i) lt = entry_found entry words (at + words) count i (le_of_suc-le-suc lt) ∙ ap (λ (n : ℕ). some (entry n)) (next_entry words at i)

-- Lists of numbers that two tables hold: `first` is the first number plus 1, and `next` holds, at a number, the next one plus 1; 0 ends the list.
-- Assumes nothing.
use Rattle.std.specs.Prelude.{ℕ, suc, ◌<◌, ◌≡◌, ◌⊎◌, List, [], ◌∷◌, get_or}

-- no number, or one over j
abbrev pub Later : ℕ → ℕ → Type 0
Later j x = (x ≡ 0) ⊎ (suc j < x)

-- the tables list js, whose numbers rise and are under `size`
abbrev pub Linked : ℕ → List ℕ → ℕ → List ℕ → Type 0
Linked size next first [] = first ≡ 0
Linked size next first (j ∷ js) = (first ≡ suc j) × (j < size) × Later j (get_or next j 0) × Linked size next (get_or next j 0) js

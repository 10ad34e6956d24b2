-- Marks of nodes: one for each node, set for those that are listed. Assumes nothing.
use Rattle.std.specs.Prelude.{ℕ, ◌<◌, ◌≡◌, List, [], ◌∷◌, Bool, true, false, cond, get_or, set}
use Rattle.pywr.specs.Network.{Aggregate}

-- the nodes of a list
unfoldable pub mark_all : List ℕ → List Bool → List Bool
mark_all [] marks = marks
mark_all (n ∷ ns) marks = mark_all ns (set marks n true)

-- those of every set
unfoldable pub mark_sets : List (List ℕ) → List Bool → List Bool
mark_sets [] marks = marks
mark_sets (s ∷ ss) marks = mark_sets ss (mark_all s marks)

-- those of every exclusive aggregate
unfoldable pub mark_exclusive : List Aggregate → List Bool → List Bool
mark_exclusive [] marks = marks
mark_exclusive (a ∷ rest) marks = mark_exclusive rest (cond a.exclusive (mark_sets a.sets marks) marks)

-- each of the n nodes is marked exactly if it passes the test
abbrev pub MarkedBy : (ℕ → Bool) → ℕ → List Bool → Type 0
MarkedBy test n marks = (i : ℕ) → i < n → get_or marks i false ≡ test i

-- The distinct exclusive sets, one integer column each (builder.rs, create_columns). Assumes nothing.
use Rattle.std.specs.Prelude.{ℕ, suc, List, [], ◌∷◌, ◌++◌, Bool, true, false, cond, ◌&&◌, ◌||◌, eqb}
use Rattle.pywr.specs.Network.{Aggregate, Network, keep_if}

-- "Sets are equal as ordered lists."
unfoldable pub same_set : List ℕ → List ℕ → Bool
same_set [] [] = true
same_set [] (y ∷ ys) = false
same_set (x ∷ xs) [] = false
same_set (x ∷ xs) (y ∷ ys) = eqb x y && same_set xs ys

unfoldable pub has_set : List ℕ → List (List ℕ) → Bool
has_set set [] = false
has_set set (other ∷ others) = same_set other set || has_set set others

-- the sets of the list that are not known yet, added in order: "The port takes first appearance"
unfoldable pub add_sets : List (List ℕ) → List (List ℕ) → List (List ℕ)
add_sets known [] = known
add_sets known (set ∷ sets) = add_sets (cond (has_set set known) known (known ++ (set ∷ []))) sets

-- the distinct sets of the exclusive aggregates; the set numbered k has the integer column `edge columns + k`
unfoldable pub sets_from : List (List ℕ) → List Aggregate → List (List ℕ)
sets_from known [] = known
sets_from known (aggregate ∷ rest) = sets_from (cond aggregate.exclusive (add_sets known aggregate.sets) known) rest

unfoldable pub exclusive_sets : Network → List (List ℕ)
exclusive_sets net = sets_from [] net.aggregates

-- the number of a set among the distinct ones
unfoldable pub set_number : List ℕ → List (List ℕ) → ℕ
set_number set [] = 0
set_number set (other ∷ others) = cond (same_set other set) 0 (suc (set_number set others))

-- a set's number, once for each time that the set lists the node: "listed twice in a set, its rows come twice"
unfoldable pub times_in : ℕ → ℕ → List ℕ → List ℕ
times_in node number [] = []
times_in node number (n ∷ ns) = keep_if (eqb n node) number (times_in node number ns)

-- that of every set in turn; the first set of the list has this number
unfoldable pub sets_with_node : ℕ → ℕ → List (List ℕ) → List ℕ
sets_with_node node number [] = []
sets_with_node node number (set ∷ sets) = times_in node number set ++ sets_with_node node (suc number) sets

-- The distinct exclusive sets by the offsets of their records, and the memberships of a node: membership set_size_ceiling * k + i is member i of the set numbered k. Assumes nothing.
use Rattle.std.specs.Prelude.{ℕ, suc, ◌*◌, ◌<◌, ◌≤◌, ◌≡◌, ◌⊎◌, List, [], ◌∷◌, ◌++◌, map, eqb, length, get_or, take, Result, Ok, Err}
use Rattle.layout.specs.Layout.{node_ceiling, set_ceiling, set_size_ceiling, membership_ceiling}
use Rattle.pywr.specs.Network.{keep_if}
use Rattle.network_aggregate.specs.AggregatedNode.{aggregate_set_at}
use Rattle.network_laws.specs.Passed.{SetPassed}
use Rattle.laws.specs.Linked.{Linked}
use Rattle.build_exclusive_sets.specs.declared.ExclusiveSets.{ExclusiveSets}
use Rattle.build_exclusive_sets.specs.declared.ProgrammeFull.{ProgrammeFull}

-- the first `count` places are offsets of sets of an accepted file
pub record SetsFit (file places : List ℕ) (count : ℕ) : Type 0 where
  pub long : length places ≡ set_ceiling
  pub few : count ≤ set_ceiling
  pub fit : (k : ℕ) → k < count → SetPassed file node_ceiling (get_or places k 0)

abbrev pub sets_at : List ℕ → List ℕ → ℕ → List (List ℕ)
sets_at file places count = map (aggregate_set_at file) (take count places)

-- the sets were collected, or they are over the ceiling
pub record Collected (file : List ℕ) (sets : List (List ℕ)) (r : Result ExclusiveSets ProgrammeFull) : Type 0 where
  pub held : (x : ExclusiveSets) → r ≡ Ok x → (sets_at file x.at x.count ≡ sets) × SetsFit file x.at x.count
  pub over : (full : ProgrammeFull) → r ≡ Err full → set_ceiling < length sets

-- the sets then, where some were added
abbrev pub sets_then : Result (Unit {0}) ProgrammeFull → ExclusiveSets → Result ExclusiveSets ProgrammeFull
sets_then (Ok u) x = Ok x
sets_then (Err full) x = Err full

-- the places from j on at which node n stands in a set
unfoldable pub places_in : ℕ → ℕ → List ℕ → List ℕ
places_in n j [] = []
places_in n j (m ∷ ms) = keep_if (eqb m n) j (places_in n (suc j) ms)

-- the memberships of node n in the sets numbered from k
unfoldable pub memberships_of : ℕ → ℕ → List (List ℕ) → List ℕ
memberships_of n k [] = []
memberships_of n k (s ∷ ss) = places_in n (set_size_ceiling * k) s ++ memberships_of n (suc k) ss

-- every node's memberships so far, none of them under `low`
pub record MembershipsFrom (low : ℕ) (first next : List ℕ) (of : ℕ → List ℕ) : Type 0 where
  pub long_first : length first ≡ node_ceiling
  pub long_next : length next ≡ membership_ceiling
  pub linked : (n : ℕ) → n < node_ceiling → Linked membership_ceiling next (get_or first n 0) (of n)
  pub behind : (n : ℕ) → n < node_ceiling → (get_or first n 0 ≡ 0) ⊎ (low < get_or first n 0)

-- A set's number among those that stand at a run's offsets, found from the front. Assumes nothing.
use Prim.Native.Nat.{ℕ, ◌+◌, ◌<◌, ◌≤◌}
use mathlib.Core.Path.{◌≡◌, ap, ◌∙◌}
use mathlib.Core.List.{List, [], ◌∷◌}
use mathlib.Core.Bool.{true, false}
use native.Mathlib.Omega.{arith}
use native.Mathlib.Nat.{add-zero}
use lib.ListN.{length, get_or, take, drop, drop_of_length-le, get_or-map, length-map}
use lib.Seq.{get_or-take, length-take-le}
use Rattle.laws.proofs.Runs.{drop_next}
use Rattle.pywr.specs.ExclusiveSets.{same_set, set_number}
use Rattle.network_aggregate.specs.AggregatedNode.{aggregate_set_at}
use Rattle.build_exclusive_sets.specs.Sets.{sets_at}

module _ (file places : List ℕ) (count : ℕ) (long : count ≤ length places) where
  pub sets_length : length (sets_at file places count) ≡ count
  sets_length = length-map (take count places) (aggregate_set_at file) ∙ length-take-le count places long

  -- the set numbered k, and those behind it
  pub sets_next : (k : ℕ) → k < count → drop k (sets_at file places count) ≡ aggregate_set_at file (get_or places k 0) ∷ drop (k + 1) (sets_at file places count)
  sets_next k h =
      drop_next (sets_at file places count) k (aggregate_set_at file 0) (omega (arith, sets_length))
      ∙ ap (λ (s : List ℕ). s ∷ drop (k + 1) (sets_at file places count)) (get_or-map (aggregate_set_at file) (take count places) k 0 ∙ ap (aggregate_set_at file) (get_or-take count places k 0 h))

  pub sets_end : (k : ℕ) → count ≤ k → drop k (sets_at file places count) ≡ []
  sets_end k h = drop_of_length-le (sets_at file places count) {i = k} (omega (arith, sets_length))

  module _ (s : List ℕ) (k : ℕ) where
    pub number_here : k < count → same_set (aggregate_set_at file (get_or places k 0)) s ≡ true → k + set_number s (drop k (sets_at file places count)) ≡ k
    unfolding set_number
    number_here h e = rw (sets_next k h, e, add-zero k)

    pub number_more : k < count → same_set (aggregate_set_at file (get_or places k 0)) s ≡ false
        → k + set_number s (drop k (sets_at file places count)) ≡ k + 1 + set_number s (drop (k + 1) (sets_at file places count))
    unfolding set_number
    number_more h e = rw (sets_next k h, e) (omega arith)

    pub number_end : count ≤ k → k + set_number s (drop k (sets_at file places count)) ≡ k
    unfolding set_number
    number_end h = rw (sets_end k h, add-zero k)

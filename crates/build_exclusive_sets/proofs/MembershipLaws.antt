-- The sets that list a node, by its memberships: membership j is of the set numbered j / 16. Assumes nothing.
use Prim.Native.Nat.{ℕ, suc, ◌+◌, ◌*◌, ◌/◌, ◌<◌, ◌≤◌}
use mathlib.Core.Path.{◌≡◌, refl, sym, ap, ◌∙◌, subst}
use mathlib.Core.Logic.{◌↔◌}
use mathlib.Core.List.Memᴰ
use mathlib.Core.List.{List, [], ◌∷◌, map, map-append}
use mathlib.Core.Bool.{Bool, true, false}
use native.Mathlib.Omega.{arith}
use lib.Dec.{eqb}
use lib.ListN.{length, get_or, take}
use lib.Seq.{get_or-take, length-take-le}
use Rattle.pywr.specs.Network.{Network, keep_if}
use Rattle.pywr.specs.ExclusiveSets.{exclusive_sets, times_in, sets_with_node}
use Rattle.pywr.proofs.ListLaws.{AllMem, all_map, mem_found, found_get, found_below}
use Rattle.network_aggregate.specs.AggregatedNode.{aggregate_set_at}
use Rattle.network_laws.specs.Passed.{SetPassed}
use Rattle.laws.specs.Linked.{Linked}
use Rattle.build_exclusive_sets.specs.Sets.{SetsFit, sets_at, places_in, memberships_of}
use Rattle.laws.proofs.LinkedLaws.{walk_end, none_linked}
use Rattle.build_exclusive_sets.proofs.SameSet.{set_length}

-- the set of a membership
abbrev pub set_of : ℕ → ℕ
set_of j = j / 16

abbrev pub Short : List ℕ → Type 0
Short s = length s ≤ 16

places_sets : (n k j : ℕ) (s : List ℕ) → 16 * k ≤ j → j + length s ≤ 16 * k + 16 → map set_of (places_in n j s) ≡ times_in n k s
unfolding places_in times_in keep_if
places_sets n k j [] l h = refl
places_sets n k j (m ∷ ms) l h =
    let here : j / 16 ≡ k = omega arith in
    go (eqb m n) here (places_sets n k (suc j) ms (omega arith) (omega arith))
  where
    go : (b : Bool) → j / 16 ≡ k → map set_of (places_in n (suc j) ms) ≡ times_in n k ms → map set_of (keep_if b j (places_in n (suc j) ms)) ≡ keep_if b k (times_in n k ms)
    go true e ih = rw (e, ih)
    go false e ih = ih

pub memberships_sets : (n k : ℕ) (sets : List (List ℕ)) → AllMem Short sets → map set_of (memberships_of n k sets) ≡ sets_with_node n k sets
unfolding memberships_of sets_with_node
memberships_sets n k [] h = refl
memberships_sets n k (s ∷ ss) h =
    let here = h s (Memᴰ.head refl) in
    map-append set_of (places_in n (16 * k) s) (memberships_of n (suc k) ss)
    ∙ rw (places_sets n k (16 * k) s (omega arith) (omega arith), memberships_sets n (suc k) ss (λ t m. h t (Memᴰ.tail m)))

module _ (file places : List ℕ) (count : ℕ) (h : SetsFit file places count) where
  pub sets_short : AllMem Short (sets_at file places count)
  sets_short =
      all_map Short (aggregate_set_at file) (take count places)
      (λ x m.
      let f = mem_found (take count places) x m in
      let l = found_below (take count places) f.0 x f.1 in
      let n = length-take-le count places (omega (arith, h.long, h.few)) in
      let under : f.0 < count = omega arith in
      let e : get_or places f.0 0 ≡ x = sym (get_or-take count places f.0 0 under) ∙ found_get (take count places) f.0 x 0 f.1 in
      let s = subst (SetPassed file 256) e (h.fit f.0 under) in
      omega (arith, set_length file x, s.most))

  module _ (net : Network) (same : sets_at file places count ≡ exclusive_sets net) (n : ℕ) where
    -- the memberships of node n are of the sets that list it
    pub node_sets : map set_of (memberships_of n 0 (sets_at file places count)) ≡ sets_with_node n 0 (exclusive_sets net)
    node_sets = memberships_sets n 0 (sets_at file places count) sets_short ∙ ap (sets_with_node n 0) same

    -- no set lists it exactly if its first membership is 0
    pub no_sets : (next : List ℕ) (first : ℕ) → Linked 2048 next first (memberships_of n 0 (sets_at file places count)) → (sets_with_node n 0 (exclusive_sets net) ≡ []) ↔ (first ≡ 0)
    no_sets next first l = (
      λ e. none_linked 2048 next first (memberships_of n 0 (sets_at file places count)) l (unmapped (memberships_of n 0 (sets_at file places count)) (node_sets ∙ e)),
      λ z. sym node_sets ∙ ap (map set_of) (walk_end 2048 next first (memberships_of n 0 (sets_at file places count)) l z),
    )
      where
        unmapped : (js : List ℕ) → map set_of js ≡ [] → js ≡ []
        unmapped [] e = refl
        unmapped (j ∷ js) e = absurd (let z : ◌≡◌ {A = ℕ} 0 1 = cc in omega arith)

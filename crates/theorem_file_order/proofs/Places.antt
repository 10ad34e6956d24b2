-- Two networks with the same edges in another order: where each edge stands in the other one. Assumes nothing.
use mathlib.Core.Path.{◌≡◌, refl, sym, ap, ◌∙◌, subst}
use Prim.Native.Nat.{ℕ, ◌<◌}
use native.Mathlib.Nat.{zero-add}
use native.Mathlib.Omega.{arith}
use mathlib.Core.List.Memᴰ
use mathlib.Core.List.{List, [], ◌∷◌, Memᴰ}
use mathlib.Core.Option.{Option, none, some}
use lib.ListN.{length, get_elem?}
use Rattle.pywr.specs.Network.{Edge, Network, edges_with}
use Rattle.pywr.proofs.LinkLaws.{ends_sound, ends_complete, rising}
use Rattle.pywr.proofs.ListLaws.{found_mem, mem_found, below_found, found_below, not_found}
use Rattle.pywr.proofs.ReadLaws.{Unrepeated}
use Rattle.theorem_file_order.specs.FileOrder.{SameButOrder}

-- ---- the place in the second of an edge of the first

record Place (a b : Network) (e : ℕ) : Type 0 where
  at : ℕ
  found : (x : Edge) → get_elem? a.edges e ≡ some x → get_elem? b.edges at ≡ some x

place : (a b : Network) → SameButOrder a b → (e : ℕ) → Place a b e
place a b same e = go (get_elem? a.edges e) refl
  where
    go : (o : Option Edge) → get_elem? a.edges e ≡ o → Place a b e
    go none q = record { at = 0; found = λ x h. not_found x (sym q ∙ h) }
    go (some x) q =
        let r = mem_found b.edges x ((same.edges x).0 (found_mem a.edges e x q)) in
        record { at = r.0; found = λ y h. r.1 ∙ sym q ∙ h }

-- the same two networks, the second first
pub turned : {a b : Network} → SameButOrder a b → SameButOrder b a
turned same = record { nodes = sym same.nodes; edges = λ x. ((same.edges x).1, (same.edges x).0) }

module _ (a b : Network) (same : SameButOrder a b) where
  pub to : ℕ → ℕ
  to e = (place a b same e).at

  pub to_found : (e : ℕ) (x : Edge) → get_elem? a.edges e ≡ some x → get_elem? b.edges (to e) ≡ some x
  unfolding to
  to_found e x h = (place a b same e).found x h

  pub to_below : (e : ℕ) → e < length a.edges → to e < length b.edges
  to_below e h = let x = below_found a.edges e h in found_below b.edges (to e) x.0 (to_found e x.0 x.1)

-- there and back
pub to_from : (a b : Network) (same : SameButOrder a b) → Unrepeated b.edges → (j : ℕ) → j < length b.edges → to a b same (to b a (turned same) j) ≡ j
to_from a b same once j h =
    let x = below_found b.edges j h in
    let i : ℕ = to b a (turned same) j in
    once (to a b same i) j x.0 (to_found a b same i x.0 (to_found b a (turned same) j x.0 x.1)) x.1

-- ---- a node's one edge in, or out, is the same edge

only_one : (end : Edge → ℕ) (n q : ℕ) (es : List Edge) → Memᴰ q (edges_with end n 0 es) → ((m : ℕ) → Memᴰ m (edges_with end n 0 es) → m ≡ q)
    → edges_with end n 0 es ≡ q ∷ []
only_one end n q es has all = go (edges_with end n 0 es) refl has all
  where
    go : (l : List ℕ) → edges_with end n 0 es ≡ l → Memᴰ q l → ((m : ℕ) → Memᴰ m l → m ≡ q) → l ≡ q ∷ []
    go [] e has all = absurd (Memᴰ.not-nil has)
    go (x ∷ []) e has all = ap (λ (y : ℕ). y ∷ []) (all x (Memᴰ.head refl))
    go (x ∷ y ∷ l) e has all =
        let r = rising end n 0 x y l es e in
        let p = all x (Memᴰ.head refl) in
        let s = all y (Memᴰ.tail (Memᴰ.head refl)) in
        absurd (omega arith)

-- an edge of a node's list, by its number
record Ending (end : Edge → ℕ) (n : ℕ) (es : List Edge) (e : ℕ) : Type 0 where
  edge : Edge
  found : get_elem? es e ≡ some edge
  ends : end edge ≡ n

ending : (end : Edge → ℕ) (n : ℕ) (es : List Edge) (e : ℕ) → Memᴰ e (edges_with end n 0 es) → Ending end n es e
ending end n es e m =
    let r = ends_sound end n 0 e es m in
    record { edge = r.edge; found = ap (get_elem? es) (r.where_at ∙ zero-add r.at) ∙ r.found; ends = r.ends }

listed_ending : (end : Edge → ℕ) (n : ℕ) (es : List Edge) (e : ℕ) → Ending end n es e → Memᴰ e (edges_with end n 0 es)
listed_ending end n es e r = Memᴰ.cast (sym (zero-add e)) (ends_complete end n 0 e es r.edge r.found r.ends)

module _ (a b : Network) (same : SameButOrder a b) (once : Unrepeated b.edges) where
  pub one_moves : (end : Edge → ℕ) (n q : ℕ) → edges_with end n 0 a.edges ≡ q ∷ [] → edges_with end n 0 b.edges ≡ to a b same q ∷ []
  one_moves end n q h =
      let r = ending end n a.edges q (subst (λ (l : List ℕ). Memᴰ q l) (sym h) (Memᴰ.head refl)) in
      only_one end n (to a b same q) b.edges
      (listed_ending end n b.edges (to a b same q) (record { edge = r.edge; found = to_found a b same q r.edge r.found; ends = r.ends })) others
    where
      others : (j : ℕ) → Memᴰ j (edges_with end n 0 b.edges) → j ≡ to a b same q
      others j m =
          let r = ending end n b.edges j m in
          let i : ℕ = to b a (turned same) j in
          let old = listed_ending end n a.edges i (record { edge = r.edge; found = to_found b a (turned same) j r.edge r.found; ends = r.ends }) in
          let is : i ≡ q = Memᴰ.eq_of_singleton (subst (λ (l : List ℕ). Memᴰ i l) h old) in
          sym (to_from a b same once j (found_below b.edges j r.edge r.found)) ∙ ap (to a b same) is

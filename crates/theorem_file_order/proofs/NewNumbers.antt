-- Two networks that differ in the order of their edges alone: the new number of each column, and the edges with their columns in the other order. Assumes nothing.
use mathlib.Core.Path.{◌≡◌, refl, sym, ap, ◌∙◌}
use Prim.Native.Nat.{ℕ, zero, suc, ◌+◌, ◌<◌, ◌≤◌}
use native.Mathlib.Nat.{le_antisymm}
use native.Mathlib.Omega.{arith}
use mathlib.Core.Bool.{Bool, true, false, cond}
use mathlib.Core.List.Memᴰ
use mathlib.Core.List.{List, [], ◌∷◌, map, Memᴰ, Nodup, Permᴰ}
use mathlib.Core.Option
use mathlib.Core.Option.{Option, none, some}
use lib.ListN.{length, get_or, get_elem?, length-map}
use lib.Dec.{ltb}
use borrow.Author.Tests.{lt-ltb, le-ltb, ltb-true, ltb-false}
use Rattle.laws.proofs.Pigeonhole.{pigeonhole}
use Rattle.pywr.specs.Network.{Edge, Network}
use Rattle.pywr.specs.ColEdgeMap.{columns, column_at, column_of, MappedEdge, with_columns, mapped_edges}
use Rattle.pywr.specs.Rows.{column_map}
use Rattle.pywr.proofs.FitLaws.{columns_long}
use Rattle.pywr.proofs.ListLaws.{found_mem, mem_found, below_found, found_below, found_from_map, not_found, same_some}
use Rattle.pywr.proofs.ReadLaws.{Unrepeated, Sound}
use Rattle.pywr.proofs.WeightLaws.{pipes_length}
use Rattle.theorem_file_order.specs.FileOrder.{SameButOrder, SameEdge}
use Rattle.theorem_file_order.proofs.Classes.{column_below, lowest_lies}
use Rattle.theorem_file_order.proofs.Places.{turned, to, to_found, to_below}
use Rattle.theorem_file_order.proofs.Order.{turned_edge, together_there, there, lowest_edge, there_below, there_apart, same_count}
use Rattle.theorem_file_order.proofs.Reordering.{reordered, once_each}
use Rattle.theorem_file_order.proofs.Renumbering.{Renumbering}
use Rattle.theorem_file_order.proofs.RowsAlike.{renumbered, MovedEdges}

-- ---- new numbers under n, and the old ones from n on

module _ (n : ℕ) where
  under : (ℕ → ℕ) → ℕ → ℕ
  under t k = cond (ltb k n) (t k) k

  under_is : (t : ℕ → ℕ) (k : ℕ) → k < n → under t k ≡ t k
  unfolding under
  under_is t k h = rw (lt-ltb k n h)

  over_is : (t : ℕ → ℕ) (k : ℕ) → n ≤ k → under t k ≡ k
  unfolding under
  over_is t k h = rw (le-ltb k n h)

  under_back : (t u : ℕ → ℕ) → ((k : ℕ) → k < n → u k < n) → ((k : ℕ) → k < n → t (u k) ≡ k) → (k : ℕ) → under t (under u k) ≡ k
  under_back t u inside back k = go (ltb k n) refl
    where
      go : (b : Bool) → ltb k n ≡ b → under t (under u k) ≡ k
      go true q = let h = ltb-true k n q in ap (under t) (under_is u k h) ∙ under_is t (u k) (inside k h) ∙ back k h
      go false q = let h = ltb-false k n q in ap (under t) (over_is u k h) ∙ over_is t k h

-- ---- an edge's column becomes that edge's

module _ (a b : Network) (same : SameButOrder a b) (sa : Sound a) (sb : Sound b) where
  edge_there : (e e' : ℕ) → SameEdge a b e e' → column_of b e' ≡ there a b same sa sb (column_of a e)
  unfolding there
  edge_there e e' s =
      let below = column_below a sa.noself e (found_below a.edges e s.edge s.first) in
      sym (together_there a b same sa sb _ e _ e' (lowest_edge a b same sa sb (column_of a e) below) s (lowest_lies a sa.noself (column_of a e) below).1)

  there_back : (k : ℕ) → k < (columns b).count → there a b same sa sb (there b a (turned same) sb sa k) ≡ k
  unfolding there
  there_back k h = sym (edge_there _ _ (turned_edge (lowest_edge b a (turned same) sb sa k h))) ∙ (lowest_lies b sb.noself k h).1

  back_there : (k : ℕ) → k < (columns a).count → there b a (turned same) sb sa (there a b same sa sb k) ≡ k
  back_there k h =
      let h' = there_below a b same sa sb k h in
      there_apart a b same sa sb _ k (there_below b a (turned same) sb sa (there a b same sa sb k) h') h (there_back (there a b same sa sb k) h')

  as_many : (columns a).count ≡ (columns b).count
  as_many = same_count a b same sa sb

  pub new : Renumbering
  new =
      let n : ℕ = (columns a).count in
      let t : ℕ → ℕ = there a b same sa sb in
      let u : ℕ → ℕ = there b a (turned same) sb sa in
      let e = as_many in
      record {
        to = under n t;
        from = under n u;
        to_from = under_back n t u (λ k h. there_below b a (turned same) sb sa k (omega arith)) (λ k h. there_back k (omega arith));
        from_to_lem = under_back n u t (λ k h. let l = there_below a b same sa sb k h in omega arith) back_there;
      }

  module _ (k : ℕ) where
    pub new_under : k < (columns a).count → new.to k ≡ there a b same sa sb k
    unfolding new
    new_under h = under_is (columns a).count (there a b same sa sb) k h

    pub new_over : (columns a).count ≤ k → new.to k ≡ k
    unfolding new
    new_over h = over_is (columns a).count (there a b same sa sb) k h

    pub new_inside : k < (columns a).count → new.to k < (columns b).count
    new_inside h = rw (new_under h) (there_below a b same sa sb k h)

  pub new_edge : (e e' : ℕ) → SameEdge a b e e' → column_of b e' ≡ new.to (column_of a e)
  new_edge e e' s = edge_there e e' s ∙ sym (new_under (column_of a e) (column_below a sa.noself e (found_below a.edges e s.edge s.first)))

-- ---- as many edges

edges_most : (a b : Network) → SameButOrder a b → Unrepeated a.edges → length a.edges ≤ length b.edges
edges_most a b same once = pigeonhole (length a.edges) (length b.edges) (to a b same) (to_below a b same) apart
  where
    apart : (i j : ℕ) → i < length a.edges → j < length a.edges → to a b same i ≡ to a b same j → i ≡ j
    apart i j h k q =
        let x = below_found a.edges i h in
        let y = below_found a.edges j k in
        once i j x.0 x.1 (y.1 ∙ sym (to_found a b same j y.0 y.1) ∙ ap (get_elem? b.edges) (sym q) ∙ to_found a b same i x.0 x.1)

-- ---- an edge with its column, by its number

abbrev edge_of : MappedEdge → Edge
edge_of p = record { from = p.from; to = p.to }

mapped_from : (es : List Edge) (cs : List (Option ℕ)) (i : ℕ) (p : MappedEdge) → get_elem? (with_columns es cs) i ≡ some p
    → (get_elem? es i ≡ some (edge_of p)) × (p.column ≡ Option.get_or (get_or cs i none) 0)
unfolding with_columns
mapped_from [] cs i p h = not_found p h
mapped_from (e ∷ es) [] i p h = not_found p h
mapped_from (e ∷ es) (c ∷ cs) zero p h =
    let q = same_some (record { from = e.from; to = e.to; column = Option.get_or c 0 }) p h in
    (ap (λ (r : MappedEdge). some (edge_of r)) q, ap (λ (r : MappedEdge). r.column) (sym q))
mapped_from (e ∷ es) (c ∷ cs) (suc i) p h = mapped_from es cs i p h

mapped_to : (es : List Edge) (cs : List (Option ℕ)) → length es ≡ length cs → (i : ℕ) (e : Edge) → get_elem? es i ≡ some e
    → get_elem? (with_columns es cs) i ≡ some (record { from = e.from; to = e.to; column = Option.get_or (get_or cs i none) 0 })
unfolding with_columns
mapped_to [] cs l i e h = not_found e h
mapped_to (x ∷ es) [] l i e h = let z : suc (length es) ≡ 0 = l in absurd (omega arith)
mapped_to (x ∷ es) (c ∷ cs) l zero e h = ap (λ (y : Edge). some (record { from = y.from; to = y.to; column = Option.get_or c 0 })) (same_some x e h)
mapped_to (x ∷ es) (c ∷ cs) l (suc i) e h = mapped_to es cs (let m : suc (length es) ≡ suc (length cs) = l in omega arith) i e h

module _ (a b : Network) (same : SameButOrder a b) (sa : Sound a) (sb : Sound b) where
  anew : MappedEdge → MappedEdge
  anew = renumbered (new a b same sa sb)

  once : Nodup (map anew (mapped_edges a))
  unfolding mapped_edges anew renumbered
  once = once_each (map anew (mapped_edges a)) (λ i j q f g. sa.good.unrepeated i j (edge_of q) (at i q f) (at j q g))
    where
      at : (i : ℕ) (q : MappedEdge) → get_elem? (map anew (mapped_edges a)) i ≡ some q → get_elem? a.edges i ≡ some (edge_of q)
      at i q f =
          let r = found_from_map anew (mapped_edges a) i q f in
          (mapped_from a.edges (columns a).of i r.0 r.1).0 ∙ ap (λ (p : MappedEdge). some (edge_of p)) r.2

  moves : (i : ℕ) (p : MappedEdge) → get_elem? (mapped_edges a) i ≡ some p → get_elem? (mapped_edges b) (to a b same i) ≡ some (anew p)
  unfolding mapped_edges anew renumbered column_of column_at
  moves i p f =
      let x = mapped_from a.edges (columns a).of i p f in
      let y = to_found a b same i (edge_of p) x.0 in
      let column = new_edge a b same sa sb i (to a b same i) (record { edge = edge_of p; first = x.0; second = y }) ∙ ap (new a b same sa sb).to (sym x.1) in
      mapped_to b.edges (columns b).of (columns_long b) (to a b same i) (edge_of p) y ∙ ap (λ (c : ℕ). some (record { from = p.from; to = p.to; column = c })) column

  has : (q : MappedEdge) → Memᴰ q (map anew (mapped_edges a)) → Memᴰ q (mapped_edges b)
  has q m =
      let r = Memᴰ.of_map anew (mapped_edges a) m in
      let f = mem_found (mapped_edges a) r.0 r.1 in
      found_mem (mapped_edges b) (to a b same f.0) q (moves f.0 r.0 f.1 ∙ ap {B = Option MappedEdge} some r.2)

  edges_reordered : Permᴰ (map (renumbered (new a b same sa sb)) (mapped_edges a)) (mapped_edges b)
  unfolding mapped_edges anew
  edges_reordered =
      reordered (map anew (mapped_edges a)) (mapped_edges b) once
      (length-map (mapped_edges a) anew
      ∙ pipes_length a.edges (columns a).of (columns_long a)
      ∙ le_antisymm (edges_most a b same sa.good.unrepeated) (edges_most b a (turned same) sb.good.unrepeated)
      ∙ sym (pipes_length b.edges (columns b).of (columns_long b))) has

  pub edges_moved : MovedEdges (new a b same sa sb) (column_map a) (mapped_edges b)
  unfolding column_map
  edges_moved = record { order = edges_reordered; stay = λ k. new_over a b same sa sb ((columns a).count + k) (omega arith) }

-- The loop that follows the edges of a column. Assumes nothing.
use Prim.Native.Nat.{ℕ, zero, suc, ◌+◌, ◌*◌, ◌<◌, ◌≤◌}
use mathlib.Core.Path.{◌≡◌, refl, sym, ap, ◌∙◌}
use mathlib.Core.List.{List, [], ◌∷◌, ◌++◌}
use mathlib.Core.Bool.{Bool, true, false}
use mathlib.Core.Option.{Option, none, some}
use native.Mathlib.Omega.{arith}
use lib.ListN.{length, get_or, set, length-set}
use Rattle.layout.specs.Layout.{flow_order_at}
use Rattle.laws.specs.Linked.{Linked}
use Rattle.pywr.specs.Bytes.{byte, le16}
use Rattle.pywr.specs.Network.{Network, listed}
use Rattle.pywr.specs.FlowOrder.{next_edge, edge_numbered, follow}
use Rattle.network_laws.specs.NetworkAt.{network_at}
use Rattle.build_incident_edges.specs.declared.EdgeLists.{EdgeLists}
use Rattle.build_col_edge_map.specs.Mapped.{code, shares_across}
use Rattle.build_col_edge_map.proofs.Turn.{code_none, code_some}
use Rattle.build_flow_order.specs.Ordered.{EdgesHeld, Ordered, Marked}
use Rattle.build_flow_order.proofs.Neighbours.{next_read, next_most}
use Rattle.build_flow_order.proofs.Marks.{room, one_marked, one_ordered}

-- ---- how `follow` goes on

module _ (net : Network) where
  none_follows : (most : ℕ) (order : List ℕ) → follow net most none order ≡ order
  unfolding follow
  none_follows zero order = refl
  none_follows (suc most) order = refl

  listed_stops : (most e : ℕ) (order : List ℕ) → listed e order ≡ true → follow net most (some e) order ≡ order
  unfolding follow
  listed_stops zero e order q = refl
  listed_stops (suc most) e order q = rw q

  one_follows : (most e : ℕ) (order : List ℕ) → listed e order ≡ false
      → follow net (suc most) (some e) order ≡ follow net most (next_edge net (edge_numbered net e)) (order ++ e ∷ [])
  unfolding follow
  one_follows most e order q = rw q

  -- `whole` is the order at hand with what follows from the edge at hand, of which `next` is the number plus 1
  pub record Following (edges : ℕ) (whole shape₀ shape : List ℕ) (seen : List Bool) (count next : ℕ) : Type 0 where
    pub order : List ℕ
    pub held : Ordered edges shape₀ order shape seen count
    pub edge : Option ℕ
    pub edge_is : next ≡ code edge
    pub most : ℕ
    pub enough : edges ≤ most + count
    pub rest : whole ≡ follow net most edge order

  module _ {edges : ℕ} {whole shape₀ shape : List ℕ} {seen : List Bool} {count next : ℕ} (h : Following edges whole shape₀ shape seen count next) where
    pub followed_none : next ≡ 0 → Ordered edges shape₀ whole shape seen count
    followed_none q =
        let none_left : h.edge ≡ none = code_none h.edge (sym h.edge_is ∙ q) in
        let all : whole ≡ h.order = h.rest ∙ ap (λ (o : Option ℕ). follow net h.most o h.order) none_left ∙ none_follows h.most h.order in
        rw all h.held

    module _ (e : ℕ) (q : next ≡ suc e) (under : e < edges) where
      at_edge : whole ≡ follow net h.most (some e) h.order
      at_edge =
          let is-e : h.edge ≡ some e = code_some h.edge e (sym q ∙ h.edge_is) in
          h.rest ∙ ap (λ (o : Option ℕ). follow net h.most o h.order) is-e

      pub followed_seen : get_or seen e false ≡ true → Ordered edges shape₀ whole shape seen count
      followed_seen s =
          let all : whole ≡ h.order = at_edge ∙ listed_stops h.most e h.order (sym (h.held.seen_is e under) ∙ s) in
          rw all h.held

      pub follows : (next' : ℕ) → get_or seen e false ≡ false → e < length seen → count < edges → next' ≡ code (next_edge net (edge_numbered net e))
          → Following edges whole shape₀ (set shape (flow_order_at + count) e) (set seen e true) (count + 1) next'
      follows next' z i few n = go h.most h.enough at_edge
        where
          go : (most : ℕ) → edges ≤ most + count → whole ≡ follow net most (some e) h.order
              → Following edges whole shape₀ (set shape (flow_order_at + count) e) (set seen e true) (count + 1) next'
          go zero enough r = absurd (omega arith)
          go (suc most) enough r =
              record {
                order = h.order ++ e ∷ [];
                held = one_ordered edges e count shape₀ h.order shape seen h.held i;
                edge = next_edge net (edge_numbered net e);
                edge_is = n;
                most = most;
                enough = omega arith;
                rest = r ∙ one_follows most e h.order (sym (h.held.seen_is e under) ∙ z);
              }

-- ---- the loop

module _ (file : List ℕ) (nodes edges : ℕ) where
  abbrev net : ℕ → ℕ → Network
  net a v = network_at file nodes edges a v

  -- what was followed from the edge that `next₀` is the number of, plus 1
  pub record FollowedTo (seen₀ : List Bool) (shape₀ : List ℕ) (count₀ next₀ : ℕ) (seen : List Bool) (shape : List ℕ) (count next : ℕ) : Type 0 where
    pub under : next ≤ edges
    pub marked : Marked edges seen count
    pub long : length shape ≡ length shape₀
    pub following : (start a v : ℕ) (base order : List ℕ) → next₀ ≡ start + 1 → Ordered edges base order shape₀ seen₀ count₀
        → Following (net a v) edges (follow (net a v) edges (some start) order) base shape seen count next

  pub none_followed : (seen : List Bool) (shape : List ℕ) (count next : ℕ) → next ≤ edges → Marked edges seen count
      → FollowedTo seen shape count next seen shape count next
  none_followed seen shape count next h m =
      record {
        under = h;
        marked = m;
        long = refl;
        following = λ start a v base order q o.
            record { order = order; held = o; edge = some start; edge_is = omega arith; most = edges; enough = omega arith; rest = refl };
      }

  module _ {seen₀ : List Bool} {shape₀ : List ℕ} {count₀ next₀ : ℕ} {seen : List Bool} {shape : List ℕ} {count next : ℕ}
      (h : FollowedTo seen₀ shape₀ count₀ next₀ seen shape count next) where
    pub one_followed : {ins outs : EdgeLists} → EdgesHeld file nodes edges ins outs
        → (e d to next' : ℕ) → next ≡ suc d → e ≡ d → get_or seen e false ≡ false → to ≡ le16 file (20 * nodes + 6 * d + 4)
        → ((size : ℕ) (into out : List ℕ) → Linked size outs.next (get_or outs.first to 0) into → Linked size ins.next (get_or ins.first to 0) out
        → next' ≡ code (shares_across (byte file (20 * to + 2)) into out))
        → FollowedTo seen₀ shape₀ count₀ next₀ (set seen e true) (set shape (flow_order_at + count) d) (count + 1) next'
    one_followed lists e d to next' f i z t r =
        let lt : e < edges = omega (arith, h.under) in
        let last : next ≡ suc e = omega arith in
        let there : to ≡ le16 file (20 * nodes + 6 * e + 4) = rw i t in
        let n = next_read file nodes edges lists e lt to next' there r in
        let few = room h.marked lists.few_edges lt z in
        rw (← i)
        (record {
          under = next_most file nodes edges e next' n;
          marked = one_marked h.marked lists.few_edges lt z;
          long = length-set shape (flow_order_at + count) e ∙ h.long;
          following = λ start a v base order q o.
              follows (net a v) (h.following start a v base order q o) e last lt next' z (omega (arith, h.marked.long, lists.few_edges)) few (n a v);
        })

    module _ (start a v : ℕ) (base order : List ℕ) (q : next₀ ≡ start + 1) (o : Ordered edges base order shape₀ seen₀ count₀) where
      pub all_followed : next ≡ 0 → Ordered edges base (follow (net a v) edges (some start) order) shape seen count
      all_followed z = followed_none (net a v) (h.following start a v base order q o) z

      pub followed_before : (e d : ℕ) → next ≡ suc d → e ≡ d → get_or seen e false ≡ true
          → Ordered edges base (follow (net a v) edges (some start) order) shape seen count
      followed_before e d f i s = followed_seen (net a v) (h.following start a v base order q o) e (omega arith) (omega (arith, h.under)) s

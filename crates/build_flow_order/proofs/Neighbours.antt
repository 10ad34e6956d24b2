-- The edge after an edge in its column and the edge before it, as `shares_with` answers them of the edge's two nodes. Assumes nothing.
use Prim.Native.Nat.{ℕ, ◌+◌, ◌*◌, ◌<◌, ◌≤◌}
use mathlib.Core.Path.{◌≡◌, refl, sym, ap, ◌∙◌}
use mathlib.Core.List.{List}
use mathlib.Core.Option.{Option, none, some}
use native.Mathlib.Omega.{arith}
use lib.ListN.{length, get_or}
use Rattle.laws.specs.Linked.{Linked}
use Rattle.pywr.specs.Bytes.{byte, le16}
use Rattle.pywr.specs.Network.{Edge, Network, kind_of, incoming, outgoing}
use Rattle.pywr.specs.ColEdgeMap.{shares_with}
use Rattle.pywr.specs.FlowOrder.{next_edge, no_edge, edge_numbered}
use Rattle.pywr.proofs.FlowLaws.{next_below}
use Rattle.network_laws.specs.NetworkAt.{network_at}
use Rattle.network_laws.proofs.Index.{edge_count, edge_index}
use Rattle.network_laws.proofs.RecordReaders.{kind_law}
use Rattle.build_incident_edges.specs.declared.EdgeLists.{EdgeLists}
use Rattle.build_incident_edges.proofs.Listed.{outgoing_listed, incoming_listed}
use Rattle.build_col_edge_map.specs.Mapped.{code, shares_across}
use Rattle.build_flow_order.specs.Ordered.{EdgesHeld}

code_most : (size : ℕ) (o : Option ℕ) → ((x : ℕ) → o ≡ some x → x < size) → code o ≤ size
code_most size none h = omega arith
code_most size (some x) h = h x refl

module _ (file : List ℕ) (nodes edges : ℕ) where
  abbrev net : ℕ → ℕ → Network
  net a v = network_at file nodes edges a v

  kind_is_lem : (a v n : ℕ) → n < nodes → byte file (20 * n + 2) ≡ kind_of (net a v).nodes n
  unfolding network_at
  kind_is_lem a v n h = sym (kind_law file nodes n h)

  module _ {ins outs : EdgeLists}
      (lists : EdgesHeld file nodes edges ins outs) (e : ℕ) (under : e < edges) where
    -- what `shares_with` answers of the node that the edge goes to, with the edges in and out exchanged
    pub next_read : (to next : ℕ) → to ≡ le16 file (20 * nodes + 6 * e + 4)
        → ((size : ℕ) (into out : List ℕ) → Linked size outs.next (get_or outs.first to 0) into → Linked size ins.next (get_or ins.first to 0) out
        → next ≡ code (shares_across (byte file (20 * to + 2)) into out))
        → (a v : ℕ) → next ≡ code (next_edge (net a v) (edge_numbered (net a v) e))
    unfolding next_edge
    next_read to next q h a v =
        let t : ℕ = le16 file (20 * nodes + 6 * e + 4) in
        (rw q at h) edges (outgoing (net a v) t) (incoming (net a v) t)
        (outgoing_listed file nodes edges outs lists.out_of a v t)
        (incoming_listed file nodes edges ins lists.into a v t)
        ∙ ap (λ (kind : ℕ). code (shares_across kind (outgoing (net a v) t) (incoming (net a v) t))) (kind_is_lem a v t (lists.to_under e under))
        ∙ ap (λ (x : Edge). code (next_edge (net a v) x)) (sym (edge_index file nodes edges a v e no_edge under))

    -- and of the node that it comes from
    pub before_read : (from before : ℕ) → from ≡ le16 file (20 * nodes + 6 * e + 2)
        → ((size : ℕ) (into out : List ℕ) → Linked size ins.next (get_or ins.first from 0) into → Linked size outs.next (get_or outs.first from 0) out
        → before ≡ code (shares_across (byte file (20 * from + 2)) into out))
        → (a v : ℕ) → before ≡ code (shares_with (net a v) (edge_numbered (net a v) e))
    unfolding shares_with
    before_read from before q h a v =
        let f : ℕ = le16 file (20 * nodes + 6 * e + 2) in
        (rw q at h) edges (incoming (net a v) f) (outgoing (net a v) f)
        (incoming_listed file nodes edges ins lists.into a v f)
        (outgoing_listed file nodes edges outs lists.out_of a v f)
        ∙ ap (λ (kind : ℕ). code (shares_across kind (incoming (net a v) f) (outgoing (net a v) f))) (kind_is_lem a v f (lists.from_under e under))
        ∙ ap (λ (x : Edge). code (shares_with (net a v) x)) (sym (edge_index file nodes edges a v e no_edge under))

  -- it is an edge
  pub next_most : (e next : ℕ) → ((a v : ℕ) → next ≡ code (next_edge (net a v) (edge_numbered (net a v) e))) → next ≤ edges
  next_most e next q =
      let n : Network = net 0 0 in
      let most = code_most (length n.edges) (next_edge n (edge_numbered n e)) (next_below n (edge_numbered n e)) in
      omega (arith, most, q 0 0, edge_count file nodes edges 0 0)

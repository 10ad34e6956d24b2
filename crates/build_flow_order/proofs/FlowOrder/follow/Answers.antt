-- `FlowOrder::follow` meets its contract. The loop's invariant: what follows from the edge at hand, put behind the order at hand, is what was to
-- follow. The measure is how many edges are not in the order.
use Prim.Native.Nat.{◌<◌}
use mathlib.Core.Path.{ap}
use native.Mathlib.Nat.{le_trans}
use native.Mathlib.Omega.{arith}
use Rattle.build_incident_edges.proofs.Listed.{listed_most}
use Rattle.build_col_edge_map.specs.Mapped.{number_of}
use Rattle.build_flow_order.proofs.Marks.{room}
use Rattle.build_flow_order.proofs.Turn.{one_followed, all_followed, followed_before}
use Rattle.build_flow_order.proofs.FlowOrder.follow.Goals as goal

pub returns-then-self-e : goal.returns-then-self-e
returns-then-self-e c = (
  c.loop-next.invariant.marked,
  λ a v base order o.
      followed_before _ _ _ c.loop-next.invariant _ a v base order (omega arith) o _ _ (ap number_of c.in-Some.is)
      c.from-e.ensures c.if-self-e.true,
)

pub bounds-shape-self : goal.bounds-shape-self
bounds-shape-self c =
    let edge-under : c.from-e.result < c.args.net.now.edges = omega (arith, c.from-e.ensures, ap number_of c.in-Some.is, c.loop-next.invariant.under) in
    let edge_room : c.loop-next.self.count < c.args.net.now.edges = room c.loop-next.invariant.marked c.requires.0.few_edges edge-under c.if-self-e.false in
    omega (arith, edge_room, c.loop-next.invariant.long, c.requires.0.few_edges, c.requires.1)

pub shares_with-next-requires : goal.shares_with-next-requires
shares_with-next-requires c =
    let lists = c.requires.0 in
    let to = c.to_node_index-to in
    let under = lists.to_under c.in-Some.edge.0 (omega (arith, c.loop-next.invariant.under, ap number_of c.in-Some.is)) in (
      omega (arith, to.ensures, under, lists.few_nodes),
      omega (arith, to.ensures, under, lists.inside),
      le_trans (listed_most lists.out_of to.result.0) lists.few_edges,
      le_trans (listed_most lists.into to.result.0) lists.few_edges,
    )

pub loop-next-smaller : goal.loop-next-smaller
loop-next-smaller c =
    let edge-under : c.from-e.result < c.args.net.now.edges = omega (arith, c.from-e.ensures, ap number_of c.in-Some.is, c.loop-next.invariant.under) in
    let edge_room : c.loop-next.self.count < c.args.net.now.edges = room c.loop-next.invariant.marked c.requires.0.few_edges edge-under c.if-self-e.false in
    omega (arith, edge_room)

pub loop-next-preserved : goal.loop-next-preserved
loop-next-preserved c =
    one_followed _ _ _ c.loop-next.invariant c.requires.0 _ _ _ _ (ap number_of c.in-Some.is)
    c.from-e.ensures c.if-self-e.false c.to_node_index-to.ensures c.shares_with-next.ensures

pub returns : goal.returns
returns c = (
  c.loop-next.invariant.marked,
  λ a v base order o. all_followed _ _ _ c.loop-next.invariant _ a v base order (omega arith) o (ap number_of c.in_default.is),
)

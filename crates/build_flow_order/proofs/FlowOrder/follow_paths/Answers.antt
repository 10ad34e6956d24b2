-- `FlowOrder::follow_paths` meets its contract. The loop's invariant: the paths that start before edge e are in the order.
use Prim.Native.Nat.{ℕ}
use mathlib.Core.Path.{◌≡◌, refl, ap, ◌∙◌}
use Rattle.std.specs.Prelude.{not}
use native.Mathlib.Nat.{le_trans}
use native.Mathlib.Omega.{arith}
use Rattle.pywr.specs.ColEdgeMap.{shares_with}
use Rattle.pywr.specs.FlowOrder.{edge_numbered}
use Rattle.network_laws.specs.NetworkAt.{network_at}
use Rattle.build_incident_edges.proofs.Listed.{listed_most}
use Rattle.build_col_edge_map.specs.Mapped.{code, number_of}
use Rattle.build_flow_order.proofs.Neighbours.{before_read}
use Rattle.build_flow_order.proofs.Passes.{none_number, some_number, no_paths, edge_left, edge_followed, pass_whole, path_starts, path_goes_on}
use borrow.Author.Rules.{rules}
use Rattle.build_flow_order.proofs.FlowOrder.follow_paths.Goals as goal
use Rattle.build_flow_order.proofs.FlowOrder.follow_paths.Goals.{then-is_none, else-is_none}

pub loop-e-init : goal.loop-e-init
loop-e-init c = no_paths _ _ _ _ _ _ c.requires.2

pub shares_with-before-requires : goal.shares_with-before-requires
shares_with-before-requires c =
    let lists = c.requires.0 in
    let from = c.from_node_index-from in
    let under = lists.from_under c.loop-e.e c.loop-e-test.true in (
      omega (arith, from.ensures, under, lists.few_nodes),
      omega (arith, from.ensures, under, lists.inside),
      le_trans (listed_most lists.into from.result.0) lists.few_edges,
      le_trans (listed_most lists.out_of from.result.0) lists.few_edges,
    )

pub loop-e-preserved : goal.loop-e-preserved
loop-e-preserved c =
    -- the edge that edge e shares with, plus 1
    let Before : Type 0 =
    let p = c.args.net.now in
    let net = network_at p.file.now p.nodes p.edges in
    (a v : ℕ) → number_of c.shares_with-before.result ≡ code (shares_with (net a v) (edge_numbered (net a v) c.loop-e.e)) in
    let before-is : Before =
    before_read _ _ _ c.requires.0 c.loop-e.e c.loop-e-test.true _ _ c.from_node_index-from.ensures c.shares_with-before.ensures in
    elim c.if-is_none.branch [
      | then-is_none w ↦
          rw (w.self-is, w.shape-is)
          (edge_followed _ _ _ _ _ _ c.loop-e.invariant c.loop-e-test.true _
          (λ a v. path_starts _ _ _ (before-is a v) (none_number _ (c.is_none.ensures ∙ ap not w.if-is_none.true)))
          refl (search rules) w.follow.ensures.0 w.follow.ensures.1)
      | else-is_none w ↦
          rw (w.self-is, w.shape-is)
          (edge_left _ _ _ _ _ _ c.loop-e.invariant c.loop-e-test.true
          (λ a v. path_goes_on _ _ _ (before-is a v) (some_number _ (c.is_none.ensures ∙ ap not w.if-is_none.false))))
    ]

pub returns : goal.returns
returns c = (c.loop-e.invariant.marked, pass_whole _ _ _ _ _ _ c.loop-e.invariant c.loop-e-test.false)

-- `network_checks::check_links` meets its contract: the marks of the edges' ends say which nodes have an edge in or out.
use native.Mathlib.Omega.{arith}
use mathlib.Core.Path.{◌∙◌, ap}
use mathlib.Core.List.{List}
use mathlib.Core.Bool.{Bool, false}
use Prim.Native.Nat.{ℕ, ◌<◌}
use lib.ListN.{get_or}
use Rattle.pywr.specs.Network.{source, target, incoming, outgoing}
use Rattle.network_laws.specs.NetworkAt.{edge_records, network_at}
use Rattle.network_laws.proofs.Accepted.{fixed_within, edge_accepted}
use Rattle.network_checks.proofs.MarkLaws.{ends_marked}
use Rattle.network_checks.proofs.check_links.Goals as goal

pub mark_ends-requires : goal.mark_ends-requires
mark_ends-requires c = (c.requires.few_nodes, c.requires.few_edges, edge_accepted _ _ _ _ _ _ c.requires)

pub first_unconnected-requires : goal.first_unconnected-requires
unfolding incoming outgoing network_at
first_unconnected-requires c =
    let s = c.args.s.now in
    let n = c.args.c.nodes in
    let e = c.args.c.edges in
    let below : (i : ℕ) → i < n → i < 256 = λ i lt. omega (arith, lt, c.requires.few_nodes) in (
      c.requires.few_nodes,
      omega (arith, fixed_within _ _ _ _ _ _ c.requires),
      λ i lt. ap (λ (marks : List Bool). get_or marks i false) c.mark_ends.ensures.0 ∙ ends_marked target (edge_records s n e) 256 i (below i lt),
      λ i lt. ap (λ (marks : List Bool). get_or marks i false) c.mark_ends.ensures.1 ∙ ends_marked source (edge_records s n e) 256 i (below i lt),
    )

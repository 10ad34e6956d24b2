-- `build_node_row::add_node` meets its contract.
use mathlib.Core.Path.{refl, sym, ap, ◌∙◌}
use native.Mathlib.Omega.{arith}
use Rattle.network_node.specs.Node.{node_kind}
use Rattle.network_node.proofs.KindLaws.{is_output, is_storage}
use Rattle.build_node_row.proofs.NodeColumns.{in_listed, out_listed, under_ceiling, kind_most, output_added, outgoing_added, storage_added}
use Rattle.build_node_row.proofs.add_node.Goals as goal

pub add_edges-requires : goal.add_edges-requires
add_edges-requires c = (under_ceiling _ _ _ c.requires.0 _ c.requires.1, c.requires.2, c.requires.3, c.requires.4, in_listed _ _ _ c.requires.0 _)

pub add_edges-m-requires : goal.add_edges-m-requires
add_edges-m-requires c = (under_ceiling _ _ _ c.requires.0 _ c.requires.1, c.requires.2, c.requires.3, c.requires.4, in_listed _ _ _ c.requires.0 _)

pub add_edges-requires-in-Storage : goal.add_edges-requires-in-Storage
add_edges-requires-in-Storage c = (
  under_ceiling _ _ _ c.requires.0 _ c.requires.1,
  c.add_edges-m.ensures.few,
  omega (arith, c.add_edges-m.auto.elements, c.requires.3),
  c.add_edges-m.ensures.rising,
  out_listed _ _ _ c.requires.0 _,
)

pub add_edges-requires-in_default : goal.add_edges-requires-in_default
add_edges-requires-in_default c = (under_ceiling _ _ _ c.requires.0 _ c.requires.1, c.requires.2, c.requires.3, c.requires.4, out_listed _ _ _ c.requires.0 _)

pub returns-in-Output : goal.returns-in-Output
returns-in-Output c =
    output_added _ _ _ c.requires.0 _ c.requires.1 _ refl _ _ _ _ _ _ _ (is_output _ (sym c.kind.ensures ∙ c.in-Output.is)) c.add_edges.ensures

pub returns-in-Storage : goal.returns-in-Storage
returns-in-Storage c =
    storage_added _ _ _ c.requires.0 _ c.requires.1 _ refl _ _ _ _ _ _ _ _ _ _
    (is_storage _ (kind_most _ _ _ c.requires.0 _ c.requires.1) (sym c.kind.ensures ∙ c.in-Storage.is)) c.add_edges-m.ensures c.add_edges-in-Storage.ensures

pub returns-in_default : goal.returns-in_default
unfolding node_kind
returns-in_default c =
    outgoing_added _ _ _ c.requires.0 _ c.requires.1 _ refl _ _ _ _ _ _ _
    (λ q. c.in_default.not-Output (c.kind.ensures ∙ ap node_kind q)) (λ q. c.in_default.not-Storage (c.kind.ensures ∙ ap node_kind q)) c.add_edges-in_default.ensures

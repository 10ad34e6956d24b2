-- `build_flow_order::write_flow_order` meets its contract.
use Rattle.build_flow_order.proofs.Marks.{none_marked, none_ordered}
use Rattle.build_flow_order.proofs.write_flow_order.Goals as goal

pub follow_paths-requires : goal.follow_paths-requires
follow_paths-requires c = (
  record {
    few_nodes = c.requires.0;
    few_edges = c.requires.1;
    inside = c.requires.2;
    from_under = c.requires.3;
    to_under = c.requires.4;
    into = c.requires.5;
    out_of = c.requires.6;
  },
  c.requires.7,
  none_marked _ c.requires.1,
)

pub returns : goal.returns
returns c =
    λ a v.
    c.follow_rings.ensures a v _ (c.follow_paths.ensures.1 a v _ (none_ordered _ _ c.requires.1))

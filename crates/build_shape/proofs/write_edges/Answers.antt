-- `build_shape::write_edges` meets its contract. The loop's invariant: the entries of the first i edges are written.
use mathlib.Core.Path.{refl}
use Rattle.build_shape.proofs.Table.{edges_none, edges_more, edges_all}
use Rattle.build_shape.proofs.write_edges.Goals as goal

pub loop-i-init : goal.loop-i-init
loop-i-init c = edges_none _ _ _ _ _

pub loop-i-preserved : goal.loop-i-preserved
loop-i-preserved c =
    edges_more _ _ _ _ _ _ _ _ _ _ c.loop-i-test.true c.from_node_index.ensures c.to_node_index.ensures refl c.loop-i.invariant

pub returns : goal.returns
returns c = edges_all _ _ _ _ _ _ _ c.loop-i-test.false c.loop-i.invariant

-- `build_incident_edges::list_edges` meets its contract. The loop's invariant: the tables list the edges from e on.
use Prim.Native.Nat.{◌-◌}
use mathlib.Core.Path.{◌∙◌, refl}
use native.Mathlib.Omega.{arith}
use Rattle.build_incident_edges.proofs.Turn.{none_listed, edge_listed}
use Rattle.build_incident_edges.proofs.list_edges.Goals as goal

pub loop-e-init : goal.loop-e-init
loop-e-init c = none_listed _ _ _ _

pub loop-e-preserved : goal.loop-e-preserved
loop-e-preserved c =
    let node_is = c.from-n.ensures ∙ c.end_node-node.ensures in
    edge_listed _ _ _ _ _ _ _ _ _ _ (omega arith) refl node_is
    (omega (arith, node_is, c.requires.0, c.requires.3 (c.loop-e.e - 1) (omega arith))) c.requires.1 c.loop-e.invariant

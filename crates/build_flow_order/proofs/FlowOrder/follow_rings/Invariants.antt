-- `FlowOrder::follow_rings` meets its contract. The loop's invariant: the order has the edges before edge `start` and what follows from them.
use mathlib.Core.Bool.{true}
use Rattle.pywr.specs.FlowOrder.{paths, flow_order}
use Rattle.build_flow_order.proofs.Passes.{PassedTo}
use Rattle.build_flow_order.proofs.FlowOrder.follow_rings.Given as goal

abbrev pub invariant-loop-start : goal.invariant-loop-start
invariant-loop-start l =
    PassedTo l.net.file.now l.net.nodes l.net.edges (λ net edge. true) paths flow_order l.initial.self.seen l.initial.shape l.initial.self.count l.self.seen l.shape l.self.count l.start

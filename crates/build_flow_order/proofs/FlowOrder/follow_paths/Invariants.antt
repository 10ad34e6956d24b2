-- `FlowOrder::follow_paths` meets its contract. The loop's invariant: the paths that start before edge e are in the order.
use mathlib.Core.List.{[]}
use Rattle.pywr.specs.FlowOrder.{starts_path, paths}
use Rattle.build_flow_order.proofs.Passes.{PassedTo}
use Rattle.build_flow_order.proofs.FlowOrder.follow_paths.Given as goal

abbrev pub invariant-loop-e : goal.invariant-loop-e
invariant-loop-e l =
    PassedTo l.net.file.now l.net.nodes l.net.edges starts_path (λ n. []) paths l.initial.self.seen l.initial.shape l.initial.self.count l.self.seen l.shape l.self.count l.e

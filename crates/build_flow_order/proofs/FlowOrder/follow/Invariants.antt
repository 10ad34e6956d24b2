-- `FlowOrder::follow` meets its contract. The loop's invariant: what follows from the edge at hand, put behind the order at hand, is what was to
-- follow. The measure is how many edges are not in the order.
use Prim.Native.Nat.{◌-◌}
use Rattle.build_col_edge_map.specs.Mapped.{number_of}
use Rattle.build_flow_order.proofs.Turn.{FollowedTo}
use Rattle.build_flow_order.proofs.FlowOrder.follow.Given as goal

abbrev pub invariant-loop-next : goal.invariant-loop-next
invariant-loop-next l =
    FollowedTo l.net.file.now l.net.nodes l.net.edges l.initial.self.seen l.initial.shape l.initial.self.count (number_of l.initial.next) l.self.seen l.shape l.self.count (number_of l.next)

abbrev pub decreases-loop-next : goal.decreases-loop-next
decreases-loop-next l = l.net.edges - l.self.count

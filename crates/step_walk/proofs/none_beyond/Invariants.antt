-- `none_beyond` meets its contract. The loop's invariant: the first i node rows have no such node.
use Rattle.layout.specs.Layout.{nodes_in}
use Rattle.step_node_intervals.proofs.BinaryRowLaws.{LeastTo}
use Rattle.step_walk.proofs.none_beyond.Given as goal

abbrev pub invariant-loop-i : goal.invariant-loop-i
invariant-loop-i l = LeastTo l.sentinel l.work l.shape (nodes_in l.shape) l.i (nodes_in l.shape)

-- `build_shape::write_nodes` meets its contract. The loop's invariant: the entries of the first i nodes are written.
use Rattle.build_shape.proofs.Table.{NodesWritten}
use Rattle.build_shape.proofs.write_nodes.Given as goal

abbrev pub invariant-loop-i : goal.invariant-loop-i
invariant-loop-i l = NodesWritten l.fn.s l.initial.shape l.fn.nodes l.shape l.i

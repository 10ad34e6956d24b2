-- `build_shape::write_edges` meets its contract. The loop's invariant: the entries of the first i edges are written.
use Rattle.build_shape.proofs.Table.{EdgesWritten}
use Rattle.build_shape.proofs.write_edges.Given as goal

abbrev pub invariant-loop-i : goal.invariant-loop-i
invariant-loop-i l = EdgesWritten l.fn.s l.fn.edge_to_col l.fn.nodes l.initial.shape l.fn.edges l.shape l.i

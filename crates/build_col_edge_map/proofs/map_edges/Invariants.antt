-- `build_col_edge_map::map_edges` meets its contract. The loop's invariant: the map holds the columns after the first e edges.
use Rattle.build_col_edge_map.proofs.Turn.{Placed}
use Rattle.build_col_edge_map.proofs.map_edges.Given as goal

abbrev pub invariant-loop-e : goal.invariant-loop-e
invariant-loop-e l = Placed l.s l.nodes l.edges l.e l.map.count l.map.edge_to_col

-- `ColEdgeMap::unite_under` meets its contract. The loop's invariant: the entries before e are united, the rest stands as it was.
use mathlib.Core.Path.{◌≡◌}
use Rattle.build_col_edge_map.proofs.MappedLaws.{united_to}
use Rattle.build_col_edge_map.proofs.ColEdgeMap.unite_under.Given as goal

abbrev pub invariant-loop-e : goal.invariant-loop-e
invariant-loop-e l = (l.self.count ≡ l.initial.self.count) × (l.self.edge_to_col ≡ united_to l.low l.high l.e l.initial.self.edge_to_col)

-- `build_exclusive_sets::collect_sets` meets its contract: the sets of the first i aggregates were collected.
use Rattle.network_edge.specs.Edge.{edge_place}
use Rattle.build_exclusive_sets.proofs.CollectSets.{Collecting}
use Rattle.build_exclusive_sets.proofs.collect_sets.Given as goal

abbrev pub invariant-loop : goal.invariant-loop
invariant-loop l = Collecting l.s (edge_place l.fn.c.nodes l.fn.c.edges) l.fn.c.aggregates l.sets.at l.sets.count l.at l.counter

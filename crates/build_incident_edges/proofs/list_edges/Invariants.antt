-- `build_incident_edges::list_edges` meets its contract. The loop's invariant: the tables list the edges from e on.
use Rattle.build_incident_edges.proofs.Turn.{ListedFrom}
use Rattle.build_incident_edges.proofs.list_edges.Given as goal

abbrev pub invariant-loop-e : goal.invariant-loop-e
invariant-loop-e l = ListedFrom l.s l.nodes l.edges l.end l.e l.lists.first l.lists.next

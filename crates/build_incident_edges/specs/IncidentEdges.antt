-- The edges of each node, as two tables list them. Assumes nothing.
use Rattle.std.specs.Prelude.{ℕ, List, get_or}
use Rattle.pywr.specs.Network.{Edge, edges_with}
use Rattle.network_laws.specs.NetworkAt.{edge_records}
use Rattle.laws.specs.Linked.{Linked}
use Rattle.build_incident_edges.specs.declared.EdgeLists.{EdgeLists}

-- the tables list, of every node, the edges of a file that have it as this end, in index order
pub record EdgesListed (end : Edge → ℕ) (file : List ℕ) (nodes edges : ℕ) (lists : EdgeLists) : Type 0 where
  pub listed : (n : ℕ) → Linked edges lists.next (get_or lists.first n 0) (edges_with end n 0 (edge_records file nodes edges))

-- The lists of edges of a file and of its network. Assumes nothing.
use Prim.Native.Nat.{ℕ, ◌≤◌}
use mathlib.Core.List.{List}
use lib.ListN.{get_or}
use Rattle.laws.specs.Linked.{Linked}
use Rattle.laws.proofs.LinkedLaws.{first_most}
use Rattle.pywr.specs.Network.{Edge, edges_with, source, target, incoming, outgoing}
use Rattle.network_laws.specs.NetworkAt.{edge_records, network_at}
use Rattle.build_incident_edges.specs.declared.EdgeLists.{EdgeLists}
use Rattle.build_incident_edges.specs.IncidentEdges.{EdgesListed}

pub listed_most : {end : Edge → ℕ} {file : List ℕ} {nodes edges : ℕ} {lists : EdgeLists} → EdgesListed end file nodes edges lists → (n : ℕ) → get_or lists.first n 0 ≤ edges
listed_most {end} {file} {nodes} {edges} {lists} h n = first_most edges lists.next (get_or lists.first n 0) (edges_with end n 0 (edge_records file nodes edges)) (h.listed n)

-- the lists of a network
module _ (file : List ℕ) (n e : ℕ) (lists : EdgeLists) where
  pub outgoing_listed : EdgesListed source file n e lists → (a v k : ℕ) → Linked e lists.next (get_or lists.first k 0) (outgoing (network_at file n e a v) k)
  unfolding outgoing network_at
  outgoing_listed h a v k = h.listed k

  pub incoming_listed : EdgesListed target file n e lists → (a v k : ℕ) → Linked e lists.next (get_or lists.first k 0) (incoming (network_at file n e a v) k)
  unfolding incoming network_at
  incoming_listed h a v k = h.listed k

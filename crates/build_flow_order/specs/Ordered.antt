-- What the flow order is made from, and how much of it stands in the runs. Assumes nothing.
use Rattle.std.specs.Prelude.{ℕ, zero, suc, ◌+◌, ◌<◌, ◌≤◌, ◌≡◌, List, [], ◌∷◌, Bool, true, false, length, get_or}
use Rattle.std.proofs.lemmas.List.Edits.{sets}
use Rattle.layout.specs.Layout.{node_ceiling, edge_ceiling, flow_order_at}
use Rattle.pywr.specs.Bytes.{le16}
use Rattle.pywr.specs.Network.{source, target, listed}
use Rattle.network_edge.specs.Edge.{from_offset, to_offset, edge_place}
use Rattle.build_incident_edges.specs.declared.EdgeLists.{EdgeLists}
use Rattle.build_incident_edges.specs.IncidentEdges.{EdgesListed}

-- a file's edges, whose ends are nodes, and of each node the lists of its edges
pub record EdgesHeld (file : List ℕ) (nodes edges : ℕ) (incoming outgoing : EdgeLists) : Type 0 where
  pub few_nodes : nodes ≤ node_ceiling
  pub few_edges : edges ≤ edge_ceiling
  pub inside : edge_place nodes edges ≤ length file
  pub from_under : (e : ℕ) → e < edges → le16 file (edge_place nodes e + from_offset) < nodes
  pub to_under : (e : ℕ) → e < edges → le16 file (edge_place nodes e + to_offset) < nodes
  pub into : EdgesListed target file nodes edges incoming
  pub out_of : EdgesListed source file nodes edges outgoing

-- the order so far, of `count` edges: the shape run, which was `shape₀`, has it at its place, and `seen` marks its edges
pub record Ordered (edges : ℕ) (shape₀ order shape : List ℕ) (seen : List Bool) (count : ℕ) : Type 0 where
  pub written : shape ≡ sets shape₀ flow_order_at order
  pub count_is : count ≡ length order
  pub seen_is : (e : ℕ) → e < edges → get_or seen e false ≡ listed e order

-- how many of the edges are not seen
unfoldable pub unseen : ℕ → List Bool → ℕ
unseen zero seen = 0
unseen (suc edges) [] = 0
unseen (suc edges) (true ∷ seen) = unseen edges seen
unseen (suc edges) (false ∷ seen) = suc (unseen edges seen)

-- `count` of the edges are seen
pub record Marked (edges : ℕ) (seen : List Bool) (count : ℕ) : Type 0 where
  pub long : length seen ≡ edge_ceiling
  pub all : count + unseen edges seen ≡ edges

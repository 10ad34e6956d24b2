-- The network of a file, each record read where it stands and nothing tested: the aggregates behind the edges, the virtual storages behind
-- the aggregates. Assumes nothing.
use Rattle.std.specs.Prelude.{ℕ, ◌+◌, List}
use Rattle.pywr.specs.Network.{Node, Edge, Network}
use Rattle.fields.specs.Records.{records_at, records_end}
use Rattle.network_node.specs.Node.{node_at, node_length, node_place}
use Rattle.network_edge.specs.Edge.{edge_at, edge_length, edge_place}
use Rattle.network_aggregate.specs.AggregatedNode.{aggregate_at, aggregate_end}
use Rattle.network_virtual_storage.specs.VirtualStorage.{virtual_storage_at, virtual_storage_end}

module _ (file : List ℕ) where
  abbrev pub node_records : ℕ → List Node
  node_records n = records_at (node_at file) (λ at. at + node_length) n 0

  abbrev pub edge_records : ℕ → ℕ → List Edge
  edge_records n e = records_at (edge_at file) (λ at. at + edge_length) e (node_place n)

  -- where aggregate k starts
  abbrev pub aggregate_start : ℕ → ℕ → ℕ → ℕ
  aggregate_start n e k = records_end (aggregate_end file) k (edge_place n e)

  -- where virtual storage k starts
  abbrev pub virtual_storage_start : ℕ → ℕ → ℕ → ℕ → ℕ
  virtual_storage_start n e a k = records_end (virtual_storage_end file) k (aggregate_start n e a)

  -- the network of a file with n nodes, e edges, a aggregates and v virtual storages
  unfoldable pub network_at : ℕ → ℕ → ℕ → ℕ → Network
  network_at n e a v =
      record {
        nodes = node_records n;
        edges = edge_records n e;
        aggregates = records_at (aggregate_at file) (aggregate_end file) a (edge_place n e);
        virtual_storages = records_at (virtual_storage_at file) (virtual_storage_end file) v (aggregate_start n e a);
      }

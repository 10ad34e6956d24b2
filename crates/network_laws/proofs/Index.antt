-- The records of `network_at` by index: node i at 20 i, edge j at 20 n + 6 j, aggregate and virtual storage k behind k others. Assumes nothing.
use Prim.Native.Nat.{ℕ, ◌+◌, ◌*◌, ◌<◌}
use mathlib.Core.Path.{◌≡◌, ◌∙◌, ap}
use mathlib.Core.List.{List}
use native.Mathlib.Omega.{arith}
use lib.ListN.{length, get_or}
use Rattle.pywr.specs.Bytes.{byte, le16}
use Rattle.pywr.specs.Network.{Node, Edge, Aggregate, Part, VirtualStorage}
use Rattle.fields.specs.Records.{records_end}
use Rattle.fields.proofs.RecordLaws.{records_length, records_get, end_fixed}
use Rattle.network_node.specs.Node.{node_at}
use Rattle.network_edge.specs.Edge.{edge_at}
use Rattle.network_aggregate.specs.AggregatedNode.{aggregate_set_at, set_end, aggregate_at, aggregate_end}
use Rattle.network_virtual_storage.specs.VirtualStorage.{part_at, virtual_storage_at, virtual_storage_end}
use Rattle.network_laws.specs.NetworkAt.{aggregate_start, virtual_storage_start, network_at}

-- node i of a list of nodes from 0 on stands at 20 i
pub node_start : (i : ℕ) → records_end (λ at. at + 20) i 0 ≡ 20 * i
node_start i = end_fixed 20 i 0 ∙ omega arith

module _ (file : List ℕ) (n e a v : ℕ) where
  pub node_count_lem : length (network_at file n e a v).nodes ≡ n
  unfolding network_at
  node_count_lem = records_length (node_at file) (λ at. at + 20) n 0

  pub edge_count : length (network_at file n e a v).edges ≡ e
  unfolding network_at
  edge_count = records_length (edge_at file) (λ at. at + 6) e (20 * n)

  pub aggregate_count_lem : length (network_at file n e a v).aggregates ≡ a
  unfolding network_at
  aggregate_count_lem = records_length (aggregate_at file) (aggregate_end file) a _

  pub virtual_storage_count_lem : length (network_at file n e a v).virtual_storages ≡ v
  unfolding network_at
  virtual_storage_count_lem = records_length (virtual_storage_at file) (virtual_storage_end file) v _

  pub node_index : (i : ℕ) (d : Node) → i < n → get_or (network_at file n e a v).nodes i d ≡ node_at file (20 * i)
  unfolding network_at
  node_index i d h = records_get (node_at file) (λ at. at + 20) n 0 i d h ∙ ap (node_at file) (node_start i)

  pub edge_index : (j : ℕ) (d : Edge) → j < e → get_or (network_at file n e a v).edges j d ≡ edge_at file (20 * n + 6 * j)
  unfolding network_at
  edge_index j d h = records_get (edge_at file) (λ at. at + 6) e (20 * n) j d h ∙ ap (edge_at file) (end_fixed 6 j (20 * n))

  pub aggregate_index : (k : ℕ) (d : Aggregate) → k < a → get_or (network_at file n e a v).aggregates k d ≡ aggregate_at file (aggregate_start file n e k)
  unfolding network_at
  aggregate_index k d h = records_get (aggregate_at file) (aggregate_end file) a (20 * n + 6 * e) k d h

  pub virtual_storage_index : (k : ℕ) (d : VirtualStorage) → k < v
      → get_or (network_at file n e a v).virtual_storages k d ≡ virtual_storage_at file (virtual_storage_start file n e a k)
  unfolding network_at
  virtual_storage_index k d h = records_get (virtual_storage_at file) (virtual_storage_end file) v (aggregate_start file n e a) k d h

-- ---- inside an aggregate and a virtual storage at `at`

module _ (file : List ℕ) (at : ℕ) where
  pub set_count_lem : length (aggregate_at file at).sets ≡ byte file (at + 3)
  set_count_lem = records_length (aggregate_set_at file) (set_end file) (byte file (at + 3)) (at + 12)

  pub set_index : (k : ℕ) (d : List ℕ) → k < byte file (at + 3) → get_or (aggregate_at file at).sets k d ≡ aggregate_set_at file (records_end (set_end file) k (at + 12))
  set_index k d h = records_get (aggregate_set_at file) (set_end file) (byte file (at + 3)) (at + 12) k d h

  -- of the set at `at`
  pub member_count : length (aggregate_set_at file at) ≡ byte file at
  member_count = records_length (le16 file) (λ at. at + 2) (byte file at) (at + 1)

  pub member_index : (k d : ℕ) → k < byte file at → get_or (aggregate_set_at file at) k d ≡ le16 file (at + 1 + 2 * k)
  member_index k d h = records_get (le16 file) (λ at. at + 2) (byte file at) (at + 1) k d h ∙ ap (le16 file) (end_fixed 2 k (at + 1))

  pub part_count : length (virtual_storage_at file at).parts ≡ byte file (at + 7)
  part_count = records_length (part_at file) (λ at. at + 10) (byte file (at + 7)) (at + 8)

  pub part_index : (k : ℕ) (d : Part) → k < byte file (at + 7) → get_or (virtual_storage_at file at).parts k d ≡ part_at file (at + 8 + 10 * k)
  part_index k d h = records_get (part_at file) (λ at. at + 10) (byte file (at + 7)) (at + 8) k d h ∙ ap (part_at file) (end_fixed 10 k (at + 8))

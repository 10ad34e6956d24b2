-- What holds of a record that passed its check: it lies within the file, and its fields are in their ranges. Assumes nothing.
use Rattle.std.specs.Prelude.{ℕ, ◌+◌, ◌<◌, ◌≤◌, ◌≡◌, List, true, length}
use Rattle.layout.specs.Layout.{aggregate_set_ceiling, part_ceiling, set_size_ceiling}
use Rattle.pywr.specs.Bytes.{byte, le16, le64}
use Rattle.pywr.specs.Numbers.{is_flow, is_small}
use Rattle.fields.specs.Records.{records_end}
use Rattle.network_node.specs.Node.{node_length, kind_offset, min_offset, max_offset}
use Rattle.network_edge.specs.Edge.{edge_length, from_offset, to_offset}
use Rattle.network_aggregate.specs.AggregatedNode.{set_end, aggregate_end, set_count_offset, sets_offset, member_place}
use Rattle.network_virtual_storage.specs.VirtualStorage.{virtual_storage_end, part_count_offset, storage_part_length, factor_offset, part_place}

-- the node at `at`: its kind, and no NaN as min or max
pub record NodePassed (file : List ℕ) (at : ℕ) : Type 0 where
  pub within : at + node_length ≤ length file
  pub kind : byte file (at + kind_offset) ≤ 3
  pub min : is_flow (le64 file (at + min_offset)) ≡ true
  pub max : is_flow (le64 file (at + max_offset)) ≡ true

-- the edge at `at`: its ends are nodes
pub record EdgePassed (file : List ℕ) (nodes at : ℕ) : Type 0 where
  pub within : at + edge_length ≤ length file
  pub from : le16 file (at + from_offset) < nodes
  pub to : le16 file (at + to_offset) < nodes

-- the set at `at`: 1..16 nodes
pub record SetPassed (file : List ℕ) (nodes at : ℕ) : Type 0 where
  pub within : set_end file at ≤ length file
  pub least : 1 ≤ byte file at
  pub most : byte file at ≤ set_size_ceiling
  pub members : (k : ℕ) → k < byte file at → le16 file (member_place at k) < nodes

-- the aggregate at `at`: 1..16 sets
pub record AggregatePassed (file : List ℕ) (nodes at : ℕ) : Type 0 where
  pub within : aggregate_end file at ≤ length file
  pub least : 1 ≤ byte file (at + set_count_offset)
  pub most : byte file (at + set_count_offset) ≤ aggregate_set_ceiling
  pub sets : (k : ℕ) → k < byte file (at + set_count_offset) → SetPassed file nodes (records_end (set_end file) k (at + sets_offset))

-- the part at `at`: a node, and a factor of magnitude at most 1e12
pub record PartPassed (file : List ℕ) (nodes at : ℕ) : Type 0 where
  pub within : at + storage_part_length ≤ length file
  pub node : le16 file at < nodes
  pub factor : is_small (le64 file (at + factor_offset)) ≡ true

-- the virtual storage at `at`: 1..64 parts
pub record VirtualStoragePassed (file : List ℕ) (nodes at : ℕ) : Type 0 where
  pub within : virtual_storage_end file at ≤ length file
  pub least : 1 ≤ byte file (at + part_count_offset)
  pub most : byte file (at + part_count_offset) ≤ part_ceiling
  pub parts : (k : ℕ) → k < byte file (at + part_count_offset) → PartPassed file nodes (part_place at k)

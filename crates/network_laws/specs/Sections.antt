-- What holds of a file whose records were all accepted: n nodes, e edges, a aggregates, and v virtual storages from `place` on. Assumes nothing.
use Rattle.std.specs.Prelude.{ℕ, ◌+◌, ◌≤◌, ◌≡◌, List, length}
use Rattle.layout.specs.Layout.{node_ceiling, edge_ceiling, aggregate_ceiling, virtual_storage_ceiling}
use Rattle.fields.specs.Records.{records_end, AllPass}
use Rattle.network_node.specs.Node.{check_node, node_length, node_place}
use Rattle.network_edge.specs.Edge.{check_edge, edge_length, edge_place}
use Rattle.network_aggregate.specs.AggregatedNode.{aggregate_end, check_aggregate}
use Rattle.network_virtual_storage.specs.VirtualStorage.{virtual_storage_end, check_virtual_storage}
use Rattle.network_laws.specs.NetworkAt.{aggregate_start}

pub record Sections (file : List ℕ) (n e a v place : ℕ) : Type 0 where
  -- the counts are within their ceilings
  pub few_nodes : n ≤ node_ceiling
  pub few_edges : e ≤ edge_ceiling
  pub few_aggregates_lem : a ≤ aggregate_ceiling
  pub few_virtual_storages_lem : v ≤ virtual_storage_ceiling
  -- the sections stand one behind the other, and the last ends with the file
  pub fixed : edge_place n e ≤ place
  pub inside : place ≤ length file
  pub virtual_storages : place ≡ aggregate_start file n e a
  pub ends : records_end (virtual_storage_end file) v place ≡ length file
  -- every record passed
  pub nodes_pass : AllPass (λ i. check_node file) (λ at. at + node_length) n 0
  pub edges_pass : AllPass (check_edge file n) (λ at. at + edge_length) e (node_place n)
  pub aggregates_pass : AllPass (λ i. check_aggregate file n) (aggregate_end file) a (edge_place n e)
  pub virtual_storages_pass : AllPass (λ i. check_virtual_storage file n) (virtual_storage_end file) v place

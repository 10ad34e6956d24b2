-- A node's kind by its number. Assumes nothing.
use Rattle.std.proofs.Common.{◌≡◌, ℕ, ◌≤◌, arith}
use Rattle.network_node.specs.declared.NodeKind.{NodeKind}
use Rattle.network_node.specs.Node.{node_kind}

module _ (k : ℕ) where
  pub is_output : node_kind k ≡ NodeKind.Output → k ≡ 1
  unfolding node_kind
  is_output e = grind arith

  pub is_link : node_kind k ≡ NodeKind.Link → k ≡ 2
  unfolding node_kind
  is_link e = grind arith

  -- of a number that passed
  pub is_storage : k ≤ 3 → node_kind k ≡ NodeKind.Storage → k ≡ 3
  unfolding node_kind
  is_storage h e = grind arith

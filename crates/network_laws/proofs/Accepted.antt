-- Each record of a file whose records were all accepted: what holds of it, by its index. Assumes nothing.
use Prim.Native.Nat.{ℕ, ◌+◌, ◌*◌, ◌<◌, ◌≤◌}
use mathlib.Core.Path.{subst}
use mathlib.Core.List.{List}
use native.Mathlib.Omega.{arith}
use lib.ListN.{length}
use Rattle.fields.specs.Records.{records_end}
use Rattle.fields.proofs.RecordLaws.{end_fixed}
use Rattle.network_virtual_storage.specs.VirtualStorage.{virtual_storage_end}
use Rattle.network_laws.specs.NetworkAt.{aggregate_start, virtual_storage_start}
use Rattle.network_laws.specs.Passed.{NodePassed, EdgePassed, AggregatePassed, VirtualStoragePassed}
use Rattle.network_laws.specs.Sections.{Sections}
use Rattle.network_laws.proofs.Index.{node_start}
use Rattle.network_laws.proofs.Passed.{node_passed, edge_passed, aggregate_passed, virtual_storage_passed}

module _ (file : List ℕ) (n e a v place : ℕ) (h : Sections file n e a v place) where
  pub fixed_within : 20 * n + 6 * e ≤ length file
  fixed_within = omega (arith, h.fixed, h.inside)

  pub node_accepted : (i : ℕ) → i < n → NodePassed file (20 * i)
  node_accepted i lt = subst (NodePassed file) (node_start i) (node_passed file _ _ (h.nodes_pass i lt))

  pub edge_accepted : (j : ℕ) → j < e → EdgePassed file n (20 * n + 6 * j)
  edge_accepted j lt = subst (EdgePassed file n) (end_fixed 6 j (20 * n)) (edge_passed file n j _ _ (h.edges_pass j lt))

  pub aggregate_accepted : (k : ℕ) → k < a → AggregatePassed file n (aggregate_start file n e k)
  aggregate_accepted k lt = aggregate_passed file n _ _ (h.aggregates_pass k lt)

  pub virtual_storage_accepted : (k : ℕ) → k < v → VirtualStoragePassed file n (virtual_storage_start file n e a k)
  virtual_storage_accepted k lt = subst (λ (at : ℕ). VirtualStoragePassed file n (records_end (virtual_storage_end file) k at)) h.virtual_storages
      (virtual_storage_passed file n _ _ (h.virtual_storages_pass k lt))

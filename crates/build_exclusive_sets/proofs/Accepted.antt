-- An accepted file: it has at most 63,488 bytes, and its aggregates passed. Assumes nothing.
use Prim.Native.Nat.{ℕ, zero, suc, ◌+◌, ◌*◌, ◌<◌, ◌≤◌}
use mathlib.Core.Path.{◌≡◌, sym, ap, ◌∙◌}
use mathlib.Core.List.{List}
use native.Mathlib.Omega.{arith}
use native.Mathlib.Numerals.{add-one}
use native.Mathlib.Nat.{mul-suc}
use lib.ListN.{length}
use Rattle.pywr.specs.Bytes.{byte}
use Rattle.fields.specs.Records.{records_end}
use Rattle.fields.proofs.RecordLaws.{end_more, end_after}
use Rattle.network_aggregate.specs.AggregatedNode.{set_end, aggregate_end}
use Rattle.network_virtual_storage.specs.VirtualStorage.{virtual_storage_end}
use Rattle.network_laws.specs.NetworkAt.{aggregate_start}
use Rattle.network_laws.specs.Passed.{SetPassed, AggregatePassed}
use Rattle.network_laws.specs.Sections.{Sections}
use Rattle.network_laws.proofs.Accepted.{aggregate_accepted, virtual_storage_accepted}

-- records of at most `size` bytes
ends_under : (end : ℕ → ℕ) (size start count : ℕ) → ((k : ℕ) → k < count → end (records_end end k start) ≤ records_end end k start + size)
    → records_end end count start ≤ start + size * count
unfolding records_end
ends_under end size start zero h = omega arith
ends_under end size start (suc k) h =
    let ih = ends_under end size start k (λ j l. h j (omega arith)) in
    let here = h k (omega arith) in
    let e : records_end end (suc k) start ≡ end (records_end end k start) = sym (ap (λ (j : ℕ). records_end end j start) (add-one k)) ∙ end_more end k start in
    let m = mul-suc size k in
    omega arith

module _ (file : List ℕ) (n at : ℕ) where
  pub fields_within : AggregatePassed file n at → at + 12 ≤ length file
  fields_within p = omega (arith, p.within, end_after (set_end file) (λ x. omega arith) (byte file (at + 3)) (at + 12))

  aggregate_under : AggregatePassed file n at → aggregate_end file at ≤ at + 540
  aggregate_under p =
      let h = ends_under (set_end file) 33 (at + 12) (byte file (at + 3)) (λ k l. let s = p.sets k l in omega (arith, s.most)) in
      omega (arith, p.most, h)

  set_passed_256 : n ≤ 256 → SetPassed file n at → SetPassed file 256 at
  set_passed_256 few p = record { within = p.within; least = p.least; most = p.most; members = λ k l. let h = p.members k l in omega arith }

module _ (file : List ℕ) (n e a v place : ℕ) (h : Sections file n e a v place) where
  pub few_bytes : length file ≤ 63488
  few_bytes =
      let g = ends_under (aggregate_end file) 540 (20 * n + 6 * e) a (λ k l. aggregate_under file n _ (aggregate_accepted file n e a v place h k l)) in
      let s = ends_under (virtual_storage_end file) 648 (aggregate_start file n e a) v
      (λ k l. let p = virtual_storage_accepted file n e a v place h k l in omega (arith, p.most)) in
      let q = ap (records_end (virtual_storage_end file) v) h.virtual_storages in
      omega (arith, h.ends, h.few_nodes, h.few_edges, h.few_aggregates_lem, h.few_virtual_storages_lem, g, s, q)

  pub aggregate_passed_256 : (k : ℕ) → k < a → AggregatePassed file 256 (aggregate_start file n e k)
  aggregate_passed_256 k l =
      let p = aggregate_accepted file n e a v place h k l in
      record { within = p.within; least = p.least; most = p.most; sets = λ i m. set_passed_256 file n _ h.few_nodes (p.sets i m) }

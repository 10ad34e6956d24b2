-- A turn of each loop that marks nodes. Assumes nothing.
use Prim.Native.Nat.{ℕ, ◌+◌, ◌*◌, ◌-◌, ◌<◌, ◌≤◌}
use mathlib.Core.Path.{◌≡◌}
use mathlib.Core.List.{List, map}
use mathlib.Core.Bool.{Bool, true, cond}
use native.Mathlib.Omega.{arith}
use lib.ListN.{length, set}
use Rattle.pywr.specs.Bytes.{byte, le16}
use Rattle.pywr.specs.Network.{Edge}
use Rattle.fields.specs.Records.{records_at}
use Rattle.fields.proofs.RecordLaws.{records_left, records_over, end_after, end_more, end_none}
use Rattle.network_edge.specs.Edge.{edge_at}
use Rattle.network_aggregate.specs.AggregatedNode.{aggregate_set_at, set_end, aggregate_at, aggregate_end}
use Rattle.network_laws.specs.Passed.{AggregatePassed}
use Rattle.network_checks.specs.Marks.{mark_all, mark_sets, mark_exclusive}

-- edge j
module _ (file : List ℕ) (n e j : ℕ) (end : Edge → ℕ) (marks : List Bool) (x : ℕ) where
  pub mark_edge : j < e → x ≡ end (edge_at file (20 * n + 6 * j))
      → mark_all (map end (records_at (edge_at file) (λ at. at + 6) (e - j) (20 * n + 6 * j))) marks
      ≡ mark_all (map end (records_at (edge_at file) (λ at. at + 6) (e - (j + 1)) (20 * n + 6 * (j + 1)))) (set marks x true)
  unfolding mark_all
  mark_edge lt q =
      let next : 20 * n + 6 * j + 6 ≡ 20 * n + 6 * (j + 1) = omega arith in
      rw (records_left (λ at. at + 6) e j (20 * n + 6 * j) lt (edge_at file), next, ← q)

-- node k of the set at `at`
module _ (file : List ℕ) (at size k : ℕ) (marks : List Bool) (x : ℕ) where
  pub mark_member : k < size → x ≡ le16 file (at + 1 + 2 * k)
      → mark_all (records_at (le16 file) (λ at. at + 2) (size - k) (at + 1 + 2 * k)) marks
      ≡ mark_all (records_at (le16 file) (λ at. at + 2) (size - (k + 1)) (at + 1 + 2 * (k + 1))) (set marks x true)
  unfolding mark_all
  mark_member lt q =
      let next : at + 1 + 2 * k + 2 ≡ at + 1 + 2 * (k + 1) = omega arith in
      rw (records_left (λ at. at + 2) size k (at + 1 + 2 * k) lt (le16 file), next, ← q)

-- the fields of an aggregate that passed lie within the file
pub fields_within : (file : List ℕ) (nodes at : ℕ) → AggregatePassed file nodes at → at + 12 ≤ length file
fields_within file nodes at h = omega (arith, h.within, end_after (set_end file) (λ y. omega arith) (byte file (at + 3)) (at + 12))

-- the set at `here`, i sets of `count` before it
pub mark_one_set : (file : List ℕ) (count i here : ℕ) (marks : List Bool) → i < count
    → mark_sets (records_at (aggregate_set_at file) (set_end file) (count - i) here) marks
    ≡ mark_sets (records_at (aggregate_set_at file) (set_end file) (count - (i + 1)) (set_end file here)) (mark_all (aggregate_set_at file here) marks)
unfolding mark_sets
mark_one_set file count i here marks lt = rw (records_left (set_end file) count i here lt (aggregate_set_at file))

-- the aggregate at `at`, k aggregates of `a` before it
pub mark_aggregate : (file : List ℕ) (a k at : ℕ) (marks : List Bool) → k < a
    → mark_exclusive (records_at (aggregate_at file) (aggregate_end file) (a - k) at) marks
    ≡ mark_exclusive (records_at (aggregate_at file) (aggregate_end file) (a - (k + 1)) (aggregate_end file at))
    (cond (aggregate_at file at).exclusive (mark_sets (aggregate_at file at).sets marks) marks)
unfolding mark_exclusive
mark_aggregate file a k at marks lt = rw (records_left (aggregate_end file) a k at lt (aggregate_at file))

-- for a function that marks nodes
pub ruleset marking = (fields_within, mark_edge, mark_member, mark_one_set, mark_aggregate, records_over, end_more, end_none)

-- The aggregates of an accepted file: where each lies, and that the sets of an exclusive one are among the distinct ones. Assumes nothing.
use mathlib.Core.Path.{◌≡◌, refl, sym, subst}
use Prim.Native.Nat.{ℕ, zero, suc, ◌+◌, ◌*◌, ◌<◌, ◌≤◌}
use native.Mathlib.Omega.{arith}
use mathlib.Core.Bool.{true}
use mathlib.Core.List.{List, Memᴰ}
use lib.ListN.{length, take, length-map}
use lib.Seq.{length-take-le}
use lib.Dec.{T}
use Rattle.pywr.specs.Bytes.{byte}
use Rattle.pywr.specs.ExclusiveSets.{exclusive_sets, set_number}
use Rattle.pywr.specs.ColEdgeMap.{columns}
use Rattle.pywr.specs.Rows.{column_map}
use Rattle.pywr.proofs.ListLaws.{found_below}
use Rattle.pywr.proofs.MembershipLaws.{From, from_at}
use Rattle.fields.specs.Records.{records_at, records_end}
use Rattle.fields.proofs.RecordLaws.{end_after}
use Rattle.network_aggregate.specs.AggregatedNode.{aggregate_set_at, set_end, aggregate_at, aggregate_end}
use Rattle.network_laws.specs.NetworkAt.{network_at, aggregate_start}
use Rattle.network_laws.specs.Sections.{Sections}
use Rattle.network_laws.specs.Passed.{AggregatePassed}
use Rattle.network_laws.proofs.Passed.{aggregate_passed}
use Rattle.build_exclusive_sets.specs.Sets.{sets_at, SetsFit}
use Rattle.build_exclusivity.specs.ExclusivityRow.{KnownSets, MapOf}

-- record i of some is one of them
records_mem : {A : Type 0} (read : ℕ → A) (end : ℕ → ℕ) (count at i : ℕ) → i < count → Memᴰ (read (records_end end i at)) (records_at read end count at)
unfolding records_at records_end
records_mem read end zero at i h = absurd (omega arith)
records_mem read end (suc count) at zero h = Memᴰ.head refl
records_mem read end (suc count) at (suc i) h = Memᴰ.tail (records_mem read end count (end at) i (omega arith))

module _ (file : List ℕ) (n e a v place : ℕ) (h : Sections file n e a v place) (i : ℕ) (lt : i < a) (at : ℕ) (stands : at ≡ aggregate_start file n e i) where
  passed : AggregatePassed file n at
  passed = rw stands (aggregate_passed file n _ _ (h.aggregates_pass i lt))

  pub aggregate_inside : aggregate_end file at ≤ length file
  aggregate_inside = passed.within

  pub aggregate_starts : at + 12 ≤ length file
  aggregate_starts =
      let q = end_after (set_end file) (λ x. let w : x ≤ x + 1 + 2 * byte file x = omega arith in w) (byte file (at + 3)) (at + 12) in
      omega (arith, aggregate_inside, q)

  among : (aggregate_at file at).exclusive ≡ true → (k : ℕ) → k < byte file (at + 3) → From (network_at file n e a v).aggregates (aggregate_set_at file (records_end (set_end file) k (at + 12)))
  unfolding network_at
  among x k l =
      record {
        aggregate = aggregate_at file at;
        known = rw stands (records_mem (aggregate_at file) (aggregate_end file) a (20 * n + 6 * e) i lt);
        exclusive = subst T (sym x) tt;
        has = records_mem (aggregate_set_at file) (set_end file) (byte file (at + 3)) (at + 12) k l;
      }

  pub known_sets : (places : List ℕ) (count : ℕ) → SetsFit file places count → sets_at file places count ≡ exclusive_sets (network_at file n e a v) → (aggregate_at file at).exclusive ≡ true
      → KnownSets file places count at
  known_sets places count fit same x =
      record {
        within = λ k l. (passed.sets k l).within;
        numbered = λ k l.
            let s = aggregate_set_at file (records_end (set_end file) k (at + 12)) in
            let b = found_below (exclusive_sets (network_at file n e a v)) (set_number s (exclusive_sets (network_at file n e a v))) s (from_at (network_at file n e a v) s (among x k l)) in
            let q : length (sets_at file places count) ≡ length (take count places) = simp length-map in
            let few = length-take-le count places (omega (arith, fit.long, fit.few)) in
            let m : set_number s (sets_at file places count) < length (sets_at file places count) = rw same b in
            omega (arith, q, few, m);
      }

pub map_of : (file : List ℕ) (n e a v : ℕ) (places : List ℕ) (count edge_columns : ℕ) → sets_at file places count ≡ exclusive_sets (network_at file n e a v)
    → edge_columns ≡ (columns (network_at file n e a v)).count
    → MapOf file places count edge_columns (column_map (network_at file n e a v))
unfolding column_map
map_of file n e a v places count edge_columns same edges = record { edges = sym edges; sets = sym same }

-- What the bounds of a node tell where they are good: their ranges, the node's interval, and that it is not crossed. Assumes nothing.
use Rattle.std.specs.Prelude.{Some}
use Prim.Native.Nat.{ℕ, ◌+◌}
use mathlib.Core.Path.{◌≡◌, sym, subst}
use mathlib.Core.Bool.{true, false}
use mathlib.Core.List.{List}
use lib.Ieee.{Float}
use Rattle.pywr.specs.declared.Interval.{Interval}
use Rattle.pywr.specs.declared.Sentinel.{Sentinel}
use Rattle.pywr.specs.Bytes.{le64}
use Rattle.pywr.specs.Numbers.{of_pattern}
use Rattle.pywr.specs.Interval.{sentinels, interval_of, storage_bounds}
use Rattle.pywr.specs.Programme.{NodeShape}
use Rattle.pywr.specs.StepFile.{is_storage, bounds_read}
use Rattle.pywr.specs.StepIntervals.{node_interval, is_crossed}
use Rattle.step_record.specs.Check.{in_range, bound_range, volume_range, node_min_offset, node_max_offset, node_volume_offset}
use Rattle.step_file.specs.Decoded.{node_step_at}
use Rattle.step_walk_record.specs.Fields.{are_flows, are_volumes, uncrossed, constant_walked, storage_walked, flow_walked}
use Rattle.step_walk_record.proofs.GoodLaws.{good_tested, good_same, uncrossed_good, sentinels_uncrossed, flows_fit, volumes_fit}
use Rattle.step_walk_record.proofs.AcceptedLaws.{BoundsFit}

module _ (file : List ℕ) (at : ℕ) (n : NodeShape) (days : Float) (s : Sentinel) where
  pub record BoundsGood (x : Interval) : Type 0 where
    pub fit : BoundsFit file at n
    pub interval : x ≡ node_interval s days (node_step_at file n at).bounds
    pub ordered : is_crossed x ≡ false

  pub constant_good : (x : Interval) → n.constant ≡ true → constant_walked file at (is_storage n) s ≡ Some x → BoundsGood x
  unfolding constant_walked bound_range in_range node_step_at bounds_read node_interval
  constant_good x k e =
      let t = good_tested (in_range (volume_range (is_storage n)) (le64 file (at + node_volume_offset))) (Some (sentinels s)) x e in
      let q = good_same _ _ t.1 in
      record {
        fit = record { min = rw k; max = rw k; volume = t.0 };
        interval = rw k (sym q);
        ordered = subst (λ (y : Interval). is_crossed y ≡ false) q (sentinels_uncrossed s);
      }

  pub storage_good : (x : Interval) → n.constant ≡ false → is_storage n ≡ true → storage_walked file at days ≡ Some x → BoundsGood x
  unfolding storage_walked bound_range volume_range in_range node_step_at bounds_read node_interval
  storage_good x k st e =
      let min : ℕ = le64 file (at + node_min_offset) in
      let max : ℕ = le64 file (at + node_max_offset) in
      let volume : ℕ = le64 file (at + node_volume_offset) in
      let own : Interval = interval_of days (storage_bounds (of_pattern min) (of_pattern max) (of_pattern volume)) in
      let t = good_tested (are_volumes min max volume) (uncrossed own) x e in
      let f = volumes_fit min max volume t.0 in
      let u = uncrossed_good own x t.1 in
      record {
        fit = record { min = rw (k, st) f.min; max = rw (k, st) f.max; volume = rw st f.volume };
        interval = rw (k, st) (sym u.1);
        ordered = subst (λ (y : Interval). is_crossed y ≡ false) u.1 u.0;
      }

  pub flow_good : (x : Interval) → n.constant ≡ false → is_storage n ≡ false → flow_walked file at ≡ Some x → BoundsGood x
  unfolding flow_walked bound_range volume_range in_range node_step_at bounds_read node_interval interval_of
  flow_good x k st e =
      let min : ℕ = le64 file (at + node_min_offset) in
      let max : ℕ = le64 file (at + node_max_offset) in
      let own : Interval = record { lower = of_pattern min; upper = of_pattern max } in
      let t = good_tested (are_flows min max) (uncrossed own) x e in
      let f = flows_fit min max t.0 in
      let u = uncrossed_good own x t.1 in
      record {
        fit = record { min = rw (k, st) f.lower; max = rw (k, st) f.upper; volume = rw st };
        interval = rw (k, st) (sym u.1);
        ordered = subst (λ (y : Interval). is_crossed y ≡ false) u.1 u.0;
      }

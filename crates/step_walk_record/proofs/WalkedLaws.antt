-- Each record's contract: from a stop, from the tests that a good answer passed, and a virtual storage's on the date of its file. Assumes nothing.
use Rattle.std.specs.Prelude.{Option, Some, None}
use Prim.Native.Nat.{ℕ, ◌+◌, ◌≤◌}
use mathlib.Core.Path.{◌≡◌, sym, ◌∙◌}
use mathlib.Core.Bool.{true}
use mathlib.Core.List.{List}
use lib.Dec.{eqb}
use lib.Ieee.{Float}
use lib.ListN.{length}
use Rattle.pywr.specs.declared.Interval.{Interval}
use Rattle.pywr.specs.declared.Sentinel.{Sentinel}
use Rattle.pywr.specs.Bytes.{byte, le64, mark_is}
use Rattle.pywr.specs.Numbers.{is_small, of_pattern}
use Rattle.pywr.specs.Interval.{virtual_bounds}
use Rattle.pywr.specs.Period.{is_active, virtual_interval}
use Rattle.step_record.specs.Check.{in_range, month_offset, day_offset, node_step_length, node_cost_offset, aggregate_step_length, aggregate_lower_offset, aggregate_upper_offset}
use Rattle.step_record.specs.Check.{virtual_storage_step_length, virtual_min_offset, virtual_max_offset, virtual_volume_offset}
use Rattle.step_file.specs.Decoded.{aggregate_step_at, virtual_storage_step_at}
use Rattle.step_period.specs.PeriodAt.{period_at}
use Rattle.step_virtual_interval.specs.VirtualInterval.{virtual_interval_at}
use Rattle.step_walk_record.specs.Fields.{are_flows, are_volumes}
use Rattle.step_walk_record.specs.WalkedRecord.{NodeWalked, AggregateWalked, VirtualStorageWalked}
use Rattle.step_walk_record.proofs.GoodLaws.{never_good, good_same, flows_fit, volumes_fit}
use Rattle.step_walk_record.proofs.AcceptedLaws.{node_accepted, aggregate_accepted, virtual_storage_accepted}
use Rattle.step_walk_record.proofs.BoundsLaws.{BoundsGood}

-- ---- a node

module _ (file : List ℕ) (at kind constant : ℕ) (days : Float) (s : Sentinel) where
  pub node_stopped : NodeWalked file at kind constant days s None
  node_stopped = record { accepted = λ x e. never_good x e; interval = λ x e. never_good x e; ordered = λ x e. never_good x e }

  pub node_walked : (r : Option Interval) → at + node_step_length ≤ length file → mark_is file at 78 66 ≡ true → is_small (le64 file (at + node_cost_offset)) ≡ true
      → ((x : Interval) → r ≡ Some x → BoundsGood file at (record { kind = kind; constant = eqb constant 1 }) days s x)
      → NodeWalked file at kind constant days s r
  unfolding in_range
  node_walked r h m c b =
      record {
        accepted = λ x e. node_accepted file at (record { kind = kind; constant = eqb constant 1 }) h m c (b x e).fit;
        interval = λ x e. (b x e).interval;
        ordered = λ x e. (b x e).ordered;
      }

-- ---- an aggregate

module _ (file : List ℕ) (at : ℕ) where
  pub aggregate_stopped : AggregateWalked file at None
  aggregate_stopped = record { accepted = λ x e. never_good x e; interval = λ x e. never_good x e }

  pub aggregate_walked : (lower upper : ℕ) → at + aggregate_step_length ≤ length file → mark_is file at 71 66 ≡ true
      → lower ≡ le64 file (at + aggregate_lower_offset)
      → upper ≡ le64 file (at + aggregate_upper_offset)
      → are_flows lower upper ≡ true
      → AggregateWalked file at (Some (record { lower = of_pattern lower; upper = of_pattern upper }))
  unfolding aggregate_step_at
  aggregate_walked lower upper h m p q f =
      record {
        accepted = λ x e. aggregate_accepted file at h m (rw (p, q) at (flows_fit lower upper f));
        interval = λ x e. sym (good_same _ x e) ∙ rw (p, q);
      }

-- ---- a virtual storage

module _ (shape file : List ℕ) (place at month day : ℕ) (days : Float) (s : Sentinel) where
  pub virtual_storage_stopped : VirtualStorageWalked shape file place at month day days s None
  virtual_storage_stopped = record { accepted = λ x e. never_good x e; interval = λ x e. never_good x e }

  pub virtual_storage_walked : (min max volume : ℕ) (x : Interval) → at + virtual_storage_step_length ≤ length file → mark_is file at 86 66 ≡ true
      → min ≡ le64 file (at + virtual_min_offset)
      → max ≡ le64 file (at + virtual_max_offset)
      → volume ≡ le64 file (at + virtual_volume_offset)
      → are_volumes min max volume ≡ true
      → x ≡ virtual_interval s days (is_active (period_at shape place) month day) (virtual_bounds (of_pattern min) (of_pattern max) (of_pattern volume))
      → VirtualStorageWalked shape file place at month day days s (Some x)
  unfolding virtual_storage_step_at
  virtual_storage_walked min max volume x h m p q t v i =
      record {
        accepted = λ y e. virtual_storage_accepted file at h m (rw (p, q, t) at (volumes_fit min max volume v));
        interval = λ y e. sym (good_same _ y e) ∙ (rw (p, q, t) at i);
      }

  -- on the step's own date the interval is the virtual storage's of the step
  pub walked_on_date : (r : Option Interval) (x : Interval) → VirtualStorageWalked shape file place at month day days s r
      → month ≡ byte file month_offset → day ≡ byte file day_offset
      → r ≡ Some x
      → x ≡ virtual_interval_at s days shape file place at
  unfolding virtual_interval_at
  walked_on_date r x w m d e = rw (← m, ← d) (w.interval x e)

-- What a record of a step file that was good in one look tells: it passes its check, and its interval. A stop tells nothing. Assumes nothing.
use Rattle.std.specs.Prelude.{Option, Some, ℕ, ◌≡◌, false, List, eqb, Float, Ok}
use Rattle.pywr.specs.declared.Interval.{Interval}
use Rattle.pywr.specs.declared.Sentinel.{Sentinel}
use Rattle.pywr.specs.Period.{is_active, virtual_interval}
use Rattle.pywr.specs.StepIntervals.{node_interval, is_crossed}
use Rattle.step_record.specs.Check.{check_node, check_aggregate, check_virtual_storage_step}
use Rattle.step_file.specs.Decoded.{node_step_at, aggregate_step_at, virtual_storage_step_at}
use Rattle.step_period.specs.PeriodAt.{period_at}

-- an `NB` record at `at`, of a node with this kind and flag: uncrossed too
pub record NodeWalked (file : List ℕ) (at kind constant : ℕ) (days : Float) (s : Sentinel) (r : Option Interval) : Type 0 where
  pub accepted : (x : Interval) → r ≡ Some x → check_node file (record { kind = kind; constant = eqb constant 1 }) at ≡ Ok tt
  pub interval : (x : Interval) → r ≡ Some x → x ≡ node_interval s days (node_step_at file (record { kind = kind; constant = eqb constant 1 }) at).bounds
  pub ordered : (x : Interval) → r ≡ Some x → is_crossed x ≡ false

-- a `GB` record at `at`
pub record AggregateWalked (file : List ℕ) (at : ℕ) (r : Option Interval) : Type 0 where
  pub accepted : (x : Interval) → r ≡ Some x → check_aggregate file at ≡ Ok tt
  pub interval : (x : Interval) → r ≡ Some x → x ≡ aggregate_step_at file at

-- a `VB` record at `at`, of the virtual storage whose words stand at `place` of the shape run, on a date
pub record VirtualStorageWalked (shape file : List ℕ) (place at month day : ℕ) (days : Float) (s : Sentinel) (r : Option Interval) : Type 0 where
  pub accepted : (x : Interval) → r ≡ Some x → check_virtual_storage_step file at ≡ Ok tt
  pub interval : (x : Interval) → r ≡ Some x → x ≡ virtual_interval s days (is_active (period_at shape place) month day) (virtual_storage_step_at file at)

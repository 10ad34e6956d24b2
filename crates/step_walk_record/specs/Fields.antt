-- The fields of a record in one look: the ranges of bit patterns that stand together, and the bounds of a node. Assumes nothing.
use Rattle.std.specs.Prelude.{Option, Some, None, ℕ, ◌+◌, Bool, cond, ◌&&◌, List, Float}
use Rattle.pywr.specs.declared.Interval.{Interval}
use Rattle.pywr.specs.declared.Sentinel.{Sentinel}
use Rattle.pywr.specs.Bytes.{le64}
use Rattle.pywr.specs.Numbers.{is_flow, is_small, of_pattern}
use Rattle.pywr.specs.Interval.{sentinels, interval_of, storage_bounds}
use Rattle.pywr.specs.StepIntervals.{is_crossed}
use Rattle.step_record.specs.Check.{in_range, volume_range, node_min_offset, node_max_offset, node_volume_offset}

unfoldable pub are_flows : ℕ → ℕ → Bool
are_flows lower upper = is_flow lower && is_flow upper

unfoldable pub are_volumes : ℕ → ℕ → ℕ → Bool
are_volumes min max volume = is_small min && (is_small max && is_small volume)

unfoldable pub uncrossed : Interval → Option Interval
uncrossed x = cond (is_crossed x) None (Some x)

-- the bounds of a node whose record stands at `at`: a constant one, by whether it is a storage; a storage; and any other
unfoldable pub constant_walked : List ℕ → ℕ → Bool → Sentinel → Option Interval
constant_walked file at stores s = cond (in_range (volume_range stores) (le64 file (at + node_volume_offset))) (Some (sentinels s)) None

unfoldable pub storage_walked : List ℕ → ℕ → Float → Option Interval
storage_walked file at days =
    let min = le64 file (at + node_min_offset) in
    let max = le64 file (at + node_max_offset) in
    let volume = le64 file (at + node_volume_offset) in
    cond (are_volumes min max volume) (uncrossed (interval_of days (storage_bounds (of_pattern min) (of_pattern max) (of_pattern volume)))) None

unfoldable pub flow_walked : List ℕ → ℕ → Option Interval
flow_walked file at =
    let min = le64 file (at + node_min_offset) in
    let max = le64 file (at + node_max_offset) in
    cond (are_flows min max) (uncrossed (record { lower = of_pattern min; upper = of_pattern max })) None

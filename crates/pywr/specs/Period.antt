-- The active period of a virtual storage (virtual_storage.rs). "Periods compare (month, day), ends included, wrapping if start is later." Assumes nothing.
use Rattle.std.specs.Prelude.{ℕ, Bool, cond, ◌&&◌, ◌||◌, leb, ltb, eqb, Float}
use Rattle.pywr.specs.declared.Sentinel.{Sentinel}
use Rattle.pywr.specs.declared.Interval.{Interval}
use Rattle.pywr.specs.declared.NodeBounds.{NodeBounds}
use Rattle.pywr.specs.Network.{Period}
use Rattle.pywr.specs.Interval.{sentinels, interval_of}

-- the first (month, day) is not after the second
abbrev pub up_to : ℕ → ℕ → ℕ → ℕ → Bool
up_to month day last_month last_day = ltb month last_month || (eqb month last_month && leb day last_day)

unfoldable pub is_active : Period → ℕ → ℕ → Bool
is_active period month day =
    let from_start : Bool = up_to period.start_month period.start_day month day in
    let to_end : Bool = up_to month day period.end_month period.end_day in
    period.always || cond (up_to period.start_month period.start_day period.end_month period.end_day) (from_start && to_end) (from_start || to_end)

-- "Interval as storage, but ..; sentinels when inactive."
unfoldable pub virtual_interval : Sentinel → Float → Bool → NodeBounds → Interval
virtual_interval s days active bounds = cond active (interval_of days bounds) (sentinels s)

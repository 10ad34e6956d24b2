-- Intervals: a bound pair as the step has it, and how a row's bounds tighten. Assumes nothing.
use Rattle.std.specs.Prelude.{Float}
use Rattle.std.specs.Float.{binary64}
use Rattle.std.specs.Float.Ieee.{sub, div, neg}
use Rattle.pywr.specs.declared.Sentinel.{Sentinel}
use Rattle.pywr.specs.declared.Interval.{Interval}
use Rattle.pywr.specs.declared.NodeBounds.{NodeBounds}
use Rattle.pywr.specs.declared.NodeBounds.TheVariants.{Flow, Volume}
use Rattle.pywr.specs.Numbers.{zero64, high, low, lesser, greater}

-- "larger lower, smaller upper". "the port keeps the bound already held" where two are equal
unfoldable pub tighten : Interval → Interval → Interval
tighten held by = record { lower = greater held.lower by.lower; upper = lesser held.upper by.upper }

-- both sentinels: "A step resets varying rows to the sentinels"
unfoldable pub sentinels : Sentinel → Interval
sentinels s = record { lower = low s; upper = high s }

-- lower 0 and upper the high sentinel: "Varying rows start at lower 0 and the high sentinel.", and binary ones stay there
abbrev pub zero_to_high : Sentinel → Interval
zero_to_high s = record { lower = zero64; upper = high s }

-- NodeBounds: "A bound interval is either a flow pair or a volume pair", the volume pair being the available and the missing volume.
-- "Storage, volume 30, range 10 to 100, 2 days: −20/2 to 70/2, [−10, 35]."
unfoldable pub interval_of : Float → NodeBounds → Interval
interval_of days (Flow least most) = record { lower = least; upper = most }
interval_of days (Volume available missing) = record { lower = div binary64 (neg available) days; upper = div binary64 missing days }

-- storage's volume pair: volume less min, and max less volume
unfoldable pub storage_bounds : Float → Float → Float → NodeBounds
storage_bounds least most now = Volume (sub binary64 now least) (sub binary64 most now)

-- "volume less min, and max less volume, are each raised to at least 0.0 before the first is negated"
unfoldable pub virtual_bounds : Float → Float → Float → NodeBounds
virtual_bounds least most now = Volume (greater (sub binary64 now least) zero64) (greater (sub binary64 most now) zero64)

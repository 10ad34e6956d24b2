-- A virtual storage's interval, over the words of the shape run. Assumes nothing.
use Rattle.std.specs.Prelude.{ℕ, List, Float}
use Rattle.pywr.specs.declared.Interval.{Interval}
use Rattle.pywr.specs.declared.Sentinel.{Sentinel}
use Rattle.pywr.specs.Bytes.{byte}
use Rattle.pywr.specs.Period.{is_active, virtual_interval}
use Rattle.step_record.specs.Check.{month_offset, day_offset}
use Rattle.step_file.specs.Decoded.{virtual_storage_step_at}
use Rattle.step_period.specs.PeriodAt.{period_at}

-- whose words stand at `place` and whose record at `at`
unfoldable pub virtual_interval_at : Sentinel → Float → List ℕ → List ℕ → ℕ → ℕ → Interval
virtual_interval_at s days shape file place at =
    virtual_interval s days (is_active (period_at shape place) (byte file month_offset) (byte file day_offset)) (virtual_storage_step_at file at)

-- `storage_interval` meets its contract: at each return, the tests that led there.
use mathlib.Core.Path.{sym, ◌∙◌}
use Rattle.step_walk_record.proofs.GoodLaws.{volumes_fit, small_bits}
use Rattle.step_walk_record.proofs.storage_interval.Goals as goal

pub float_from_bits-min : goal.float_from_bits-min
float_from_bits-min c = small_bits _ (volumes_fit _ _ _ (sym c.are_volumes.ensures ∙ c.if-not-are_volumes.false)).min

pub float_from_bits-max : goal.float_from_bits-max
float_from_bits-max c = small_bits _ (volumes_fit _ _ _ (sym c.are_volumes.ensures ∙ c.if-not-are_volumes.false)).max

pub float_from_bits-volume : goal.float_from_bits-volume
float_from_bits-volume c = small_bits _ (volumes_fit _ _ _ (sym c.are_volumes.ensures ∙ c.if-not-are_volumes.false)).volume

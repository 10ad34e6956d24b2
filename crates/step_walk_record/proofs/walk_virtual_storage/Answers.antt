-- `walk_virtual_storage` meets its contract: the tests that a good answer passed, then the interval by whether the storage is active.
use mathlib.Core.Path.{◌≡◌, sym, ◌∙◌}
use mathlib.Core.Bool.{true}
use Rattle.pywr.specs.declared.Interval.{Interval}
use Rattle.pywr.specs.Numbers.{of_pattern}
use Rattle.pywr.specs.Interval.{virtual_bounds}
use Rattle.pywr.specs.Period.{is_active, virtual_interval}
use Rattle.step_period.specs.PeriodAt.{period_at}
use Rattle.std.specs.Prelude.{Some}
use Rattle.step_walk_record.specs.Fields.{are_volumes}
use Rattle.step_walk_record.specs.WalkedRecord.{VirtualStorageWalked}
use Rattle.step_walk_record.proofs.GoodLaws.{volumes_fit, small_bits}
use Rattle.step_walk_record.proofs.WalkedLaws.{virtual_storage_stopped, virtual_storage_walked}
use Rattle.step_walk_record.proofs.walk_virtual_storage.Goals.{Else-not-are_volumes}
use Rattle.step_walk_record.proofs.walk_virtual_storage.Goals as goal

tested : (c : Else-not-are_volumes) → are_volumes c.u64_at-min.result c.u64_at-max.result c.u64_at-volume.result ≡ true
tested c =
    sym c.are_volumes.ensures ∙ c.if-not-are_volumes.false

abbrev interval : Else-not-are_volumes → Interval
interval c =
    let a = c.args in
    let active = is_active (period_at a.shape.now a.place) a.date.month a.date.day in
    let min = of_pattern c.u64_at-min.result in
    let max = of_pattern c.u64_at-max.result in
    let volume = of_pattern c.u64_at-volume.result in
    virtual_interval a.sentinel a.days active (virtual_bounds min max volume)

abbrev VirtualStorage : Else-not-are_volumes → Interval → Type 0
VirtualStorage c x =
    let a = c.args in
    VirtualStorageWalked a.shape.now a.file.now a.place a.at a.date.month a.date.day a.days a.sentinel (Some x)

-- behind the mark and the volumes
interval-walked : (c : Else-not-are_volumes) (x : Interval) → x ≡ interval c → VirtualStorage c x
interval-walked c x i =
    virtual_storage_walked _ _ _ _ _ _ _ _ _ _ _ x c.requires.0
    (sym c.is_marked.ensures ∙ c.if-not-is_marked.false)
    c.u64_at-min.ensures
    c.u64_at-max.ensures
    c.u64_at-volume.ensures
    (tested c)
    i

pub returns-then-not-is_marked : goal.returns-then-not-is_marked
returns-then-not-is_marked c = virtual_storage_stopped _ _ _ _ _ _ _ _

pub returns-then-not-are_volumes : goal.returns-then-not-are_volumes
returns-then-not-are_volumes c = virtual_storage_stopped _ _ _ _ _ _ _ _

pub float_from_bits-min : goal.float_from_bits-min
float_from_bits-min c = small_bits _ (volumes_fit _ _ _ (tested (goal.at.float_from_bits-min c).Else-not-are_volumes)).min

pub float_from_bits-max : goal.float_from_bits-max
float_from_bits-max c = small_bits _ (volumes_fit _ _ _ (tested (goal.at.float_from_bits-max c).Else-not-are_volumes)).max

pub float_from_bits-volume : goal.float_from_bits-volume
float_from_bits-volume c = small_bits _ (volumes_fit _ _ _ (tested (goal.at.float_from_bits-volume c).Else-not-are_volumes)).volume

pub returns-then-is_active_at : goal.returns-then-is_active_at
unfolding virtual_interval of_pattern
returns-then-is_active_at c =
    interval-walked (goal.at.returns-then-is_active_at c).Else-not-are_volumes _
    (rw (← c.is_active_at.ensures, c.if-is_active_at.true, ← c.virtual_bounds-bounds.ensures) c.interval_of.ensures)

pub returns-else-is_active_at : goal.returns-else-is_active_at
unfolding virtual_interval
returns-else-is_active_at c =
    interval-walked (goal.at.returns-else-is_active_at c).Else-not-are_volumes _ (rw (← c.is_active_at.ensures, c.if-is_active_at.false) c.sentinels.ensures)

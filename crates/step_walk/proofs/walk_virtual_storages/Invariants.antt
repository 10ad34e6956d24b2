-- `walk_virtual_storages` meets its contract. The loop's invariant: i records passed, and their intervals are written.
use Prim.Native.Nat.{◌+◌, ◌*◌}
use Rattle.layout.specs.Layout.{virtual_storages_held_at}
use Rattle.step_record.specs.Check.{check_virtual_storage_step}
use Rattle.step_virtual_storage_intervals.specs.VirtualStorageIntervals.{virtual_storage_numbered}
use Rattle.step_walk.proofs.WalkLaws.{Walking}
use Rattle.step_walk.proofs.walk_virtual_storages.Given as goal

abbrev pub invariant-loop-i : goal.invariant-loop-i
invariant-loop-i l =
    Walking (check_virtual_storage_step l.file) 26 (12 + 34 * l.nodes + 18 * l.aggregates) (virtual_storage_numbered l.sentinel l.days l.shape l.file) virtual_storages_held_at l.virtual_storages l.initial.work l.work l.i

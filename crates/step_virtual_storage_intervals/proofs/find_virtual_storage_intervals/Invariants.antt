-- `find_virtual_storage_intervals` meets its contract. The loop's invariant: i intervals are written.
use Rattle.layout.specs.Layout.{virtual_storages_held_at}
use Rattle.step_virtual_storage_intervals.specs.VirtualStorageIntervals.{virtual_storage_numbered}
use Rattle.step_work.proofs.WrittenLaws.{Writing}
use Rattle.step_virtual_storage_intervals.proofs.find_virtual_storage_intervals.Given as goal

abbrev pub invariant-loop-i : goal.invariant-loop-i
invariant-loop-i l = Writing (virtual_storage_numbered l.sentinel l.days l.shape l.file) virtual_storages_held_at l.virtual_storages l.initial.work l.work l.i

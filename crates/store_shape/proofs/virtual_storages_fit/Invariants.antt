-- `virtual_storages_fit` meets its contract. The loop's invariant: i entries were tested, and `good` says whether all passed.
use Rattle.layout.specs.Layout.{virtual_storages_at}
use Rattle.pywr.specs.Misshapen.{virtual_storage_fits}
use Rattle.store_shape.proofs.Entries.{of_shape, Tested}
use Rattle.store_shape.proofs.virtual_storages_fit.Given as goal

abbrev pub invariant-loop-i : goal.invariant-loop-i
invariant-loop-i l = Tested (virtual_storage_fits (of_shape l.shape)) 6 virtual_storages_at l.virtual_storages l.good l.i

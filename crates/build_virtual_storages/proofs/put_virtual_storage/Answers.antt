-- `build_virtual_storages::put_virtual_storage` meets its contract.
use mathlib.Core.Path.{◌∙◌}
use Prim.Native.Nat.{◌+◌, ◌*◌}
use native.Mathlib.Omega.{arith}
use lib.ListN.{length-set}
use Rattle.layout.specs.Layout.{virtual_storages_at}
use Rattle.network_virtual_storage.specs.PeriodOf.{period_of}
use Rattle.build_virtual_storages.proofs.VirtualStorageLaws.{entry_written, flag_is}
use Rattle.build_virtual_storages.proofs.put_virtual_storage.Goals as goal

pub bounds-shape-at-2 : goal.bounds-shape-at-2
bounds-shape-at-2 c = simp length-set (omega arith)

pub bounds-shape-at-3 : goal.bounds-shape-at-3
bounds-shape-at-3 c = simp length-set (omega arith)

pub bounds-shape-at-4 : goal.bounds-shape-at-4
bounds-shape-at-4 c = simp length-set (omega arith)

pub bounds-shape-at-5 : goal.bounds-shape-at-5
bounds-shape-at-5 c = simp length-set (omega arith)

pub bounds-shape-at-6 : goal.bounds-shape-at-6
bounds-shape-at-6 c = simp length-set (omega arith)

pub shape_of-shape : goal.shape_of-shape
shape_of-shape c = simp length-set

pub returns : goal.returns
returns c =
    let a = c.args in
    entry_written a.shape.now (virtual_storages_at + 6 * a.i) _ _ _ _ _ _ (period_of a.period) (c.from.ensures ∙ flag_is _) c.from-2.ensures
    c.from-3.ensures c.from-4.ensures c.from-5.ensures

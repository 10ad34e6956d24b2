-- `find_virtual_storage_intervals` meets its contract. The loop's invariant: i intervals are written.
use mathlib.Core.Path.{refl, ◌∙◌}
use Prim.Native.Nat.{◌+◌}
use native.Mathlib.Omega.{arith}
use lib.ListN.{length-set}
use Rattle.layout.specs.Layout.{virtual_storages_held_at}
use Rattle.step_virtual_storage_intervals.specs.VirtualStorageIntervals.{virtual_storage_numbered}
use Rattle.step_work.proofs.WrittenLaws.{writing_none, writing_more, writing_all}
use Rattle.step_virtual_storage_intervals.proofs.find_virtual_storage_intervals.Goals as goal

pub loop-i-init : goal.loop-i-init
loop-i-init c = writing_none _ _ _ _

pub bounds-work-k-in-loop-i : goal.bounds-work-k-in-loop-i
bounds-work-k-in-loop-i c =
    omega (
      arith,
      length-set c.loop-i.work (virtual_storages_held_at + c.loop-i.i) c.virtual_storage_interval-x.result.lower,
      c.loop-i.invariant.long,
      c.loop-i-test.true,
      c.from-virtual_storages.ensures,
      c.requires.1,
      c.requires.4,
    )

pub loop-i-preserved : goal.loop-i-preserved
unfolding virtual_storage_numbered
loop-i-preserved c =
    writing_more _ c.virtual_storage_interval-x.result refl (omega (arith, c.from-virtual_storages.ensures, c.requires.4)) c.requires.1 c.loop-i-test.true
    (c.virtual_storage_interval-x.ensures ∙ rw (c.virtual_storage_at.ensures, c.from-nodes.ensures, c.from-aggregates.ensures)) c.loop-i.invariant

pub shape_of-work : goal.shape_of-work
shape_of-work c = c.loop-i.invariant.long

pub returns : goal.returns
returns c = rw (← c.from-virtual_storages.ensures) (writing_all c.loop-i-test.false c.loop-i.invariant)

-- `walk_virtual_storages` meets its contract. The loop's invariant: i records passed, and their intervals are written.
use mathlib.Core.Path.{refl}
use Prim.Native.Nat.{◌+◌}
use native.Mathlib.Omega.{arith}
use lib.ListN.{length-set}
use Rattle.layout.specs.Layout.{virtual_storages_held_at}
use Rattle.step_walk.proofs.WalkLaws.{stopped, walking_none, walking_more, walking_all, virtual_storage_numbered_lem}
use Rattle.step_walk.proofs.walk_virtual_storages.Goals as goal

pub loop-i-init : goal.loop-i-init
loop-i-init c = walking_none _ _ _ _ _ _ _

pub shape_of-work-in_default : goal.shape_of-work-in_default
shape_of-work-in_default c = c.loop-i.invariant.writing.long

pub returns-in_default : goal.returns-in_default
returns-in_default c = stopped

pub bounds-work-k-in-loop-i : goal.bounds-work-k-in-loop-i
bounds-work-k-in-loop-i c =
    omega (arith, length-set c.loop-i.work (virtual_storages_held_at + c.loop-i.i) c.in-Some.x.lower, c.loop-i.invariant.writing.long)

pub loop-i-preserved : goal.loop-i-preserved
loop-i-preserved c =
    let walked = c.walk_virtual_storage.ensures in
    walking_more c.loop-i.invariant _ c.in-Some.x refl (omega (arith, c.from-virtual_storages.ensures, c.requires.4)) c.requires.1 c.loop-i-test.true
    (walked.accepted _ c.in-Some.is)
    (virtual_storage_numbered_lem c.loop-i.i _ walked c.in-Some.is c.month-month.ensures c.day-day.ensures
    (omega arith))

pub shape_of-work : goal.shape_of-work
shape_of-work c = c.loop-i.invariant.writing.long

pub returns : goal.returns
returns c =
    λ e. rw (← c.from-nodes.ensures, ← c.from-aggregates.ensures, ← c.from-virtual_storages.ensures) (walking_all c.loop-i.invariant c.loop-i-test.false)

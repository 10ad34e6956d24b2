-- `find_aggregate_intervals` meets its contract. The loop's invariant: i intervals are written.
use mathlib.Core.Path.{refl}
use Prim.Native.Nat.{◌+◌}
use native.Mathlib.Omega.{arith}
use lib.ListN.{length-set}
use Rattle.step_file.specs.Decoded.{aggregate_step_at}
use Rattle.step_aggregate_intervals.specs.AggregateIntervals.{aggregate_numbered}
use Rattle.step_work.proofs.WrittenLaws.{writing_none, writing_more, writing_all}
use borrow.Author.Rules.{rules}
use Rattle.step_aggregate_intervals.proofs.find_aggregate_intervals.Goals as goal

pub loop-i-init : goal.loop-i-init
loop-i-init c = writing_none _ _ _ _

pub bounds-work-k-in-loop-i : goal.bounds-work-k-in-loop-i
bounds-work-k-in-loop-i c =
    omega (arith, length-set c.loop-i.work (256 + c.loop-i.i) c.aggregate_lower-lower.result, c.loop-i.invariant.long)

pub loop-i-preserved : goal.loop-i-preserved
unfolding aggregate_numbered aggregate_step_at
loop-i-preserved c =
    writing_more _ (record { lower = c.aggregate_lower-lower.result; upper = c.aggregate_upper-upper.result }) refl (search rules) (search rules) c.loop-i-test.true
    (rw (c.aggregate_lower-lower.ensures, c.aggregate_upper-upper.ensures, c.from-nodes.ensures)) c.loop-i.invariant

pub shape_of-work : goal.shape_of-work
shape_of-work c = c.loop-i.invariant.long

pub returns : goal.returns
returns c = rw (← c.from-aggregates.ensures) (writing_all c.loop-i-test.false c.loop-i.invariant)

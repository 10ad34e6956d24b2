-- `falls` meets its contract. The loop's invariant: `sum` counts the falls in front of i.
use mathlib.Core.Path.{◌∙◌, sym}
use Rattle.store_rows.proofs.Sums.{summed_more, summed_all, falls_none, fall_is}
use Rattle.store_rows.proofs.falls.Goals as goal

pub loop-i-init : goal.loop-i-init
loop-i-init c = falls_none _ _

pub loop-i-preserved : goal.loop-i-preserved
loop-i-preserved c =
    summed_more c.loop-i.invariant _ (c.fall_of-sum.ensures.0 ∙ sym (fall_is _ _ c.loop-i.auto.i)) c.fall_of-sum.ensures.1 c.loop-i-test.true

pub returns : goal.returns
returns c = summed_all c.loop-i.invariant c.loop-i-test.false

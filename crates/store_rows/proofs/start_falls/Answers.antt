-- `start_falls` meets its contract. The loop's invariant: `sum` counts the falls at the starts of the rows in front of r.
use Rattle.store_rows.specs.Falls.{row_fall}
use Rattle.store_rows.proofs.Sums.{summed_none, summed_more, summed_all}
use Rattle.store_rows.proofs.start_falls.Goals as goal

pub loop-r-init : goal.loop-r-init
loop-r-init c = summed_none _ _

pub start_fall-sum-requires : goal.start_fall-sum-requires
start_fall-sum-requires c = c.requires.2 _ c.loop-r-test.true

pub loop-r-preserved : goal.loop-r-preserved
unfolding row_fall
loop-r-preserved c = summed_more c.loop-r.invariant _ c.start_fall-sum.ensures.0 c.start_fall-sum.ensures.1 c.loop-r-test.true

pub returns : goal.returns
returns c = summed_all c.loop-r.invariant c.loop-r-test.false

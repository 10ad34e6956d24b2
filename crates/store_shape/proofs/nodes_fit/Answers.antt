-- `nodes_fit` meets its contract. The loop's invariant: i entries were tested, and `good` says whether all passed.
use Rattle.pywr.specs.Misshapen.{node_fits}
use Rattle.store_shape.proofs.Entries.{tested_none, tested_more, tested_all}
use Rattle.store_shape.proofs.nodes_fit.Goals as goal

pub loop-i-init : goal.loop-i-init
loop-i-init c = tested_none _ _ _ _

pub loop-i-preserved : goal.loop-i-preserved
unfolding node_fits
loop-i-preserved c = tested_more c.loop-i.invariant c.loop-i-test.true

pub returns : goal.returns
unfolding node_fits
returns c = λ s e. rw (e, ← c.from-nodes.ensures) (tested_all c.loop-i.invariant c.loop-i-test.false)

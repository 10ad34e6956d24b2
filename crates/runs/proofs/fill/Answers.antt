-- `runs::fill` meets its contract. The loop's invariant: the first i places are stored.
use lib.ListN.{length-replicate, get_or-replicate}
use Rattle.runs.proofs.Copied.{none, more, all}
use Rattle.runs.proofs.fill.Goals as goal

pub loop-i-init : goal.loop-i-init
loop-i-init g c = none _ _ _ _ (length-replicate c.args.n c.args.v)

pub loop-i-preserved : goal.loop-i-preserved
loop-i-preserved g c =
    more _ _ _ _ _ _ _ c.args.v c.loop-i-test.true (get_or-replicate c.args.n c.loop-i.i c.args.v c.args.v c.loop-i-test.true) c.loop-i.invariant

pub shape_of-d : goal.shape_of-d
shape_of-d g c = c.loop-i.invariant.long

pub returns : goal.returns
returns g c = all _ _ _ _ _ _ c.loop-i-test.false c.loop-i.invariant

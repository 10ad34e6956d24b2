-- `build_makers::put_makers` meets its contract. The loop's invariant: the entries of the rows before `row` are put.
use Rattle.pywr.specs.Written.{maker_words}
use Rattle.build_makers.proofs.Entries.{put_none, put_more}
use Rattle.build_makers.proofs.put_makers.Goals as goal

pub loop-row-init : goal.loop-row-init
loop-row-init c = put_none _ _ _ _ c.requires.0

pub loop-row-preserved : goal.loop-row-preserved
unfolding maker_words
loop-row-preserved c = put_more _ _ _ _ _ _ _ c.loop-row-test.true c.loop-row.invariant c.put_maker.ensures

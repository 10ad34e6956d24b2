-- `build_row::insert_at` meets its contract: `Insert.antt` has the turn of the loop.
use Rattle.build_row.proofs.Insert.{shift_first, shift_next, shift_done}
use Rattle.build_row.proofs.insert_at.Goals as goal

pub loop-i-init : goal.loop-i-init
loop-i-init g c = shift_first _ _ _ c.requires.0 c.requires.1

pub loop-i-preserved : goal.loop-i-preserved
loop-i-preserved g c = shift_next _ _ _ c.requires.0 c.requires.1 _ _ c.loop-i.invariant _ c.index-run-i.is c.loop-i-test.true

pub returns : goal.returns
returns g c = shift_done _ _ _ c.requires.0 c.requires.1 _ _ c.loop-i.invariant _ c.loop-i-test.false

-- `build_row::insert_at` meets its contract: `Insert.antt` has the turn of the loop.
use Rattle.build_row.proofs.Insert.{Shift}
use Rattle.build_row.proofs.insert_at.Given as goal

abbrev pub invariant-loop-i : goal.invariant-loop-i
invariant-loop-i g l = Shift l.initial.run l.n l.p l.run l.i

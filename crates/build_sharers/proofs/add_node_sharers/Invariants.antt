-- `build_sharers::add_node_sharers` meets its contract. The loop's invariant: the first i have been counted.
use Rattle.build_sharers.specs.Sharers.{node_asker}
use Rattle.build_sharers.proofs.Walk.{Walked}
use Rattle.build_sharers.proofs.add_node_sharers.Given as goal

abbrev pub invariant-loop-i : goal.invariant-loop-i
invariant-loop-i l = Walked l.initial.shape (node_asker l.initial.shape) l.fn.count l.shape l.i

-- `walk_nodes` meets its contract. The loop's invariant: i records passed, and their intervals are written, none of them crossed.
use Rattle.step_walk.proofs.WalkLaws.{WalkingNodes}
use Rattle.step_walk.proofs.walk_nodes.Given as goal

abbrev pub invariant-loop-i : goal.invariant-loop-i
invariant-loop-i l = WalkingNodes l.sentinel l.days l.shape l.file l.nodes l.initial.work l.work l.i

-- `write_node_intervals` meets its contract. The loop's invariant: i intervals are written, none of them crossed.
use Rattle.step_node_intervals.specs.NodeIntervals.{node_numbered}
use Rattle.step_work.proofs.WrittenLaws.{Passed}
use Rattle.step_node_intervals.proofs.write_node_intervals.Given as goal

abbrev pub invariant-loop-i : goal.invariant-loop-i
invariant-loop-i l = Passed (node_numbered l.sentinel l.days l.shape l.file) 0 l.nodes l.initial.work l.work l.i

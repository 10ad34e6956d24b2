-- `first_beyond` meets its contract. The loop's invariant: `first` is the least such node of the first i node rows.
use Rattle.step_node_intervals.proofs.BinaryRowLaws.{LeastTo}
use Rattle.step_node_intervals.proofs.first_beyond.Given as goal

abbrev pub invariant-loop-i : goal.invariant-loop-i
invariant-loop-i l = LeastTo l.sentinel l.work l.shape l.written l.i l.first

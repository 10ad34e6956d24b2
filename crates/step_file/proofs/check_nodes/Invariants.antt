-- `check_nodes` meets its contract. The loop's invariant: the check of all nodes is that of those that are left.
use Rattle.pywr.specs.Store.{node_entry}
use Rattle.store_shape.proofs.Entries.{of_shape}
use Rattle.step_file.proofs.LoopLaws.{NodesLeft}
use Rattle.step_file.proofs.check_nodes.Given as goal

abbrev pub invariant-loop-k : goal.invariant-loop-k
invariant-loop-k l = NodesLeft l.file (node_entry (of_shape l.shape)) l.nodes l.k

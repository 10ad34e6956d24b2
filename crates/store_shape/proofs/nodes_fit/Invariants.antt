-- `nodes_fit` meets its contract. The loop's invariant: i entries were tested, and `good` says whether all passed.
use Rattle.pywr.specs.Misshapen.{node_fits}
use Rattle.store_shape.proofs.Entries.{of_shape, Tested}
use Rattle.store_shape.proofs.nodes_fit.Given as goal

abbrev pub invariant-loop-i : goal.invariant-loop-i
invariant-loop-i l = Tested (node_fits (of_shape l.shape)) 2 11 l.nodes l.good l.i

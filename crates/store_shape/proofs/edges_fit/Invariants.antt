-- `edges_fit` meets its contract. The loop's invariant: i edges were tested, and all passed.
use mathlib.Core.Bool.{true}
use Rattle.layout.specs.Layout.{edges_at}
use Rattle.pywr.specs.Misshapen.{edge_fits}
use Rattle.store_shape.proofs.Entries.{of_shape, Tested}
use Rattle.store_shape.proofs.edges_fit.Given as goal

abbrev pub invariant-loop-i : goal.invariant-loop-i
invariant-loop-i l = Tested (edge_fits (of_shape l.shape)) 3 edges_at l.edges true l.i

-- `node_rows_fit` meets its contract. The loop's invariant: i node rows were tested, and all passed.
use mathlib.Core.Bool.{true}
use Rattle.layout.specs.Layout.{node_rows_at}
use Rattle.pywr.specs.Misshapen.{node_row_fits}
use Rattle.store_shape.proofs.Entries.{Tested}
use Rattle.store_rows.proofs.Starts.{of_runs}
use Rattle.store_node_rows.proofs.node_rows_fit.Given as goal

abbrev pub invariant-loop-i : goal.invariant-loop-i
invariant-loop-i l = Tested (node_row_fits (of_runs l.columns l.row_starts l.shape)) 4 node_rows_at l.node_rows true l.i

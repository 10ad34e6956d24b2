-- `node_rows_fit` meets its contract. The loop's invariant: i node rows were tested, and all passed.
use mathlib.Core.Path.{refl, sym, ◌∙◌}
use Rattle.pywr.specs.Store.{columns_of_row}
use Rattle.pywr.specs.Misshapen.{node_row_fits}
use Rattle.store_shape.proofs.Entries.{tested_none, tested_pass, tested_fail, tested_all}
use Rattle.store_rows.proofs.Starts.{of_runs}
use Rattle.store_node_rows.proofs.node_rows_fit.Goals as goal

pub loop-i-init : goal.loop-i-init
loop-i-init c = tested_none _ _ _ _

pub loop-i-preserved : goal.loop-i-preserved
loop-i-preserved c =
    tested_pass c.loop-i.invariant c.loop-i-test.true (sym (c.node_row_fits.ensures (of_runs _ _ _) refl refl refl) ∙ c.if-not-node_row_fits.false)

pub returns-then-not-node_row_fits : goal.returns-then-not-node_row_fits
unfolding node_row_fits columns_of_row
returns-then-not-node_row_fits c =
    λ s ec er es. rw (ec, er, es, ← c.from-node_rows.ensures)
    (tested_fail c.loop-i.invariant c.loop-i-test.true (sym (c.node_row_fits.ensures (of_runs _ _ _) refl refl refl) ∙ c.if-not-node_row_fits.true))

pub returns : goal.returns
unfolding node_row_fits columns_of_row
returns c =
    λ s ec er es. rw (ec, er, es, ← c.from-node_rows.ensures) (tested_all c.loop-i.invariant c.loop-i-test.false)

-- `edges_fit` meets its contract. The loop's invariant: i edges were tested, and all passed.
use mathlib.Core.Path.{refl, sym, ◌∙◌}
use Rattle.pywr.specs.Misshapen.{edge_fits}
use Rattle.store_shape.proofs.Entries.{of_shape, tested_none, tested_pass, tested_fail, tested_all}
use Rattle.store_shape.proofs.edges_fit.Goals as goal

pub loop-i-init : goal.loop-i-init
loop-i-init c = tested_none _ _ _ _

pub loop-i-preserved : goal.loop-i-preserved
loop-i-preserved c =
    tested_pass c.loop-i.invariant c.loop-i-test.true (sym (c.edge_fits.ensures (of_shape _) refl refl refl) ∙ c.if-not-edge_fits.false)

pub returns-then-not-edge_fits : goal.returns-then-not-edge_fits
unfolding edge_fits
returns-then-not-edge_fits c =
    λ s e. rw (e, ← c.from-edges.ensures)
    (tested_fail c.loop-i.invariant c.loop-i-test.true (sym (c.edge_fits.ensures (of_shape _) refl refl refl) ∙ c.if-not-edge_fits.true))

pub returns : goal.returns
unfolding edge_fits
returns c = λ s e. rw (e, ← c.from-edges.ensures) (tested_all c.loop-i.invariant c.loop-i-test.false)

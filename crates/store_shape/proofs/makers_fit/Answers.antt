-- `makers_fit` meets its contract. The loop's invariant: the makers of i rows were tested, and all passed.
use mathlib.Core.Path.{refl, sym, ◌∙◌}
use Rattle.pywr.specs.Misshapen.{makers_of_kind, maker_fits}
use Rattle.store_shape.proofs.Entries.{of_shape, tested_none, tested_pass, tested_fail, tested_all}
use Rattle.store_shape.proofs.makers_fit.Goals as goal

pub loop-i-init : goal.loop-i-init
loop-i-init c = tested_none _ _ _ _

pub loop-i-preserved : goal.loop-i-preserved
loop-i-preserved c =
    tested_pass c.loop-i.invariant c.loop-i-test.true (sym (c.maker_fits.ensures (of_shape _) refl refl) ∙ c.if-not-maker_fits.false)

pub returns-then-not-maker_fits : goal.returns-then-not-maker_fits
unfolding maker_fits makers_of_kind
returns-then-not-maker_fits c =
    λ s e. rw (e, ← c.row_count-rows.ensures)
    (tested_fail c.loop-i.invariant c.loop-i-test.true (sym (c.maker_fits.ensures (of_shape _) refl refl) ∙ c.if-not-maker_fits.true))

pub returns : goal.returns
unfolding maker_fits makers_of_kind
returns c = λ s e. rw (e, ← c.row_count-rows.ensures) (tested_all c.loop-i.invariant c.loop-i-test.false)

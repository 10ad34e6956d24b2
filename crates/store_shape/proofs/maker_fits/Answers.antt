-- `store_shape::maker_fits` meets its contract.
use Rattle.store_shape.proofs.MakerEntry.{kind_out, index_out, by_sharers}
use Rattle.store_shape.proofs.maker_fits.Goals as goal

pub returns-then-kind-gt-BY_EXCLUSIVITY : goal.returns-then-kind-gt-BY_EXCLUSIVITY
returns-then-kind-gt-BY_EXCLUSIVITY c = λ s e m. kind_out s _ (rw e c.if-kind-gt-BY_EXCLUSIVITY.true)

pub returns-then-makers-from : goal.returns-then-makers-from
returns-then-makers-from c =
    λ s e m. index_out s _ (rw e c.if-kind-gt-BY_EXCLUSIVITY.false) (rw (← m, e, ← c.from.ensures) c.if-makers-from.true)

pub returns : goal.returns
returns c =
    λ s e m. rw (← e) (by_sharers s _ (rw e c.if-kind-gt-BY_EXCLUSIVITY.false) (rw (← m, e, ← c.from.ensures) c.if-makers-from.false))

-- `greater` meets its contract.
use Rattle.pywr.specs.Numbers.{greater}
use Rattle.extremes.proofs.greater.Goals as goal

pub returns-then-held-x : goal.returns-then-held-x
unfolding greater
returns-then-held-x c = rw c.if-held-x.true

pub returns-else-held-x : goal.returns-else-held-x
unfolding greater
returns-else-held-x c = rw c.if-held-x.false

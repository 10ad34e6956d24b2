-- `lesser` meets its contract.
use Rattle.pywr.specs.Numbers.{lesser}
use Rattle.extremes.proofs.lesser.Goals as goal

pub returns-then-x-held : goal.returns-then-x-held
unfolding lesser
returns-then-x-held c = rw c.if-x-held.true

pub returns-else-x-held : goal.returns-else-x-held
unfolding lesser
returns-else-x-held c = rw c.if-x-held.false

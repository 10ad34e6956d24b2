-- `is_days` meets its contract: the ends by their bits.
use Rattle.pywr.specs.Numbers.{is_days}
use Rattle.step_record.proofs.CheckLaws.{least_days_lem, most_days_lem}
use Rattle.step_record.proofs.is_days.Goals as goal

pub returns-then-x : goal.returns-then-x
unfolding is_days
returns-then-x c = rw (← c.is_flow.ensures, c.if-not-is_flow.false, least_days_lem, most_days_lem, c.if-x.true)

pub returns-else-x : goal.returns-else-x
unfolding is_days
returns-else-x c = rw (← c.is_flow.ensures, c.if-not-is_flow.false, least_days_lem, c.if-x.false)

-- `step_row_bounds::tighten` meets its contract.
use Rattle.pywr.specs.Interval.{tighten}
use Rattle.step_row_bounds.proofs.tighten.Goals as goal

pub returns : goal.returns
unfolding tighten
returns c = rw (c.greater.ensures, c.lesser.ensures)

-- `virtual_bounds` meets its contract.
use lib.Ieee.{of_bits}
use Rattle.pywr.specs.Numbers.{zero64}
use Rattle.pywr.specs.Interval.{virtual_bounds}
use Rattle.step_bounds.proofs.virtual_bounds.Goals as goal

pub returns : goal.returns
unfolding virtual_bounds zero64 of_bits
returns c = rw (c.greater-available.ensures, c.greater-missing.ensures)

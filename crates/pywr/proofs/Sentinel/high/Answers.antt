-- `pywr::Sentinel::high` meets its contract: each pattern is the double that `high` names.
use lib.Ieee.{nan_bits, of_bits}
use Rattle.pywr.specs.Numbers.{high}
use Rattle.pywr.proofs.Sentinel.high.Goals as goal

pub float_from_bits-result : goal.float_from_bits-result
unfolding nan_bits
float_from_bits-result c = tt

pub returns-in-Infinity : goal.returns-in-Infinity
unfolding of_bits high
returns-in-Infinity c = rw c.in-Infinity.is

pub returns-in-Largest : goal.returns-in-Largest
unfolding of_bits high
returns-in-Largest c = rw c.in-Largest.is

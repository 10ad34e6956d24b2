-- `network_checks::is_unbounded` meets its contract.
use Rattle.std.proofs.Common.{arith}
use Rattle.std.proofs.lemmas.Grind.{common_steps}
use lib.Ieee.{of_bits}
use Rattle.network_checks.proofs.is_unbounded.Goals as goal

pub returns-then-max : goal.returns-then-max
unfolding of_bits
returns-then-max c = grind (arith, common_steps)

pub returns-else-max : goal.returns-else-max
unfolding of_bits
returns-else-max c = grind (arith, common_steps)

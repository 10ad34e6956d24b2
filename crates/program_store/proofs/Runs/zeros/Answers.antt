-- `program_store::Runs::zeros` meets its contract.
use mathlib.Core.Path.{refl}
use lib.Ieee.{of_bits}
use Rattle.pywr.specs.Numbers.{zero64}
use Rattle.pywr.specs.Cases.{blank}
use Rattle.program_store.proofs.Runs.zeros.Goals as goal

pub returns : goal.returns
unfolding zero64 of_bits blank
returns c = refl

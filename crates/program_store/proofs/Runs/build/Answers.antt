-- `program_store::Runs::build` meets its contract.
use lib.Ieee.{of_bits}
use Rattle.pywr.specs.Numbers.{zero64}
use Rattle.program_store.proofs.Runs.build.Goals as goal

pub returns : goal.returns
unfolding zero64 of_bits
returns c = record { answer = c.build.ensures.answer; store = c.build.ensures.store }

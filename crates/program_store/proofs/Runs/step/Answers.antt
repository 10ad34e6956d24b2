-- `program_store::Runs::step` meets its contract.
use lib.Ieee.{of_bits}
use Rattle.pywr.specs.Numbers.{zero64}
use Rattle.program_store.proofs.Runs.step.Goals as goal

pub returns : goal.returns
unfolding zero64 of_bits
returns c = record { answer = c.step.ensures.answer; store = c.step.ensures.store }

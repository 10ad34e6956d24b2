-- `program_store::Runs::name_answer` meets its contract.
use mathlib.Core.Path.{refl}
use Rattle.program_store.specs.ProgramStore.{store_of}
use Rattle.program_store.proofs.Runs.name_answer.Goals as goal

pub returns-in-Ok-clause-bytes : goal.returns-in-Ok-clause-bytes
returns-in-Ok-clause-bytes g c = rw c.in-Ok.is (c.list_makers.ensures.bytes (store_of c.args.self.now) refl)

pub returns-in-Ok-clause-text : goal.returns-in-Ok-clause-text
returns-in-Ok-clause-text g c = rw c.in-Ok.is (c.list_makers.ensures.text (store_of c.args.self.now) refl)

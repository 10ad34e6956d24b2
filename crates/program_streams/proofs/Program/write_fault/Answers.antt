-- `Program::write_fault` meets its contract: what each write in turn added.
use Rattle.program_streams.proofs.GrowsLaws.{grows_then}
use Rattle.program_streams.proofs.Program.write_fault.Goals as goal

pub returns : goal.returns
returns g c = grows_then _ _ _ c.write_name.ensures c.write_failure.ensures

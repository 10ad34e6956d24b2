-- `Program::write_usage` meets its contract: what each write in turn added.
use Rattle.program_streams.proofs.GrowsLaws.{grows_written}
use Rattle.program_streams.proofs.Program.write_usage.Goals as goal

pub returns-clause-grows : goal.returns-clause-grows
returns-clause-grows g c = grows_written _ _ _ _ c.write_all.ensures.whole c.write_all.ensures.part

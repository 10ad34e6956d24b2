-- `Program::write_name` meets its contract: what each write in turn added.
use Rattle.program_streams.proofs.GrowsLaws.{grows_then, grows_written}
use Rattle.program_streams.proofs.Program.write_name.Goals as goal

pub returns : goal.returns
returns g c = grows_then _ _ _ (grows_written _ _ _ _ c.write_all.ensures.whole c.write_all.ensures.part) (grows_written _ _ _ _ c.write_all-2.ensures.whole c.write_all-2.ensures.part)

-- `write_failure` meets its contract: what each write in turn added.
use Rattle.program_streams.proofs.GrowsLaws.{grows_then, grows_written}
use Rattle.program_streams.proofs.write_failure.Goals as goal

pub returns-in_err-write_all-2 : goal.returns-in_err-write_all-2
returns-in_err-write_all-2 g c = grows_then _ _ _ (grows_written _ _ _ _ c.write_all.ensures.whole c.write_all.ensures.part) (grows_written _ _ _ _ c.write_all-2.ensures.whole c.write_all-2.ensures.part)

pub returns-in_err-write_all-3 : goal.returns-in_err-write_all-3
returns-in_err-write_all-3 g c = grows_then _ _ _ (grows_written _ _ _ _ c.write_all.ensures.whole c.write_all.ensures.part) (grows_then _ _ _ (grows_written _ _ _ _ c.write_all-2.ensures.whole c.write_all-2.ensures.part) (grows_written _ _ _ _ c.write_all-3.ensures.whole c.write_all-3.ensures.part))

pub returns : goal.returns
returns g c = grows_then _ _ _ (grows_written _ _ _ _ c.write_all.ensures.whole c.write_all.ensures.part) (grows_then _ _ _ (grows_written _ _ _ _ c.write_all-2.ensures.whole c.write_all-2.ensures.part) (grows_then _ _ _ (grows_written _ _ _ _ c.write_all-3.ensures.whole c.write_all-3.ensures.part) (grows_written _ _ _ _ c.write_all-4.ensures.whole c.write_all-4.ensures.part)))

-- `build_write::write_tables` meets its contract.
use Rattle.build_write.proofs.ShapeLaws.{written}
use Rattle.build_write.proofs.write_tables.Goals as goal

pub returns : goal.returns
returns c =
    written c.args.z _ _ _ _ _ _ _ _ c.copy-6.ensures c.copy-5.ensures c.copy-4.ensures
    c.copy-3.ensures c.copy-2.ensures c.copy.ensures

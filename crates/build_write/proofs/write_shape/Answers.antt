-- `build_write::write_shape` meets its contract.
use Rattle.build_write.proofs.ShapeLaws.{last_written}
use Rattle.build_write.proofs.write_shape.Goals as goal

pub returns : goal.returns
returns c =
    last_written c.args.z c.args.words.now c.args.shape.now _ _ _ c.copy-2.ensures
    c.copy.ensures c.write_tables.ensures

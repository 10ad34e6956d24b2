-- `build_write::write_columns` meets its contract.
use Rattle.build_write.proofs.Filled.{lowers_are, uppers_are, costs_are}
use Rattle.build_write.proofs.write_columns.Goals as goal

pub returns : goal.returns
returns c =
    record {
      lowers = lowers_are c.args.sentinel c.args.z _ _ c.fill.ensures;
      uppers = uppers_are c.args.sentinel c.args.z _ _ _ _ c.high.ensures c.fill-2.ensures c.fill-3.ensures;
      costs = costs_are c.args.sentinel c.args.z _ _ c.fill-4.ensures;
    }

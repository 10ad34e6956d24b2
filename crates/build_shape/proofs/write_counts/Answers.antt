-- `build_shape::write_counts` meets its contract.
use Rattle.build_shape.specs.ShapeTables.{counts}
use Rattle.build_shape.proofs.write_counts.Goals as goal

pub returns : goal.returns
unfolding counts
returns c = rw c.sentinel_word.ensures

-- `build_shape::sentinel_word` meets its contract.
use Rattle.pywr.specs.Written.{sentinel_word}
use Rattle.build_shape.proofs.sentinel_word.Goals as goal

pub returns-in-Infinity : goal.returns-in-Infinity
unfolding sentinel_word
returns-in-Infinity c = rw c.in-Infinity.is

pub returns-in-Largest : goal.returns-in-Largest
unfolding sentinel_word
returns-in-Largest c = rw c.in-Largest.is

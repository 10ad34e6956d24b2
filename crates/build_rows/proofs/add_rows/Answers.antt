-- `build_rows::add_rows` meets its contract.
use native.Mathlib.Omega.{arith}
use Rattle.build_rows.proofs.add_rows.Goals as goal

pub add_all_rows-requires : goal.add_all_rows-requires
add_all_rows-requires c = (
  c.requires.0,
  c.requires.1,
  c.requires.2,
  record { words_room = omega (arith, c.start_rows.auto.words, c.requires.3.words_room); numbers_room = c.requires.3.numbers_room },
  c.start_rows.ensures.0 _,
)

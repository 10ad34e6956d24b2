-- `build_set_rows::add_bounded_row` meets its contract.
use mathlib.Core.Path.{refl}
use Prim.Native.Nat.{◌+◌}
use lib.Ieee.{of_bits}
use Rattle.pywr.specs.Numbers.{zero64}
use Rattle.build_append.proofs.RowsHeldLaws.{held_few}
use Rattle.build_append.proofs.LentRow.{lent_room, lent_long, lent_row}
use Rattle.build_set_rows.proofs.add_bounded_row.Goals as goal

pub bounded_row-n-requires : goal.bounded_row-n-requires
bounded_row-n-requires c = (c.requires.0, c.requires.1, c.requires.2, (lent_room _ _ _ c.requires.4 c.requires.3.numbers_room).1)

pub add_fixed_row-requires : goal.add_fixed_row-requires
add_fixed_row-requires c =
    let few = held_few _ _ _ _ c.requires.4.held in
    let g = c.bounded_row-n.ensures in (
      record {
        words_room = c.requires.3.words_room;
        numbers_room = lent_long c.args.lp.now.numbers.now
            c.bounded_row-n.new.elements (2048 + c.args.lp.now.filled.elements)
            c.bounded_row-n.auto.elements c.requires.3.numbers_room;
      },
      g.few,
      few.0,
      few.1,
      g.rising,
    )

pub returns-clause-rows : goal.returns-clause-rows
unfolding zero64 of_bits
returns-clause-rows c =
    let room = lent_room _ _ _ c.requires.4 c.requires.3.numbers_room in
    lent_row _ _ _ _ _ refl room.0 _ _ _ _ _ _ _ _ _ _ refl c.high.ensures c.bounded_row-n.ensures.is c.add_fixed_row.ensures.rows

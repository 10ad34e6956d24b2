-- `build_constants::add_node_row` meets its contract.
use mathlib.Core.Path.{refl}
use Prim.Native.Nat.{◌+◌}
use native.Mathlib.Omega.{arith}
use lib.Ieee.{of_bits}
use Rattle.pywr.specs.Numbers.{one64}
use Rattle.pywr.specs.Misshapen.{columns_rise}
use Rattle.build_append.proofs.RowsHeldLaws.{held_few}
use Rattle.build_append.proofs.LentRow.{lent_room, lent_long, lent_row}
use Rattle.build_set_rows.proofs.Coefficients.{node_stands}
use Rattle.build_constants.proofs.ConstantRows.{node_row_lem}
use Rattle.build_constants.proofs.add_node_row.Goals as goal

pub add_node-n-requires : goal.add_node-n-requires
unfolding columns_rise
add_node-n-requires c = (c.requires.0, c.requires.1, omega arith, (lent_room _ _ _ c.requires.3 c.requires.2.numbers_room).1, refl)

pub min-requires : goal.min-requires
min-requires c = let p = node_stands _ _ _ _ _ _ c.requires.0.sections _ c.requires.1 in (p.within, p.min)

pub max-requires : goal.max-requires
max-requires c = let p = node_stands _ _ _ _ _ _ c.requires.0.sections _ c.requires.1 in (p.within, p.max)

pub add_fixed_row-requires : goal.add_fixed_row-requires
add_fixed_row-requires c =
    let few = held_few _ _ _ _ c.requires.3.held in
    let a = c.add_node-n.ensures in (
      record {
        words_room = c.requires.2.words_room;
        numbers_room = lent_long c.args.lp.now.numbers.now
            c.add_node-n.new.elements (2048 + c.args.lp.now.filled.elements)
            c.add_node-n.auto.elements c.requires.2.numbers_room;
      },
      a.few,
      few.0,
      few.1,
      a.rising,
    )

pub returns-clause-rows : goal.returns-clause-rows
unfolding one64 of_bits
returns-clause-rows c =
    let room = lent_room _ _ _ c.requires.3 c.requires.2.numbers_room in
    lent_row _ _ _ _ _ refl room.0 _ _ _ _ _ _ _ _ _ _ c.min.ensures c.max.ensures
    (node_row_lem _ _ _ _ _ _ _ _ _ refl c.add_node-n.ensures) c.add_fixed_row.ensures.rows

-- `build_mass::add_mass_row` meets its contract.
use mathlib.Core.Path.{refl}
use Prim.Native.Nat.{◌+◌}
use native.Mathlib.Omega.{arith}
use Rattle.pywr.specs.Numbers.{zero64}
use lib.Ieee.{of_bits}
use Rattle.build_append.proofs.RowsHeldLaws.{held_few}
use Rattle.build_node_row.proofs.NodeColumns.{in_listed, out_listed}
use Rattle.build_append.proofs.LentRow.{lent_room, lent_long}
use Rattle.build_mass.proofs.MassRows.{other_kind, link_kind, no_mass_row_lem, mass_row_lem, row_dropped, row_added}
use Rattle.build_mass.proofs.add_mass_row.Goals as goal

pub kind-requires : goal.kind-requires
kind-requires c = omega (arith, c.requires.0.sections.fixed, c.requires.0.sections.inside, c.requires.1)

pub returns-then-ne-clause-rows : goal.returns-then-ne-clause-rows
returns-then-ne-clause-rows c = no_mass_row_lem _ _ _ (other_kind _ _ c.kind.ensures _ c.ne.ensures c.if-ne.true) _ _ _

pub mass_row-n-requires : goal.mass_row-n-requires
mass_row-n-requires c = (
  (lent_room _ _ _ c.requires.3 c.requires.2.numbers_room).1,
  omega (arith, c.requires.1, c.requires.0.sections.few_nodes),
  in_listed _ _ _ c.requires.0 c.args.node.0,
  out_listed _ _ _ c.requires.0 c.args.node.0,
)

pub returns-then-n-eq1-clause-rows : goal.returns-then-n-eq1-clause-rows
returns-then-n-eq1-clause-rows c =
    let room = lent_room _ _ _ c.requires.3 c.requires.2.numbers_room in
    let g = mass_row_lem _ _ _ c.requires.0 _ _ _ _ c.mass_row-n.ensures.row in
    row_dropped _ _ _ c.requires.0 _ _ _ _ g (link_kind _ _ c.kind.ensures _ c.ne.ensures c.if-ne.false)
    c.mass_row-n.ensures.long (omega (arith, c.mass_row-n.auto.elements, room.1)) _ _ _ _ refl room.0 c.if-n-eq1.true

pub add_fixed_row-requires : goal.add_fixed_row-requires
add_fixed_row-requires c =
    let g = mass_row_lem _ _ _ c.requires.0 _ _ _ _ c.mass_row-n.ensures.row in
    let few = held_few _ _ _ _ c.requires.3.held in (
      record {
        words_room = c.requires.2.words_room;
        numbers_room = lent_long c.args.lp.now.numbers.now c.mass_row-n.new.elements
            (2048 + c.args.lp.now.filled.elements) c.mass_row-n.auto.elements c.requires.2.numbers_room;
      },
      g.few,
      few.0,
      few.1,
      g.rising,
    )

pub returns-clause-rows : goal.returns-clause-rows
unfolding zero64 of_bits
returns-clause-rows c =
    let room = lent_room _ _ _ c.requires.3 c.requires.2.numbers_room in
    let g = mass_row_lem _ _ _ c.requires.0 _ _ _ _ c.mass_row-n.ensures.row in
    row_added _ _ _ c.requires.0 _ _ _ _ g (link_kind _ _ c.kind.ensures _ c.ne.ensures c.if-ne.false)
    c.mass_row-n.ensures.long (omega (arith, c.mass_row-n.auto.elements, room.1)) _ _ _ _ refl room.0 _ _ _ _ _
    c.if-n-eq1.false refl refl c.add_fixed_row.ensures.rows

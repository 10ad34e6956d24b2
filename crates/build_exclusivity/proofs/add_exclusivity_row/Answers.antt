-- `build_exclusivity::add_exclusivity_row` meets its contract.
use mathlib.Core.Path.{refl, sym, ap, ◌∙◌}
use Prim.Native.Nat.{◌+◌}
use lib.Ieee.{of_int}
use Rattle.pywr.specs.Numbers.{double}
use Rattle.build_append.proofs.RowsHeldLaws.{held_few}
use Rattle.build_append.proofs.LentRow.{lent_room, lent_long}
use Rattle.build_exclusivity.proofs.ExclusivityRows.{no_exclusivity_row, exclusivity_row_added}
use Rattle.build_exclusivity.proofs.add_exclusivity_row.Goals as goal

pub exclusivity_row-n-requires : goal.exclusivity_row-n-requires
exclusivity_row-n-requires c =
    let x = sym c.is_exclusive.ensures ∙ c.if-not-is_exclusive.false in
    (c.requires.0, c.requires.1, c.requires.2, c.requires.3 x, (lent_room _ _ _ c.requires.5 c.requires.4.numbers_room).1)

pub add_fixed_row-requires : goal.add_fixed_row-requires
add_fixed_row-requires c =
    let few = held_few _ _ _ _ c.requires.5.held in (
      record {
        words_room = c.requires.4.words_room;
        numbers_room = lent_long c.args.lp.now.numbers.now
            c.exclusivity_row-n.new.elements (2048 + c.args.lp.now.filled.elements)
            c.exclusivity_row-n.auto.elements
            c.requires.4.numbers_room;
      },
      c.exclusivity_row-n.ensures.few,
      few.0,
      few.1,
      c.exclusivity_row-n.ensures.rising,
    )

pub returns-clause-rows : goal.returns-clause-rows
unfolding double of_int
returns-clause-rows c =
    let x = sym c.is_exclusive.ensures ∙ c.if-not-is_exclusive.false in
    λ map m. exclusivity_row_added _ _ _ _ _ _ _ _ c.exclusivity_row-n.ensures x map m _ _ _ _ refl (lent_room _ _ _ c.requires.5 c.requires.4.numbers_room).0 _ _ _ _ _
    (ap double c.min_active-lower.ensures)
    (ap double c.max_active-upper.ensures) c.add_fixed_row.ensures.rows

pub returns-then-not-is_exclusive-clause-rows : goal.returns-then-not-is_exclusive-clause-rows
returns-then-not-is_exclusive-clause-rows c = λ map m. no_exclusivity_row map _ (sym c.is_exclusive.ensures ∙ c.if-not-is_exclusive.true) _ _ _

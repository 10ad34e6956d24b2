-- `build_join::same_row` meets its contract: the two words read are the starts of row k and of the next.
use native.Mathlib.Omega.{arith}
use Rattle.build_append.proofs.RowsHeldLaws.{held_few}
use Rattle.build_join.proofs.PositionLaws.{starts_rise_lem, row_fits, length_differs, length_same}
use Rattle.build_join.proofs.same_row.Goals as goal

pub overflow_sub-end : goal.overflow_sub-end
overflow_sub-end c = starts_rise_lem _ _ _ c.args.k _ _ c.requires.3 c.from-at.ensures c.from-end.ensures c.requires.4

pub returns-then-end-at : goal.returns-then-end-at
returns-then-end-at c =
    length_differs _ _ _ _ _ _ c.requires.3 c.from-at.ensures c.from-end.ensures _ _
    c.requires.0.numbers_room c.requires.1 c.requires.2 c.if-end-at.true

pub same_elements-requires : goal.same_elements-requires
same_elements-requires c =
    let at = c.from-at.ensures in
    let next = c.from-end.ensures in
    let rise = starts_rise_lem _ _ _ c.args.k _ _ c.requires.3 at next c.requires.4 in
    let fits = row_fits _ _ _ c.args.k _ _ c.requires.3 at next c.requires.4 in
    let few = held_few _ _ _ _ c.requires.4.held in
    (omega (arith, c.if-end-at.false), omega (arith, c.if-end-at.false), c.requires.2, omega arith)

pub returns : goal.returns
returns c =
    length_same _ _ _ _ _ _ c.requires.3 c.from-at.ensures c.from-end.ensures _ _ c.if-end-at.false _ c.same_elements.ensures

-- `build_row::add_columns` meets its contract: `Walk.antt` has the turn of the loop.
use mathlib.Core.Path.{refl, ◌∙◌}
use native.Mathlib.Omega.{arith}
use Rattle.build_row.proofs.Walk.{ahead, above_falls, walk_first, walk_next, walk_done}
use Rattle.build_row.proofs.add_columns.Goals as goal

pub loop-link-init : goal.loop-link-init
loop-link-init c = (walk_first _ _ _ _ _ _ _ c.requires.0 c.requires.2 c.requires.3, refl)

pub bounds-edge_to_col-e : goal.bounds-edge_to_col-e
bounds-edge_to_col-e c =
    let here = ahead _ _ _ _ c.loop-link.invariant.0.left c.loop-link-test.true c.from-e.ensures in
    here.within

pub overflow_sub-edge_to_col : goal.overflow_sub-edge_to_col
overflow_sub-edge_to_col c =
    let here = ahead _ _ _ _ c.loop-link.invariant.0.left c.loop-link-test.true c.from-e.ensures in
    here.least

pub add_element-count-requires : goal.add_element-count-requires
add_element-count-requires c =
    let here = ahead _ _ _ _ c.loop-link.invariant.0.left c.loop-link-test.true c.from-e.ensures in
    let w = c.loop-link.invariant in
    (w.0.few, omega arith, omega arith, w.0.rising)

pub bounds-next-e : goal.bounds-next-e
bounds-next-e c =
    let here = ahead _ _ _ _ c.loop-link.invariant.0.left c.loop-link-test.true c.from-e.ensures in
    here.within

pub loop-link-smaller : goal.loop-link-smaller
loop-link-smaller c =
    let here = ahead _ _ _ _ c.loop-link.invariant.0.left c.loop-link-test.true c.from-e.ensures in
    above_falls _ _ c.loop-link-test.true (omega arith) here.higher

pub loop-link-preserved : goal.loop-link-preserved
loop-link-preserved c =
    let here = ahead _ _ _ _ c.loop-link.invariant.0.left c.loop-link-test.true c.from-e.ensures in
    let w = c.loop-link.invariant in
    (walk_next _ _ _ _ _ _ _ _ _ w.0 _ here _ _ _ c.add_element-count.ensures, c.add_element-count.auto.elements ∙ w.1)

pub returns : goal.returns
returns c =
    let w = c.loop-link.invariant.0 in
    record { row = walk_done _ _ _ _ _ _ _ _ _ w c.loop-link-test.false; rising = w.rising; few = w.few }

-- `none_beyond` meets its contract. The loop's invariant: the first i node rows have no such node.
use mathlib.Core.Path.{refl}
use native.Mathlib.Omega.{arith}
use Rattle.layout.specs.Layout.{nodes_in}
use Rattle.step_node_intervals.proofs.BinaryRowLaws.{least_none, least_more, least_all, row_continuous, row_within}
use Rattle.step_walk.proofs.WalkLaws.{stopped}
use Rattle.step_walk.proofs.none_beyond.Goals.{then-shape-at-ne0+else-is_beyond, else-shape-at-ne0}
use Rattle.step_walk.proofs.none_beyond.Goals as goal

pub loop-i-init : goal.loop-i-init
loop-i-init c = least_none _ _ _ _

pub bounds-work-node : goal.bounds-work-node
bounds-work-node c = omega (arith, c.requires.4 c.loop-i.i (omega arith), c.from-node.ensures)

pub bounds-work-node-then-shape-at-ne0 : goal.bounds-work-node-then-shape-at-ne0
bounds-work-node-then-shape-at-ne0 c = omega (arith, c.requires.4 c.loop-i.i (omega arith), c.from-node.ensures)

pub loop-i-preserved : goal.loop-i-preserved
loop-i-preserved c =
    let a = c.args in
    let named = c.requires.4 c.loop-i.i (omega (arith, c.loop-i-test.true, c.from-node_rows.ensures)) in
    least_more a.sentinel a.work.now a.shape.now (nodes_in a.shape.now) c.loop-i.i _ _
    (elim c.if-shape-at-ne0.branch [
      | then-shape-at-ne0+else-is_beyond w ↦ row_within a.sentinel a.work.now a.shape.now _ _ _ w.from-node.ensures (omega (arith, named, w.from-node.ensures)) w.if-shape-at-ne0.true
          c.requires.2 c.requires.1 _ _ w.is_beyond.ensures w.is_beyond-then-shape-at-ne0.ensures w.if-is_beyond.false
      | else-shape-at-ne0 w ↦ row_continuous a.sentinel a.work.now a.shape.now _ _ _ refl w.if-shape-at-ne0.false
    ])
    c.loop-i.invariant

pub returns-then-is_beyond : goal.returns-then-is_beyond
returns-then-is_beyond c = stopped

pub returns : goal.returns
returns c =
    λ e. least_all _ _ _ _ _ _ _ (omega (arith, c.from-node_rows.ensures, c.loop-i-test.false)) (omega (arith, c.from-node_rows.ensures, c.loop-i.auto.i-end)) c.loop-i.invariant

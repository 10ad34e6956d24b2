-- `write_node_intervals` meets its contract. The loop's invariant: i intervals are written, none of them crossed.
use mathlib.Core.Path.{sym, ap, ◌∙◌}
use native.Mathlib.Nat.{zero-add}
use native.Mathlib.Omega.{arith}
use lib.ListN.{length-set}
use Rattle.step_node_intervals.specs.NodeIntervals.{node_numbered}
use Rattle.step_work.proofs.WrittenLaws.{passed_none, passed_more, passed_stops, passed_all}
use borrow.Author.Rules.{rules}
use Rattle.step_node_intervals.proofs.write_node_intervals.Goals as goal

pub loop-i-init : goal.loop-i-init
loop-i-init c = passed_none _ _ _ _

pub shape_of-work-then-is_crossed : goal.shape_of-work-then-is_crossed
shape_of-work-then-is_crossed c = c.loop-i.invariant.writing.long

pub returns-then-is_crossed : goal.returns-then-is_crossed
returns-then-is_crossed c =
    let a = c.args in
    rw (← c.from-nodes.ensures) (passed_stops _ _ c.loop-i-test.true c.node_interval-x.ensures c.is_crossed.ensures c.loop-i.invariant c.if-is_crossed.true)

pub bounds-work-i-in-loop-i : goal.bounds-work-i-in-loop-i
bounds-work-i-in-loop-i c =
    omega (arith, length-set c.loop-i.work c.loop-i.i c.node_interval-x.result.lower, c.loop-i.invariant.writing.long)

pub loop-i-preserved : goal.loop-i-preserved
loop-i-preserved c =
    let a = c.args in
    passed_more _ _ c.loop-i-test.true c.node_interval-x.ensures c.is_crossed.ensures c.loop-i.invariant c.loop-i.i (sym (zero-add c.loop-i.i))
    (search rules) (search rules) c.if-is_crossed.false

pub shape_of-work : goal.shape_of-work
shape_of-work c = c.loop-i.invariant.writing.long

pub returns : goal.returns
returns c = rw (← c.from-nodes.ensures) (passed_all c.loop-i-test.false c.loop-i.invariant)

-- `first_beyond` meets its contract. The loop's invariant: `first` is the least such node of the first i node rows.
use native.Mathlib.Omega.{arith}
use Rattle.step_node_intervals.proofs.BinaryRowLaws.{least_none, least_more, least_all}
use borrow.Author.Rules.{rules}
use Rattle.step_node_intervals.proofs.first_beyond.Goals as goal

pub loop-i-init : goal.loop-i-init
loop-i-init c = least_none _ _ _ _

pub lesser_beyond-first-requires : goal.lesser_beyond-first-requires
lesser_beyond-first-requires c = let inv = c.loop-i.invariant in (search rules, search rules, omega (arith, inv.few))

pub loop-i-preserved : goal.loop-i-preserved
loop-i-preserved c = least_more _ _ _ _ c.loop-i.i c.loop-i.first _ c.lesser_beyond-first.ensures c.loop-i.invariant

pub returns : goal.returns
returns c = rw (← c.from-node_rows.ensures) (least_all _ _ _ _ _ _ _ c.loop-i-test.false c.loop-i.auto.i-end c.loop-i.invariant)

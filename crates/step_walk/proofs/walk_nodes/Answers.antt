-- `walk_nodes` meets its contract. The loop's invariant: i records passed, and their intervals are written, none of them crossed.
use native.Mathlib.Omega.{arith}
use lib.ListN.{length-set}
use Rattle.step_walk.proofs.WalkLaws.{stopped, walking_nodes_none, walking_nodes_more, walking_nodes_all}
use borrow.Author.Rules.{rules}
use Rattle.step_walk.proofs.walk_nodes.Goals as goal

pub loop-i-init : goal.loop-i-init
loop-i-init c = walking_nodes_none _ _ _ _ _ _

pub shape_of-work-in_default : goal.shape_of-work-in_default
shape_of-work-in_default c = c.loop-i.invariant.passed.writing.long

pub returns-in_default : goal.returns-in_default
returns-in_default c = stopped

pub bounds-work-i-in-loop-i : goal.bounds-work-i-in-loop-i
bounds-work-i-in-loop-i c = omega (arith, length-set c.loop-i.work c.loop-i.i c.in-Some.x.lower, c.loop-i.invariant.passed.writing.long)

pub loop-i-preserved : goal.loop-i-preserved
loop-i-preserved c =
    walking_nodes_more c.loop-i.invariant _ c.in-Some.x c.walk_node.ensures c.in-Some.is (search rules) (search rules) c.loop-i-test.true

pub shape_of-work : goal.shape_of-work
shape_of-work c = c.loop-i.invariant.passed.writing.long

pub returns : goal.returns
returns c = λ e. walking_nodes_all c.loop-i.invariant c.from-nodes.ensures c.loop-i-test.false

-- `find_node_intervals` meets its contract: 21 of a node before every crossed one, else 14, else accepted.
use native.Mathlib.Omega.{arith}
use Rattle.step_node_intervals.proofs.BadIntervalLaws.{beyond_refused, crossed_refused, none_bad}
use Rattle.step_node_intervals.proofs.find_node_intervals.Goals as goal

pub returns-then-first-written : goal.returns-then-first-written
returns-then-first-written c =
    rw c.at.ensures (beyond_refused _ _ _ _ _ _ _ _ c.write_node_intervals-written.ensures c.first_beyond-first.ensures c.if-first-written.true)

pub returns-then-written-nodes : goal.returns-then-written-nodes
returns-then-written-nodes c =
    rw c.at-then-written-nodes.ensures
    (crossed_refused _ _ _ _ _ _ _ _ c.write_node_intervals-written.ensures c.first_beyond-first.ensures c.if-first-written.false (omega arith))

pub returns : goal.returns
returns c =
    none_bad _ _ _ _ _ _ _ _ c.write_node_intervals-written.ensures c.first_beyond-first.ensures c.if-first-written.false
    (omega arith)

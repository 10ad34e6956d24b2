-- `update_node_constraint_bounds` meets its contract. The loop's invariant: the node rows passed are applied to the rows that the runs held at first.
use native.Mathlib.Omega.{arith}
use Rattle.step_row_bounds.proofs.SameRuns.{bounds_alone, alone_then}
use Rattle.step_node_rows.proofs.NodeRowLaws.{applied_none, applied_more, applied_all}
use Rattle.step_node_rows.proofs.update_node_constraint_bounds.Goals as goal

pub loop-i-init : goal.loop-i-init
loop-i-init c = record { alone = bounds_alone _; rows = λ s elements. applied_none _ _ _ _ _ _ }

pub update_node_row-requires : goal.update_node_row-requires
update_node_row-requires c =
    let same = c.loop-i.invariant.alone.runs in (
      omega (arith, same.lower_long),
      omega (arith, same.upper_long),
      c.requires.2,
      rw same.shape c.requires.3,
      rw same.shape (c.requires.5 c.loop-i.i (omega arith)),
      omega (arith, c.requires.4),
    )

pub loop-i-preserved : goal.loop-i-preserved
loop-i-preserved c =
    let l = c.loop-i.invariant in
    record {
      alone = alone_then l.alone c.update_node_row.ensures.alone;
      rows = λ s elements. applied_more _ _ _ _ _ _ (l.rows s elements) c.loop-i-test.true (rw l.alone.runs.shape at (c.update_node_row.ensures.row s elements));
    }

pub returns : goal.returns
returns c =
    let l = c.loop-i.invariant in
    record {
      rows = λ s elements. rw (← c.from-node_rows.ensures) (applied_all _ _ _ _ _ _ (l.rows s elements) c.loop-i-test.false);
      alone = l.alone;
    }

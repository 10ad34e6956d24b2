-- `reset_binary_rows` meets its contract. The loop's invariant: the binary rows of the node rows passed are reset.
use native.Mathlib.Omega.{arith}
use Rattle.step_row_bounds.proofs.SameRuns.{same_runs, same_then}
use Rattle.step_node_rows.proofs.NodeRowLaws.{applied_none, applied_more, applied_all}
use Rattle.step_node_rows.proofs.reset_binary_rows.Goals as goal

pub loop-i-init : goal.loop-i-init
loop-i-init c = record { same = same_runs _; rows = λ s. applied_none _ _ _ _ _ _ }

pub reset_binary_row-requires : goal.reset_binary_row-requires
reset_binary_row-requires c =
    let same = c.loop-i.invariant.same in (
      omega (arith, same.lower_long),
      omega (arith, same.upper_long),
      omega (arith, same.elements_long),
      rw (same.columns, same.row_starts, same.shape) c.requires.3,
      rw (same.columns, same.row_starts, same.shape) (c.requires.5 c.loop-i.i (omega arith)),
      omega (arith, c.requires.4),
    )

pub loop-i-preserved : goal.loop-i-preserved
loop-i-preserved c =
    let l = c.loop-i.invariant in
    record {
      same = same_then l.same c.reset_binary_row.ensures.same;
      rows = λ s. applied_more _ _ _ _ _ _ (l.rows s) c.loop-i-test.true
          (rw (l.same.columns, l.same.row_starts, l.same.shape) at (c.reset_binary_row.ensures.row s));
    }

pub returns : goal.returns
returns c =
    let l = c.loop-i.invariant in
    record {
      rows = λ s. rw (← c.from-node_rows.ensures) (applied_all _ _ _ _ _ _ (l.rows s) c.loop-i-test.false);
      same = l.same;
    }

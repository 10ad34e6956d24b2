-- `update_coefficients` meets its contract. The loop's invariant: the coefficients of the node rows passed are applied to the rows that the runs held at first.
use native.Mathlib.Omega.{arith}
use Rattle.step_row_bounds.proofs.SameRuns.{elements_alone, elements_then}
use Rattle.step_node_rows.proofs.NodeRowLaws.{applied_none, applied_more, applied_all}
use Rattle.step_node_rows.proofs.update_coefficients.Goals as goal

pub loop-i-init : goal.loop-i-init
loop-i-init c = record { alone = elements_alone _; rows = λ s lower upper. applied_none _ _ _ _ _ _ }

pub update_coefficient-requires : goal.update_coefficient-requires
update_coefficient-requires c =
    let same = c.loop-i.invariant.alone.runs in (
      omega (arith, same.elements_long),
      c.requires.1,
      rw (same.columns, same.row_starts, same.shape) c.requires.2,
      rw (same.columns, same.row_starts, same.shape) (c.requires.4 c.loop-i.i (omega arith)),
      omega (arith, c.requires.3),
    )

pub loop-i-preserved : goal.loop-i-preserved
loop-i-preserved c =
    let l = c.loop-i.invariant in
    let same = l.alone.runs in
    record {
      alone = elements_then l.alone c.update_coefficient.ensures.alone;
      rows = λ s lower upper. applied_more _ _ _ _ _ _ (l.rows s lower upper) c.loop-i-test.true
          (rw (same.columns, same.row_starts, same.shape) at (c.update_coefficient.ensures.row s lower upper));
    }

pub returns : goal.returns
returns c =
    let l = c.loop-i.invariant in
    record {
      rows = λ s lower upper. rw (← c.from-node_rows.ensures) (applied_all _ _ _ _ _ _ (l.rows s lower upper) c.loop-i-test.false);
      alone = l.alone;
    }

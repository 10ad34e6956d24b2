-- `update_binary_rows` meets its contract.
use native.Mathlib.Omega.{arith}
use Rattle.step_row_bounds.proofs.SameRuns.{same_then}
use Rattle.step_rows.proofs.update_binary_rows.Goals as goal

pub update_coefficients-requires : goal.update_coefficients-requires
update_coefficients-requires c =
    let same = c.reset_binary_rows.ensures.same in (
      omega (arith, c.requires.2, same.elements_long),
      c.requires.3,
      rw (same.columns, same.row_starts, same.shape) c.requires.4,
      rw same.shape c.requires.5,
      rw (same.columns, same.row_starts, same.shape) c.requires.6,
    )

pub returns : goal.returns
returns c =
    let first = c.reset_binary_rows.ensures in
    let next = rw (first.same.columns, first.same.row_starts, first.same.shape) at c.update_coefficients.ensures.rows in
    let alone = c.update_coefficients.ensures.alone in
    record {
      rows = λ s rows w. rw (alone.lowers, alone.uppers) (next s _ _ _ (first.rows s rows w));
      same = same_then first.same alone.runs;
    }

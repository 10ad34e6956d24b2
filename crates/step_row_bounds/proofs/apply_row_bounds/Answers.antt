-- `step_row_bounds::apply_row_bounds` meets its contract.
use mathlib.Core.Path.{◌∙◌}
use native.Mathlib.Omega.{arith}
use lib.Ieee.{nan}
use Rattle.pywr.specs.Numbers.{zero64}
use Rattle.pywr.specs.Interval.{tighten}
use Rattle.laws.proofs.Runs.{get_d_any}
use Rattle.step_row_bounds.proofs.apply_row_bounds.Goals as goal

pub returns-clause-row : goal.returns-clause-row
unfolding tighten
returns-clause-row c =
    let a = c.args in
    let row = c.set_row_bounds.ensures.row in
    record {
      lowers = row.lowers ∙ rw (c.tighten.ensures, get_d_any a.store.now.row_lower.now a.row nan zero64 (omega arith));
      uppers = row.uppers ∙ rw (c.tighten.ensures, get_d_any a.store.now.row_upper.now a.row nan zero64 (omega arith));
    }

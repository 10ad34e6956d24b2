-- `step_row_bounds::held_interval` meets its contract.
use Prim.Native.Nat.{◌+◌}
use native.Mathlib.Omega.{arith}
use lib.Ieee.{nan}
use Rattle.layout.specs.Layout.{uppers_at}
use Rattle.pywr.specs.Numbers.{zero64}
use Rattle.step_work.specs.WorkRun.{held_at}
use Rattle.laws.proofs.Runs.{get_d_any}
use Rattle.step_row_bounds.proofs.held_interval.Goals as goal

pub returns : goal.returns
unfolding held_at
returns c =
    let a = c.args in
    rw (get_d_any a.work.now a.k nan zero64 (omega arith), get_d_any a.work.now (uppers_at + a.k) nan zero64 (omega arith))

-- `lower_coefficient` meets its contract.
use native.Mathlib.Omega.{arith}
use lib.Ieee.{nan}
use Rattle.laws.proofs.Runs.{get_d_any}
use Rattle.pywr.specs.Numbers.{zero64}
use Rattle.step_coefficients.proofs.lower_coefficient.Goals as goal

pub returns-clause-changed : goal.returns-clause-changed
returns-clause-changed c =
    let p = c.coefficient_place-place in
    record {
      place = p.result;
      from = p.ensures.0;
      under = p.ensures.1;
      on = p.ensures.2;
      stored = rw (c.lesser.ensures, ← (get_d_any c.args.store.now.elements.now p.result nan zero64 (omega (arith, p.ensures.1))));
    }

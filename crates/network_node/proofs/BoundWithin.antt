-- What a min or a max that passed tells: it lies within the file, and it is no NaN. Assumes nothing.
use Prim.Native.Nat.{ℕ, ◌+◌, ◌≤◌}
use mathlib.Core.Path.{◌≡◌, refl, ◌∙◌, ap}
use mathlib.Core.List.{List}
use mathlib.Core.Bool.{Bool, true, false, cond}
use native.Mathlib.Omega.{arith}
use borrow.Author.Tests.{leb-true, eqb-true}
use lib.ListN.{length}
use lib.Dec.{eqb}
use lib.Ieee.{nan_bits}
use Rattle.pywr.specs.Bytes.{le64, within}
use Rattle.pywr.specs.Numbers.{is_flow}
use Rattle.pywr.specs.NetworkFile.{constant_fits, most_constant}
use Rattle.std.specs.Prelude.{Ok}
use Rattle.fields.proofs.Within.{ok_tested, byte_within, flag_byte}
use Rattle.network_node.specs.Node.{check_bound}

zero_flow : is_flow 0 ≡ true
unfolding is_flow nan_bits
zero_flow = refl

fits_flow : (constant bits : ℕ) → constant_fits constant bits ≡ true → is_flow bits ≡ true
unfolding constant_fits
fits_flow constant bits e = cases (eqb constant 1) e
  where
    cases : (b : Bool) → cond b (is_flow bits) (eqb bits 0) ≡ true → is_flow bits ≡ true
    cases true f = f
    cases false f = ap is_flow (eqb-true bits 0 f) ∙ zero_flow

pub bound_within : (file : List ℕ) (place at constant next : ℕ) → check_bound file place at constant ≡ Ok next → (at + 8 ≤ length file) × (is_flow (le64 file at) ≡ true)
unfolding check_bound
bound_within file place at constant next e =
    let t = ok_tested (within file at 8) _ _ _ e in
    let u = ok_tested (constant_fits constant (le64 file at)) _ _ _ t.1 in
    (leb-true _ _ t.0, fits_flow constant (le64 file at) u.0)

-- the constant flag is 0 or 1
pub most_flag : (kind : ℕ) → most_constant kind ≤ 1
unfolding most_constant
most_flag kind = cases (eqb kind 3)
  where
    cases : (b : Bool) → cond b 0 1 ≤ 1
    cases true = omega arith
    cases false = omega arith

-- for the check of a node
pub ruleset bounds = (bound_within, most_flag, byte_within, flag_byte)

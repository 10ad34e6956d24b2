-- `is_marked` meets its contract.
use Prim.Native.Nat.{◌+◌}
use native.Mathlib.Omega.{arith}
use Rattle.step_walk_record.proofs.MarkLaws.{mark_number}
use Rattle.step_walk_record.proofs.is_marked.Goals as goal

pub returns : goal.returns
returns c =
    let known = c.shared_slice_known-1.given in
    rw c.u16_at.ensures
    (mark_number _ _ c.args.mark (omega (arith, known c.args.at)) (omega (arith, known (c.args.at + 1))))

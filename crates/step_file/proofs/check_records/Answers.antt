-- `check_records` meets its contract. The loop's invariant: the check of all is that of those that are left.
use mathlib.Core.Path.{sym, ◌∙◌}
use Prim.Native.Nat.{◌+◌, ◌*◌, ◌≤◌}
use native.Mathlib.Omega.{arith}
use Rattle.std.proofs.Math.Nat.{mul-le-mul_left}
use Rattle.std.proofs.lemmas.Result.{err_from_is_err_and}
use Rattle.step_file.proofs.LoopLaws.{records_first, records_refused, records_more, records_done}
use Rattle.step_file.proofs.check_records.Goals as goal

pub loop-k-init : goal.loop-k-init
loop-k-init g c = λ h told. records_first h _ _ _

pub returns-in_err-check : goal.returns-in_err-check
returns-in_err-check g c =
    let p = err_from_is_err_and c.from_residual.result c.from_residual.ensures.1 in
    let near : c.args.from + c.args.length * c.loop-k.k ≤ 65536 = omega (arith, mul-le-mul_left c.args.length c.loop-k.auto.k-end) in
    λ h told. rw (p.1, p.2) (records_refused h _ _ _ c.loop-k.k _ (c.loop-k.invariant h told) c.loop-k-test.true (sym (told _ _ near c.check.ensures) ∙ c.in_err-check.was))

pub loop-k-preserved : goal.loop-k-preserved
loop-k-preserved g c =
    let near : c.args.from + c.args.length * c.loop-k.k ≤ 65536 = omega (arith, mul-le-mul_left c.args.length c.loop-k.auto.k-end) in
    λ h told. records_more h _ _ _ c.loop-k.k (c.loop-k.invariant h told) c.loop-k-test.true (sym (told _ _ near c.check.ensures) ∙ c.in_ok-check.was)

pub returns : goal.returns
returns g c = λ h told. records_done h _ _ _ c.loop-k.k (c.loop-k.invariant h told) c.loop-k-test.false

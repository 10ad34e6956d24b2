-- `network::scan` meets its contract.
use Rattle.std.proofs.Common.{sym, ◌∙◌, arith, rules}
use Rattle.std.proofs.lemmas.Result.{err_from_is_err_and}
use Rattle.network.proofs.ScanLoop.{begin, fixed_at, record_more, refusal, accepted, placed}
use Rattle.network.proofs.scan.Goals as goal

pub loop-at-init : goal.loop-at-init
loop-at-init c = let q = c.default-c.ensures in begin c.args.s.now c.default-c.result q.0 q.1.0 q.1.1.0 q.1.1.1.0 q.1.1.1.1

pub check_record-requires : goal.check_record-requires
check_record-requires c =
    (search rules, λ l. let f = fixed_at _ _ _ _ c.loop-at.invariant l in omega (arith, f), c.loop-at.invariant.few_nodes)

pub returns-in_err-read : goal.returns-in_err-read
returns-in_err-read c =
    let e = err_from_is_err_and c.from_residual.result c.from_residual.ensures.1 in
    rw (e.1, e.2) (refusal _ _ _ _ c.loop-at.invariant _ c.loop-at-test.true (sym c.check_record.ensures.0 ∙ c.in_err-read.was), tt)

pub loop-at-preserved : goal.loop-at-preserved
loop-at-preserved c =
    rw c.with-c.ensures (record_more _ _ _ _ c.loop-at.invariant c.in_ok-read.read c.loop-at-test.true (sym c.check_record.ensures.0 ∙ c.in_ok-read.was)
    (rw c.in_ok-read.was at c.check_record.ensures.1))

pub returns : goal.returns
returns c =
    (accepted _ _ _ _ c.loop-at.invariant c.loop-at-test.false, placed _ _ _ _ c.loop-at.invariant c.loop-at-test.false)

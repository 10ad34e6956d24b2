-- `check_records` meets its contract. The loop's invariant: the check of all is that of those that are left.
use Rattle.std.proofs.Common.{◌≡◌, ℕ, ◌≤◌}
use Rattle.pywr.specs.Answer.{Answer}
use Rattle.step_file.proofs.LoopLaws.{RecordsLeft}
use Rattle.step_file.proofs.check_records.Given as goal

abbrev pub invariant-loop-k : goal.invariant-loop-k
invariant-loop-k g l =
    (h : ℕ → Answer) → ((at : ℕ) (r : _) → at ≤ 65536 → goal.F-post g l.check at r → r ≡ h at) → RecordsLeft h l.length l.count l.from l.k

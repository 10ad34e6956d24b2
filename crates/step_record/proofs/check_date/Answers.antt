-- `check_date` meets its contract: the month lies within the file.
use mathlib.Core.Path.{sym, ◌∙◌}
use native.Mathlib.Omega.{arith}
use Rattle.step_record.proofs.CheckLaws.{byte_within}
use Rattle.step_record.proofs.check_date.Goals as goal

pub bounds-file-2 : goal.bounds-file-2
bounds-file-2 c = omega (arith, byte_within _ _ _ (sym c.check_byte.ensures ∙ c.in_ok-check_byte.was))

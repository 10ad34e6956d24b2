-- `runs::fill_whole` meets its contract.
use Rattle.std.proofs.Common.{◌∙◌}
use Rattle.runs.proofs.Copied.{filled}
use Rattle.runs.proofs.fill_whole.Goals as goal

pub returns : goal.returns
returns g c = c.fill.ensures ∙ filled c.args.w.now _

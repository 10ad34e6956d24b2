-- `build_room::clear` meets its contract.
use mathlib.Core.Path.{◌∙◌}
use Rattle.runs.proofs.Copied.{zeros}
use Rattle.build_room.proofs.clear.Goals as goal

pub returns : goal.returns
returns c = (c.fill_whole.ensures, c.fill_whole-2.ensures ∙ zeros _)

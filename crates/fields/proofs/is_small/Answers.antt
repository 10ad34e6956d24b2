-- `fields::is_small` meets its contract.
use Rattle.std.proofs.Common.{◌∙◌}
use Rattle.fields.proofs.Small.{small_pattern, doubled_pattern}
use Rattle.fields.proofs.is_small.Goals as goal

pub returns : goal.returns
returns c = doubled_pattern c.args.bits ∙ small_pattern c.args.bits

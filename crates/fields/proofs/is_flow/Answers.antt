-- `fields::is_flow` meets its contract: the pattern without its sign, against that of infinity.
use Rattle.fields.proofs.Nan.{flow_pattern}
use Rattle.fields.proofs.is_flow.Goals as goal

pub returns : goal.returns
returns c = flow_pattern c.args.bits

-- `flow_interval` meets its contract: at each return, the tests that led there.
use mathlib.Core.Path.{sym, ◌∙◌}
use Rattle.step_walk_record.proofs.GoodLaws.{flows_fit, flow_bits}
use Rattle.step_walk_record.proofs.flow_interval.Goals as goal

pub float_from_bits-min : goal.float_from_bits-min
float_from_bits-min c = flow_bits _ (flows_fit _ _ (sym c.are_flows.ensures ∙ c.if-not-are_flows.false)).lower

pub float_from_bits-max : goal.float_from_bits-max
float_from_bits-max c = flow_bits _ (flows_fit _ _ (sym c.are_flows.ensures ∙ c.if-not-are_flows.false)).upper

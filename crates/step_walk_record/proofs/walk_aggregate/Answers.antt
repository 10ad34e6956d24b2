-- `walk_aggregate` meets its contract: the tests that a good answer passed.
use mathlib.Core.Path.{sym, ◌∙◌}
use Rattle.pywr.specs.Numbers.{of_pattern}
use Rattle.step_walk_record.proofs.GoodLaws.{flows_fit, flow_bits}
use Rattle.step_walk_record.proofs.WalkedLaws.{aggregate_stopped, aggregate_walked}
use Rattle.step_walk_record.proofs.walk_aggregate.Goals as goal

pub returns-then-not-is_marked : goal.returns-then-not-is_marked
returns-then-not-is_marked c = aggregate_stopped _ _

pub float_from_bits-result : goal.float_from_bits-result
float_from_bits-result c = flow_bits _ (flows_fit _ _ (sym c.are_flows.ensures ∙ c.if-not-are_flows.false)).lower

pub float_from_bits-result-2 : goal.float_from_bits-result-2
float_from_bits-result-2 c = flow_bits _ (flows_fit _ _ (sym c.are_flows.ensures ∙ c.if-not-are_flows.false)).upper

pub returns : goal.returns
unfolding of_pattern
returns c =
    aggregate_walked _ _ _ _ c.requires
    (sym c.is_marked.ensures ∙ c.if-not-is_marked.false)
    c.u64_at-lower.ensures
    c.u64_at-upper.ensures
    (sym c.are_flows.ensures ∙ c.if-not-are_flows.false)

pub returns-then-not-are_flows : goal.returns-then-not-are_flows
returns-then-not-are_flows c = aggregate_stopped _ _

-- `of_pattern` meets its contract: a NaN's pattern is no argument of `from_bits`.
use Rattle.std.proofs.Common.{T, sym, refl, ◌∙◌, subst}
use lib.Ieee.{of_bits}
use Rattle.pywr.specs.Numbers.{is_flow, of_pattern}
use Rattle.fields.proofs.NanLaws.{nan_read}
use Rattle.fields.proofs.of_pattern.Goals as goal

pub float_from_bits-result : goal.float_from_bits-result
unfolding is_flow
float_from_bits-result c = subst T (sym (sym c.is_flow.ensures ∙ c.if-is_flow.true)) tt

pub returns-then-is_flow : goal.returns-then-is_flow
unfolding of_pattern
returns-then-is_flow c = refl

pub returns-else-is_flow : goal.returns-else-is_flow
unfolding of_bits
returns-else-is_flow c = nan_read _ (sym c.is_flow.ensures ∙ c.if-is_flow.false)

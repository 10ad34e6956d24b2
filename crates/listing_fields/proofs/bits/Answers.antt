-- `listing_fields::bits` meets its contract.
use Rattle.std.proofs.Common.{sym, ◌∙◌}
use Rattle.listing_fields.proofs.FieldLaws.{nan_pattern}
use Rattle.listing_fields.proofs.bits.Goals as goal

pub returns-then-is_nan : goal.returns-then-is_nan
returns-then-is_nan c = nan_pattern _ (sym c.if-is_nan.true ∙ c.is_nan.ensures.value)

-- `listing_fields::put_number` meets its contract.
use native.Mathlib.Omega.{arith}
use Rattle.listing_fields.proofs.FieldLaws.{put_then, put_decimal}
use Rattle.listing_fields.specs.Fields.{number_field}
use Rattle.listing_fields.proofs.put_number.Goals as goal

pub returns : goal.returns
unfolding number_field
returns c =
    let d = put_decimal c.put_decimal.ensures in
    record { put = put_then c.put-a.ensures d.put; end = omega (arith, c.put-a.ensures.next, d.end) }

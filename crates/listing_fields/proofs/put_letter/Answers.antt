-- `listing_fields::put_letter` meets its contract.
use native.Mathlib.Omega.{arith}
use Rattle.listing_fields.proofs.FieldLaws.{put_then}
use Rattle.listing_fields.specs.Fields.{letter_field}
use Rattle.listing_fields.proofs.put_letter.Goals as goal

pub returns : goal.returns
unfolding letter_field
returns c =
    record { put = put_then c.put-a.ensures c.put.ensures; end = omega (arith, c.put-a.ensures.next, c.put.ensures.next) }

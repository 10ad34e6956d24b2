-- `listing_fields::put_head` meets its contract.
use native.Mathlib.Omega.{arith}
use Rattle.listing_fields.proofs.FieldLaws.{put_then}
use Rattle.listing_fields.specs.Fields.{head_fields}
use Rattle.listing_fields.proofs.put_head.Goals as goal

pub returns : goal.returns
unfolding head_fields
returns c =
    record { put = put_then c.put-a.ensures c.put_number.ensures.put; end = omega (arith, c.put-a.ensures.next, c.put_number.ensures.end) }

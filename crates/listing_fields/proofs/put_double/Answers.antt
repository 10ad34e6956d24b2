-- `listing_fields::put_double` meets its contract.
use native.Mathlib.Omega.{arith}
use Rattle.listing_fields.proofs.FieldLaws.{put_then, put_sixteen}
use Rattle.listing_fields.specs.Fields.{double_field}
use Rattle.listing_fields.proofs.put_double.Goals as goal

pub returns : goal.returns
unfolding double_field
returns c =
    let d = put_sixteen _ _ c.bits.ensures c.put_hex.ensures in
    record { put = put_then c.put-a.ensures d.put; end = omega (arith, c.put-a.ensures.next, d.end) }

-- `listing_fields::put_bounds` meets its contract.
use native.Mathlib.Omega.{arith}
use Rattle.listing_fields.proofs.FieldLaws.{put_then}
use Rattle.listing_fields.specs.Fields.{bounds_fields}
use Rattle.listing_fields.proofs.put_bounds.Goals as goal

pub returns : goal.returns
unfolding bounds_fields
returns c =
    record {
      put = put_then c.put_double-a.ensures.put c.put_double.ensures.put;
      end = omega
          (arith, c.put_double-a.ensures.end, c.put_double.ensures.end);
    }

-- `listing_lines::put_maker_fields` meets its contract.
use native.Mathlib.Omega.{arith}
use Rattle.listing_fields.proofs.FieldLaws.{put_then}
use Rattle.listing_lines.specs.Lines.{maker_fields}
use Rattle.listing_lines.proofs.put_maker_fields.Goals as goal

pub returns : goal.returns
unfolding maker_fields
returns c =
    record {
      put = put_then c.put_number-a.ensures.put
          (put_then c.put_number-b.ensures.put c.put_number.ensures.put);
      end = omega (
        arith,
        c.put_number-a.ensures.end,
        c.put_number-b.ensures.end,
        c.put_number.ensures.end,
      );
    }

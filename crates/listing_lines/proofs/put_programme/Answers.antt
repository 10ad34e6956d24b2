-- `listing_lines::put_programme` meets its contract.
use native.Mathlib.Omega.{arith}
use Rattle.listing_fields.proofs.FieldLaws.{put_then}
use Rattle.listing_lines.specs.Lines.{programme_line}
use Rattle.listing_lines.proofs.put_programme.Goals as goal

pub returns : goal.returns
unfolding programme_line
returns c =
    record {
      put = put_then c.put_head-a.ensures.put
          (put_then c.put_number-b.ensures.put
          (put_then c.put_number-c.ensures.put (put_then c.put_number-d.ensures.put c.put.ensures)));
      end = omega (
        arith,
        c.put_head-a.ensures.end,
        c.put_number-b.ensures.end,
        c.put_number-c.ensures.end,
        c.put_number-d.ensures.end,
        c.put.ensures.next,
      );
    }

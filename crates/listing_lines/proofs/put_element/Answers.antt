-- `listing_lines::put_element` meets its contract.
use native.Mathlib.Omega.{arith}
use Rattle.listing_fields.proofs.FieldLaws.{put_then}
use Rattle.listing_lines.specs.Lines.{element_line}
use Rattle.listing_lines.proofs.put_element.Goals as goal

pub returns : goal.returns
unfolding element_line
returns c =
    record {
      put = put_then c.put_head-a.ensures.put (put_then c.put_double-b.ensures.put c.put.ensures);
      end = omega (arith, c.put_head-a.ensures.end, c.put_double-b.ensures.end, c.put.ensures.next);
    }

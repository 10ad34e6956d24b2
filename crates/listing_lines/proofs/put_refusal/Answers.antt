-- `listing_lines::put_refusal` meets its contract.
use native.Mathlib.Omega.{arith}
use Rattle.listing_fields.proofs.FieldLaws.{put_then}
use Rattle.listing_lines.specs.Lines.{refusal_line}
use Rattle.listing_lines.proofs.put_refusal.Goals as goal

pub returns : goal.returns
unfolding refusal_line
returns c =
    record {
      put = put_then c.put_head-a.ensures.put (put_then c.put_number-b.ensures.put c.put.ensures);
      end = omega (arith, c.put_head-a.ensures.end, c.put_number-b.ensures.end, c.put.ensures.next);
    }

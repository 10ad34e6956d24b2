-- `listing_lines::put_step` meets its contract.
use native.Mathlib.Omega.{arith}
use Rattle.listing_fields.proofs.FieldLaws.{put_then}
use Rattle.listing_lines.specs.Lines.{step_line}
use Rattle.listing_lines.proofs.put_step.Goals as goal

pub returns : goal.returns
unfolding step_line
returns c =
    record {
      put = put_then c.put_head-a.ensures.put c.put.ensures;
      end = omega (arith, c.put_head-a.ensures.end, c.put.ensures.next);
    }

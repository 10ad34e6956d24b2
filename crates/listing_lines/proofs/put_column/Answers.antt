-- `listing_lines::put_column` meets its contract.
use native.Mathlib.Omega.{arith}
use Rattle.listing_fields.proofs.FieldLaws.{put_then}
use Rattle.listing_lines.specs.Lines.{column_line}
use Rattle.listing_lines.proofs.put_column.Goals as goal

pub returns : goal.returns
unfolding column_line
returns c =
    let e = c.kind_letter.ensures in
    record {
      put = rw (← e) (put_then c.put_head-a.ensures.put
          (put_then c.put_letter-b.ensures.put
          (put_then c.put_bounds-c.ensures.put (put_then c.put_double-d.ensures.put c.put.ensures))));
      end = omega (
        arith,
        c.put_head-a.ensures.end,
        c.put_letter-b.ensures.end,
        c.put_bounds-c.ensures.end,
        c.put_double-d.ensures.end,
        c.put.ensures.next,
      );
    }

-- `listing_makers::put_maker` meets its contract.
use native.Mathlib.Omega.{arith}
use Rattle.text.proofs.Placed.{put_as}
use Rattle.listing_fields.proofs.FieldLaws.{put_then}
use Rattle.listing_makers.specs.Makers.{maker_line}
use Rattle.listing_makers.proofs.put_maker.Goals as goal

pub returns : goal.returns
unfolding maker_line
returns c =
    record {
      put = put_then c.put_all-a.ensures
          (put_then c.put_number-b.ensures.put
          (put_then c.put_all-c.ensures
          (put_then (put_as c.kind_words.ensures.words c.put_all-d.ensures)
          (put_then c.put_number-e.ensures.put
          (put_then c.put_shared-f.ensures.put c.put.ensures)))));
      end = omega (
        arith,
        c.put_all-a.ensures.next,
        c.put_number-b.ensures.end,
        c.put_all-c.ensures.next,
        c.put_all-d.ensures.next,
        c.kind_words.ensures.most,
        c.put_number-e.ensures.end,
        c.put_shared-f.ensures.end,
        c.put.ensures.next,
      );
    }

-- `listing_makers::put_shared` meets its contract.
use native.Mathlib.Omega.{arith}
use Rattle.text.proofs.Placed.{put_as}
use Rattle.listing_fields.proofs.FieldLaws.{put_then}
use Rattle.listing_makers.proofs.MakerLineLaws.{put_nothing, one_maker, more_makers}
use Rattle.listing_makers.proofs.put_shared.Goals as goal

pub returns-then-shared_by-eq1 : goal.returns-then-shared_by-eq1
returns-then-shared_by-eq1 c = put_nothing (one_maker _ c.if-shared_by-eq1.true)

pub returns : goal.returns
returns c =
    record {
      put = put_as (more_makers _ c.if-shared_by-eq1.false) (put_then c.put_all-a.ensures c.put_number.ensures.put);
      end = omega (arith, c.put_all-a.ensures.next, c.put_number.ensures.end);
    }

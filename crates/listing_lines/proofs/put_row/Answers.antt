-- `listing_lines::put_row` meets its contract.
use Rattle.std.proofs.Common.{◌≡◌, ◌∙◌, refl, Bool, true, false, arith}
use Rattle.std.specs.Int.{from_bool}
use Rattle.listing_fields.proofs.FieldLaws.{put_then}
use Rattle.listing_lines.specs.Lines.{row_line, varying_flag}
use Rattle.listing_lines.proofs.put_row.Goals as goal

is_flag : (b : Bool) → from_bool b ≡ varying_flag b
unfolding varying_flag
is_flag true = refl
is_flag false = refl

pub returns : goal.returns
unfolding row_line
returns c =
    let e = c.from.ensures ∙ is_flag _ in
    record {
      put = rw (← e) (put_then c.put_head-a.ensures.put
          (put_then c.put_number-b.ensures.put
          (put_then c.put_bounds-c.ensures.put
          (put_then c.put_number-d.ensures.put
          (put_then c.put_maker_fields-e.ensures.put c.put.ensures)))));
      end = omega (
        arith,
        c.put_head-a.ensures.end,
        c.put_number-b.ensures.end,
        c.put_bounds-c.ensures.end,
        c.put_number-d.ensures.end,
        c.put_maker_fields-e.ensures.end,
        c.put.ensures.next,
      );
    }

-- `listing_makers::list_makers` meets its contract.
use Rattle.std.proofs.Common.{◌≡◌, sym, ◌∙◌, ap, arith, length, rules}
use Rattle.pywr.specs.Store.{row_count}
use Rattle.listing_rows.proofs.GatherLaws.{gathers_none, gathers_as, gathers_line, gathered, both}
use Rattle.listing_makers.specs.Makers.{makers_text}
use Rattle.listing_makers.proofs.MakerLineLaws.{makers_none, makers_more, makers_longer, rows_counted}
use Rattle.listing_makers.proofs.list_makers.Goals as goal

pub loop-row-init : goal.loop-row-init
loop-row-init g c = record {
  within = search rules;
  most = search rules;
  lines = λ s e. (sym (ap length (makers_none s)), gathers_as (sym (makers_none s)) gathers_none);
}

pub loop-row-preserved : goal.loop-row-preserved
loop-row-preserved g c =
    let inv = c.loop-row.invariant in
    let room = c.spare-line.ensures in
    let put = c.put_maker-at.ensures.put in
    record {
      within = search rules;
      most = omega (arith, put.next, c.put_maker-at.ensures.end, inv.most);
      lines = λ s e.
          let (count, text) = inv.lines s e in (
            omega (arith, makers_longer s c.loop-row.row _ (c.row_maker.ensures s e), count, put.next),
            both c.loop-row.room.written c.spare-line.result.written room.failed text room.text
                (λ g h. gathers_as (sym (makers_more s c.loop-row.row _ (c.row_maker.ensures s e))) (gathers_line g h put)),
          );
    }

pub returns-clause-bytes : goal.returns-clause-bytes
returns-clause-bytes g c s es =
    let n = rows_counted s c.args.shape.now _ c.row_count-row-end.ensures.0 es in
    let all : c.loop-row.row ≡ row_count s = omega arith in
    (c.loop-row.invariant.lines s es).0 ∙ ap (λ k. length (makers_text s k)) all

pub returns-clause-text : goal.returns-clause-text
returns-clause-text g c s es =
    let n = rows_counted s c.args.shape.now _ c.row_count-row-end.ensures.0 es in
    let all : c.loop-row.row ≡ row_count s = omega arith in
    both c.loop-row.room.written c.write_out.result c.write_out.ensures.failed (c.loop-row.invariant.lines s es).1 c.write_out.ensures.text
    (λ h k. gathered _ _ _ _ _ (gathers_as (ap (makers_text s) all) h) k)

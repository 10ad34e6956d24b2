-- `listing_rows::list_rows` meets its contract.
use Rattle.std.proofs.Common.{◌≡◌, sym, ◌∙◌, ap, arith, length, rules}
use Rattle.listing_stored.specs.Stored.{store_of}
use Rattle.listing_rows.specs.Rows.{rows_text, listed_rows}
use Rattle.listing_rows.proofs.RowLaws.{rows_none, rows_more, rows_longer}
use Rattle.listing_rows.proofs.GatherLaws.{gathers_none, gathers_as, after, always, fails_on, both, gathers_then, gathers_nothing}
use Rattle.listing_rows.proofs.list_rows.Goals as goal

pub loop-row-init : goal.loop-row-init
loop-row-init g c =
    let s = store_of c.args.store.now in
    record {
      within = search rules;
      most = search rules;
      failed = search rules;
      bytes = sym (ap length (rows_none s));
      text = always c.args.from.written (gathers_as (sym (rows_none s)) gathers_none);
    }

pub loop-row-preserved : goal.loop-row-preserved
loop-row-preserved g c =
    let s = store_of c.args.store.now in
    let listed = c.list_row-listed.ensures in
    let room = c.spare-line.ensures in
    let inv = c.loop-row.invariant in
    record {
      within = search rules;
      most = omega (arith, inv.most, listed.most);
      failed = fails_on _ _ _ inv.failed (fails_on _ _ _ room.failed listed.failed);
      bytes = omega (arith, rows_longer s c.loop-row.row, inv.bytes, listed.bytes);
      text = both c.spare-line.result.written c.list_row-listed.result.room.written listed.failed
          (both c.loop-row.room.written c.spare-line.result.written room.failed inv.text room.text (λ g h. gathers_nothing g h))
          listed.text
          (λ g h. gathers_as (sym (rows_more s c.loop-row.row)) (gathers_then g h));
    }

pub returns-clause-bytes : goal.returns-clause-bytes
returns-clause-bytes g c =
    let s = store_of c.args.store.now in
    let all : c.loop-row.row ≡ listed_rows s = omega arith in
    c.loop-row.invariant.bytes ∙ ap (λ k. length (rows_text s k)) all

pub returns-clause-text : goal.returns-clause-text
returns-clause-text g c =
    let s = store_of c.args.store.now in
    let all : c.loop-row.row ≡ listed_rows s = omega arith in
    after c.loop-row.room.written c.loop-row.invariant.text (λ t. gathers_as (ap (rows_text s) all) t)

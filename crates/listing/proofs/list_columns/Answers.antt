-- `listing::list_columns` meets its contract.
use Rattle.std.proofs.Common.{◌≡◌, sym, ◌∙◌, ap, arith, length, rules}
use Rattle.listing_stored.specs.Stored.{store_of}
use Rattle.listing_rows.proofs.GatherLaws.{gathers_none, gathers_as, gathers_line, after, both}
use Rattle.listing.specs.Listing.{columns_text, listed_columns}
use Rattle.listing.proofs.ListingLaws.{columns_none, columns_more, columns_longer}
use Rattle.listing.proofs.list_columns.Goals as goal

pub loop-c-init : goal.loop-c-init
loop-c-init g c =
    let s = store_of c.args.store.now in
    record {
      within = search rules;
      most = search rules;
      bytes = sym (ap length (columns_none s));
      text = gathers_as (sym (columns_none s)) gathers_none;
    }

pub loop-c-preserved : goal.loop-c-preserved
loop-c-preserved g c =
    let s = store_of c.args.store.now in
    let inv = c.loop-c.invariant in
    let room = c.spare-line.ensures in
    let put = c.put_stored_column-at.ensures.put in
    record {
      within = search rules;
      most = omega (arith, put.next, c.put_stored_column-at.ensures.end, inv.most);
      bytes = omega (arith, columns_longer s c.loop-c.c, inv.bytes, put.next);
      text = both c.loop-c.room.written c.spare-line.result.written room.failed inv.text room.text
          (λ g h. gathers_as (sym (columns_more s c.loop-c.c)) (gathers_line g h put));
    }

pub returns-clause-bytes : goal.returns-clause-bytes
returns-clause-bytes g c =
    let s = store_of c.args.store.now in
    let all : c.loop-c.c ≡ listed_columns s = omega arith in
    c.loop-c.invariant.bytes ∙ ap (λ k. length (columns_text s k)) all

pub returns-clause-text : goal.returns-clause-text
returns-clause-text g c =
    let s = store_of c.args.store.now in
    let all : c.loop-c.c ≡ listed_columns s = omega arith in
    after c.loop-c.room.written c.loop-c.invariant.text (λ t. gathers_as (ap (columns_text s) all) t)

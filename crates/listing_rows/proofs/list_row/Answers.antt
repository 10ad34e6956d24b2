-- `listing_rows::list_row` meets its contract.
use Rattle.std.proofs.Common.{sym, arith}
use Rattle.std.proofs.lemmas.Grind.{common_steps}
use Rattle.listing_stored.specs.Stored.{store_of}
use Rattle.listing_rows.proofs.RowLaws.{row_bytes, row_text_lem}
use Rattle.listing_rows.proofs.GatherLaws.{gathers_put, gathers_then, gathers_as, after}
use Rattle.listing_rows.proofs.list_row.Goals as goal

pub returns-clause-bytes : goal.returns-clause-bytes
returns-clause-bytes g c =
    let e = row_bytes (store_of c.args.store.now) c.args.row _ _ _ (grind (arith, common_steps)) c.start_within-last.ensures.value c.start_within-first.ensures.value in
    omega (arith, e, c.put_stored_row-at.ensures.put.next, c.list_elements-listed.ensures.bytes)

pub returns-clause-text : goal.returns-clause-text
returns-clause-text g c =
    let e = row_text_lem (store_of c.args.store.now) c.args.row _ _ _ (grind (arith, common_steps)) c.start_within-last.ensures.value c.start_within-first.ensures.value in
    let line = gathers_put c.put_stored_row-at.ensures.put in
    after c.list_elements-listed.result.room.written c.list_elements-listed.ensures.text (λ rest. gathers_as (sym e) (gathers_then line rest))

-- `listing::list_programme` meets its contract.
use Rattle.std.proofs.Common.{sym, arith}
use Rattle.listing_stored.specs.Stored.{store_of}
use Rattle.listing_rows.proofs.GatherLaws.{gathers_put, gathers_then, gathers_as, gathered, both}
use Rattle.listing.proofs.ListingLaws.{listing_text, listing_bytes}
use Rattle.listing.proofs.list_programme.Goals as goal

pub returns-clause-bytes : goal.returns-clause-bytes
returns-clause-bytes g c =
    omega (arith, listing_bytes (store_of c.args.store.now), c.put_counts-counts.ensures.put.next, c.list_columns-columns.ensures.bytes, c.list_rows-rows.ensures.bytes)

pub returns-clause-text : goal.returns-clause-text
returns-clause-text g c =
    let counts = c.put_counts-counts.ensures.put in
    let columns = c.list_columns-columns in
    let rows = c.list_rows-rows in
    both rows.result.room.written c.write_out.result c.write_out.ensures.failed
    (both columns.result.room.written rows.result.room.written rows.ensures.failed columns.ensures.text rows.ensures.text
    (λ h k. gathers_as (sym (listing_text (store_of c.args.store.now))) (gathers_then (gathers_put counts) (gathers_then h k))))
    c.write_out.ensures.text
    (λ h k. gathered _ _ _ _ _ h k)

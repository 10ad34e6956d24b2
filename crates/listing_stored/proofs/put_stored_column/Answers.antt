-- `listing_stored::put_stored_column` meets its contract.
use Rattle.text.proofs.Placed.{put_as}
use Rattle.listing_stored.specs.Stored.{store_of}
use Rattle.listing_stored.proofs.StoredLaws.{column_text_lem}
use Rattle.listing_stored.proofs.put_stored_column.Goals as goal

pub returns : goal.returns
returns c =
    let line = column_text_lem (store_of c.args.store.now) c.args.c _ c.requires.1 c.requires.2 c.requires.3 c.word.ensures.0 in
    record { put = put_as line c.put_column.ensures.put; end = c.put_column.ensures.end }

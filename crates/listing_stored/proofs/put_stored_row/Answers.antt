-- `listing_stored::put_stored_row` meets its contract.
use mathlib.Core.Path.{refl}
use Rattle.text.proofs.Placed.{put_as}
use Rattle.listing_stored.specs.Stored.{store_of}
use Rattle.listing_stored.proofs.StoredLaws.{row_text_lem}
use Rattle.listing_stored.proofs.put_stored_row.Goals as goal

pub returns : goal.returns
returns c =
    let s = store_of c.args.store.now in
    let line = row_text_lem s c.args.row _ c.args.elements _ c.requires.1 c.requires.2 c.word.ensures.0 (c.row_maker-maker.ensures s refl) in
    record { put = put_as line c.put_row.ensures.put; end = c.put_row.ensures.end }

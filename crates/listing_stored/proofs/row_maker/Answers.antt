-- `listing_stored::row_maker` meets its contract.
use Rattle.listing_stored.proofs.StoredLaws.{maker_read}
use Rattle.listing_stored.proofs.row_maker.Goals as goal

pub returns : goal.returns
returns c =
    let a = c.args in
    λ s e. maker_read s a.shape.now a.row c.word.result c.word-2.result c.word-3.result
    c.word.ensures.0 c.word-2.ensures.0 c.word-3.ensures.0 e

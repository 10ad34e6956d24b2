-- `listing_stored::put_counts` meets its contract.
use Rattle.listing_stored.proofs.put_counts.Goals as goal

pub returns : goal.returns
returns c =
    rw (← c.word.ensures.0, ← c.word-2.ensures.0, ← c.row_count-rows.ensures.0, ← c.word-varying.ensures.0, ← c.word-elements.ensures.0) c.put_programme.ensures

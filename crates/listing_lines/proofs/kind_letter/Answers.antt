-- `listing_lines::kind_letter` meets its contract.
use Rattle.listing_lines.specs.Lines.{kind_letter}
use Rattle.listing_lines.proofs.kind_letter.Goals as goal

pub returns-then-integer : goal.returns-then-integer
unfolding kind_letter
returns-then-integer c = rw c.if-integer.true

pub returns-else-integer : goal.returns-else-integer
unfolding kind_letter
returns-else-integer c = rw c.if-integer.false

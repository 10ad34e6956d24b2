-- `ColEdgeMap::unite` meets its contract.
use native.Mathlib.Omega.{arith}
use borrow.Author.Tests.{lt-ltb, le-ltb}
use Rattle.pywr.specs.ColEdgeMap.{unite}
use Rattle.build_col_edge_map.proofs.ColEdgeMap.unite.Goals as goal

pub returns-then-column-other : goal.returns-then-column-other
unfolding unite
returns-then-column-other c =
    (c.unite_under.ensures.0, λ k a b m l p q. rw (lt-ltb a b (omega arith)) (c.unite_under.ensures.1 k a b m l p q))

pub returns-then-other-column : goal.returns-then-other-column
unfolding unite
returns-then-other-column c =
    (c.unite_under-then-other-column.ensures.0, λ k a b m l p q. rw (le-ltb a b (omega arith), lt-ltb b a (omega arith)) (c.unite_under-then-other-column.ensures.1 k b a m l q p))

pub returns-else-other-column : goal.returns-else-other-column
unfolding unite
returns-else-other-column c = (omega arith, λ k a b m l p q. rw (le-ltb a b (omega arith), le-ltb b a (omega arith)) m)

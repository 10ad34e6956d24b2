-- `ColEdgeMap::add_equal_edges` meets its contract.
use native.Mathlib.Omega.{arith}
use Rattle.build_col_edge_map.proofs.MappedLaws.{equal_new, equal_edge, equal_before, equal_both}
use Rattle.build_col_edge_map.proofs.ColEdgeMap.add_equal_edges.Goals as goal

pub returns-then-other-eq0 : goal.returns-then-other-eq0
returns-then-other-eq0 c =
    let e = c.from-e.ensures in
    let b = c.from-b.ensures in (
      omega arith,
      λ k m l. rw (e, b) (equal_new k _ _ m _ (omega arith) _ (omega arith) (rw e at c.if-column-eq0.true) (rw b at c.if-other-eq0.true)),
    )

pub returns-else-other-eq0 : goal.returns-else-other-eq0
returns-else-other-eq0 c =
    let e = c.from-e.ensures in
    let b = c.from-b.ensures in
    (omega arith, λ k m l. rw (e, b) (equal_edge k _ _ m _ (omega arith) _ (omega arith) (rw e at c.if-column-eq0.true) (rw b at c.if-other-eq0.false)))

pub returns-then-other-eq0-2 : goal.returns-then-other-eq0-2
returns-then-other-eq0-2 c =
    let e = c.from-e.ensures in
    let b = c.from-b.ensures in
    (omega arith, λ k m l. rw (e, b) (equal_before k _ _ m _ (omega arith) _ (omega arith) (rw e at c.if-column-eq0.false) (rw b at c.if-other-eq0-2.true)))

pub unite-requires : goal.unite-requires
unite-requires c =
    let column = rw c.from-e.ensures at c.if-column-eq0.false in
    (omega arith, omega arith)

pub returns-else-other-eq0-2 : goal.returns-else-other-eq0-2
returns-else-other-eq0-2 c =
    let e = c.from-e.ensures in
    let b = c.from-b.ensures in (
      omega arith,
      λ k m l. equal_both k _ _ m _ (omega arith) _ (omega arith) (rw e at c.if-column-eq0.false) (rw b at c.if-other-eq0-2.false) (λ i j p q. c.unite.ensures.1 k i j m l (rw e p) (rw b q)),
    )

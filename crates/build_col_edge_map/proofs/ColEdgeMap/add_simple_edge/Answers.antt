-- `ColEdgeMap::add_simple_edge` meets its contract.
use native.Mathlib.Omega.{arith}
use Rattle.build_col_edge_map.proofs.MappedLaws.{simple_new, simple_has}
use Rattle.build_col_edge_map.proofs.ColEdgeMap.add_simple_edge.Goals as goal

pub returns-then-self-e-eq0 : goal.returns-then-self-e-eq0
returns-then-self-e-eq0 c = (omega arith, λ k m u. rw c.from-e.ensures (simple_new k _ _ m _ u (rw c.from-e.ensures at c.if-self-e-eq0.true)))

pub returns-else-self-e-eq0 : goal.returns-else-self-e-eq0
returns-else-self-e-eq0 c = (omega arith, λ k m u. simple_has k _ _ m _ u (rw c.from-e.ensures at c.if-self-e-eq0.false))

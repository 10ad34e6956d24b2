-- `ColEdgeMap::unite_under` meets its contract. The loop's invariant: the entries before e are united, the rest stands as it was.
use mathlib.Core.Path.{refl}
use native.Mathlib.Omega.{arith}
use Rattle.build_col_edge_map.proofs.MappedLaws.{next_united, all_united, mapped_united}
use Rattle.build_col_edge_map.proofs.ColEdgeMap.unite_under.Goals as goal

pub loop-e-init : goal.loop-e-init
loop-e-init c = (refl, refl)

pub loop-e-preserved : goal.loop-e-preserved
loop-e-preserved c = (c.loop-e.invariant.0, next_united _ _ _ _ _ _ c.loop-e.invariant.1 c.united.ensures)

pub returns : goal.returns
returns c =
    let all = all_united _ _ _ _ _ _ c.loop-e.invariant.1 (omega arith) c.loop-e-test.false in
    (omega (arith, c.loop-e.invariant.0), λ k a b m l p q. rw (c.loop-e.invariant.0) (mapped_united k _ _ _ _ a b m l (rw (p, q) at all)))

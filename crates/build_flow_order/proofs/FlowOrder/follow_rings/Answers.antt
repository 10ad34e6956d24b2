-- `FlowOrder::follow_rings` meets its contract. The loop's invariant: the order has the edges before edge `start` and what follows from them.
use mathlib.Core.Path.{refl}
use Rattle.build_flow_order.proofs.Passes.{no_rings, edge_followed, pass_whole}
use borrow.Author.Rules.{rules}
use Rattle.build_flow_order.proofs.FlowOrder.follow_rings.Goals as goal

pub loop-start-init : goal.loop-start-init
loop-start-init c = no_rings _ _ _ _ _ _ c.requires.2

pub loop-start-preserved : goal.loop-start-preserved
loop-start-preserved c =
    edge_followed _ _ _ _ _ _ c.loop-start.invariant c.loop-start-test.true _ (λ a v. refl)
    refl (search rules) c.follow.ensures.0 c.follow.ensures.1

pub returns : goal.returns
returns c =
    λ a v base o.
    (pass_whole _ _ _ _ _ _ c.loop-start.invariant c.loop-start-test.false a v base o).written

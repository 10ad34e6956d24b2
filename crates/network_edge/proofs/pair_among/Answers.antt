-- `network_edge::pair_among` meets its contract.
use Rattle.std.proofs.Common.{sym, ◌∙◌, arith}
use Rattle.network_edge.proofs.Loops.{pair_found, pair_nowhere}
use Rattle.network_edge.proofs.pair_among.Goals as goal

pub returns-then-u32_at-pair : goal.returns-then-u32_at-pair
returns-then-u32_at-pair c =
    sym (pair_found _ _ _ (λ k. omega (arith, c.type_inv.s k)) (omega arith) _ _ _ c.loop-i-test.true (sym c.u32_at.ensures ∙ c.if-u32_at-pair.true ∙ omega (arith, c.from.ensures, c.from-2.ensures)))

pub returns : goal.returns
returns c =
    sym (pair_nowhere _ _ _ _ _ (λ k lt q. c.loop-i.invariant k (omega arith) (q ∙ omega (arith, c.from.ensures, c.from-2.ensures))))

-- `build_exclusive_sets::same_set` meets its contract: after i members alike, the sets are the same if the rest is.
use mathlib.Core.Path.{sym, ◌∙◌}
use native.Mathlib.Omega.{arith}
use Rattle.network_aggregate.specs.AggregatedNode.{aggregate_set_at}
use Rattle.build_exclusive_sets.proofs.SameSet.{set_length, other_size, same_more, same_not, same_end}
use Rattle.build_exclusive_sets.proofs.same_set.Goals as goal

pub returns-then-size-set_size : goal.returns-then-size-set_size
returns-then-size-set_size c =
    let p = c.args in
    sym (other_size (aggregate_set_at p.s.now p.a) (aggregate_set_at p.s.now p.b)
    (λ e. c.if-size-set_size.true (c.set_size-size.ensures.0 ∙ sym (set_length p.s.now p.a) ∙ e ∙ set_length p.s.now p.b ∙ sym c.set_size.ensures.0)))

pub returns-then-x-y : goal.returns-then-x-y
returns-then-x-y c =
    let p = c.args in
    sym (c.loop-i.invariant ∙ same_not p.s.now p.a p.b c.loop-i.i (omega arith) (omega arith)
    (λ e. c.if-x-y.true (c.member-x.ensures ∙ e ∙ sym c.member-y.ensures)))

pub loop-i-preserved : goal.loop-i-preserved
loop-i-preserved c =
    let p = c.args in
    c.loop-i.invariant ∙ same_more p.s.now p.a p.b c.loop-i.i (omega arith) (omega arith)
    (sym c.member-x.ensures ∙ c.if-x-y.false ∙ c.member-y.ensures)

pub returns : goal.returns
returns c =
    let p = c.args in
    sym (c.loop-i.invariant ∙ same_end p.s.now p.a p.b c.loop-i.i (omega arith) (omega arith))

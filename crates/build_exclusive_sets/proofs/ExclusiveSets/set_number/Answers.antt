-- `ExclusiveSets::set_number` meets its contract: none of the first k sets is the same, so that its number is k more than among the rest.
use mathlib.Core.Path.{◌≡◌, sym, ◌∙◌}
use native.Mathlib.Omega.{arith}
use Rattle.network_aggregate.specs.AggregatedNode.{aggregate_set_at}
use Rattle.build_exclusive_sets.proofs.SetNumber.{number_here, number_more, number_end}
use Rattle.build_exclusive_sets.proofs.ExclusiveSets.set_number.Goals as goal

pub returns-then-same_set : goal.returns-then-same_set
returns-then-same_set c =
    let p = c.args in
    sym (c.loop-k.invariant ∙ number_here p.s.now p.self.now.at p.self.now.count (omega arith) (aggregate_set_at p.s.now p.at) c.loop-k.k
    c.loop-k-test.true (rw c.from.ensures at (sym c.same_set.ensures ∙ c.if-same_set.true)))

pub loop-k-preserved : goal.loop-k-preserved
loop-k-preserved c =
    let p = c.args in
    c.loop-k.invariant ∙ number_more p.s.now p.self.now.at p.self.now.count (omega arith) (aggregate_set_at p.s.now p.at) c.loop-k.k
    c.loop-k-test.true (rw c.from.ensures at (sym c.same_set.ensures ∙ c.if-same_set.false))

pub returns : goal.returns
returns c =
    let p = c.args in
    let all : c.loop-k.k ≡ p.self.now.count = omega arith in
    sym all ∙ sym (c.loop-k.invariant ∙ number_end p.s.now p.self.now.at p.self.now.count (omega arith) (aggregate_set_at p.s.now p.at) c.loop-k.k c.loop-k-test.false)

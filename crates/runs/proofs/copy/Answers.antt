-- `runs::copy` meets its contract.
use mathlib.Core.Path.{sym, ◌∙◌}
use Rattle.laws.proofs.Sets.{length_part, part_at}
use Rattle.runs.proofs.Copied.{none, more, all}
use Rattle.runs.proofs.copy.Goals as goal

pub loop-i-init : goal.loop-i-init
loop-i-init g c = none _ _ _ _ (length_part c.args.s.now c.args.at c.args.n c.requires.1)

pub loop-i-preserved : goal.loop-i-preserved
loop-i-preserved g c =
    more _ _ _ _ _ _ _ _ c.loop-i-test.true (part_at c.args.s.now c.args.at c.args.n c.loop-i.i _ c.loop-i-test.true ∙ sym c.index-s-at.is) c.loop-i.invariant

pub returns : goal.returns
returns g c = all _ _ _ _ _ _ c.loop-i-test.false c.loop-i.invariant

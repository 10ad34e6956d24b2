-- `runs::widen` meets its contract. The loop's invariant: the first i elements of the part are written.
use mathlib.Core.Path.{sym, ◌∙◌}
use Rattle.laws.proofs.Sets.{length_part}
use Rattle.laws.proofs.Sets.{part_at}
use Rattle.runs.proofs.Copied.{none, more, all}
use Rattle.runs.proofs.widen.Goals as goal

pub loop-i-init : goal.loop-i-init
loop-i-init c = none _ _ _ _ (length_part c.args.s.now c.args.at c.args.n c.requires.1)

pub loop-i-preserved : goal.loop-i-preserved
loop-i-preserved c =
    more _ _ _ _ _ _ _ 0 c.loop-i-test.true (part_at c.args.s.now c.args.at c.args.n c.loop-i.i 0 c.loop-i-test.true ∙ sym c.from.ensures) c.loop-i.invariant

pub shape_of-d : goal.shape_of-d
shape_of-d c = c.loop-i.invariant.long

pub returns : goal.returns
returns c = all _ _ _ _ _ _ c.loop-i-test.false c.loop-i.invariant

-- `build_shape::write_nodes` meets its contract. The loop's invariant: the entries of the first i nodes are written.
use mathlib.Core.Path.{ap, ◌∙◌}
use Rattle.pywr.specs.Written.{flag_word}
use Rattle.build_shape.proofs.Table.{nodes_none, nodes_more, nodes_all, flag_is}
use Rattle.build_shape.proofs.write_nodes.Goals as goal

pub loop-i-init : goal.loop-i-init
loop-i-init c = nodes_none _ _ _

pub loop-i-preserved : goal.loop-i-preserved
loop-i-preserved c =
    nodes_more _ _ _ _ _ _ _ c.loop-i-test.true (c.from.ensures ∙ c.kind_byte.ensures) (c.from-in-loop-i.ensures ∙ flag_is _ ∙ ap flag_word c.is_constant.ensures)
    c.loop-i.invariant

pub returns : goal.returns
returns c = nodes_all _ _ _ _ _ c.loop-i-test.false c.loop-i.invariant

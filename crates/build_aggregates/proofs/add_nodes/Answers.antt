-- `build_aggregates::add_nodes` meets its contract. The invariant: the nodes left, added to the row so far, make the whole row.
use mathlib.Core.Path.{refl, ◌∙◌}
use native.Mathlib.Omega.{arith}
use lib.Ieee.{of_bits}
use Rattle.pywr.specs.Numbers.{one64}
use Rattle.build_aggregates.proofs.AggregateLaws.{nodes_none, nodes_more, nodes_all}
use Rattle.build_aggregates.proofs.add_nodes.Goals as goal

pub set_size-k-end-requires : goal.set_size-k-end-requires
set_size-k-end-requires c = omega (arith, c.requires.1)

pub loop-k-init : goal.loop-k-init
loop-k-init c = (nodes_none _ c.args.tables.now.counts _ _ _ _ _ refl c.requires.5 c.requires.3, refl)

pub member-node-requires : goal.member-node-requires
member-node-requires c = (c.requires.1, omega (arith, c.set_size-k-end.ensures.0, c.loop-k-test.true))

pub add_node-count-requires : goal.add_node-count-requires
add_node-count-requires c =
    let l = c.loop-k in
    let listed = c.requires.2 l.k (omega (arith, c.set_size-k-end.ensures.0, c.loop-k-test.true)) in
    (c.requires.0, omega (arith, c.member-node.ensures, listed), l.invariant.0.few, omega (arith, l.invariant.1, c.requires.4), l.invariant.0.rising)

pub loop-k-preserved : goal.loop-k-preserved
unfolding one64 of_bits
loop-k-preserved c =
    let l = c.loop-k in (
      nodes_more _ c.args.tables.now.counts _ _ _ _ _ _ l.invariant.0 _ _ _ _ _ (omega (arith, c.set_size-k-end.ensures.0, c.loop-k-test.true))
          c.member-node.ensures refl c.add_node-count.ensures,
      c.add_node-count.auto.elements ∙ l.invariant.1,
    )

pub shape_of-elements : goal.shape_of-elements
shape_of-elements c = c.loop-k.invariant.1

pub returns : goal.returns
returns c =
    nodes_all _ c.args.tables.now.counts _ _ _ _ _ _ c.loop-k.invariant.0 (omega (arith, c.set_size-k-end.ensures.0, c.loop-k-test.false))

-- `build_aggregates::aggregate_row` meets its contract. The invariant: the sets left, added to the row so far, make the aggregate's row.
use mathlib.Core.Path.{refl, ◌∙◌}
use Prim.Native.Nat.{◌+◌, ◌<◌}
use native.Mathlib.Omega.{arith}
use Rattle.pywr.specs.Bytes.{byte}
use Rattle.fields.specs.Records.{records_end}
use Rattle.build_aggregates.proofs.AggregateLaws.{sets_none, sets_more, sets_all, fields_within, set_within, set_nodes, set_next}
use Rattle.build_aggregates.proofs.aggregate_row.Goals as goal

pub set_count-end-requires : goal.set_count-end-requires
set_count-end-requires c = fields_within _ _ _ c.requires.1

pub sets_at-here-requires : goal.sets_at-here-requires
sets_at-here-requires c = omega (arith, fields_within _ _ _ c.requires.1)

pub loop-init : goal.loop-init
unfolding records_end
loop-init c = (rw c.sets_at-here.ensures (sets_none _ c.args.tables.now.counts _ _ _), c.sets_at-here.ensures, refl)

pub add_nodes-n-requires : goal.add_nodes-n-requires
add_nodes-n-requires c =
    let l = c.loop in
    let lt : l.counter < byte c.args.tables.now.file.now (c.args.at + 3) = omega (arith, c.set_count-end.ensures.0, c.loop-test.true) in
    (c.requires.0, set_within _ _ _ c.requires.1 _ _ lt l.invariant.1, set_nodes _ _ _ c.requires.1 _ _ lt l.invariant.1, l.invariant.0.few, omega (arith, l.invariant.2, c.requires.2), l.invariant.0.rising)

pub set_end-here-requires : goal.set_end-here-requires
set_end-here-requires c =
    let l = c.loop in
    let lt : l.counter < byte c.args.tables.now.file.now (c.args.at + 3) = omega (arith, c.set_count-end.ensures.0, c.loop-test.true) in
    omega (arith, set_within _ _ _ c.requires.1 _ _ lt l.invariant.1)

pub loop-preserved : goal.loop-preserved
loop-preserved c =
    let l = c.loop in
    let lt : l.counter < byte c.args.tables.now.file.now (c.args.at + 3) = omega (arith, c.set_count-end.ensures.0, c.loop-test.true) in (
      sets_more _ c.args.tables.now.counts _ _ _ _ _ _ l.invariant.0 _ _ _ _ lt c.set_end-here.ensures c.add_nodes-n.ensures,
      set_next _ _ _ c.requires.1 _ _ lt
          l.invariant.1 _ c.set_end-here.ensures,
      c.add_nodes-n.auto.elements ∙ l.invariant.2,
    )

pub shape_of-elements : goal.shape_of-elements
shape_of-elements c = c.loop.invariant.2

pub returns : goal.returns
returns c =
    sets_all _ c.args.tables.now.counts _ _ _ _ _ _ c.loop.invariant.0 (omega (arith, c.set_count-end.ensures.0, c.loop-test.false))

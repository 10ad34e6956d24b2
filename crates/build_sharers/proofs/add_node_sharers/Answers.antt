-- `build_sharers::add_node_sharers` meets its contract. The loop's invariant: the first i have been counted.
use mathlib.Core.Path.{◌≡◌, ◌∙◌}
use Prim.Native.Nat.{◌+◌, ◌*◌}
use native.Mathlib.Omega.{arith}
use lib.ListN.{get_or}
use Rattle.layout.specs.Layout.{node_rows_at}
use Rattle.pywr.specs.Programme.{by_node}
use Rattle.build_sharers.specs.Sharers.{node_asker}
use Rattle.build_sharers.proofs.Walk.{walked_none, walked_more, next_under, next_room, word_kept}
use Rattle.build_sharers.proofs.add_node_sharers.Goals as goal

pub loop-i-init : goal.loop-i-init
loop-i-init c = walked_none _ _ _

pub add_sharer-requires : goal.add_sharer-requires
add_sharer-requires c =
    -- the row of node row i is read as it stood
    let row_is : get_or c.loop-i.shape (node_rows_at + 4 * c.loop-i.i + 1) 0 ≡ (node_asker c.args.shape.now c.loop-i.i).row =
    word_kept c.args.shape.now c.loop-i.shape (node_rows_at + 4 * c.loop-i.i + 1)
    (omega (arith, c.loop-i-test.true, c.requires.0)) c.loop-i.invariant.counted.kept in
    let row = c.from-row.ensures ∙ row_is in (
      rw row (next_under _ _ _ c.requires.2 _ _ c.loop-i-test.true c.loop-i.invariant),
      omega (arith, c.requires.1, c.loop-i.invariant.long),
      rw row (next_room _ _ _ c.requires.2 _ _ c.loop-i-test.true c.loop-i.invariant),
    )

pub loop-i-preserved : goal.loop-i-preserved
loop-i-preserved c =
    -- the row of node row i is read as it stood
    let row_is : get_or c.loop-i.shape (node_rows_at + 4 * c.loop-i.i + 1) 0 ≡ (node_asker c.args.shape.now c.loop-i.i).row =
    word_kept c.args.shape.now c.loop-i.shape (node_rows_at + 4 * c.loop-i.i + 1)
    (omega (arith, c.loop-i-test.true, c.requires.0)) c.loop-i.invariant.counted.kept in
    let node = word_kept c.args.shape.now c.loop-i.shape (node_rows_at + 4 * c.loop-i.i)
    (omega (arith, c.loop-i-test.true, c.requires.0)) c.loop-i.invariant.counted.kept in
    walked_more _ _ _ c.requires.2 _ _ c.loop-i-test.true c.loop-i.invariant c.requires.1 _
    (λ j. record { kind = by_node; index = node j; row = (c.from-row.ensures ∙ row_is) j }) _ c.add_sharer.ensures

-- `build_nodes::create_node_constraints` meets its contract: `NodeOrder.antt` has what the nodes ask for.
use mathlib.Core.Path.{refl, ap}
use Prim.Native.Nat.{◌+◌}
use native.Mathlib.Omega.{arith}
use Rattle.std.proofs.lemmas.Result.{err_from_is_err_and}
use Rattle.build_append.proofs.Kept.{same_then, room_kept}
use Rattle.build_node_table.specs.NodeTable.{node_rows_then}
use Rattle.build_nodes.proofs.NodeOrder.{node_under, order_first, order_full, order_done}
use Rattle.build_nodes.proofs.create_node_constraints.Goals as goal

pub loop-i-init : goal.loop-i-init
loop-i-init c = (
  order_first _ _ _ c.requires.0 _ _ _ _ c.requires.4,
  record { words = refl; numbers = refl; words_long = refl; numbers_long = refl; sentinel = refl },
)

pub overflow_cast-i : goal.overflow_cast-i
overflow_cast-i c =
    let under = node_under _ _ _ c.requires.0 _ c.loop-i-test.true in
    omega arith

pub request_rows-requires : goal.request_rows-requires
request_rows-requires c =
    let p = c.requires in
    let l = c.loop-i.invariant in
    rw l.1.sentinel (p.0, c.loop-i-test.true, p.1, p.2, room_kept l.1 p.3, l.0)

pub returns-in_err-count-clause-rows : goal.returns-in_err-count-clause-rows
returns-in_err-count-clause-rows c =
    let p = err_from_is_err_and c.from_residual.result c.from_residual.ensures.1 in
    let asked = rw c.loop-i.invariant.1.sentinel at c.request_rows.ensures.rows in
    rw p.1 (order_full _ _ _ c.requires.0 _ _ _ (c.loop-i.i + 1) _ asked _ (ap (λ r. node_rows_then r c.request_rows.new.lp) c.in_err-count.was))

pub loop-i-preserved : goal.loop-i-preserved
loop-i-preserved c =
    let asked = rw c.loop-i.invariant.1.sentinel at c.request_rows.ensures.rows in
    (asked.done _ (ap (λ r. node_rows_then r c.request_rows.new.lp) c.in_ok-count.was), same_then c.loop-i.invariant.1 c.request_rows.ensures.same)

pub returns-clause-rows : goal.returns-clause-rows
returns-clause-rows c = order_done _ _ _ c.requires.0 _ _ _ _ _ c.loop-i-test.false c.loop-i.invariant.0

-- `build_exclusive_request::request_exclusive_rows` meets its contract: `Memberships.antt` has the turn of the loop.
use mathlib.Core.Path.{refl, ap}
use native.Mathlib.Omega.{arith}
use Rattle.std.proofs.lemmas.Result.{err_from_is_err_and}
use Rattle.build_append.proofs.Kept.{same_then, room_kept}
use Rattle.build_node_table.specs.NodeTable.{node_rows_then}
use Rattle.build_exclusive_request.proofs.Memberships.{walked, membership_under, membership_falls, room, walk_full, walk_next, walk_first}
use Rattle.build_exclusive_request.proofs.request_exclusive_rows.Goals as goal

pub loop-link-init : goal.loop-link-init
loop-link-init c =
    let p = c.requires in (
      walk_first _ _ _ _ _ _ _ _ _ p.3 c.from.ensures (omega (arith, p.1, p.0.sections.few_nodes)) p.5,
      record { words = refl; numbers = refl; words_long = refl; numbers_long = refl; sentinel = refl },
    )

pub request_bounded_rows-requires : goal.request_bounded_rows-requires
request_bounded_rows-requires c =
    let p = c.requires in
    let w = c.loop-link.invariant.0 in
    let same = c.loop-link.invariant.1 in
    let ne = c.loop-link-test.true in
    let under = membership_under _ _ _ _ _ _ _ _ w ne in
    rw same.sentinel
    (p.0, p.1, p.2, omega arith, room_kept same p.4, record { asks = w.asks; held = w.rows }, room _ _ _ _ _ _ _ _ w ne p.6)

pub returns-in_err-held-clause-rows : goal.returns-in_err-held-clause-rows
returns-in_err-held-clause-rows c =
    let p = err_from_is_err_and c.from_residual.result c.from_residual.ensures.1 in
    let w = c.loop-link.invariant.0 in
    let asked = rw c.loop-link.invariant.1.sentinel at c.request_bounded_rows.ensures.rows in
    rw p.1 (walk_full _ _ _ _ _ _ _ _ w c.loop-link-test.true _ _ _ (asked w.asks w.rows) _ (ap (λ r. node_rows_then r c.request_bounded_rows.new.lp) c.in_err-held.was))

pub bounds-memberships-from-in-loop-link : goal.bounds-memberships-from-in-loop-link
bounds-memberships-from-in-loop-link c =
    let under = membership_under _ _ _ _ _ _ _ _ c.loop-link.invariant.0 c.loop-link-test.true in
    omega (arith, c.from-in-loop-link.ensures)

pub loop-link-smaller : goal.loop-link-smaller
loop-link-smaller c = membership_falls _ _ _ _ _ _ _ _ c.loop-link.invariant.0 c.loop-link-test.true _ c.from-in-loop-link.ensures

pub loop-link-preserved : goal.loop-link-preserved
loop-link-preserved c =
    let w = c.loop-link.invariant.0 in
    let asked = rw c.loop-link.invariant.1.sentinel at c.request_bounded_rows.ensures.rows in (
      walk_next _ _ _ _ _ _ _ _ w c.loop-link-test.true _ _ _ (asked w.asks w.rows) _ _
          (ap (λ r. node_rows_then r c.request_bounded_rows.new.lp) c.in_ok-held.was) c.from-in-loop-link.ensures,
      same_then c.loop-link.invariant.1 c.request_bounded_rows.ensures.same,
    )

pub returns-clause-rows : goal.returns-clause-rows
returns-clause-rows c = walked _ _ _ _ _ _ _ _ c.loop-link.invariant.0 c.loop-link-test.false

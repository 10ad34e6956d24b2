-- `build_constants::add_exclusive_rows` meets its contract: `Memberships.antt` has the turn of the loop.
use mathlib.Core.Path.{refl, ◌∙◌, ap}
use native.Mathlib.Omega.{arith}
use Rattle.build_append.specs.LpBuilder.{filled_then}
use Rattle.std.proofs.lemmas.Result.{err_from_is_err_and}
use Rattle.build_append.proofs.AddingRows.{adding_holding}
use Rattle.build_constants.proofs.Memberships.{walk_first, walked, membership_under, membership_falls, walk_over, walk_next}
use Rattle.build_constants.proofs.add_exclusive_rows.Goals as goal

pub bounds-memberships-from : goal.bounds-memberships-from
bounds-memberships-from c = omega (arith, c.from.ensures, c.requires.1, c.requires.0.sections.few_nodes)

pub loop-link-init : goal.loop-link-init
loop-link-init c =
    (walk_first _ _ _ _ _ _ _ _ _ _ _ c.requires.3 c.from.ensures (omega (arith, c.requires.1, c.requires.0.sections.few_nodes)) c.from-link.ensures, record { words = refl; numbers = refl; words_long = refl; numbers_long = refl; sentinel = refl })

pub overflow_sub-membership : goal.overflow_sub-membership
overflow_sub-membership c = omega (arith, c.loop-link-test.true)

pub add_bounded_rows-requires : goal.add_bounded_rows-requires
add_bounded_rows-requires c =
    let w = c.loop-link.invariant in
    let u = membership_under _ _ _ _ _ _ _ _ _ _ _ _ _ w.0 c.loop-link-test.true in (
      c.requires.0,
      c.requires.1,
      c.requires.2,
      omega arith,
      record {
        words_room = omega (arith, w.1.words_long, c.requires.4.words_room);
        numbers_room = omega
            (arith, w.1.numbers_long, c.requires.4.numbers_room);
      },
      adding_holding _ _ _ _ _ _ (w.0.adding c.requires.5.rows c.requires.5.held),
    )

pub returns-in_err-add_bounded_rows-clause-rows : goal.returns-in_err-add_bounded_rows-clause-rows
returns-in_err-add_bounded_rows-clause-rows c =
    let p = err_from_is_err_and c.from_residual.result c.from_residual.ensures.1 in
    rw p.1 (walk_over _ _ _ _ _ _ _ _ _ _ _ _ _ c.loop-link.invariant.0 c.loop-link-test.true _ _ _ (rw c.loop-link.invariant.1.sentinel at c.add_bounded_rows.ensures.rows) _ (ap (λ r. filled_then r c.add_bounded_rows.new.lp.filled) c.in_err-add_bounded_rows.was))

pub offset_bounds-memberships-membership : goal.offset_bounds-memberships-membership
offset_bounds-memberships-membership c = omega (arith, membership_under _ _ _ _ _ _ _ _ _ _ _ _ _ c.loop-link.invariant.0 c.loop-link-test.true)

pub bounds-memberships-membership : goal.bounds-memberships-membership
bounds-memberships-membership c = membership_under _ _ _ _ _ _ _ _ _ _ _ _ _ c.loop-link.invariant.0 c.loop-link-test.true

pub loop-link-smaller : goal.loop-link-smaller
loop-link-smaller c =
    membership_falls _ _ _ _ _ _ _ _ _ _ _ _ _ c.loop-link.invariant.0 c.loop-link-test.true _ c.from-link-in-loop-link.ensures

pub loop-link-preserved : goal.loop-link-preserved
loop-link-preserved c = (
  walk_next _ _ _ _ _ _ _ _ _ _ _ _ _ c.loop-link.invariant.0 c.loop-link-test.true _ _ _
      (rw c.loop-link.invariant.1.sentinel at c.add_bounded_rows.ensures.rows) _ _ (ap (λ r. filled_then r c.add_bounded_rows.new.lp.filled) c.in_ok-add_bounded_rows.was) c.from-link-in-loop-link.ensures,
  record {
    words = c.add_bounded_rows.ensures.same.words ∙ c.loop-link.invariant.1.words;
    numbers = c.add_bounded_rows.ensures.same.numbers ∙ c.loop-link.invariant.1.numbers;
    words_long = c.add_bounded_rows.ensures.same.words_long ∙ c.loop-link.invariant.1.words_long;
    numbers_long = c.add_bounded_rows.ensures.same.numbers_long ∙ c.loop-link.invariant.1.numbers_long;
    sentinel = c.add_bounded_rows.ensures.same.sentinel ∙ c.loop-link.invariant.1.sentinel;
  },
)

pub returns-clause-rows : goal.returns-clause-rows
returns-clause-rows c = walked _ _ _ _ _ _ _ _ _ _ _ _ _ c.loop-link.invariant.0 c.loop-link-test.false

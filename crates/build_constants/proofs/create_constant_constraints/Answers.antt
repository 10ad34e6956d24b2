-- `build_constants::create_constant_constraints` meets its contract.
use mathlib.Core.Path.{refl, ◌∙◌, ap}
use Prim.Native.Nat.{◌≤◌}
use native.Mathlib.Omega.{arith}
use lib.ListN.{length}
use Rattle.build_append.specs.LpBuilder.{filled_then}
use Rattle.std.proofs.lemmas.Result.{err_from_is_err_and}
use Rattle.layout.specs.Layout.{shape_made_at, words_length}
use Rattle.laws.proofs.Tails.{tail_kept, tail_length}
use Rattle.pywr.specs.FixedRows.{constant_rows_from}
use Rattle.pywr.specs.Programme.{by_node}
use Rattle.pywr.specs.Makers.{constant_makers}
use Rattle.pywr.proofs.MakerLaws.{constants_in_turn}
use Rattle.build_makers.proofs.Making.{making_first, making_holding}
use Rattle.build_makers.proofs.NodeMakers.{node_more, node_over, node_rise, nodes_done_lem}
use borrow.Author.Rules.{rules}
use Rattle.build_constants.proofs.create_constant_constraints.Goals as goal

pub loop-i-init : goal.loop-i-init
loop-i-init c = (search rules, (λ rows makers h. making_first rows _ makers _ _ _ _ h), record { words = refl; numbers = refl; words_long = refl; numbers_long = refl; sentinel = refl })

pub overflow_cast-index : goal.overflow_cast-index
overflow_cast-index c = omega (arith, c.loop-i-test.true, c.requires.0.sections.few_nodes)

pub add_constant_rows-requires : goal.add_constant_rows-requires
add_constant_rows-requires c =
    let l = c.loop-i.invariant in (
      c.requires.0,
      c.loop-i-test.true,
      c.requires.1,
      c.requires.2,
      record {
        words_room = omega (arith, l.2.words_long, c.requires.3.words_room);
        numbers_room = omega
            (arith, l.2.numbers_long, c.requires.3.numbers_room);
      },
      making_holding _ _ _ _ _ _ _ _ (l.1 c.requires.4.rows c.requires.4.makers c.requires.4.held),
    )

pub returns-in_err-add_constant_rows-clause-rows : goal.returns-in_err-add_constant_rows-clause-rows
unfolding constant_makers
returns-in_err-add_constant_rows-clause-rows c =
    let p = err_from_is_err_and c.from_residual.result c.from_residual.ensures.1 in
    rw p.1 (λ rows makers h. node_over by_node (constant_rows_from _ _) (constants_in_turn _ _) _ _ _ _ _ _ _ _ _ _ _ _ (c.loop-i.invariant.1 rows makers h)
    c.loop-i-test.true _ refl _ _ _ (rw c.loop-i.invariant.2.sentinel at c.add_constant_rows.ensures.rows) _ (ap (λ r. filled_then r c.add_constant_rows.new.lp.filled) c.in_err-add_constant_rows.was))

pub put_makers-requires : goal.put_makers-requires
unfolding constant_makers
put_makers-requires c =
    -- the words after the rows are long enough
    let room : words_length ≤ length c.add_constant_rows.new.lp.words.now = omega (arith, c.add_constant_rows.ensures.same.words_long, c.loop-i.invariant.2.words_long, c.requires.3.words_room) in
    let h = c.requires.4 in
    let rise = node_rise by_node (constant_rows_from _ _) (constants_in_turn _ _) _ _ _ _ _ _ _ _ _ _ _ _ (c.loop-i.invariant.1 h.rows h.makers h.held)
    c.loop-i-test.true _ refl _ _ _ (rw c.loop-i.invariant.2.sentinel at c.add_constant_rows.ensures.rows) _ (ap (λ r. filled_then r c.add_constant_rows.new.lp.filled) c.in_ok-add_constant_rows.was) in
    (rise.0, rise.1, omega (arith, room, tail_length shape_made_at c.add_constant_rows.new.lp.words.now))

pub slice_bounds-shape-start : goal.slice_bounds-shape-start
slice_bounds-shape-start c =
    -- the words after the rows are long enough
    let room : words_length ≤ length c.add_constant_rows.new.lp.words.now = omega (arith, c.add_constant_rows.ensures.same.words_long, c.loop-i.invariant.2.words_long, c.requires.3.words_room) in
    omega (arith, room)

pub loop-i-preserved : goal.loop-i-preserved
unfolding constant_makers
loop-i-preserved c =
    -- the words after the rows are long enough
    let room : words_length ≤ length c.add_constant_rows.new.lp.words.now = omega (arith, c.add_constant_rows.ensures.same.words_long, c.loop-i.invariant.2.words_long, c.requires.3.words_room) in
    let words₁ = c.add_constant_rows.new.lp.words.now in (
      omega (arith, c.loop-i-test.true),
      (λ rows makers h. node_more by_node (constant_rows_from _ _) (constants_in_turn _ _) _ _ _ _ _ _ _ _ _ _ _ _ (c.loop-i.invariant.1 rows makers h)
          c.loop-i-test.true _ refl _ _ _ (rw c.loop-i.invariant.2.sentinel at c.add_constant_rows.ensures.rows) _ (ap (λ r. filled_then r c.add_constant_rows.new.lp.filled) c.in_ok-add_constant_rows.was)
          _ room c.put_makers.ensures),
      record {
        words = c.add_constant_rows.ensures.same.words ∙ c.loop-i.invariant.2.words;
        numbers = c.add_constant_rows.ensures.same.numbers ∙ c.loop-i.invariant.2.numbers;
        words_long = tail_kept shape_made_at words₁ c.put_makers.new.shape c.put_makers.auto.shape ∙ c.add_constant_rows.ensures.same.words_long ∙ c.loop-i.invariant.2.words_long;
        numbers_long = c.add_constant_rows.ensures.same.numbers_long ∙ c.loop-i.invariant.2.numbers_long;
        sentinel = c.add_constant_rows.ensures.same.sentinel ∙ c.loop-i.invariant.2.sentinel;
      },
    )

pub returns-clause-rows : goal.returns-clause-rows
unfolding constant_makers
returns-clause-rows c =
    λ rows makers h. nodes_done_lem by_node (constant_rows_from _ _) (constants_in_turn _ _) _ _ _ _ _ _ _ _ _ _ _ _ (c.loop-i.invariant.1 rows makers h) c.loop-i-test.false

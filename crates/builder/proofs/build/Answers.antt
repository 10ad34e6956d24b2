-- `builder::build` meets its contract.
use mathlib.Core.Path.{◌≡◌, refl, sym, ◌∙◌}
use mathlib.Core.Bool.{true}
use native.Mathlib.Omega.{arith}
use Rattle.pywr.specs.Store.{Store}
use Rattle.pywr.specs.Calls.{build_room}
use Rattle.store.proofs.Passed.{lengths}
use Rattle.builder.proofs.Finish.{room, short, refuse, finish}
use Rattle.builder.proofs.Starts.{row_starts_lem}
use Rattle.builder.proofs.build.Goals as goal
use Rattle.builder.proofs.build.Goals.{Else-not-build_has_room}

-- the store that was lent
abbrev lent : Else-not-build_has_room → Store
lent c =
    let a = c.args in
    record {
      col_lower = a.col_lower.now;
      col_upper = a.col_upper.now;
      col_obj_coef = a.col_obj_coef.now;
      row_lower = a.row_lower.now;
      row_upper = a.row_upper.now;
      elements = a.elements.now;
      columns = a.columns.now;
      row_starts = a.row_starts.now;
      shape = a.shape.now;
    }

-- what every path behind the test of the lengths knows: the store that was lent has room
passed : (c : Else-not-build_has_room) → build_room (lent c) c.args.words.now c.args.numbers.now ≡ true
passed c = sym (c.build_has_room.ensures (lent c) _ _ (lengths (lent c)) refl refl) ∙ c.if-not-build_has_room.false

pub returns-then-not-build_has_room : goal.returns-then-not-build_has_room
returns-then-not-build_has_room c =
    rw c.at.ensures (short c.args.sentinel c.args.file.now _ c.args.words.now c.args.numbers.now
    (sym (c.build_has_room.ensures _ _ _ (lengths _) refl refl) ∙ c.if-not-build_has_room.true))

pub assemble-requires : goal.assemble-requires
assemble-requires c =
    let roomy = room _ _ _ (passed (goal.at.assemble-requires c).Else-not-build_has_room) in
    roomy.work

pub write_columns-requires : goal.write_columns-requires
write_columns-requires c =
    let roomy = room _ _ _ (passed (goal.at.write_columns-requires c).Else-not-build_has_room) in
    let h = roomy.store in
    let few = (c.assemble.ensures.made _ c.in-Ok.is).laid.few in
    (few, h.col_lower, h.col_upper, h.col_obj_coef)

pub write_rows-requires : goal.write_rows-requires
write_rows-requires c =
    let roomy = room _ _ _ (passed (goal.at.write_rows-requires c).Else-not-build_has_room) in
    let few = (c.assemble.ensures.made _ c.in-Ok.is).laid.few in
    (few, omega (arith, c.assemble.auto.numbers, roomy.work.numbers_room), roomy.store.row_lower, roomy.store.row_upper)

pub write_matrix-requires : goal.write_matrix-requires
write_matrix-requires c =
    let roomy = room _ _ _ (passed (goal.at.write_matrix-requires c).Else-not-build_has_room) in
    let laid = (c.assemble.ensures.made _ c.in-Ok.is).laid in (
      laid.few,
      row_starts_lem _ _ _ _ _ laid,
      record {
        words_room = omega (arith, c.assemble.auto.words, roomy.work.words_room);
        numbers_room = omega
            (arith, c.assemble.auto.numbers, roomy.work.numbers_room);
      },
      roomy.store.elements,
      roomy.store.columns,
      roomy.store.row_starts,
    )

pub write_shape-requires : goal.write_shape-requires
write_shape-requires c =
    let roomy = room _ _ _ (passed (goal.at.write_shape-requires c).Else-not-build_has_room) in
    let few = (c.assemble.ensures.made _ c.in-Ok.is).laid.few in
    (few, omega (arith, c.assemble.auto.words, roomy.work.words_room), roomy.store.shape)

pub returns-in-Ok : goal.returns-in-Ok
returns-in-Ok c =
    let enough-room = passed (goal.at.returns-in-Ok c).Else-not-build_has_room in
    let cleared = c.clear.ensures in
    finish c.args.sentinel c.args.file.now _ c.args.words.now c.args.numbers.now enough-room _ _ _ c.assemble.ensures
    _ cleared.0 c.assemble.auto.words _ cleared.1 c.assemble.auto.numbers
    c.in-Ok.is c.write_columns.ensures c.write_rows.ensures c.write_matrix.ensures c.write_shape.ensures

pub returns-in-Err : goal.returns-in-Err
returns-in-Err c =
    let enough-room = passed (goal.at.returns-in-Err c).Else-not-build_has_room in
    refuse c.args.sentinel c.args.file.now _ c.args.words.now c.args.numbers.now enough-room _ _ _ c.assemble.ensures
    _ c.clear-in-Err.ensures.0 c.assemble.auto.words _ c.clear-in-Err.ensures.1 c.assemble.auto.numbers _ c.in-Err.is

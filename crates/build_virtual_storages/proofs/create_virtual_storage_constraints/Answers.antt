-- `build_virtual_storages::create_virtual_storage_constraints` meets its contract. The invariant: the rows of the first i virtual storages are held and placed, and the next record stands at `at`.
use mathlib.Core.Path.{refl, ap, ◌∙◌}
use Prim.Native.Nat.{◌+◌, ◌*◌}
use native.Mathlib.Omega.{arith}
use Rattle.std.proofs.lemmas.Result.{err_from_is_err_and}
use Rattle.layout.specs.Layout.{shape_made_at, virtual_storages_at}
use Rattle.laws.proofs.Tails.{tail_length, tail_kept}
use Rattle.pywr.proofs.StoreLaws.{virtual_storage_wide}
use Rattle.fields.specs.Records.{records_end}
use Rattle.build_join.specs.VariableRow.{placed_then}
use Rattle.build_join.proofs.JoinedLaws.{asked_none, asked_more, asked_full, asked_all, place_fits}
use Rattle.build_virtual_storages.proofs.VirtualStorageLaws.{asked_count, asked_under, asked_row, table_none, table_more, entry_same, virtual_storage_check, fields_within, virtual_storage_next}
use Rattle.build_virtual_storages.proofs.create_virtual_storage_constraints.Goals as goal

pub loop-i-init : goal.loop-i-init
unfolding records_end
loop-i-init c =
    ((λ rows held. asked_none _ _ _ _ _ rows _ _ _ (table_none _ c.args.tables.now.counts c.requires.0.sections) held), refl, omega arith, record { words = refl; numbers = refl; words_long = refl; numbers_long = refl; sentinel = refl })

pub add_virtual_storage_row-requires : goal.add_virtual_storage_row-requires
add_virtual_storage_row-requires c =
    let l = c.loop-i in
    let lt = c.loop-i-test.true in
    let a = l.invariant.0 c.requires.2.rows c.requires.2.held in (
      c.requires.0,
      virtual_storage_check _ c.args.tables.now.counts c.requires.0.sections _ _ lt l.invariant.1,
      record { words_room = omega (arith, l.invariant.3.words_long, c.requires.1.words_room); numbers_room = omega (arith, l.invariant.3.numbers_long, c.requires.1.numbers_room) },
      record { rows = _; held = a.held },
    )

pub returns-in_err-row-clause-rows : goal.returns-in_err-row-clause-rows
returns-in_err-row-clause-rows c =
    let p = err_from_is_err_and c.from_residual.result c.from_residual.ensures.1 in
    rw p.1 (let l = c.loop-i in
    let lt = c.loop-i-test.true in
    λ rows held.
    let a = l.invariant.0 rows held in
    asked_full _ _ _ _ _ _ _ (omega arith) _ _ _ _ _ _ _ _ (asked_under _ c.args.tables.now.counts c.requires.0.sections _ _ lt l.invariant.1)
    (asked_row _ c.args.tables.now.counts c.requires.0.sections _ _ lt l.invariant.1) a ((rw c.loop-i.invariant.3.sentinel at c.add_virtual_storage_row.ensures.row) _ a.held) _ _ (ap (λ r. placed_then r c.add_virtual_storage_row.new.lp.filled) c.in_err-row.was))

pub active_period-period-requires : goal.active_period-period-requires
active_period-period-requires c =
    let l = c.loop-i in
    let lt = c.loop-i-test.true in
    fields_within _ _ _ (virtual_storage_check _ c.args.tables.now.counts c.requires.0.sections _ _ lt l.invariant.1)

pub slice_bounds-put_virtual_storage-count : goal.slice_bounds-put_virtual_storage-count
slice_bounds-put_virtual_storage-count c = omega (arith, c.add_virtual_storage_row.ensures.same.words_long, c.loop-i.invariant.3.words_long, c.requires.1.words_room)

pub overflow_cast-row : goal.overflow_cast-row
overflow_cast-row c =
    let l = c.loop-i in
    let lt = c.loop-i-test.true in
    let a = l.invariant.0 c.requires.2.rows c.requires.2.held in
    let under = place_fits _ _ _ _ _ _ _ (omega arith) _ _ _ _ _ _ _ _ (asked_under _ c.args.tables.now.counts c.requires.0.sections _ _ lt l.invariant.1)
    (asked_row _ c.args.tables.now.counts c.requires.0.sections _ _ lt l.invariant.1) a ((rw c.loop-i.invariant.3.sentinel at c.add_virtual_storage_row.ensures.row) _ a.held) _ _ (ap (λ r. placed_then r c.add_virtual_storage_row.new.lp.filled) c.in_ok-row.was) in
    omega arith

pub put_virtual_storage-requires : goal.put_virtual_storage-requires
put_virtual_storage-requires c =
    let lt = c.loop-i-test.true in
    omega (
      arith,
      tail_length shape_made_at c.add_virtual_storage_row.new.lp.words.now,
      c.add_virtual_storage_row.ensures.same.words_long,
      c.loop-i.invariant.3.words_long,
      c.requires.1.words_room,
      c.requires.0.sections.few_virtual_storages_lem,
      lt,
    )

pub virtual_storage_end-at-requires : goal.virtual_storage_end-at-requires
virtual_storage_end-at-requires c =
    let l = c.loop-i in
    let lt = c.loop-i-test.true in
    fields_within _ _ _ (virtual_storage_check _ c.args.tables.now.counts c.requires.0.sections _ _ lt l.invariant.1)

pub loop-i-preserved : goal.loop-i-preserved
loop-i-preserved c =
    let lt = c.loop-i-test.true in (
      (λ rows held.
          let a = c.loop-i.invariant.0 rows held in
          asked_more _ _ _ _ _ _ _ (omega arith) _ _ _ _ _ _ _ _ (asked_under _ c.args.tables.now.counts c.requires.0.sections _ _ lt c.loop-i.invariant.1)
          (asked_row _ c.args.tables.now.counts c.requires.0.sections _ _ lt c.loop-i.invariant.1) a ((rw c.loop-i.invariant.3.sentinel at c.add_virtual_storage_row.ensures.row) _ a.held) _ _ (ap (λ r. placed_then r c.add_virtual_storage_row.new.lp.filled) c.in_ok-row.was)
          (virtual_storages_at + 6 * c.loop-i.i) _ _ (omega arith) (virtual_storage_wide _)
          (omega (arith, c.add_virtual_storage_row.ensures.same.words_long, c.loop-i.invariant.3.words_long, c.requires.1.words_room, c.requires.0.sections.few_virtual_storages_lem, lt))
          (table_more _ c.args.tables.now.counts c.requires.0.sections _ _ lt c.loop-i.invariant.1 _)
          (entry_same _ _ _ _ _ _ _ c.put_virtual_storage.ensures refl c.active_period-period.ensures)),
      virtual_storage_next _ c.args.tables.now.counts c.requires.0.sections _ _ lt c.loop-i.invariant.1 _ c.virtual_storage_end-at.ensures,
      omega arith,
      record {
        words = c.add_virtual_storage_row.ensures.same.words ∙ c.loop-i.invariant.3.words;
        numbers = c.add_virtual_storage_row.ensures.same.numbers ∙ c.loop-i.invariant.3.numbers;
        words_long = tail_kept shape_made_at c.add_virtual_storage_row.new.lp.words.now c.put_virtual_storage.new.shape c.put_virtual_storage.auto.shape
            ∙ c.add_virtual_storage_row.ensures.same.words_long ∙ c.loop-i.invariant.3.words_long;
        numbers_long = c.add_virtual_storage_row.ensures.same.numbers_long ∙ c.loop-i.invariant.3.numbers_long;
        sentinel = c.add_virtual_storage_row.ensures.same.sentinel ∙ c.loop-i.invariant.3.sentinel;
      },
    )

pub returns-clause-rows : goal.returns-clause-rows
returns-clause-rows c =
    let l = c.loop-i in
    λ rows held. asked_all _ _ _ _ _ _ _ _ _ _ _ _ (omega (arith, asked_count _ c.args.tables.now.counts c.requires.0.sections, c.loop-i-test.false)) (omega (arith, l.invariant.2, c.loop-i-test.false)) (l.invariant.0 rows held)

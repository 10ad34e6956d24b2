-- `built_solver::step` meets its contract.
use mathlib.Core.Path.{◌≡◌, refl, sym, ◌∙◌}
use mathlib.Core.Bool.{true}
use native.Mathlib.Omega.{arith}
use Rattle.pywr.specs.Store.{Store}
use Rattle.pywr.specs.Calls.{step_room}
use Rattle.store.proofs.Passed.{lengths, shaped}
use Rattle.step_rows.specs.ConstraintBounds as rows
use Rattle.step_checks.proofs.JudgeLaws.{room_store, room_work}
use Rattle.built_solver.proofs.FinishLaws.{store_of, edges_fit, order_fits, short, was_ok, refuse, finish}
use Rattle.runs.proofs.Copied.{zeros}
use Rattle.built_solver.proofs.step.Goals.{Else-not-has_room, then-is_ok, else-is_ok}
use borrow.Author.Rules.{rules}
use Rattle.built_solver.proofs.step.Goals as goal

-- the store that was lent, and the place where it was
abbrev lent : Else-not-has_room → Store
lent c =
    let a = c.args in
    store_of a.col_lower.now a.col_upper.now a.col_obj_coef.now a.row_lower.now a.row_upper.now a.elements.now a.columns.now a.row_starts.now a.shape.now

enough-room : (c : Else-not-has_room) → step_room (lent c) c.args.work.now ≡ true
enough-room c =
    let call = c.has_room in
    sym (call.ensures (lent c) c.args.work.now (lengths (lent c)) refl) ∙ c.if-not-has_room.false

pub returns-then-not-has_room : goal.returns-then-not-has_room
returns-then-not-has_room c =
    let call = c.has_room in
    rw c.at.ensures (short c.args.file.now _ c.args.work.now (sym (call.ensures _ c.args.work.now (lengths _) refl) ∙ c.if-not-has_room.true))

pub judge-judged-requires : goal.judge-judged-requires
judge-judged-requires c =
    let ok = enough-room (goal.at.judge-judged-requires c).Else-not-has_room in
    let h = room_store (lent (goal.at.judge-judged-requires c).Else-not-has_room) c.args.work.now ok in (h.columns, h.row_starts, h.shape, room_work (lent (goal.at.judge-judged-requires c).Else-not-has_room) c.args.work.now ok)

pub update-requires : goal.update-requires
update-requires c =
    let a = c.args in
    let ok = enough-room (goal.at.update-requires c).Else-not-has_room in
    let h = room_store (lent (goal.at.update-requires c).Else-not-has_room) a.work.now ok in
    let yes = was_ok _ (sym c.is_ok.ensures.value ∙ c.if-is_ok.true) in
    let ready = (c.judge-judged.ensures (lent (goal.at.update-requires c).Else-not-has_room) refl refl refl).ready yes in
    let n = shaped (lent (goal.at.update-requires c).Else-not-has_room) ready.shaped in
    let r = rows.store_of a.row_lower.now a.row_upper.now a.elements.now a.columns.now a.row_starts.now a.shape.now in (
      (
        h.shape,
        h.col_obj_coef,
        n.counts.nodes,
        n.counts.edges,
        n.counts.edge_columns_lem,
        n.counts.sets,
        (λ t e. edges_fit t (lent (goal.at.update-requires c).Else-not-has_room) e n.edges),
        (λ t e. order_fits t (lent (goal.at.update-requires c).Else-not-has_room) e n.flow_order_lem),
        omega (arith, ready.long),
      ),
      record {
        row_lower_long = h.row_lower;
        row_upper_long = h.row_upper;
        elements_long = h.elements;
        columns_long = h.columns;
        row_starts_long = h.row_starts;
        shape_long = h.shape;
        work_long = omega (arith, c.judge-judged.auto.work, room_work (lent (goal.at.update-requires c).Else-not-has_room) a.work.now ok);
        well_shaped_lem = ((c.judge-judged.ensures r refl refl refl).ready yes).shaped;
      },
    )

pub returns : goal.returns
returns c =
    let a = c.args in
    let before = (goal.at.returns c).Else-not-has_room in
    let j = c.judge-judged.ensures (lent before) refl refl refl in
    let zeroed = c.fill_whole.ensures ∙ zeros _ in
    elim c.if-is_ok.branch [
      | then-is_ok w ↦
          (let yes = sym c.is_ok.ensures.value ∙ w.if-is_ok.true in
          let lower : c.if-is_ok.row_lower ≡ w.update.new.store.row_lower.now = search rules in
          let upper : c.if-is_ok.row_upper ≡ w.update.new.store.row_upper.now = search rules in
          let factors : c.if-is_ok.elements ≡ w.update.new.store.elements.now = search rules in
          rw (w.col_obj_coef-is, lower, upper, factors)
          (finish a.file.now (lent before) a.work.now (enough-room before) c.judge-judged.result _ j _ zeroed c.judge-judged.auto.work yes
          (w.update.ensures.written.0 (lent before) _ _ refl)
          (w.update.ensures.written.1 (lent before) _ (record { row_lower_lem = refl; row_upper_lem = refl; elements_are = refl; columns_are = refl; row_starts_lem = refl; shape_is = refl })
          (j.ready (was_ok _ yes)).held)))
      | else-is_ok w ↦ rw (w.col_obj_coef-is, w.row_lower-is, w.row_upper-is, w.elements-is)
          (refuse a.file.now (lent before) a.work.now (enough-room before) c.judge-judged.result _ j _ zeroed c.judge-judged.auto.work
          (sym c.is_ok.ensures.value ∙ w.if-is_ok.false))
    ]

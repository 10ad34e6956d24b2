-- `row_answer` meets its contract.
use mathlib.Core.Path.{◌≡◌, refl, sym, ◌∙◌}
use mathlib.Core.Bool.{true}
use Prim.Native.Nat.{◌+◌, ◌<◌}
use native.Mathlib.Omega.{arith}
use lib.ListN.{length}
use Rattle.pywr.specs.Store.{Store, store_has_room}
use Rattle.pywr.specs.Misshapen.{well_shaped}
use Rattle.store.proofs.Passed.{lengths, roomy, shaped}
use Rattle.store.proofs.Answers.{short, misshapen, no_row, row_part_lem}
use borrow.Author.Rules.{rules}
use Rattle.store.proofs.row_answer.Goals.{Else-not-has_room, Else-not-well_shaped, Else-row_count-row}
use Rattle.store.proofs.row_answer.Goals as goal

abbrev at_room : Else-not-has_room → Store
at_room c =
    record {
      col_lower = c.args.col_lower.now;
      col_upper = c.args.col_upper.now;
      col_obj_coef = c.args.col_obj_coef.now;
      row_lower = c.args.row_lower.now;
      row_upper = c.args.row_upper.now;
      elements = c.args.elements.now;
      columns = c.args.columns.now;
      row_starts = c.args.row_starts.now;
      shape = c.args.shape.now;
    }

-- the store has room, and it is well shaped
room : (c : Else-not-has_room) → store_has_room (at_room c) ≡ true
room c = sym (c.has_room.ensures (at_room c) (lengths (at_room c))) ∙ c.if-not-has_room.false

shape_fits : (c : Else-not-well_shaped) (s : Store) → s.columns ≡ c.args.columns.now → s.row_starts ≡ c.args.row_starts.now → s.shape ≡ c.args.shape.now → well_shaped s ≡ true
shape_fits c s p q r = sym (c.well_shaped.ensures s p q r) ∙ c.if-not-well_shaped.false

-- the row's two starts are there
starts_there : (c : Else-row_count-row) → (c.args.row + 1 < length c.args.row_starts.now)
starts_there c =
    let s : Store =
    record {
      col_lower = c.args.col_lower.now;
      col_upper = c.args.col_upper.now;
      col_obj_coef = c.args.col_obj_coef.now;
      row_lower = c.args.row_lower.now;
      row_upper = c.args.row_upper.now;
      elements = c.args.elements.now;
      columns = c.args.columns.now;
      row_starts = c.args.row_starts.now;
      shape = c.args.shape.now;
    }
    in
    omega (arith, c.row_count.ensures, c.if-row_count-row.false, (shaped s (sym (c.well_shaped.ensures s refl refl refl) ∙ c.if-not-well_shaped.false)).counts.rows, (roomy s (sym (c.has_room.ensures s (lengths s)) ∙ c.if-not-has_room.false)).row_starts)

pub returns-then-not-has_room : goal.returns-then-not-has_room
returns-then-not-has_room c =
    rw c.at.ensures (short (sym (c.has_room.ensures _ (lengths _)) ∙ c.if-not-has_room.true))

pub well_shaped-requires : goal.well_shaped-requires
well_shaped-requires c =
    let h = roomy (at_room (goal.at.well_shaped-requires c).Else-not-has_room) (room (goal.at.well_shaped-requires c).Else-not-has_room) in (h.columns, h.row_starts, h.shape)

pub returns-then-not-well_shaped : goal.returns-then-not-well_shaped
returns-then-not-well_shaped c =
    rw c.at-then-not-well_shaped.ensures
    (misshapen (room (goal.at.returns-then-not-well_shaped c).Else-not-has_room) (sym (c.well_shaped.ensures _ refl refl refl) ∙ c.if-not-well_shaped.true))

pub row_count-requires : goal.row_count-requires
row_count-requires c = (roomy _ (room (goal.at.row_count-requires c).Else-not-has_room)).shape

pub returns-then-row_count-row : goal.returns-then-row_count-row
returns-then-row_count-row c =
    rw c.at-then-row_count-row.ensures
    (no_row (room (goal.at.returns-then-row_count-row c).Else-not-has_room) (shape_fits (goal.at.returns-then-row_count-row c).Else-not-well_shaped _ refl refl refl) (omega (arith, c.row_count.ensures, c.if-row_count-row.true)))

pub offset_bounds-row_starts-row : goal.offset_bounds-row_starts-row
offset_bounds-row_starts-row c = let h = starts_there (goal.at.offset_bounds-row_starts-row c).Else-row_count-row in search rules

pub bounds-row_starts-row : goal.bounds-row_starts-row
bounds-row_starts-row c = let h = starts_there (goal.at.bounds-row_starts-row c).Else-row_count-row in search rules

pub overflow_add-result : goal.overflow_add-result
overflow_add-result c = let h = starts_there (goal.at.overflow_add-result c).Else-row_count-row in search rules

pub offset_bounds-row_starts-row-2 : goal.offset_bounds-row_starts-row-2
offset_bounds-row_starts-row-2 c = let h = starts_there (goal.at.offset_bounds-row_starts-row-2 c).Else-row_count-row in search rules

pub bounds-row_starts-row-2 : goal.bounds-row_starts-row-2
bounds-row_starts-row-2 c = let h = starts_there (goal.at.bounds-row_starts-row-2 c).Else-row_count-row in search rules

pub returns : goal.returns
returns c =
    row_part_lem (room (goal.at.returns c).Else-not-has_room) (shape_fits (goal.at.returns c).Else-not-well_shaped _ refl refl refl) (omega (arith, c.row_count.ensures, c.if-row_count-row.false))

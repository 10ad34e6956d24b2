-- A varying row asked for, over the rows that the work runs of a build hold. Assumes nothing.
use Rattle.std.specs.Prelude.{◌≡◌, ℕ, List, [], map, false, drop, Float, Result, Ok, Err}
use Rattle.layout.specs.Layout.{shape_made_at}
use Rattle.pywr.specs.declared.Sentinel.{Sentinel}
use Rattle.pywr.specs.Rows.{Element}
use Rattle.pywr.specs.VariableRows.{add_variable_row, position}
use Rattle.pywr.specs.VaryingRows.{fresh_row}
use Rattle.build_append.specs.declared.Filled.{Filled}
use Rattle.build_append.specs.LpBuilder.{RowsHeld, within_ceilings}
use Rattle.build_exclusive_sets.specs.declared.ProgrammeFull.{ProgrammeFull}

-- a varying row was asked for, over the distinct rows so far
pub record AfterVariableRow (s : Sentinel) (rows : List (List Element)) (row : List Element) (words : List ℕ) (r : Result (ℕ × Filled) ProgrammeFull) (words' : List ℕ) (numbers' : List Float) : Type 0 where
  pub place : (k : ℕ) (f : Filled) → r ≡ Ok (k, f) → k ≡ position row rows
  pub held : (k : ℕ) (f : Filled) → r ≡ Ok (k, f) → RowsHeld (map (fresh_row s) (add_variable_row row (record { rows = rows; places = [] })).rows) words' numbers' f
  pub full : (full : ProgrammeFull) → r ≡ Err full → within_ceilings (map (fresh_row s) (add_variable_row row (record { rows = rows; places = [] })).rows) ≡ false
  pub kept : drop shape_made_at words' ≡ drop shape_made_at words

-- the row's number, and what the builder holds then
abbrev pub placed_then : Result ℕ ProgrammeFull → Filled → Result (ℕ × Filled) ProgrammeFull
placed_then (Ok k) f = Ok (k, f)
placed_then (Err full) f = Err full

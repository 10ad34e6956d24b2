-- Varying rows asked for in turn, equal ones joined: a row gathered, and the rows of a whole list with the table of their places. Assumes nothing.
use Rattle.std.specs.Prelude.{◌≡◌, ℕ, ◌-◌, List, [], map, false, Float, Result, Ok, Err}
use Rattle.layout.specs.Layout.{shape_made_at}
use Rattle.laws.specs.Part.{part}
use Rattle.pywr.specs.declared.Sentinel.{Sentinel}
use Rattle.pywr.specs.Rows.{Element}
use Rattle.pywr.specs.VariableRows.{Joined, add_variable_rows}
use Rattle.pywr.specs.VaryingRows.{fresh_row}
use Rattle.build_append.specs.declared.Filled.{Filled}
use Rattle.build_exclusive_sets.specs.declared.ProgrammeFull.{ProgrammeFull}
use Rattle.build_append.specs.LpBuilder.{RowsHeld, within_ceilings}

-- the work runs hold some varying rows
pub record HoldingVarying (s : Sentinel) (words : List ℕ) (numbers : List Float) (f : Filled) : Type 0 where
  pub rows : List (List Element)
  pub held : RowsHeld (map (fresh_row s) rows) words numbers f

-- the distinct rows and the places of those asked for, over the distinct rows so far
abbrev pub joined : List (List Element) → List (List Element) → Joined
joined asked rows = add_variable_rows asked (record { rows = rows; places = [] })

-- the rows asked for are held, and the words from `at` on hold the table of their places, or the rows are over the ceilings; the shape run's words up to `at` stay
pub record AfterVariableRows (s : Sentinel) (rows asked : List (List Element)) (at size : ℕ) (table : List ℕ → List ℕ)
    (words : List ℕ) (r : Result Filled ProgrammeFull) (words' : List ℕ) (numbers' : List Float) : Type 0 where
  pub held : (f : Filled) → r ≡ Ok f → RowsHeld (map (fresh_row s) (joined asked rows).rows) words' numbers' f
  pub placed : (f : Filled) → r ≡ Ok f → part at size words' ≡ table (joined asked rows).places
  pub full : (full : ProgrammeFull) → r ≡ Err full → within_ceilings (map (fresh_row s) (joined asked rows).rows) ≡ false
  pub kept : part shape_made_at (at - shape_made_at) words' ≡ part shape_made_at (at - shape_made_at) words

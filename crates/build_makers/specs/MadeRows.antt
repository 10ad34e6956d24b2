-- Rows with their makers as the work runs of a build hold them: entry r of the table of makers is that of row r. Assumes nothing.
use Rattle.std.specs.Prelude.{◌≡◌, ℕ, ◌*◌, false, length, Float, Result, Ok, Err}
use mathlib.Core.List.{List, flat_map}
use Rattle.layout.specs.Layout.{makers_at, maker_width, shape_made_at, makers_made_at}
use Rattle.laws.specs.Part.{part}
use Rattle.pywr.specs.Programme.{Row, Maker}
use Rattle.pywr.specs.Written.{maker_words}
use Rattle.build_append.specs.LpBuilder.{RowsHeld, within_ceilings}
use Rattle.build_append.specs.declared.Filled.{Filled}
use Rattle.build_exclusive_sets.specs.declared.ProgrammeFull.{ProgrammeFull}

pub record MadeHeld (rows : List Row) (makers : List Maker) (words : List ℕ) (numbers : List Float) (f : Filled) : Type 0 where
  pub held : RowsHeld rows words numbers f
  pub each : length makers ≡ length rows
  pub made : part makers_made_at (maker_width * length makers) words ≡ flat_map maker_words makers

-- some rows with their makers are held
pub record MadeHolding (words : List ℕ) (numbers : List Float) (f : Filled) : Type 0 where
  pub rows : List Row
  pub makers : List Maker
  pub held : MadeHeld rows makers words numbers f

-- the work runs hold these rows with these makers, or the rows are over the ceilings; the shape run's words before the table of makers stay
pub record AfterMade (rows : List Row) (makers : List Maker) (words : List ℕ) (r : Result Filled ProgrammeFull) (words' : List ℕ) (numbers' : List Float) : Type 0 where
  pub held : (f : Filled) → r ≡ Ok f → MadeHeld rows makers words' numbers' f
  pub full : (full : ProgrammeFull) → r ≡ Err full → within_ceilings rows ≡ false
  pub kept : part shape_made_at makers_at words' ≡ part shape_made_at makers_at words

-- The rows made so far as the two work runs of a build hold them (LpBuilder of builder.rs). In `words` the columns of the elements stand from 0,
-- in `numbers` the lower bounds. Assumes nothing.
use Rattle.std.specs.Prelude.{◌≡◌, ℕ, ◌+◌, ◌≤◌, Bool, false, ◌&&◌, length, drop, leb, Float, Result, Ok, Err}
use mathlib.Core.List.{List, map, flat_map}
use Rattle.layout.specs.Layout.{row_ceiling, element_ceiling, starts_made_at, shape_made_at, uppers_made_at, elements_made_at}
use Rattle.laws.specs.Part.{part}
use Rattle.pywr.specs.Rows.{Element}
use Rattle.pywr.specs.Programme.{Row}
use Rattle.pywr.specs.Build.{element_count}
use Rattle.pywr.specs.Written.{starts_from, columns_in, values_in, lower_of, upper_of}
use Rattle.build_exclusive_sets.specs.declared.ProgrammeFull.{ProgrammeFull}
use Rattle.build_append.specs.declared.Filled.{Filled}
use Rattle.build_append.specs.declared.LpBuilder.{LpBuilder}

-- the elements of each row
abbrev pub element_lists : List Row → List (List Element)
element_lists rows = map (λ (row : Row). row.elements) rows

pub record RowsHeld (rows : List Row) (words : List ℕ) (numbers : List Float) (f : Filled) : Type 0 where
  pub row_count : f.rows ≡ length rows
  pub elements_count : f.elements ≡ element_count rows
  pub few_rows : length rows ≤ row_ceiling
  pub few_elements : element_count rows ≤ element_ceiling
  pub columns : part 0 (element_count rows) words ≡ flat_map columns_in rows
  pub starts : part starts_made_at (length rows + 1) words ≡ starts_from 0 rows
  pub lowers : part 0 (length rows) numbers ≡ map lower_of rows
  pub uppers : part uppers_made_at (length rows) numbers ≡ map upper_of rows
  pub elements : part elements_made_at (element_count rows) numbers ≡ flat_map values_in rows

-- some rows are held
pub record Holding (words : List ℕ) (numbers : List Float) (f : Filled) : Type 0 where
  pub rows : List Row
  pub held : RowsHeld rows words numbers f

-- "at most .. 1,024 rows, 4,096 elements"
unfoldable pub within_ceilings : List Row → Bool
within_ceilings rows = leb (length rows) row_ceiling && leb (element_count rows) element_ceiling

-- the work runs hold these rows, or the rows are over the ceilings; the shape run's words stay
pub record AfterRows (rows : List Row) (words : List ℕ) (r : Result Filled ProgrammeFull) (words' : List ℕ) (numbers' : List Float) : Type 0 where
  pub held : (f : Filled) → r ≡ Ok f → RowsHeld rows words' numbers' f
  pub full : (full : ProgrammeFull) → r ≡ Err full → within_ceilings rows ≡ false
  pub kept : drop shape_made_at words' ≡ drop shape_made_at words

-- what the builder holds then, where rows were added
abbrev pub filled_then : Result (Unit {0}) ProgrammeFull → Filled → Result Filled ProgrammeFull
filled_then (Ok u) f = Ok f
filled_then (Err full) f = Err full

-- the builder has the runs that were lent, each as long as it was, and its sentinel
pub record SameRuns (old new : LpBuilder) : Type 0 where
  pub words : new.words.ghost_name ≡ old.words.ghost_name
  pub numbers : new.numbers.ghost_name ≡ old.numbers.ghost_name
  pub words_long : length new.words.now ≡ length old.words.now
  pub numbers_long : length new.numbers.now ≡ length old.numbers.now
  pub sentinel : new.sentinel ≡ old.sentinel

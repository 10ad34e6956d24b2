-- Bounds of rows at the front of their two runs, and a table of row numbers. Assumes nothing.
use Rattle.std.specs.Prelude.{◌≡◌, ℕ, ◌+◌, ◌*◌, ◌<◌, ◌≤◌, List, map, length, get_or, set, Float}
use Rattle.std.proofs.lemmas.List.Edits.{sets}
use Rattle.layout.specs.Layout.{row_ceiling, shape_length, varying_in, entry_row}
use Rattle.pywr.specs.declared.Interval.{Interval}
use Rattle.pywr.specs.Numbers.{zero64, lesser, greater}
use Rattle.pywr.specs.Programme.{Row}
use Rattle.pywr.specs.Written.{lower_of, upper_of}

-- the runs `lower` and `upper` after the bounds of rows 0, 1, .. were written
pub record BoundsWritten (rows : List Row) (lower upper lower' upper' : List Float) : Type 0 where
  pub lowers : lower' ≡ sets lower 0 (map lower_of rows)
  pub uppers : upper' ≡ sets upper 0 (map upper_of rows)

-- the runs after one row's bounds were set to an interval
pub record RowSet (row : ℕ) (bounds : Interval) (lower upper lower' upper' : List Float) : Type 0 where
  pub lowers : lower' ≡ set lower row bounds.lower
  pub uppers : upper' ≡ set upper row bounds.upper

-- the runs after one row's bounds were tightened by an interval
pub record RowTightened (row : ℕ) (by : Interval) (lower upper lower' upper' : List Float) : Type 0 where
  pub lowers : lower' ≡ set lower row (greater (get_or lower row zero64) by.lower)
  pub uppers : upper' ≡ set upper row (lesser (get_or upper row zero64) by.upper)

-- a table of the shape run whose entries, of so many words, start with the number of a varying row
pub record RowTable (shape : List ℕ) (table words count : ℕ) : Type 0 where
  pub shape_long : shape_length ≤ length shape
  pub varying : varying_in shape ≤ row_ceiling
  pub some_words : 1 ≤ words
  pub within : table + words * count ≤ shape_length
  pub rows : (k : ℕ) → k < count → entry_row shape (table + words * k) < varying_in shape

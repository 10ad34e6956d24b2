-- A row that was gathered. Assumes nothing.
use Rattle.std.specs.Prelude.{◌≡◌, ℕ, ◌≤◌, List, Float}
use Rattle.layout.specs.Layout.{column_ceiling}
use Rattle.pywr.specs.Rows.{Element}
use Rattle.build_row.specs.RowBuilder.{gathered, Rising}

-- the first n columns and elements are the row; the columns rise
pub record Gathered (row : List Element) (columns : List ℕ) (elements : List Float) (n : ℕ) : Type 0 where
  pub is : gathered columns elements n ≡ row
  pub rising : Rising columns n
  pub few : n ≤ column_ceiling

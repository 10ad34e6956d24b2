-- A row being gathered (RowBuilder of builder.rs): its column numbers in an array, its elements at the front of the part of the element run that starts at the row.
-- Assumes nothing.
use Rattle.std.specs.Prelude.{◌≡◌, ℕ, ◌+◌, ◌-◌, ◌≤◌, ◌<◌, List, ◌∷◌, ◌++◌, true, length, get_or, take, drop, Float}
use Rattle.layout.specs.Layout.{column_ceiling}
use Rattle.pywr.specs.Rows.{Element, add_element}
use Rattle.pywr.specs.Store.{elements_of}
use Rattle.pywr.specs.Misshapen.{columns_rise}

-- the row: the first n columns with the first n elements
unfoldable pub gathered : List ℕ → List Float → ℕ → List Element
gathered columns elements n = elements_of (take n columns) (take n elements)

-- "Elements of a row rise by column": the first n columns rise, each under the ceiling
abbrev pub Rising : List ℕ → ℕ → Type 0
Rising columns n = columns_rise column_ceiling 0 (take n columns) ≡ true

-- what adding an element promises: the row with x added on column c, its count and its order
pub record ElementAdded (columns : List ℕ) (elements : List Float) (n c : ℕ) (x : Float) (columns' : List ℕ) (elements' : List Float) (r : ℕ) : Type 0 where
  pub row : gathered columns' elements' r ≡ add_element c x (gathered columns elements n)
  pub rising : Rising columns' r
  pub few : r ≤ column_ceiling

-- column c stands at place p
pub record Stands (columns : List ℕ) (c p : ℕ) : Type 0 where
  pub within : p < length columns
  pub is : get_or columns p 0 ≡ c
  pub under : (k : ℕ) → k < p → get_or columns k 0 < c

-- column c does not stand there, and belongs at place p
pub record Belongs (columns : List ℕ) (c p : ℕ) : Type 0 where
  pub within : p ≤ length columns
  pub under : (k : ℕ) → k < p → get_or columns k 0 < c
  pub over : p < length columns → c < get_or columns p 0

-- x put at place p of a run's first n, of which those from there on move up by one
abbrev pub insert_at : {A : Type 0} → ℕ → ℕ → A → List A → List A
insert_at n p x l = take p l ++ x ∷ (take (n - p) (drop p l) ++ drop (n + 1) l)

-- What the order of a file's edges does to the whole programme: it renumbers columns, and nothing else. Assumes nothing.
use Rattle.std.specs.Prelude.{◌≡◌, ℕ, ◌<◌, ◌≤◌, cond, List, [], ◌∷◌, length, eqb, Float}
use Rattle.std.proofs.Math.Option.{Option, none, some}
use Rattle.pywr.specs.declared.Sentinel.{Sentinel}
use Rattle.pywr.specs.Result.{value}
use Rattle.pywr.specs.Answers.{answer_of}
use Rattle.pywr.specs.Network.{Network}
use Rattle.pywr.specs.NetworkFile.{parse_network}
use Rattle.pywr.specs.ColEdgeMap.{columns, column_of}
use Rattle.pywr.specs.Rows.{Element}
use Rattle.pywr.specs.Programme.{Row}
use Rattle.pywr.specs.Build.{programme_of}
use Rattle.pywr.specs.Store.{Store}
use Rattle.pywr.specs.Calls.{build_answer}
use Rattle.theorem_file_order.specs.FileOrder.{SameButOrder, SameEdge}

-- two networks that differ in the order of their edges alone
pub record SameNetwork (a b : Network) : Type 0 where
  pub but_order : SameButOrder a b
  pub aggregates : a.aggregates ≡ b.aggregates
  pub virtual_storages : a.virtual_storages ≡ b.virtual_storages

-- what a row has on a column, or none
unfoldable pub value_on : ℕ → List Element → Option Float
value_on column [] = none
value_on column (e ∷ es) = cond (eqb e.column column) (some e.value) (value_on column es)

-- a row of the one and the same row of the other, whose columns have other numbers: the same bounds, as many elements, and on each column's new number the
-- double that stood on the column
pub record Renumbered (to : ℕ → ℕ) (x y : Row) : Type 0 where
  pub lower : x.lower ≡ y.lower
  pub upper : x.upper ≡ y.upper
  pub elements : length x.elements ≡ length y.elements
  pub values : (column : ℕ) → value_on (to column) y.elements ≡ value_on column x.elements

-- row for row
pub data RowsRenumbered (to : ℕ → ℕ) : List Row → List Row → Type 0 where
  no_rows : RowsRenumbered to [] []
  and_row : {x y : Row} {xs ys : List Row} → Renumbered to x y → RowsRenumbered to xs ys → RowsRenumbered to (x ∷ xs) (y ∷ ys)

pub record SameProgramme (s : Sentinel) (a b : Network) : Type 0 where
  -- the new number of a column: an edge's column becomes that edge's, a set's stays
  pub to : ℕ → ℕ
  pub edge : (e e' : ℕ) → SameEdge a b e e' → column_of b e' ≡ to (column_of a e)
  pub set : (column : ℕ) → (columns a).count ≤ column → to column ≡ column
  pub inside : (column : ℕ) → column < (columns a).count → to column < (columns b).count
  pub apart : (column other : ℕ) → column < (columns a).count → other < (columns a).count → to column ≡ to other → column ≡ other
  pub columns_alike : (programme_of s a).programme.columns ≡ (programme_of s b).programme.columns
  pub varying : RowsRenumbered to (programme_of s a).programme.varying (programme_of s b).programme.varying
  pub fixed : RowsRenumbered to (programme_of s a).programme.fixed (programme_of s b).programme.fixed
  -- which node, aggregate or virtual storage has which row, and who made it
  pub node_rows : (programme_of s a).shape.node_rows ≡ (programme_of s b).shape.node_rows
  pub aggregates : (programme_of s a).shape.aggregates ≡ (programme_of s b).shape.aggregates
  pub virtual_storages : (programme_of s a).shape.virtual_storages ≡ (programme_of s b).shape.virtual_storages
  pub makers : (programme_of s a).makers ≡ (programme_of s b).makers

-- of every two files that were read and differ so
abbrev pub ProgrammeOrder : Type 0
ProgrammeOrder = (first second : List ℕ) (a b : Network) → parse_network first ≡ value a → parse_network second ≡ value b → SameNetwork a b
    → (s : Sentinel) → SameProgramme s a b

-- and both get one answer: accepted, or refused alike (11, or 16 for a short buffer)
abbrev pub AnswerOrder : Type 0
AnswerOrder = (first second : List ℕ) (a b : Network) → parse_network first ≡ value a → parse_network second ≡ value b → SameNetwork a b
    → (s : Sentinel) (store : Store) (words : List ℕ) (numbers : List Float)
    → answer_of (build_answer s first store words numbers) ≡ answer_of (build_answer s second store words numbers)

-- A list of edges as a table of links holds it, and the columns that it adds to a row. Assumes nothing.
use Rattle.std.specs.Prelude.{◌≡◌, ℕ, ◌-◌, ◌≤◌, List, [], ◌∷◌, map, get_or, Float}
use Rattle.layout.specs.Layout.{edge_ceiling, column_ceiling}
use Rattle.laws.specs.Linked.{Linked}
use Rattle.pywr.specs.Rows.{add_on}
use Rattle.build_row.specs.RowBuilder.{gathered, Rising}

-- the columns of the edges: the table holds each edge's column plus 1
unfoldable pub columns_of : List ℕ → List ℕ → List ℕ
columns_of table es = map (λ e. get_or table e 0 - 1) es

-- each of the edges has a column under the ceiling
abbrev pub HaveColumns : List ℕ → List ℕ → Type 0
HaveColumns table [] = Unit {0}
HaveColumns table (e ∷ es) = (1 ≤ get_or table e 0) × (get_or table e 0 ≤ column_ceiling) × HaveColumns table es

-- the table lists some edges, each with a column
pub record ListedEdges (next table : List ℕ) (first : ℕ) : Type 0 where
  pub edges : List ℕ
  pub listed : Linked edge_ceiling next first edges
  pub mapped : HaveColumns table edges

-- what adding the columns of a list of edges promises: the row with the factor added on each column in turn, its count and its order
pub record ColumnsAdded (next table : List ℕ) (first : ℕ) (factor : Float) (columns : List ℕ) (elements : List Float) (n : ℕ) (columns' : List ℕ) (elements' : List Float) (r : ℕ) : Type 0 where
  pub row : (es : List ℕ) → Linked edge_ceiling next first es → gathered columns' elements' r ≡ add_on (columns_of table es) factor (gathered columns elements n)
  pub rising : Rising columns' r
  pub few : r ≤ column_ceiling

-- A node added to a row. Assumes nothing.
use Rattle.std.specs.Prelude.{◌≡◌, ℕ, ◌≤◌, List, Float}
use Rattle.layout.specs.Layout.{column_ceiling}
use Rattle.pywr.specs.Rows.{column_map, add_node}
use Rattle.network_record.specs.declared.Counts.{Counts}
use Rattle.build_row.specs.RowBuilder.{gathered, Rising}
use Rattle.build_node_row.specs.Tables.{network_of}

-- what adding a node to a row promises: the row with the node's columns added, its count and its order
pub record NodeAdded (file : List ℕ) (c : Counts) (node : ℕ) (factor : Float) (columns : List ℕ) (elements : List Float) (n : ℕ) (columns' : List ℕ) (elements' : List Float) (r : ℕ) : Type 0 where
  pub row : gathered columns' elements' r ≡ add_node (column_map (network_of file c)) node factor (gathered columns elements n)
  pub rising : Rising columns' r
  pub few : r ≤ column_ceiling

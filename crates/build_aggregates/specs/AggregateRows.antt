-- The rows that the aggregates ask for, and the table of their places. Assumes nothing.
use Rattle.std.specs.Prelude.{ℕ, List, map}
use Rattle.pywr.specs.Network.{Network}
use Rattle.pywr.specs.Rows.{Element, column_map, aggregate_row}

abbrev pub aggregate_rows : Network → List (List Element)
aggregate_rows net = map (aggregate_row (column_map net)) net.aggregates

-- an aggregate's entry is its row's number
abbrev pub aggregate_table : List ℕ → List ℕ
aggregate_table places = places

-- How many edge columns a network has. Assumes nothing.
use Rattle.std.specs.Prelude.{ℕ, List}
use Rattle.pywr.specs.ColEdgeMap.{columns}
use Rattle.network_record.specs.declared.Counts.{Counts}
use Rattle.build_node_row.specs.Tables.{network_of}

abbrev pub edge_columns_of : List ℕ → Counts → ℕ
edge_columns_of file c = (columns (network_of file c)).count

-- The varying rows with their tables, as a build's work runs hold them. Assumes nothing.
use Rattle.std.specs.Prelude.{◌≡◌, ℕ, ◌*◌, false, length, Float, Result, Ok, Err}
use mathlib.Core.List.{List, flat_map}
use Rattle.layout.specs.Layout.{node_row_width, virtual_storage_width, node_rows_made_at, aggregates_made_at, virtual_storages_made_at}
use Rattle.laws.specs.Part.{part}
use Rattle.pywr.specs.declared.Sentinel.{Sentinel}
use Rattle.pywr.specs.Network.{Network}
use Rattle.pywr.specs.Rows.{column_map}
use Rattle.pywr.specs.VaryingRows.{requests_from}
use Rattle.pywr.specs.Build.{programme_of}
use Rattle.pywr.specs.Written.{node_row_words, virtual_storage_words}
use Rattle.build_append.specs.LpBuilder.{RowsHeld, within_ceilings}
use Rattle.build_node_table.specs.NodeTable.{NodeRows}
use Rattle.build_exclusive_sets.specs.declared.ProgrammeFull.{ProgrammeFull}

pub record VaryingLaid (s : Sentinel) (net : Network) (r : NodeRows) (words : List ℕ) (numbers : List Float) : Type 0 where
  pub held : RowsHeld (programme_of s net).programme.varying words numbers r.filled
  pub counted : r.count ≡ length (requests_from (column_map net) 0 net.nodes)
  pub node_rows : part node_rows_made_at (node_row_width * r.count) words ≡ flat_map node_row_words (programme_of s net).shape.node_rows
  pub aggregates : part aggregates_made_at (length net.aggregates) words ≡ (programme_of s net).shape.aggregates
  pub virtual_storages : part virtual_storages_made_at (virtual_storage_width * length net.virtual_storages) words ≡ flat_map virtual_storage_words (programme_of s net).shape.virtual_storages

pub record AfterVarying (s : Sentinel) (net : Network) (r : Result NodeRows ProgrammeFull) (words : List ℕ) (numbers : List Float) : Type 0 where
  pub done : (n : NodeRows) → r ≡ Ok n → VaryingLaid s net n words numbers
  pub full : (full : ProgrammeFull) → r ≡ Err full → within_ceilings (programme_of s net).programme.varying ≡ false

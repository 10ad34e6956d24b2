-- The rows that the virtual storages ask for, and the table of their places with their periods. Assumes nothing.
use Rattle.std.specs.Prelude.{ℕ}
use mathlib.Core.List.{List, map, flat_map}
use Rattle.pywr.specs.Network.{Network}
use Rattle.pywr.specs.Rows.{Element, column_map, virtual_storage_row}
use Rattle.pywr.specs.Build.{placed_virtual_storages}
use Rattle.pywr.specs.Written.{virtual_storage_words}

abbrev pub virtual_storage_rows : Network → List (List Element)
virtual_storage_rows net = map (virtual_storage_row (column_map net)) net.virtual_storages

-- a virtual storage's entry is its row's number and its period
abbrev pub virtual_storage_table : Network → List ℕ → List ℕ
virtual_storage_table net places = flat_map virtual_storage_words (placed_virtual_storages net.virtual_storages places)

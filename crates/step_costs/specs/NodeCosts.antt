-- A node's kind in the shape run and its cost in the step file, by its number. Assumes nothing.
use Rattle.std.specs.Prelude.{List, ℕ, ◌+◌, ◌*◌, Float}
use Rattle.layout.specs.Layout.{nodes_at, node_width, node_kind}
use Rattle.step_record.specs.Check.{node_cost_offset}
use Rattle.step_file.specs.Decoded.{f64_at, node_step_place}

abbrev pub kind_in : List ℕ → ℕ → ℕ
kind_in shape k = node_kind shape (nodes_at + node_width * k)

abbrev pub cost_in : List ℕ → ℕ → Float
cost_in file k = f64_at file (node_step_place k + node_cost_offset)

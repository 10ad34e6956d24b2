-- The rows that varying nodes ask for, as the two work runs of a build hold them: the distinct rows, and the node rows.
-- Assumes nothing.
use Rattle.std.specs.Prelude.{◌≡◌, ℕ, ◌*◌, false, length, take, Float, Result, Ok, Err}
use mathlib.Core.List.{List, [], map, flat_map}
use Rattle.layout.specs.Layout.{node_row_width, node_rows_made_at}
use Rattle.laws.specs.Part.{part}
use Rattle.pywr.specs.declared.Sentinel.{Sentinel}
use Rattle.pywr.specs.ExclusiveSets.{sets_with_node}
use Rattle.pywr.specs.Rows.{ColumnMap}
use Rattle.pywr.specs.Programme.{RowType, continuous, binary_upper, binary_lower}
use Rattle.pywr.specs.VariableRows.{Joined, add_variable_rows}
use Rattle.pywr.specs.VaryingRows.{RowRequest, exclusive_requests, requests_from, fresh_row}
use Rattle.pywr.specs.Build.{placed_node_rows, requested_row}
use Rattle.pywr.specs.Written.{node_row_words}
use Rattle.build_append.specs.LpBuilder.{RowsHeld, within_ceilings}
use Rattle.build_append.specs.declared.Filled.{Filled}
use Rattle.build_append.specs.declared.LpBuilder.{LpBuilder}
use Rattle.build_node_table.specs.declared.NodeRowType.{NodeRowType}
use Rattle.build_exclusive_sets.specs.declared.ProgrammeFull.{ProgrammeFull}

-- a node row's type
abbrev pub row_type_of : NodeRowType → RowType
row_type_of NodeRowType.Continuous = continuous
row_type_of NodeRowType.BinaryUpper = binary_upper
row_type_of NodeRowType.BinaryLower = binary_lower

-- the distinct rows asked for, and where each asked row stands
abbrev pub joined : List RowRequest → Joined
joined asks = add_variable_rows (map requested_row asks) (record { rows = []; places = [] })

-- what the nodes before node n ask for
abbrev pub requests_before : ColumnMap → ℕ → List RowRequest
requests_before f n = requests_from f 0 (take n f.nodes)

-- what node n asks for where exclusive sets list it
abbrev pub listed_requests : ColumnMap → ℕ → List RowRequest
listed_requests f n = exclusive_requests f n (sets_with_node n 0 f.sets)

-- what the work runs hold, and how many node rows were written
pub record NodeRows : Type 0 where
  pub filled : Filled
  pub count : ℕ

-- what a builder holds, with `count` node rows
abbrev pub node_rows : LpBuilder → ℕ → NodeRows
node_rows lp count = record { filled = lp.filled; count = count }

-- and where node rows were added
abbrev pub node_rows_then : Result ℕ ProgrammeFull → LpBuilder → Result NodeRows ProgrammeFull
node_rows_then (Ok count) lp = Ok (node_rows lp count)
node_rows_then (Err full) lp = Err full

-- the rows asked for are held, and so are the node rows
pub record NodeRowsHeld (s : Sentinel) (asks : List RowRequest) (words : List ℕ) (numbers : List Float) (r : NodeRows) : Type 0 where
  pub held : RowsHeld (map (fresh_row s) (joined asks).rows) words numbers r.filled
  pub counted : r.count ≡ length asks
  pub table : part node_rows_made_at (node_row_width * r.count) words ≡ flat_map node_row_words (placed_node_rows asks (joined asks).places)

-- some rows asked for are held
pub record NodeRowsHolding (s : Sentinel) (words : List ℕ) (numbers : List Float) (r : NodeRows) : Type 0 where
  pub asks : List RowRequest
  pub held : NodeRowsHeld s asks words numbers r

-- the rows were asked for: the work runs hold them, or they are over the ceilings
pub record AfterRequests (s : Sentinel) (asks : List RowRequest) (r : Result NodeRows ProgrammeFull) (words' : List ℕ) (numbers' : List Float) : Type 0 where
  pub done : (r' : NodeRows) → r ≡ Ok r' → NodeRowsHeld s asks words' numbers' r'
  pub full : (full : ProgrammeFull) → r ≡ Err full → within_ceilings (map (fresh_row s) (joined asks).rows) ≡ false

-- What the writing of a step needs and promises: of the costs, and of the varying rows. Assumes nothing.
use Rattle.std.specs.Prelude.{◌≡◌, true, List, ℕ, ◌≤◌, length, Float}
use Rattle.std.proofs.lemmas.List.Edits.{sets}
use Rattle.layout.specs.Layout.{node_ceiling, edge_ceiling, set_ceiling, column_ceiling, shape_length, edges_at, edge_width, nodes_in, edges_in, edge_columns_in, sets_in}
use Rattle.layout.specs.Layout.{flow_order_at, flow_order_width}
use Rattle.pywr.specs.Store.{Store, edge_count, column_count, shape_of}
use Rattle.pywr.specs.Misshapen.{edge_fits, flow_order_fits, all_entries}
use Rattle.pywr.specs.Costs.{step_costs}
use Rattle.pywr.specs.StepIntervals.{Intervals}
use Rattle.step_file.specs.Decoded.{decoded, aggregate_steps_at}
use Rattle.step_rows.specs.ConstraintBounds.{store_of, StepRuns, StepWritten, HasRuns, HeldIn}

-- as `update_edge_objectives` asks
abbrev pub CostsReady : List ℕ → List Float → List ℕ → Type 0
CostsReady file costs shape =
    (shape_length ≤ length shape) × (column_ceiling ≤ length costs) × (nodes_in shape ≤ node_ceiling) × (edges_in shape ≤ edge_ceiling) × (edge_columns_in shape ≤ edge_ceiling) × (sets_in shape ≤ set_ceiling)
    × ((s : Store) → s.shape ≡ shape → all_entries (edge_fits s) edge_width edges_at (edge_count s) ≡ true)
    × ((s : Store) → s.shape ≡ shape → all_entries (flow_order_fits s) flow_order_width flow_order_at (edge_count s) ≡ true)
    × (aggregate_steps_at (nodes_in shape) ≤ length file)

abbrev pub CostsUpdated : List ℕ → List ℕ → List Float → List Float → Type 0
CostsUpdated file shape costs costs' =
    (s : Store) (a v : ℕ) → s.shape ≡ shape → costs' ≡ sets costs 0 (step_costs (shape_of s) (column_count s) (decoded (shape_of s).nodes a v file).nodes)

-- as `update_constraint_bounds` asks
abbrev pub RowsReady : List Float → List Float → List Float → List ℕ → List ℕ → List ℕ → List Float → Type 0
RowsReady row_lower row_upper elements columns row_starts shape work = StepRuns (store_of row_lower row_upper elements columns row_starts shape) work

abbrev pub RowsUpdated : List Float → List Float → List Float → List ℕ → List ℕ → List ℕ → List Float → List Float → List Float → List Float → Type 0
RowsUpdated row_lower row_upper elements columns row_starts shape work row_lower' row_upper' elements' =
    (s : Store) (i : Intervals) → HasRuns s row_lower row_upper elements columns row_starts shape → HeldIn s work i → StepWritten s i row_lower' row_upper' elements'

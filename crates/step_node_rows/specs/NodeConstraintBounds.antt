-- The varying rows of a store in its runs, and what the passes over the node rows need and promise. Assumes nothing.
use Rattle.std.specs.Prelude.{◌≡◌, ℕ, ◌+◌, ◌<◌, ◌≤◌, true, cond, length, get_or, eqb, Float, Option, Some, None}
use mathlib.Core.List.{List, map, flat_map}
use Rattle.std.proofs.lemmas.List.Edits.{sets}
use Rattle.std.proofs.Math.Seq.{slice}
use Rattle.std.specs.Float.Ieee.{neg}
use Rattle.layout.specs.Layout.{node_ceiling, row_ceiling, shape_length, node_rows_at, node_row_width, nodes_in, edge_columns_in, sets_in, varying_in, node_row_node, node_row_row, node_row_type, node_row_set}
use Rattle.pywr.specs.declared.Interval.{Interval}
use Rattle.pywr.specs.Network.{listed}
use Rattle.pywr.specs.Programme.{Row, NodeRow}
use Rattle.pywr.specs.Store.{Store, varying_count, edge_column_count, node_count, sentinel_code, sentinel_of, entries, node_row_entry, columns_of_row}
use Rattle.pywr.specs.Misshapen.{columns_rise}
use Rattle.pywr.specs.Step.{adjust, over_node_rows, interval_for, apply_interval, reset_binary_row, apply_coefficient}
use Rattle.pywr.specs.Written.{columns_in, values_in}
use Rattle.store_rows.specs.Starts.{RowsWithin}
use Rattle.step_work.specs.WorkRun.{held_from}
use Rattle.step_row_bounds.specs.RowBounds.{BoundsWritten}
use Rattle.step_node_rows.specs.declared.NodeRowType.{NodeRowType}
use Rattle.step_node_rows.specs.declared.NodeRowType.TheVariants.{Continuous, BinaryUpper, BinaryLower}

-- the store s with these columns, row starts and shape
abbrev pub over : Store → List ℕ → List ℕ → List ℕ → Store
over s columns row_starts shape =
    record {
      col_lower = s.col_lower;
      col_upper = s.col_upper;
      col_obj_coef = s.col_obj_coef;
      row_lower = s.row_lower;
      row_upper = s.row_upper;
      elements = s.elements;
      columns = columns;
      row_starts = row_starts;
      shape = shape;
    }

-- s with this shape
abbrev pub with_shape : Store → List ℕ → Store
with_shape s shape = over s s.columns s.row_starts shape

-- the row runs of s after its varying rows became `rows`, on the same columns
pub record VaryingWritten (s : Store) (rows : List Row) (lower upper elements : List Float) : Type 0 where
  pub bounds : BoundsWritten rows s.row_lower s.row_upper lower upper
  pub factors : elements ≡ sets s.elements 0 (flat_map values_in rows)
  pub columns : map columns_in rows ≡ entries (columns_of_row s) 1 0 (varying_count s)

-- ---- what the passes need

-- the tables of the shape run have room, and so have the nodes and the varying rows
pub record ShapeFits (shape : List ℕ) : Type 0 where
  pub shape_long : shape_length ≤ length shape
  pub nodes : nodes_in shape ≤ node_ceiling
  pub varying : varying_in shape ≤ row_ceiling

-- a node row: a node and a varying row
pub record NodeRowWithin (shape : List ℕ) (at : ℕ) : Type 0 where
  pub node : node_row_node shape at < nodes_in shape
  pub row : node_row_row shape at < varying_in shape

-- and, unless it is continuous, a set whose integer column is in the row
pub record NodeRowFits (columns row_starts shape : List ℕ) (at : ℕ) : Type 0 where
  pub within : NodeRowWithin shape at
  pub set : (node_row_type shape at ≡ 0 → ⊥) → node_row_set shape at < sets_in shape
  pub column : (node_row_type shape at ≡ 0 → ⊥)
      → listed (edge_columns_in shape + node_row_set shape at) (slice (get_or row_starts (node_row_row shape at) 0) (get_or row_starts (node_row_row shape at + 1) 0) columns) ≡ true

-- the rows of a well shaped store
pub record VaryingFit (columns row_starts shape : List ℕ) : Type 0 where
  pub rows : RowsWithin columns row_starts shape
  pub nodes : nodes_in shape ≤ node_ceiling
  pub rise : (r : ℕ) → r < varying_in shape → columns_rise (edge_columns_in shape + sets_in shape) 0 (slice (get_or row_starts r 0) (get_or row_starts (r + 1) 0) columns) ≡ true

-- ---- what they promise

-- the interval of a node row's node, as the work run holds it
abbrev pub held_for : Store → List Float → NodeRow → Interval
held_for s work n = interval_for (sentinel_of (sentinel_code s)) (held_from work 0 (node_count s)) n

-- what each pass does to the row of a node row
abbrev pub bounds_change : List Float → Store → NodeRow → Row → Row
bounds_change work s n = apply_interval n.row_type (held_for s work n)

abbrev pub reset_change : Store → NodeRow → Row → Row
reset_change s n = reset_binary_row (sentinel_of (sentinel_code s)) n.row_type (edge_column_count s + n.set)

abbrev pub coefficient_change : List Float → Store → NodeRow → Row → Row
coefficient_change work s n = apply_coefficient n.row_type (edge_column_count s + n.set) (held_for s work n)

-- the coefficient that an interval gives to a binary row
unfoldable pub coefficient_by_word : ℕ → Interval → Float
coefficient_by_word row_type by = cond (eqb row_type 1) by.upper (neg by.lower)

-- the word of a row's type in a node row
abbrev pub IsRowType : ℕ → NodeRowType → Type 0
IsRowType word Continuous = word ≡ 0
IsRowType word BinaryUpper = word ≡ 1
IsRowType word BinaryLower = (word ≡ 0 → ⊥) × (word ≡ 1 → ⊥)

-- none to a continuous row, and to a binary one that coefficient
abbrev pub CoefficientGiven : ℕ → Interval → Option Float → Type 0
CoefficientGiven word by None = word ≡ 0
CoefficientGiven word by (Some x) = (word ≡ 0 → ⊥) × (x ≡ coefficient_by_word word by)

-- the rows after the node row at `at` changed its row
abbrev pub node_row_applied : Store → (Store → NodeRow → Row → Row) → ℕ → List Row → List Row
node_row_applied s change at rows = adjust (change s (node_row_entry s at)) (node_row_entry s at).row rows

-- the rows after `count` node rows from `at` on changed theirs
abbrev pub node_rows_applied : Store → (Store → NodeRow → Row → Row) → ℕ → ℕ → List Row → List Row
node_rows_applied s change at count rows = over_node_rows (change s) (entries (node_row_entry s) node_row_width at count) rows

module _ (s : Store) (change : Store → NodeRow → Row → Row) where
  -- whatever rows the runs held, they hold them after the node row at `at`
  abbrev pub NodeRowDone : ℕ → List Float → List Float → List Float → List Float → List Float → List Float → Type 0
  NodeRowDone at lower upper elements lower' upper' elements' =
      (rows : List Row) → VaryingWritten s rows lower upper elements → VaryingWritten s (node_row_applied s change at rows) lower' upper' elements'

  -- and after the first `count` node rows
  abbrev pub NodeRowsDone : ℕ → List Float → List Float → List Float → List Float → List Float → List Float → Type 0
  NodeRowsDone count lower upper elements lower' upper' elements' =
      (rows : List Row) → VaryingWritten s rows lower upper elements → VaryingWritten s (node_rows_applied s change node_rows_at count rows) lower' upper' elements'

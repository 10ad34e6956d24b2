-- What a step's writing of the rows needs and promises. Assumes nothing.
use Rattle.std.specs.Prelude.{◌≡◌, ℕ, ◌≤◌, true, length, Float}
use mathlib.Core.List.{List, [], map, flat_map}
use Rattle.std.proofs.lemmas.List.Edits.{sets}
use Rattle.layout.specs.Layout.{row_ceiling, element_ceiling, row_starts_length, shape_length, node_rows_at, step_work_length}
use Rattle.pywr.specs.Programme.{Row}
use Rattle.pywr.specs.StepIntervals.{Intervals}
use Rattle.pywr.specs.Step.{step_rows}
use Rattle.pywr.specs.Store.{Store, node_count, node_row_count, aggregate_count, virtual_storage_count, shape_of, programme_in}
use Rattle.pywr.specs.Misshapen.{well_shaped}
use Rattle.pywr.specs.Written.{lower_of, upper_of, values_in}
use Rattle.step_work.specs.WorkRun.{IntervalsHeld}
use Rattle.step_node_rows.specs.NodeConstraintBounds.{reset_change, coefficient_change, node_rows_applied}

-- a store of these six runs
abbrev pub store_of : List Float → List Float → List Float → List ℕ → List ℕ → List ℕ → Store
store_of row_lower row_upper elements columns row_starts shape =
    record {
      col_lower = [];
      col_upper = [];
      col_obj_coef = [];
      row_lower = row_lower;
      row_upper = row_upper;
      elements = elements;
      columns = columns;
      row_starts = row_starts;
      shape = shape;
    }

-- the runs have room, and are those of a well shaped store
pub record StepRuns (s : Store) (work : List Float) : Type 0 where
  pub row_lower_long : row_ceiling ≤ length s.row_lower
  pub row_upper_long : row_ceiling ≤ length s.row_upper
  pub elements_long : element_ceiling ≤ length s.elements
  pub columns_long : element_ceiling ≤ length s.columns
  pub row_starts_long : row_starts_length ≤ length s.row_starts
  pub shape_long : shape_length ≤ length s.shape
  pub work_long : step_work_length ≤ length work
  pub well_shaped_lem : well_shaped s ≡ true

-- the rows after the binary ones were reset and given the step's coefficients
abbrev pub binary_rows_updated : Store → List Float → List Row → List Row
binary_rows_updated s work rows =
    node_rows_applied s (coefficient_change work) node_rows_at (node_row_count s) (node_rows_applied s reset_change node_rows_at (node_row_count s) rows)

-- the varying rows of a store after a step
abbrev pub stepped_rows : Store → Intervals → List Row
stepped_rows s i = step_rows (programme_in s).sentinel (shape_of s) i (programme_in s).varying

pub record StepWritten (s : Store) (i : Intervals) (lower upper elements : List Float) : Type 0 where
  pub lowers : lower ≡ sets s.row_lower 0 (map lower_of (stepped_rows s i))
  pub uppers : upper ≡ sets s.row_upper 0 (map upper_of (stepped_rows s i))
  pub factors : elements ≡ sets s.elements 0 (flat_map values_in (stepped_rows s i))

-- s has these six runs
pub record HasRuns (s : Store) (row_lower row_upper elements : List Float) (columns row_starts shape : List ℕ) : Type 0 where
  pub row_lower_lem : s.row_lower ≡ row_lower
  pub row_upper_lem : s.row_upper ≡ row_upper
  pub elements_are : s.elements ≡ elements
  pub columns_are : s.columns ≡ columns
  pub row_starts_lem : s.row_starts ≡ row_starts
  pub shape_is : s.shape ≡ shape

abbrev pub HeldIn : Store → List Float → Intervals → Type 0
HeldIn s work i = IntervalsHeld (node_count s) (aggregate_count s) (virtual_storage_count s) work i

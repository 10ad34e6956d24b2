-- What fits of a node row whose row is binary: its set's integer column, and the coefficient on it. Assumes nothing.
use mathlib.Core.Path.{◌≡◌, refl}
use Prim.Native.Nat.{ℕ, ◌+◌, ◌<◌, ◌≤◌}
use native.Mathlib.Omega.{arith}
use mathlib.Core.Bool.{true}
use mathlib.Core.List.{List}
use lib.ListN.{length, get_or}
use lib.Seq.{slice}
use Rattle.layout.specs.Layout.{column_ceiling, element_ceiling, edge_columns_in, node_row_row, node_row_type, node_row_set}
use Rattle.pywr.specs.Network.{listed}
use Rattle.store_rows.proofs.Starts.{start_under}
use Rattle.step_node_rows.specs.declared.NodeRowType.{NodeRowType}
use Rattle.step_node_rows.specs.declared.NodeRowType.TheVariants.{Continuous, BinaryUpper, BinaryLower}
use Rattle.step_node_rows.specs.NodeConstraintBounds.{IsRowType, NodeRowFits, VaryingFit}

-- a row whose type is not continuous is binary by its word too
pub binary_word : {word : ℕ} (t : NodeRowType) → IsRowType word t → (t ≡ Continuous → ⊥) → word ≡ 0 → ⊥
binary_word Continuous is n = absurd (n refl)
binary_word BinaryUpper is n = λ e. omega (arith, is)
binary_word BinaryLower is n = is.0

module _ {columns row_starts shape : List ℕ} {at : ℕ} (fit : VaryingFit columns row_starts shape) (fits : NodeRowFits columns row_starts shape at) (binary : node_row_type shape at ≡ 0 → ⊥) where
  pub column_under : edge_columns_in shape + node_row_set shape at < column_ceiling
  column_under = omega (arith, fits.set binary, fit.rows.edge_columns_lem, fit.rows.sets)

  module _ {r c : ℕ} (q : r ≡ node_row_row shape at) (on : c ≡ edge_columns_in shape + node_row_set shape at) where
    pub starts_there : r + 1 < length row_starts
    starts_there = omega (arith, fits.within.row, fit.rows.rows, fit.rows.starts_long)

    pub elements_there : get_or row_starts (r + 1) 0 ≤ element_ceiling
    elements_there = omega (arith, start_under fit.rows.starts (r + 1) (omega (arith, fits.within.row)), fit.rows.kept)

    pub column_there : listed c (slice (get_or row_starts r 0) (get_or row_starts (r + 1) 0) columns) ≡ true
    column_there = rw (q, on) (fits.column binary)

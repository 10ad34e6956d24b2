-- What the tests of the counts and of the row starts have shown of the runs, before the rows themselves are read. Assumes nothing.
use Rattle.std.specs.Prelude.{◌≡◌, ℕ, ◌+◌, ◌<◌, ◌≤◌, List, length, get_or}
use Rattle.layout.specs.Layout.{edge_ceiling, set_ceiling, row_ceiling, element_ceiling, row_starts_length, shape_length, edge_columns_in, sets_in, varying_in, fixed_in, elements_in}

pub record StartsRise (row_starts : List ℕ) (rows kept : ℕ) : Type 0 where
  pub first : get_or row_starts 0 0 ≡ 0
  pub rise : (r : ℕ) → r < rows → get_or row_starts r 0 ≤ get_or row_starts (r + 1) 0
  pub last : get_or row_starts rows 0 ≡ kept

pub record RowsWithin (columns row_starts shape : List ℕ) : Type 0 where
  pub columns_long : element_ceiling ≤ length columns
  pub starts_long : row_starts_length ≤ length row_starts
  pub shape_long : shape_length ≤ length shape
  pub edge_columns_lem : edge_columns_in shape ≤ edge_ceiling
  pub sets : sets_in shape ≤ set_ceiling
  pub rows : varying_in shape + fixed_in shape ≤ row_ceiling
  pub kept : elements_in shape ≤ element_ceiling
  pub starts : StartsRise row_starts (varying_in shape + fixed_in shape) (elements_in shape)

-- The varying rows that the nodes ask for, in order; equal ones are joined by `add_variable_rows`. Assumes nothing.
use Rattle.std.specs.Prelude.{ℕ, suc, List, [], ◌∷◌, ◌++◌, cond}
use Rattle.std.specs.Float.Ieee.{neg}
use Rattle.pywr.specs.declared.Sentinel.{Sentinel}
use Rattle.pywr.specs.Numbers.{zero64, one64, high}
use Rattle.pywr.specs.Network.{Node}
use Rattle.pywr.specs.ExclusiveSets.{sets_with_node}
use Rattle.pywr.specs.Rows.{Element, ColumnMap, node_row, upper_row, lower_row}
use Rattle.pywr.specs.Programme.{Row, RowType, continuous, binary_upper, binary_lower}

-- a varying row asked for by a node
pub record RowRequest : Type 0 where
  pub node : ℕ
  pub row_type : RowType
  pub set : ℕ
  pub row : List Element

-- "Exclusive ones start with coefficients 1 (upper row) and −1 (lower row).", for each set that lists the node
unfoldable pub exclusive_requests : ColumnMap → ℕ → List ℕ → List RowRequest
exclusive_requests mapping node [] = []
exclusive_requests mapping node (set ∷ sets) =
    record { node = node; row_type = binary_upper; set = set; row = upper_row mapping node set one64 }
    ∷ record { node = node; row_type = binary_lower; set = set; row = lower_row mapping node set (neg one64) }
    ∷ exclusive_requests mapping node sets

-- a varying node that no exclusive set lists asks for its node row; "Exclusive node: no row of its own"
unfoldable pub requests_by_sets : ColumnMap → ℕ → List ℕ → List RowRequest
requests_by_sets mapping node [] = record { node = node; row_type = continuous; set = 0; row = node_row mapping node } ∷ []
requests_by_sets mapping node (set ∷ sets) = exclusive_requests mapping node (set ∷ sets)

-- what the varying nodes of the list ask for; the first node of the list has this number
unfoldable pub requests_from : ColumnMap → ℕ → List Node → List RowRequest
requests_from mapping number [] = []
requests_from mapping number (node ∷ nodes) =
    cond node.constant [] (requests_by_sets mapping number (sets_with_node number 0 mapping.sets)) ++ requests_from mapping (suc number) nodes

-- "Varying rows start at lower 0 and the high sentinel."
unfoldable pub fresh_row : Sentinel → List Element → Row
fresh_row s elements = record { lower = zero64; upper = high s; elements = elements }

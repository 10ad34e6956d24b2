-- The fixed rows, in order: mass rows, rows of constant nodes, exclusivity rows. Assumes nothing.
use Rattle.std.specs.Prelude.{ℕ, suc, List, [], ◌∷◌, ◌++◌, cond, not, ◌&&◌, length, eqb, Float}
use Rattle.std.specs.Float.Ieee.{neg, eq}
use Rattle.pywr.specs.declared.Sentinel.{Sentinel}
use Rattle.pywr.specs.Numbers.{double, zero64, million, millionth, high, lesser, greater}
use Rattle.pywr.specs.Network.{link, Node, Aggregate}
use Rattle.pywr.specs.ExclusiveSets.{sets_with_node}
use Rattle.pywr.specs.Rows.{ColumnMap, node_row, mass_row, upper_row, lower_row, exclusivity_row}
use Rattle.pywr.specs.Programme.{Row}

-- the mass rows of the links of the list; the first node of the list has this number
unfoldable pub mass_rows_from : ColumnMap → ℕ → List Node → List Row
mass_rows_from mapping number [] = []
mass_rows_from mapping number (node ∷ nodes) =
    -- "dropped exactly if it has one distinct column"
    cond (eqb node.kind link && not (eqb (length (mass_row mapping number)) 1)) (record { lower = zero64; upper = zero64; elements = mass_row mapping number } ∷ []) []
    ++ mass_rows_from mapping (suc number) nodes

-- "upper coefficient min(max, 1e6)", "Lower coefficient −max(min, 1e-6)"
unfoldable pub upper_coefficient : Float → Float
upper_coefficient max = lesser max million

unfoldable pub lower_coefficient : Float → Float
lower_coefficient min = neg (greater min millionth)

-- for each set that lists the node: "Both rows have bounds 0 and the high sentinel."; "min 0 omits the row"
unfoldable pub exclusive_rows : Sentinel → ColumnMap → ℕ → Node → List ℕ → List Row
exclusive_rows s mapping number node [] = []
exclusive_rows s mapping number node (set ∷ sets) =
    record { lower = zero64; upper = high s; elements = upper_row mapping number set (upper_coefficient node.max) }
    ∷ cond (eq node.min zero64) []
    (record { lower = zero64; upper = high s; elements = lower_row mapping number set (lower_coefficient node.min) } ∷ [])
    ++ exclusive_rows s mapping number node sets

-- a constant node that no exclusive set lists has its node row between its min and its max
unfoldable pub constant_rows : Sentinel → ColumnMap → ℕ → Node → List ℕ → List Row
constant_rows s mapping number node [] = record { lower = node.min; upper = node.max; elements = node_row mapping number } ∷ []
constant_rows s mapping number node (set ∷ sets) = exclusive_rows s mapping number node (set ∷ sets)

unfoldable pub constant_rows_from : Sentinel → ColumnMap → ℕ → List Node → List Row
constant_rows_from s mapping number [] = []
constant_rows_from s mapping number (node ∷ nodes) =
    cond node.constant (constant_rows s mapping number node (sets_with_node number 0 mapping.sets)) [] ++ constant_rows_from s mapping (suc number) nodes

-- "Exclusivity row: .. bounds min_active and max_active."
unfoldable pub exclusivity_rows : ColumnMap → List Aggregate → List Row
exclusivity_rows mapping [] = []
exclusivity_rows mapping (aggregate ∷ rest) =
    cond aggregate.exclusive
    (record { lower = double aggregate.min_active; upper = double aggregate.max_active; elements = exclusivity_row mapping aggregate } ∷ []) []
    ++ exclusivity_rows mapping rest

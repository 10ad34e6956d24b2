-- The programme's side: what a programme admits, summed over the columns of its rows. Assumes nothing.
use Rattle.std.specs.Prelude.{ℕ, suc, ◌-◌, List, [], ◌∷◌, Bool, cond, ◌&&◌, get_or, pos, ◌+ℤ◌, ltb, eqb}
use Rattle.pywr.specs.declared.Sentinel.{Sentinel}
use Rattle.pywr.specs.ColEdgeMap.{MappedEdge}
use Rattle.pywr.specs.Rows.{Element, ColumnMap}
use Rattle.pywr.specs.Programme.{Column, Row, Programme}
use Rattle.pywr.specs.Plans.{Amount, Product, product, exact, meets, Plan, units_in_one, times_one, all_from}

-- the amount of a column's first edge; the first edge of the list has this number
unfoldable pub carried : Plan → ℕ → ℕ → List MappedEdge → Amount
carried plan column number [] = 0
carried plan column number (edge ∷ edges) = cond (eqb edge.column column) (plan.amount number) (carried plan column (suc number) edges)

-- "edges of a column (by col_edge_map.rs above) carry equal amounts": each edge carries what its column's first does
unfoldable pub equal_in_column : Plan → List MappedEdge → ℕ → MappedEdge → Bool
equal_in_column plan edges number edge = eqb (plan.amount number) (carried plan edge.column 0 edges)

-- "with that amount on the column and 1 or 0 on a set's column as it is on or off"
unfoldable pub on_column : ColumnMap → Plan → ℕ → Amount
on_column mapping plan column =
    cond (ltb column mapping.edge_columns) (carried plan column 0 mapping.mapped_edges)
    (cond (plan.on (get_or mapping.sets (column - mapping.edge_columns) [])) units_in_one 0)

-- a row's sum: each element times the amount on its column
unfoldable pub row_sum : ColumnMap → Plan → List Element → Product
row_sum mapping plan [] = pos 0
row_sum mapping plan (e ∷ es) = product (exact e.value) (pos (on_column mapping plan e.column)) +ℤ row_sum mapping plan es

-- "every column and row bound is met, summed exactly"
unfoldable pub row_met : Sentinel → ColumnMap → Plan → ℕ → Row → Bool
row_met s mapping plan number row = meets s (record { lower = row.lower; upper = row.upper }) (row_sum mapping plan row.elements)

unfoldable pub column_met : Sentinel → ColumnMap → Plan → ℕ → Column → Bool
column_met s mapping plan number column = meets s (record { lower = column.lower; upper = column.upper }) (times_one (pos (on_column mapping plan number)))

-- the programme admits the plan
unfoldable pub admits : ColumnMap → Programme → Plan → Bool
admits mapping p plan =
    all_from (equal_in_column plan mapping.mapped_edges) 0 mapping.mapped_edges
    && all_from (column_met p.sentinel mapping plan) 0 p.columns
    && all_from (row_met p.sentinel mapping plan) 0 p.varying
    && all_from (row_met p.sentinel mapping plan) 0 p.fixed

-- A step's effect on the programme (BuiltSolver::update, then apply_updated_coefficients). Assumes nothing.
use Rattle.std.specs.Prelude.{ℕ, zero, suc, ◌+◌, List, [], ◌∷◌, map, cond, length, get_or, eqb, Float}
use Rattle.std.specs.Float.Ieee.{neg}
use Rattle.pywr.specs.declared.Sentinel.{Sentinel}
use Rattle.pywr.specs.declared.Interval.{Interval}
use Rattle.pywr.specs.Numbers.{high, lesser}
use Rattle.pywr.specs.Network.{Period}
use Rattle.pywr.specs.Rows.{Element, element}
use Rattle.pywr.specs.Programme.{Column, Row, Programme, RowType, continuous, binary_upper, binary_lower, NodeRow, VirtualStorageShape, Shape}
use Rattle.pywr.specs.Interval.{tighten, sentinels, zero_to_high}
use Rattle.pywr.specs.StepFile.{StepFile}
use Rattle.pywr.specs.StepIntervals.{intervals, Intervals}
use Rattle.pywr.specs.Costs.{step_costs}

-- the row of a number, changed
unfoldable pub adjust : (Row → Row) → ℕ → List Row → List Row
adjust change number [] = []
adjust change zero (row ∷ rows) = change row ∷ rows
adjust change (suc number) (row ∷ rows) = row ∷ adjust change number rows

-- a row with the interval as its bounds
unfoldable pub with_bounds : Interval → Row → Row
with_bounds interval row = record { lower = interval.lower; upper = interval.upper; elements = row.elements }

-- apply_row_bounds: a row's bounds tightened by the interval
unfoldable pub apply_row_bounds : Interval → Row → Row
apply_row_bounds interval row = with_bounds (tighten (record { lower = row.lower; upper = row.upper }) interval) row

-- the value of the element on a column, changed
unfoldable pub change_coefficient : ℕ → (Float → Float) → List Element → List Element
change_coefficient column change [] = []
change_coefficient column change (e ∷ es) =
    cond (eqb e.column column) (element column (change e.value) ∷ es) (e ∷ change_coefficient column change es)

unfoldable pub with_coefficient : ℕ → (Float → Float) → Row → Row
with_coefficient column change row = record { lower = row.lower; upper = row.upper; elements = change_coefficient column change row.elements }

-- each node row in turn, its row changed
unfoldable pub over_node_rows : (NodeRow → Row → Row) → List NodeRow → List Row → List Row
over_node_rows change [] rows = rows
over_node_rows change (n ∷ ns) rows = over_node_rows change ns (adjust (change n) n.row rows)

-- the interval of a node row's node
unfoldable pub interval_for : Sentinel → List Interval → NodeRow → Interval
interval_for s of_nodes n = get_or of_nodes n.node (sentinels s)

-- update_node_constraint_bounds: a node's interval tightens its continuous row
unfoldable pub apply_interval : RowType → Interval → Row → Row
apply_interval continuous interval row = apply_row_bounds interval row
apply_interval binary_upper interval row = row
apply_interval binary_lower interval row = row

unfoldable pub apply_node_rows : Sentinel → List Interval → List NodeRow → List Row → List Row
apply_node_rows s of_nodes node_rows rows = over_node_rows (λ n. apply_interval n.row_type (interval_for s of_nodes n)) node_rows rows

-- document 02, L3: "these rows stay at lower 0, upper high sentinel, after every step". The coefficient of the step before is set aside: the high sentinel
-- is over every coefficient that 21 lets through
unfoldable pub reset_binary_row : Sentinel → RowType → ℕ → Row → Row
reset_binary_row s continuous column row = row
reset_binary_row s binary_upper column row = with_coefficient column (λ held. high s) (with_bounds (zero_to_high s) row)
reset_binary_row s binary_lower column row = with_coefficient column (λ held. high s) (with_bounds (zero_to_high s) row)

-- `edge_columns + n.set` is the integer column of the node row's exclusive set
unfoldable pub reset_binary_rows : Sentinel → ℕ → List NodeRow → List Row → List Row
reset_binary_rows s edge_columns node_rows rows = over_node_rows (λ n. reset_binary_row s n.row_type (edge_columns + n.set)) node_rows rows

-- "the integer column's coefficient becomes the upper bound, or minus the lower, uncapped"; L3: "on a shared row the smallest of that step's coefficients
-- stands", of equal ones the one already held
unfoldable pub apply_coefficient : RowType → ℕ → Interval → Row → Row
apply_coefficient continuous column interval row = row
apply_coefficient binary_upper column interval row = with_coefficient column (λ held. lesser held interval.upper) row
apply_coefficient binary_lower column interval row = with_coefficient column (λ held. lesser held (neg interval.lower)) row

-- apply_updated_coefficients
unfoldable pub apply_coefficients : Sentinel → ℕ → List Interval → List NodeRow → List Row → List Row
apply_coefficients s edge_columns of_nodes node_rows rows =
    over_node_rows (λ n. apply_coefficient n.row_type (edge_columns + n.set) (interval_for s of_nodes n)) node_rows rows

-- one interval after another, each on the row of its number: those of the aggregates, and then of the virtual storages
unfoldable pub apply_intervals : List ℕ → List Interval → List Row → List Row
apply_intervals [] is rows = rows
apply_intervals (number ∷ numbers) [] rows = rows
apply_intervals (number ∷ numbers) (i ∷ is) rows = apply_intervals numbers is (adjust (λ row. apply_row_bounds i row) number rows)

unfoldable pub row_of : VirtualStorageShape → ℕ
row_of v = v.row

unfoldable pub period_of : VirtualStorageShape → Period
period_of v = v.period

-- "A step resets varying rows to the sentinels, then applies each interval"; the binary rows come last, so that no interval moves their bounds
unfoldable pub step_rows : Sentinel → Shape → Intervals → List Row → List Row
step_rows s shape i rows =
    let reset : List Row = map (with_bounds (sentinels s)) rows in
    let nodes : List Row = apply_node_rows s i.nodes shape.node_rows reset in
    let groups : List Row = apply_intervals shape.aggregates i.aggregates nodes in
    let virtual_storages : List Row = apply_intervals (map row_of shape.virtual_storages) i.virtual_storages groups in
    let binary : List Row = reset_binary_rows s shape.edge_columns shape.node_rows virtual_storages in
    apply_coefficients s shape.edge_columns i.nodes shape.node_rows binary

unfoldable pub periods : Shape → List Period
periods shape = map period_of shape.virtual_storages

unfoldable pub with_costs : List Column → List Float → List Column
with_costs [] costs = []
with_costs (c ∷ cs) [] = []
with_costs (c ∷ cs) (cost ∷ costs) = record { integer = c.integer; lower = c.lower; upper = c.upper; cost = cost } ∷ with_costs cs costs

-- the programme after a step: new costs, and the varying rows
unfoldable pub stepped : Shape → StepFile → Programme → Programme
stepped shape file p =
    record {
      sentinel = p.sentinel;
      columns = with_costs p.columns (step_costs shape (length p.columns) file.nodes);
      varying = step_rows p.sentinel shape (intervals p.sentinel (periods shape) file) p.varying;
      fixed = p.fixed;
    }

-- The costs of a step, over any accepted build and any list of steps, and what the order of summing changes (document 02, L10): nothing where all costs are
-- whole numbers, and little where they are small. Assumes nothing.
use Rattle.std.specs.Prelude.{◌≡◌, ℕ, ◌*◌, ◌%◌, ◌^◌, ◌<◌, List, [], ◌∷◌, map, Bool, true, cond, ◌&&◌, length, get_or, ℤ, pos, neg_ℤ, ◌+ℤ◌, ◌-ℤ◌, nat_abs, eqb, leb, Float}
use Rattle.std.proofs.Math.Option.{none, some}
use Rattle.std.specs.Float.{binary64}
use Rattle.doubles.specs.Sums.{add_all}
use Rattle.pywr.specs.declared.Sentinel.{Sentinel}
use Rattle.pywr.specs.Result.{value}
use Rattle.pywr.specs.Numbers.{zero64}
use Rattle.pywr.specs.Network.{link, storage, Edge, Network, kind_of, keep_if}
use Rattle.pywr.specs.NetworkFile.{parse_network}
use Rattle.pywr.specs.ColEdgeMap.{columns, column_of}
use Rattle.pywr.specs.FlowOrder.{edge_order, edge_numbered, flow_order}
use Rattle.pywr.specs.Programme.{Column}
use Rattle.pywr.specs.Build.{programme_of}
use Rattle.pywr.specs.StepFile.{NodeStep, StepFile}
use Rattle.pywr.specs.Costs.{edge_cost, cost_at, edge_order_costs}
use Rattle.pywr.specs.Store.{Store, programme_in}
use Rattle.pywr.specs.Calls.{build_answer, build_store, is_accepted}
use Rattle.pywr.specs.Plans.{exact, units_in_one, is_finite, all_from}
use Rattle.pywr.specs.Correspondence.{Call, store_after, reports, last_accepted, read_by}

-- ---- the costs that a store holds

-- the cost of each column
unfoldable pub costs_in : Store → List Float
costs_in store = map (λ (c : Column). c.cost) (programme_in store).columns

-- an edge's cost in a step, by its number
unfoldable pub cost_of_edge : Network → List NodeStep → ℕ → Float
cost_of_edge net steps number =
    let edge : Edge = edge_numbered net number in
    edge_cost (kind_of net.nodes edge.from) (cost_at steps edge.from) (kind_of net.nodes edge.to) (cost_at steps edge.to)

-- of these edges those that have the column
unfoldable pub on_column : Network → ℕ → List ℕ → List ℕ
on_column net column [] = []
on_column net column (edge ∷ edges) = keep_if (eqb (column_of net edge) column) edge (on_column net column edges)

-- a column's edges in flow order, and in edge order
unfoldable pub column_downstream : Network → ℕ → List ℕ
column_downstream net column = on_column net column (flow_order net)

unfoldable pub column_by_number : Network → ℕ → List ℕ
column_by_number net column = on_column net column (edge_order net)

-- ---- the premises

-- "all costs are whole numbers": the costs of the step file
unfoldable pub whole_costs : List NodeStep → Bool
whole_costs steps = all_from (λ (node : ℕ) (step : NodeStep). eqb (nat_abs (exact step.cost) % units_in_one) 0) 0 steps

-- "no cost exceeds 1,000 in magnitude"
unfoldable pub small_costs : List NodeStep → Bool
small_costs steps = all_from (λ (node : ℕ) (step : NodeStep). leb (nat_abs (exact step.cost)) (1000 * units_in_one)) 0 steps

-- ---- "the exact sum of the exact edge costs", in units of 2 ^ -1075, so that half a double is a whole number of them

unfoldable pub halves : Float → ℤ
halves x = exact x +ℤ exact x

-- "A link gives half its cost either way; storage minus its cost out, plus in."
unfoldable pub exact_outgoing : ℕ → Float → ℤ
exact_outgoing kind cost = cond (eqb kind link) (exact cost) (cond (eqb kind storage) (neg_ℤ (halves cost)) (halves cost))

unfoldable pub exact_incoming : ℕ → Float → ℤ
exact_incoming kind cost = cond (eqb kind link) (exact cost) (halves cost)

unfoldable pub exact_cost : Network → List NodeStep → ℕ → ℤ
exact_cost net steps number =
    let edge : Edge = edge_numbered net number in
    exact_outgoing (kind_of net.nodes edge.from) (cost_at steps edge.from) +ℤ exact_incoming (kind_of net.nodes edge.to) (cost_at steps edge.to)

-- over these edges
unfoldable pub exact_sum : Network → List NodeStep → List ℕ → ℤ
exact_sum net steps [] = pos 0
exact_sum net steps (edge ∷ edges) = exact_cost net steps edge +ℤ exact_sum net steps edges

-- "within 2^-24", which is 2 ^ 1051 of these units
unfoldable pub is_near : Float → ℤ → Bool
is_near x sum = is_finite x && leb (nat_abs (halves x -ℤ sum)) (2 ^ 1051)

-- ---- the statements

-- after an accepted build and any list of steps, refused ones too, of which the last accepted one has the file and reads as `step`
pub record Stepped : Type 0 where
  pub network_file : List ℕ
  pub sentinel : Sentinel
  pub old : Store
  pub words : List ℕ
  pub numbers : List Float
  pub net : Network
  pub calls : List Call
  pub file : List ℕ
  pub step : StepFile
  pub parsed : parse_network network_file ≡ value net
  pub accepted : is_accepted (build_answer sentinel network_file old words numbers) ≡ true
  pub last : last_accepted none (reports (build_store sentinel network_file old words numbers) calls) ≡ some file
  pub read : read_by net file ≡ value step

-- the store then, and the costs of its columns in edge order
abbrev pub store_then : Stepped → Store
store_then s = store_after (build_store s.sentinel s.network_file s.old s.words s.numbers) s.calls

abbrev pub costs_in_edge_order : Stepped → List Float
costs_in_edge_order s = edge_order_costs (programme_of s.sentinel s.net).shape (length (programme_in (store_then s)).columns) s.step.nodes

-- "Sum each column in flow order", from 0.0
abbrev pub FlowCosts : Type 0
FlowCosts = (s : Stepped) (column : ℕ) → column < (columns s.net).count
    → get_or (costs_in (store_then s)) column zero64 ≡ add_all binary64 zero64 (map (cost_of_edge s.net s.step.nodes) (column_downstream s.net column))

-- "Where all costs are whole numbers, the coefficient equals the one from edge order, bit for bit."
abbrev pub WholeCosts : Type 0
WholeCosts = (s : Stepped) → whole_costs s.step.nodes ≡ true → costs_in (store_then s) ≡ costs_in_edge_order s

-- "Where no cost exceeds 1,000 in magnitude, either order is within 2^-24 of the exact sum of the exact edge costs."
abbrev pub SmallCosts : Type 0
SmallCosts = (s : Stepped) → small_costs s.step.nodes ≡ true → (column : ℕ) → column < (columns s.net).count
    → (is_near (get_or (costs_in (store_then s)) column zero64) (exact_sum s.net s.step.nodes (column_by_number s.net column)) ≡ true)
    × (is_near (get_or (costs_in_edge_order s) column zero64) (exact_sum s.net s.step.nodes (column_by_number s.net column)) ≡ true)

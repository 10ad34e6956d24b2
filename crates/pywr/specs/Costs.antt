-- The cost of an edge and of a column (edge.rs, node.rs). Assumes nothing.
use Rattle.std.specs.Prelude.{ℕ, zero, suc, List, [], ◌∷◌, map, cond, get_or, set, replicate, eqb, Float}
use Rattle.std.specs.Float.{binary64}
use Rattle.std.specs.Float.Ieee.{add, div, neg}
use Rattle.pywr.specs.Numbers.{zero64, two64}
use Rattle.pywr.specs.Network.{link, storage}
use Rattle.pywr.specs.ColEdgeMap.{MappedEdge}
use Rattle.pywr.specs.Programme.{NodeShape, Shape}
use Rattle.pywr.specs.StepFile.{NodeStep}

-- "A link gives half its cost either way; storage minus its cost out, plus in."
unfoldable pub outgoing_cost : ℕ → Float → Float
outgoing_cost kind cost = cond (eqb kind link) (div binary64 cost two64) (cond (eqb kind storage) (neg cost) cost)

unfoldable pub incoming_cost : ℕ → Float → Float
incoming_cost kind cost = cond (eqb kind link) (div binary64 cost two64) cost

-- "Cost: from's outgoing plus to's incoming."
unfoldable pub edge_cost : ℕ → Float → ℕ → Float → Float
edge_cost from_kind from_cost to_kind to_cost = add binary64 (outgoing_cost from_kind from_cost) (incoming_cost to_kind to_cost)

-- a node's kind and its cost, by its number
unfoldable pub kind_at : List NodeShape → ℕ → ℕ
kind_at [] node = 0
kind_at (x ∷ xs) zero = x.kind
kind_at (x ∷ xs) (suc node) = kind_at xs node

unfoldable pub cost_at : List NodeStep → ℕ → Float
cost_at [] node = zero64
cost_at (x ∷ xs) zero = x.cost
cost_at (x ∷ xs) (suc node) = cost_at xs node

-- the costs of these edges added into their columns, one after the other
unfoldable pub add_costs : List NodeShape → List NodeStep → List MappedEdge → List Float → List Float
add_costs shapes steps [] costs = costs
add_costs shapes steps (edge ∷ edges) costs =
    let cost : Float = edge_cost (kind_at shapes edge.from) (cost_at steps edge.from) (kind_at shapes edge.to) (cost_at steps edge.to) in
    add_costs shapes steps edges (set costs edge.column (add binary64 (get_or costs edge.column zero64) cost))

-- the edges that have these numbers. A well-shaped store's numbers are under the edge count, so `no_mapped_edge` never stands
unfoldable pub no_mapped_edge : MappedEdge
no_mapped_edge = record { from = 0; to = 0; column = 0 }

unfoldable pub edges_numbered : List ℕ → List MappedEdge → List MappedEdge
edges_numbered numbers edges = map (λ (number : ℕ). get_or edges number no_mapped_edge) numbers

-- the cost of every column: "Sum each column in flow order" (document 02, L10), from 0.0
unfoldable pub step_costs : Shape → ℕ → List NodeStep → List Float
step_costs shape columns steps = add_costs shape.nodes steps (edges_numbered shape.flow_order shape.mapped_edges) (replicate columns zero64)

-- the same in edge order, "Costs add into the column in edge order from 0.0." (document 01); no step has these costs since L10 but where they are equal
unfoldable pub edge_order_costs : Shape → ℕ → List NodeStep → List Float
edge_order_costs shape columns steps = add_costs shape.nodes steps shape.mapped_edges (replicate columns zero64)

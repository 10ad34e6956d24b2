-- The network's side: what a network allows under a step's intervals, summed over its edges. Assumes nothing.
use Rattle.std.specs.Prelude.{ℕ, suc, ◌+◌, List, [], ◌∷◌, Bool, true, cond, not, ◌&&◌, ◌||◌, get_or, pos, neg_ℤ, ◌+ℤ◌, ◌-ℤ◌, leb, eqb, Float}
use Rattle.std.specs.Int.Signed.{le_z}
use Rattle.std.specs.Float.Ieee.{eq}
use Rattle.pywr.specs.declared.Sentinel.{Sentinel}
use Rattle.pywr.specs.declared.Interval.{Interval}
use Rattle.pywr.specs.Numbers.{zero64, million, millionth, lesser, greater}
use Rattle.pywr.specs.Network.{output, link, storage, Node, Edge, Aggregate, Part, VirtualStorage, Network, no_node, kind_of, is_exclusive, source, target}
use Rattle.pywr.specs.Interval.{sentinels}
use Rattle.pywr.specs.StepIntervals.{Intervals}
use Rattle.pywr.specs.Plans.{Amount, SignedAmount, Product, product, exact, meets, Plan, times_one, all_from}

-- the sum over the edges whose one end is the node; the first edge of the list has this number
unfoldable pub flow_with : (Edge → ℕ) → Plan → ℕ → ℕ → List Edge → Amount
flow_with end plan node number [] = 0
flow_with end plan node number (edge ∷ edges) = cond (eqb (end edge) node) (plan.amount number) 0 + flow_with end plan node (suc number) edges

unfoldable pub inflow : Network → Plan → ℕ → Amount
inflow net plan node = flow_with target plan node 0 net.edges

unfoldable pub outflow : Network → Plan → ℕ → Amount
outflow net plan node = flow_with source plan node 0 net.edges

-- a node's amount by its row's rule: "input and link use outgoing edges, output incoming, storage + incoming − outgoing"
unfoldable pub node_amount : Network → Plan → ℕ → SignedAmount
node_amount net plan node =
    cond (eqb (kind_of net.nodes node) output) (pos (inflow net plan node))
    (cond (eqb (kind_of net.nodes node) storage) (pos (inflow net plan node) -ℤ pos (outflow net plan node))
    (pos (outflow net plan node)))

unfoldable pub nodes_amount : Network → Plan → List ℕ → SignedAmount
nodes_amount net plan [] = pos 0
nodes_amount net plan (node ∷ nodes) = node_amount net plan node +ℤ nodes_amount net plan nodes

unfoldable pub sets_amount : Network → Plan → List (List ℕ) → SignedAmount
sets_amount net plan [] = pos 0
sets_amount net plan (set ∷ sets) = nodes_amount net plan set +ℤ sets_amount net plan sets

-- a virtual storage's amount: minus factor times amount, summed over its parts
unfoldable pub parts_sum : Network → Plan → List Part → Product
parts_sum net plan [] = pos 0
parts_sum net plan (part ∷ parts) = product (neg_ℤ (exact part.factor)) (node_amount net plan part.node) +ℤ parts_sum net plan parts

-- "each link's incoming amounts sum to its outgoing"
unfoldable pub balanced : Network → Plan → ℕ → Node → Bool
balanced net plan number node = not (eqb node.kind link) || eqb (inflow net plan number) (outflow net plan number)

-- "Intervals: a constant node's min and max; the step file's pair for any other node but storage ..; storage's .. by the rules above"
unfoldable pub own_interval : Sentinel → Intervals → ℕ → Node → Interval
own_interval s intervals number node =
    cond node.constant (record { lower = node.min; upper = node.max }) (get_or intervals.nodes number (sentinels s))

-- "every node in no exclusive set, every aggregate and every virtual storage has its amount .. in its interval"
unfoldable pub node_meets : Sentinel → Network → Intervals → Plan → ℕ → Node → Bool
node_meets s net intervals plan number node =
    is_exclusive net.aggregates number || meets s (own_interval s intervals number node) (times_one (node_amount net plan number))

unfoldable pub aggregate_meets : Sentinel → Network → Intervals → Plan → ℕ → Aggregate → Bool
aggregate_meets s net intervals plan number aggregate =
    meets s (get_or intervals.aggregates number (sentinels s)) (times_one (sets_amount net plan aggregate.sets))

unfoldable pub virtual_storage_meets : Sentinel → Network → Intervals → Plan → ℕ → VirtualStorage → Bool
virtual_storage_meets s net intervals plan number v = meets s (get_or intervals.virtual_storages number (sentinels s)) (parts_sum net plan v.parts)

-- a bound when the set is on, and 0 when it is off
unfoldable pub on_amount : Bool → Float → SignedAmount
on_amount on bound = cond on (exact bound) (pos 0)

-- a constant node's rule: "an exclusive node's amount is, per set, at most min(max, 1e6) when on and 0 when off, and if min isn't 0 at least
-- max(min, 1e-6) when on and 0 when off"
unfoldable pub exclusive_meets : Bool → Interval → SignedAmount → Bool
exclusive_meets on interval amount =
    le_z amount (on_amount on (lesser interval.upper million))
    && (eq interval.lower zero64 || le_z (on_amount on (greater interval.lower millionth)) amount)

-- document 02, L3, a varying node's: "flow between lower and upper when on, 0 when off"; an accepted step has no bound at or beyond a sentinel there (21)
unfoldable pub varying_exclusive_meets : Bool → Interval → SignedAmount → Bool
varying_exclusive_meets on interval amount = le_z amount (on_amount on interval.upper) && le_z (on_amount on interval.lower) amount

-- that of every node that a set lists; then of every set in a list
unfoldable pub member_meets : Sentinel → Network → Intervals → Plan → List ℕ → List ℕ → Bool
member_meets s net intervals plan set [] = true
member_meets s net intervals plan set (node ∷ nodes) =
    cond (get_or net.nodes node no_node).constant exclusive_meets varying_exclusive_meets (plan.on set)
    (own_interval s intervals node (get_or net.nodes node no_node))
    (node_amount net plan node)
    && member_meets s net intervals plan set nodes

unfoldable pub sets_meet : Sentinel → Network → Intervals → Plan → List (List ℕ) → Bool
sets_meet s net intervals plan [] = true
sets_meet s net intervals plan (set ∷ sets) = member_meets s net intervals plan set set && sets_meet s net intervals plan sets

-- "the on sets of each exclusive aggregate, repeats counted, lie in min_active..max_active"
unfoldable pub on_count : Plan → List (List ℕ) → ℕ
on_count plan [] = 0
on_count plan (set ∷ sets) = cond (plan.on set) 1 0 + on_count plan sets

unfoldable pub exclusivity_meets : Sentinel → Network → Intervals → Plan → ℕ → Aggregate → Bool
exclusivity_meets s net intervals plan number aggregate =
    not aggregate.exclusive
    || (sets_meet s net intervals plan aggregate.sets
    && leb aggregate.min_active (on_count plan aggregate.sets)
    && leb (on_count plan aggregate.sets) aggregate.max_active)

-- "The network allows a plan exactly if .."
unfoldable pub allows : Sentinel → Network → Intervals → Plan → Bool
allows s net intervals plan =
    all_from (balanced net plan) 0 net.nodes
    && all_from (node_meets s net intervals plan) 0 net.nodes
    && all_from (aggregate_meets s net intervals plan) 0 net.aggregates
    && all_from (virtual_storage_meets s net intervals plan) 0 net.virtual_storages
    && all_from (exclusivity_meets s net intervals plan) 0 net.aggregates

-- Flow order and costs on files, by computing the definitions: so that the statements are about something, and each exception and premise is needed.
-- Assumes nothing.
use mathlib.Core.Path.{◌≡◌, refl, ap}
use Prim.Native.Nat.{ℕ, ◌^◌}
use native.Mathlib.Omega.{arith}
use mathlib.Core.List.{List, [], ◌∷◌, ◌++◌}
use mathlib.Core.Bool.{true, false}
use mathlib.Core.Option.{none, some}
use lib.ListN.{length, replicate, length-append}
use lib.IntN.{ℤ, pos, negsuc, ◌-ℤ◌}
use lib.Ieee.{Float, fin, neg}
use Rattle.pywr.specs.declared.Sentinel.TheVariants.{Infinity}
use Rattle.pywr.specs.declared.NodeBounds.TheVariants.{Flow}
use Rattle.pywr.specs.Result.{value, Result, refused}
use Rattle.pywr.specs.Numbers.{double, zero64, one64}
use Rattle.pywr.specs.Network.{input, output, link, storage, Node, Edge, Network}
use Rattle.pywr.specs.NetworkFile.{parse_network}
use Rattle.pywr.specs.ColEdgeMap.{columns}
use Rattle.pywr.specs.Programme.{Shape}
use Rattle.pywr.specs.Build.{programme_of}
use Rattle.pywr.specs.StepFile.{NodeStep, StepFile}
use Rattle.pywr.specs.Costs.{step_costs, edge_order_costs}
use Rattle.pywr.specs.Store.{Store}
use Rattle.pywr.specs.Calls.{words_needed, numbers_needed, build_store}
use Rattle.pywr.specs.Correspondence.{Call, reports, last_accepted, read_by}
use Rattle.pywr.specs.FileBytes.{varying, edge, date, node_step}
use Rattle.pywr.specs.Compute.{computing}
use Rattle.pywr.specs.Cases.{order_of, costs_of, chain_nodes, mixed_chain, ordered_chain, closed_ring, blank, work}
use Rattle.theorem_costs.specs.FlowPlaces.{RightBehind}
use Rattle.theorem_costs.specs.CostOrder.{costs_in, cost_of_edge, on_column, column_downstream, column_by_number, whole_costs, small_costs}
use Rattle.theorem_costs.specs.CostOrder.{halves, exact_outgoing, exact_incoming, exact_cost, exact_sum, is_near, Stepped, store_then}

-- ---- orders, beside those of document 01's chain and of a closed ring, which `Cases` has

-- the closed ring's order is 1, 0, 3, 2: edge 2 leads into edge 0, where the ring starts, and stands behind it
ring_start : (front rest : List ℕ) → 1 ∷ 0 ∷ 3 ∷ 2 ∷ [] ≡ front ++ 2 ∷ 0 ∷ rest → ⊥
ring_start [] rest e = let z : ◌≡◌ {A = ℕ} 1 2 = cc in omega arith
ring_start (a ∷ []) rest e = let z : ◌≡◌ {A = ℕ} 0 2 = cc in omega arith
ring_start (a ∷ b ∷ []) rest e = let z : ◌≡◌ {A = ℕ} 3 2 = cc in omega arith
ring_start (a ∷ b ∷ c ∷ front) rest e = let l = ap length e in let k = length-append front (2 ∷ 0 ∷ rest) in omega arith

-- two links that lead from a storage back to it
storage_loop : List ℕ
storage_loop = varying storage ++ varying link ++ varying link ++ edge 1 2 ++ edge 2 0 ++ edge 0 1

-- the closed ring with 4→2 keyed first
turned_ring : List ℕ
turned_ring = varying input ++ varying output ++ varying link ++ varying link ++ varying link ++ edge 4 2 ++ edge 0 1 ++ edge 2 3 ++ edge 3 4

-- of nodes 3 and 4 on the ring: edge costs 2 ^ 37 + 2 ^ -15, 2 ^ 37 and 2 ^ -15 from 3→4 on
ring_costs : List Float
ring_costs = zero64 ∷ zero64 ∷ zero64 ∷ fin false 1 (negsuc 13) ∷ fin false 1 (pos 38) ∷ []

-- ---- costs in flow order and in edge order

abbrev Summing : Type 0
Summing = Shape → ℕ → List NodeStep → List Float

sums_of : Summing → Network → Result StepFile → List Float
sums_of sums net (value step) = sums (programme_of Infinity net).shape (columns net).count step.nodes
sums_of sums net (refused number place) = []

costs_by : Summing → List ℕ → List ℕ → List Float
costs_by sums network file = of (parse_network network)
  where
    of : Result Network → List Float
    of (value net) = sums_of sums net (read_by net file)
    of (refused number place) = []

-- document 01's chain keyed in two more orders
ends_swapped : List ℕ
ends_swapped = chain_nodes ++ edge 0 1 ++ edge 1 2 ++ edge 3 4 ++ edge 2 3

upstream_chain : List ℕ
upstream_chain = chain_nodes ++ edge 3 4 ++ edge 2 3 ++ edge 1 2 ++ edge 0 1

-- of a node that is varying and no storage
cost_step : Float → List ℕ
cost_step cost = node_step cost zero64 one64 zero64

-- node costs 1e12, 0, 2 ^ -12, 2 ^ -13 and 0: edge costs 1e12, 2 ^ -13, 3 * 2 ^ -14 and 2 ^ -14 downstream, where doubles at 1e12 stand 2 ^ -13 apart
chain_step : List ℕ
chain_step =
    date 6 1 one64
    ++ cost_step (double 1000000000000)
    ++ cost_step zero64
    ++ cost_step (fin false 1 (negsuc 11))
    ++ cost_step (fin false 1 (negsuc 12))
    ++ cost_step zero64

-- ---- a build and a step on it

-- input 0, links 1 and 2, output 3; the first edge of the chain stands last in the file
short_chain : List ℕ
short_chain = varying input ++ varying link ++ varying link ++ varying output ++ edge 1 2 ++ edge 2 3 ++ edge 0 1

varying_node : ℕ → Node
varying_node kind = record { kind = kind; constant = false; min = zero64; max = zero64 }

edge_of : ℕ → ℕ → Edge
edge_of from to = record { from = from; to = to }

short_network : Network
short_network =
    record {
      nodes = varying_node input ∷ varying_node link ∷ varying_node link ∷ varying_node output ∷ [];
      edges = edge_of 1 2 ∷ edge_of 2 3 ∷ edge_of 0 1 ∷ [];
      aggregates = [];
      virtual_storages = [];
    }

step_with : Float → Float → Float → Float → List ℕ
step_with a b c d = date 6 1 one64 ++ cost_step a ++ cost_step b ++ cost_step c ++ cost_step d

-- what is read of it
node_read : Float → NodeStep
node_read cost = record { cost = cost; bounds = some (Flow zero64 one64) }

step_read : Float → Float → Float → Float → StepFile
step_read a b c d =
    record {
      month = 6;
      day = 1;
      days = one64;
      nodes = node_read a ∷ node_read b ∷ node_read c ∷ node_read d ∷ [];
      aggregates = [];
      virtual_storages = [];
    }

short_store : Store
short_store = build_store Infinity short_chain blank (replicate words_needed 0) (replicate numbers_needed zero64)

called : List ℕ → List Call
called file = record { file = file; work = work } ∷ []

stepped : (file : List ℕ) (step : StepFile) → last_accepted none (reports short_store (called file)) ≡ some file → read_by short_network file ≡ value step
    → Stepped
unfolding computing blank work short_chain varying_node edge_of short_network short_store
stepped file step last read =
    record {
      network_file = short_chain;
      sentinel = Infinity;
      old = blank;
      words = replicate words_needed 0;
      numbers = replicate numbers_needed zero64;
      net = short_network;
      calls = called file;
      file = file;
      step = step;
      parsed = refl;
      accepted = refl;
      last = last;
      read = read;
    }

-- node costs 2 ^ -30, 0, 2 ^ 39 and -2 ^ 39: edge costs 2 ^ -30, 2 ^ 38 and -2 ^ 38 downstream
lost_file : List ℕ
lost_file = step_with (fin false 1 (negsuc 29)) zero64 (fin false 1 (pos 39)) (fin true 1 (pos 39))

lost : Stepped
unfolding computing blank work short_chain varying_node edge_of short_network cost_step step_with node_read step_read short_store called lost_file
lost = stepped lost_file (step_read (fin false 1 (negsuc 29)) zero64 (fin false 1 (pos 39)) (fin true 1 (pos 39))) refl refl

-- small node costs 1,000, 0, 2 ^ -43 and 0: edge costs 1,000, 2 ^ -44 and 2 ^ -44 downstream, where doubles at 1,000 stand 2 ^ -43 apart
small_file : List ℕ
small_file = step_with (double 1000) zero64 (fin false 1 (negsuc 42)) zero64

small : Stepped
unfolding computing blank work short_chain varying_node edge_of short_network cost_step step_with node_read step_read short_store called small_file
small = stepped small_file (step_read (double 1000) zero64 (fin false 1 (negsuc 42)) zero64) refl refl

-- whole node costs 7, 3, -5 and 1e12
whole_file : List ℕ
whole_file = step_with (double 7) (double 3) (fin true 5 (pos 0)) (double 1000000000000)

whole_step : StepFile
whole_step = step_read (double 7) (double 3) (fin true 5 (pos 0)) (double 1000000000000)

-- of column 0, the exact sum of the exact edge costs
exactly : Stepped → ℤ
exactly s = exact_sum s.net s.step.nodes (column_by_number s.net 0)

-- ---- the table

pub record FlowExample : Type 0 where
  -- `downstream` needs its exception
  ring : RightBehind (order_of (parse_network closed_ring)) 0 2 → ⊥
  -- a column that comes back to its start through a storage starts there: 0→1, 1→2, 2→0
  loop : order_of (parse_network storage_loop) ≡ 2 ∷ 0 ∷ 1 ∷ []
  -- a chain keyed in four orders has one cost, 1e12 + 2 ^ -12; in edge order it would have three: 1e12 + 2, 3 and 4 times 2 ^ -13
  ordered : costs_by step_costs ordered_chain chain_step ≡ fin false 4096000000000001 (negsuc 11) ∷ []
  mixed_cost : costs_by step_costs mixed_chain chain_step ≡ fin false 4096000000000001 (negsuc 11) ∷ []
  swapped : costs_by step_costs ends_swapped chain_step ≡ fin false 4096000000000001 (negsuc 11) ∷ []
  upstream : costs_by step_costs upstream_chain chain_step ≡ fin false 4096000000000001 (negsuc 11) ∷ []
  ordered_sum : costs_by edge_order_costs ordered_chain chain_step ≡ fin false 4096000000000001 (negsuc 11) ∷ []
  mixed_sum : costs_by edge_order_costs mixed_chain chain_step ≡ fin false 8192000000000003 (negsuc 12) ∷ []
  swapped_sum : costs_by edge_order_costs ends_swapped chain_step ≡ fin false 2048000000000001 (negsuc 10) ∷ []
  upstream_sum : costs_by edge_order_costs upstream_chain chain_step ≡ fin false 8192000000000003 (negsuc 12) ∷ []
  -- a closed ring keyed in two orders has two costs, 2 ^ 38 and 2 ^ 38 + 2 ^ -14: `CostFileOrder` needs its premise
  ring_cost : costs_of (parse_network closed_ring) ring_costs ≡ fin false 1 (pos 38) ∷ zero64 ∷ []
  turned_ring_cost : costs_of (parse_network turned_ring) ring_costs ≡ fin false 4503599627370497 (negsuc 13) ∷ zero64 ∷ []
  -- from 0.0: costs of -0.0 come to 0.0
  minus_zeros : costs_by step_costs short_chain (step_with (neg zero64) (neg zero64) (neg zero64) (neg zero64)) ≡ zero64 ∷ []
  -- 2 ^ -30 is lost downstream and kept in edge order: without the premise of `WholeCosts` the two differ
  lost_cost : costs_in (store_then lost) ≡ zero64 ∷ []
  lost_sum : costs_by edge_order_costs short_chain lost_file ≡ fin false 1 (negsuc 29) ∷ []
  lost_not_whole : whole_costs lost.step.nodes ≡ false
  -- 1,000 downstream, 1,000 + 2 ^ -43 in edge order, which is the exact sum: the two are not equal, and the first is not within 2 ^ -44
  small_premise : small_costs small.step.nodes ≡ true
  small_cost : costs_in (store_then small) ≡ fin false 125 (pos 3) ∷ []
  small_sum : costs_by edge_order_costs short_chain small_file ≡ fin false 8796093022208001 (negsuc 42) ∷ []
  small_off : exactly small -ℤ halves (fin false 125 (pos 3)) ≡ pos (2 ^ 1032)
  -- 1e12 + 5 in either order
  whole_read : read_by short_network whole_file ≡ value whole_step
  whole_premise : whole_costs whole_step.nodes ≡ true
  whole_cost : costs_by step_costs short_chain whole_file ≡ fin false 1000000000005 (pos 0) ∷ []
  whole_sum : costs_by edge_order_costs short_chain whole_file ≡ fin false 1000000000005 (pos 0) ∷ []

pub flow_example : FlowExample
unfolding computing chain_nodes mixed_chain ordered_chain blank work order_of costs_of closed_ring storage_loop turned_ring ring_costs sums_of costs_by ends_swapped
    upstream_chain cost_step chain_step short_chain varying_node edge_of short_network step_with node_read step_read short_store called stepped lost_file lost
    small_file small whole_file whole_step exactly costs_in cost_of_edge on_column column_downstream column_by_number whole_costs small_costs halves
    exact_outgoing exact_incoming exact_cost exact_sum is_near
flow_example =
    record {
      ring = λ r. ring_start r.front r.rest r.is;
      loop = refl;
      ordered = refl;
      mixed_cost = refl;
      swapped = refl;
      upstream = refl;
      ordered_sum = refl;
      mixed_sum = refl;
      swapped_sum = refl;
      upstream_sum = refl;
      ring_cost = refl;
      turned_ring_cost = refl;
      minus_zeros = refl;
      lost_cost = refl;
      lost_sum = refl;
      lost_not_whole = refl;
      small_premise = refl;
      small_cost = refl;
      small_sum = refl;
      small_off = refl;
      whole_read = refl;
      whole_premise = refl;
      whole_cost = refl;
      whole_sum = refl;
    }

-- The costs in the store after an accepted build and any list of steps are those of the last accepted step's file: `FlowCosts`, proved. Assumes nothing.
use mathlib.Core.Path.{◌≡◌, refl, sym, ap, ◌∙◌, subst}
use Prim.Native.Nat.{ℕ, zero, suc, ◌+◌, ◌<◌, ◌≤◌}
use native.Mathlib.Omega.{arith}
use mathlib.Core.List.Permᴰ
use mathlib.Core.List.{List, map, Permᴰ}
use mathlib.Core.Option.{Option, none, some}
use lib.ListN.{length, get_or, replicate, length-replicate}
use lib.Ieee.{Float}
use Rattle.pywr.specs.Result.{value}
use Rattle.pywr.specs.Numbers.{zero64}
use Rattle.pywr.specs.Network.{Network}
use Rattle.pywr.specs.ColEdgeMap.{columns, mapped_edges}
use Rattle.pywr.specs.FlowOrder.{numbers_from, edge_order, flow_order}
use Rattle.pywr.specs.Rows.{column_map}
use Rattle.pywr.specs.Programme.{Column, Programme, Built}
use Rattle.pywr.specs.Build.{assemble, programme_of, node_shape}
use Rattle.pywr.specs.StepFile.{NodeStep, StepFile}
use Rattle.pywr.specs.Costs.{add_costs, edges_numbered, step_costs, edge_order_costs}
use Rattle.pywr.specs.Store.{Store, programme_in}
use Rattle.pywr.specs.Calls.{build_store, store_of_step}
use Rattle.pywr.proofs.ListLaws.{AllMem, all_none, all_cons}
use Rattle.pywr.proofs.ReadLaws.{Sound, read_sound, same_value}
use Rattle.pywr.proofs.Represents.{Represents, programme_back}
use Rattle.pywr.proofs.RunLaws.{costs_length, stepped_length, stepped_costs, after, after_held, Reached, run}
use Rattle.pywr.proofs.DemandThree.{build_accepted, build_represents, read_alike}
use Rattle.pywr.proofs.OnceLaws.{numbers_perm_length}
use Rattle.pywr.proofs.FlowLaws.{flow_perm, flow_below}
use Rattle.theorem_costs.specs.CostOrder.{costs_in, column_downstream, Stepped, store_then, costs_in_edge_order, FlowCosts}
use Rattle.theorem_costs.proofs.ColumnSums.{edge_order_lem, column_sum}

module _ (s : Stepped) where
  abbrev b : Built
  b = programme_of s.sentinel s.net

  abbrev start : Store
  start = build_store s.sentinel s.network_file s.old s.words s.numbers

  sound : Sound s.net
  sound = read_sound s.network_file s.net s.parsed

  held : Represents start b
  held = build_represents s.sentinel s.net s.old s.network_file s.words s.numbers sound
      (build_accepted s.sentinel s.net s.old s.network_file s.words s.numbers s.parsed s.accepted)

  programme_then : programme_in (store_then s) ≡ (after start b held s.step).programme
  unfolding Reached
  programme_then =
      let r : Reached start b held (some s.file) (store_then s) =
      subst (λ (o : Option (List ℕ)). Reached start b held o (store_then s)) s.last (run start b held s.calls start none refl) in
      let same : r.0 ≡ s.step = same_value r.0 s.step (sym (sym (read_alike s.sentinel s.net s.file) ∙ r.1) ∙ s.read) in
      ap programme_in r.2
      ∙ programme_back (store_of_step start (value r.0)) (after start b held r.0) (after_held start b held r.0)
      ∙ ap (λ (f : StepFile). (after start b held f).programme) same

  -- as many columns as the build made
  columns_then : length (programme_in (store_then s)).columns ≡ length b.programme.columns
  columns_then = ap (λ (p : Programme). length p.columns) programme_then ∙ stepped_length b.shape s.step b.programme

  pub costs_then : costs_in (store_then s)
      ≡ step_costs (programme_of s.sentinel s.net).shape (length (programme_in (store_then s)).columns) s.step.nodes
  unfolding costs_in
  costs_then =
      ap (λ (p : Programme). map (λ (c : Column). c.cost) p.columns) programme_then
      ∙ stepped_costs b.shape s.step b.programme
      ∙ ap (λ (n : ℕ). step_costs b.shape n s.step.nodes) (sym columns_then)

  pub edge_columns_lem : (columns s.net).count ≤ length (programme_in (store_then s)).columns
  unfolding programme_of assemble column_map
  edge_columns_lem = let k = held.edge_columns in let n = held.column_count in let l = columns_then in omega arith

module _ (net : Network) (steps : List NodeStep) (columns : ℕ) where
  -- the costs from edges taken in any order, over the network's own tables
  abbrev pub costs_over : List ℕ → List Float
  costs_over order = add_costs (map node_shape net.nodes) steps (edges_numbered order (mapped_edges net)) (replicate columns zero64)

  pub over_length : (order : List ℕ) → length (costs_over order) ≡ columns
  over_length order =
      costs_length (map node_shape net.nodes) steps (edges_numbered order (mapped_edges net)) (replicate columns zero64) ∙ length-replicate columns zero64

-- ---- orders of a network's edges: every edge once

pub record EdgeOrder (net : Network) (order : List ℕ) : Type 0 where
  pub perm : Permᴰ (edge_order net) order
  pub below : AllMem (λ (e : ℕ). e < length net.edges) order

pub flow_order_lem : (net : Network) → EdgeOrder net (flow_order net)
flow_order_lem net = record { perm = flow_perm net; below = flow_below net }

numbers_below : (n i size : ℕ) → i + n ≤ size → AllMem (λ (e : ℕ). e < size) (numbers_from i n)
unfolding numbers_from
numbers_below zero i size h = all_none (λ (e : ℕ). e < size)
numbers_below (suc n) i size h = all_cons (λ (e : ℕ). e < size) i (numbers_from (suc i) n) (omega arith) (numbers_below n (suc i) size (omega arith))

pub edge_order_itself : (net : Network) → EdgeOrder net (edge_order net)
unfolding edge_order
edge_order_itself net =
    record {
      perm = Permᴰ.refl (edge_order net);
      below = numbers_below (length net.edges) 0 (length net.edges) (omega arith);
    }

-- of a network that was read at most 512
pub order_few : (s : Stepped) (order : List ℕ) → EdgeOrder s.net order → length order ≤ 512
unfolding edge_order
order_few s order o =
    let n = numbers_perm_length (length s.net.edges) order o.perm in
    let h = (sound s).good.edge_count in
    omega arith

-- ---- both costs by their orders

module _ (s : Stepped) where
  abbrev net : Network
  net = s.net

  abbrev count : ℕ
  count = length (programme_in (store_then s)).columns

  pub flow_costs_over : costs_in (store_then s) ≡ costs_over s.net s.step.nodes (length (programme_in (store_then s)).columns) (flow_order s.net)
  unfolding step_costs programme_of assemble column_map
  flow_costs_over = costs_then s

  pub edge_costs_over : costs_in_edge_order s
      ≡ costs_over s.net s.step.nodes (length (programme_in (store_then s)).columns) (edge_order s.net)
  unfolding edge_order_costs programme_of assemble column_map
  edge_costs_over =
      ap (λ (ps : List _). add_costs (map node_shape net.nodes) s.step.nodes ps (replicate count zero64)) (sym (edge_order_lem net))

-- "Sum each column in flow order"
pub flow_costs : FlowCosts
unfolding column_downstream
flow_costs s column h =
    ap (λ (costs : List Float). get_or costs column zero64) (flow_costs_over s)
    ∙ column_sum s.net s.step.nodes column (length (programme_in (store_then s)).columns) (flow_order s.net) (flow_below s.net)
    (let l = edge_columns_lem s in omega arith)

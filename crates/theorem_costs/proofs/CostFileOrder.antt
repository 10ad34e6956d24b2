-- A column that is no closed ring has one cost whatever the order of the file's edges: `CostFileOrder`, proved. Assumes nothing.
use mathlib.Core.Path.{◌≡◌, refl, sym, ap, ap₂, ◌∙◌, subst}
use Prim.Native.Nat.{ℕ, ◌<◌}
use mathlib.Core.List.{List, [], ◌∷◌, map}
use mathlib.Core.Option.{Option, none, some}
use lib.ListN.{length, get_or}
use lib.Dec.{T}
use lib.Ieee.{binary64}
use Rattle.doubles.specs.Sums.{add_all}
use Rattle.pywr.specs.Numbers.{zero64}
use Rattle.pywr.specs.Network.{Node, Edge, Network, kind_of, listed}
use Rattle.pywr.specs.ColEdgeMap.{column_of}
use Rattle.pywr.specs.FlowOrder.{no_edge, edge_numbered, flow_order}
use Rattle.pywr.specs.Build.{node_shape}
use Rattle.pywr.specs.StepFile.{NodeStep, StepFile, read_step}
use Rattle.pywr.specs.Costs.{edge_cost, cost_at}
use Rattle.pywr.specs.Correspondence.{read_by}
use Rattle.pywr.proofs.ListLaws.{not_found, found_get, below_found, found_below}
use Rattle.pywr.proofs.OnceLaws.{listed_here, listed_there}
use Rattle.pywr.proofs.FlowLaws.{flow_good, next_below}
use Rattle.pywr.proofs.ReadLaws.{Sound, read_sound, same_value}
use Rattle.theorem_file_order.specs.ColumnClasses.{PlainJoint}
use Rattle.theorem_file_order.specs.FileOrder.{SameButOrder, SameEdge}
use Rattle.theorem_file_order.specs.ProgrammeOrder.{SameNetwork}
use Rattle.theorem_file_order.proofs.Joints.{joint_shares, shares_joint}
use Rattle.theorem_file_order.proofs.Classes.{column_below}
use Rattle.theorem_file_order.proofs.Places.{turned, to, to_found, to_below}
use Rattle.theorem_file_order.proofs.Order.{joint_moves, together_there}
use Rattle.theorem_costs.specs.CostOrder.{costs_in, cost_of_edge, on_column, column_downstream, Stepped, store_then}
use Rattle.theorem_costs.specs.CostFileOrder.{OpenColumn, CostFileOrder}
use Rattle.theorem_costs.proofs.NextEdges.{next_of, next_prev, prev_next}
use Rattle.theorem_costs.proofs.FlowPlaces.{flow_places}
use Rattle.theorem_costs.proofs.ColumnChains.{on_listed, Chain, end, on_to, chain_once, chain}
use Rattle.theorem_costs.proofs.StoreCosts.{flow_costs}

-- ---- from the one file to the other

module _ (a b : Network) (same : SameButOrder a b) (sa : Sound a) (sb : Sound b) where
  abbrev there : ℕ → ℕ
  there e = to a b same e

  next_there : (x y : ℕ) → x < length a.edges → next_of a x ≡ some y → next_of b (there x) ≡ some (there y)
  next_there x y h q =
      let j = shares_joint a x y (next_prev a x y h q) in
      prev_next b (there x) (there y) (joint_shares b j.0 (there x) (there y) (joint_moves a b same sb.good.unrepeated j.0 x y j.1))

  back : (e : ℕ) → e < length a.edges → to b a (turned same) (there e) ≡ e
  back e h =
      let x = below_found a.edges e h in
      sa.good.unrepeated (to b a (turned same) (there e)) e x.0
      (to_found b a (turned same) (there e) x.0 (to_found a b same e x.0 x.1)) x.1

  same_edge : (e : ℕ) → e < length a.edges → SameEdge a b e (there e)
  same_edge e h = let x = below_found a.edges e h in record { edge = x.0; first = x.1; second = to_found a b same e x.0 x.1 }

  -- an edge costs the same in both
  cost_there : (steps : List NodeStep) (e : ℕ) → e < length a.edges → cost_of_edge b steps (there e) ≡ cost_of_edge a steps e
  unfolding cost_of_edge
  cost_there steps e h =
      let x = same_edge e h in
      sym
      (ap₂
      (λ (nodes : List Node) (edge : Edge).
      edge_cost (kind_of nodes edge.from) (cost_at steps edge.from) (kind_of nodes edge.to) (cost_at steps edge.to))
      same.nodes
      (found_get a.edges e x.edge no_edge x.first ∙ sym (found_get b.edges (there e) x.edge no_edge x.second)))

  costs_there : (steps : List NodeStep) (es : List ℕ) → ((e : ℕ) → T (listed e es) → e < length a.edges)
      → map (cost_of_edge b steps) (map there es) ≡ map (cost_of_edge a steps) es
  costs_there steps [] below = refl
  costs_there steps (e ∷ es) below =
      λ i. cost_there steps e (below e (listed_here e es)) i ∷ costs_there steps es (λ x t. below x (listed_there x e es t)) i

module _ (a b : Network) (same : SameButOrder a b) (sa : Sound a) (sb : Sound b) where
  none_there : (x : ℕ) → x < length a.edges → next_of a x ≡ none → next_of b (to a b same x) ≡ none
  none_there x h q = go (next_of b (to a b same x)) refl
    where
      go : (o : Option ℕ) → next_of b (to a b same x) ≡ o → next_of b (to a b same x) ≡ none
      go none r = r
      go (some z) r =
          let k = next_there b a (turned same) sb sa (to a b same x) z (to_below a b same x h) r in
          not_found (to b a (turned same) z) (sym q ∙ ap (next_of a) (sym (back a b same sa sb x h)) ∙ k)

  chain_there : (x : ℕ) (xs : List ℕ) → x < length a.edges → Chain a x xs → Chain b (to a b same x) (map (to a b same) xs)
  chain_there x xs h (end q) = end (none_there x h q)
  chain_there x (_ ∷ xs) h (on_to y q c) =
      on_to (to a b same y) (next_there a b same sa sb x y h q) (chain_there y xs (next_below a (edge_numbered a x) y q) c)

  -- a column that is no closed ring is none in the other either
  open_there : (e : ℕ) → e < length a.edges → OpenColumn a (column_of a e) → OpenColumn b (column_of b (to a b same e))
  open_there e h o =
      record {
        first = to a b same o.first;
        under = to_below a b same o.first o.under;
        lies =
            together_there a b same sa sb o.first e (to a b same o.first) (to a b same e)
            (same_edge a b same sa sb o.first o.under) (same_edge a b same sa sb e h) o.lies;
        none_into = λ n i j.
            o.none_into n (to b a (turned same) i)
            (subst (PlainJoint a n (to b a (turned same) i)) (back a b same sa sb o.first o.under)
            (joint_moves b a (turned same) sa.good.unrepeated n i (to a b same o.first) j));
      }

-- both read the same step
step_there : (s t : Stepped) → SameNetwork s.net t.net → s.file ≡ t.file → s.step ≡ t.step
unfolding read_by
step_there s t same file = same_value s.step t.step (sym s.read ∙ reading ∙ t.read)
  where
    reading : read_by s.net s.file ≡ read_by t.net t.file
    reading = λ i.
        read_step (map node_shape (same.but_order.nodes i)) (length (same.aggregates i)) (length (same.virtual_storages i)) (file i)

pub cost_file_order : CostFileOrder
unfolding column_downstream open_there
cost_file_order s t same file e e' x path-of =
    let a : Network = s.net in
    let b : Network = t.net in
    let but = same.but_order in
    let sa : Sound a = read_sound s.network_file a s.parsed in
    let sb : Sound b = read_sound t.network_file b t.parsed in
    let h : e < length a.edges = found_below a.edges e x.edge x.first in
    let at : to a b but e ≡ e' = sb.good.unrepeated (to a b but e) e' x.edge (to_found a b but e x.edge x.first) x.second in
    let c : ℕ = column_of a e in
    let d : ℕ = column_of b (to a b but e) in
    let there : OpenColumn b d = open_there a b but sa sb e h path-of in
    let es : List ℕ = on_column a c (flow_order a) in
    let path : on_column b d (flow_order b) ≡ map (to a b but) es =
    chain_once b (to a b but path-of.first) (on_column b d (flow_order b)) (map (to a b but) es)
    (chain b sb.noself (flow_places t.network_file b t.parsed) d there)
    (chain_there a b but sa sb path-of.first es path-of.under (chain a sa.noself (flow_places s.network_file a s.parsed) c path-of)) in
    flow_costs s c (column_below a sa.noself e h)
    ∙ ap (add_all binary64 zero64)
    (sym (costs_there a b but sa sb s.step.nodes es (λ y u. (flow_good a).below y (on_listed a c (flow_order a) y u).0))
    ∙ ap₂ (λ (step : StepFile) (l : List ℕ). map (cost_of_edge b step.nodes) l) (step_there s t same file) (sym path))
    ∙ sym (flow_costs t d (column_below b sb.noself (to a b but e) (to_below a b but e h)))
    ∙ ap (λ (k : ℕ). get_or (costs_in (store_then t)) (column_of b k) zero64) at

-- Whole costs: edge costs are multiples of 1/2 and no sum rounds, so that every order gives the same costs. `WholeCosts`, proved. Assumes nothing.
use mathlib.Core.Path.{◌≡◌, refl, sym, ap, ◌∙◌, subst}
use Prim.Native.Nat.{ℕ, ◌+◌, ◌*◌, ◌%◌, ◌/◌, ◌^◌, ◌<◌, ◌≤◌}
use native.Mathlib.Nat.{le_trans, le_of_eq, add-zero, div-add-mod'}
use native.Mathlib.Omega.{arith}
use mathlib.Core.Bool.{Bool, true, false, cond}
use mathlib.Core.List.Permᴰ
use mathlib.Core.List.{List, [], ◌∷◌, map}
use lib.ListN.{length, length-map}
use lib.Seq.{ext_get_or}
use lib.IntN.{ℤ, ◌+ℤ◌, nat_abs}
use lib.Dec.{T, eqb, lit<, lit≤, eqb→eq}
use lib.Ieee.{Float, binary64, add, div, neg}
use Rattle.doubles.specs.Units.{mag, rank}
use Rattle.doubles.specs.Sums.{Grain, Each, add_all, ranks}
use Rattle.doubles.specs.Costs.{two, total}
use Rattle.doubles.proofs.Units.{neg_mag}
use Rattle.doubles.proofs.Sums.{add_grains, zero_grain, neg_grain}
use Rattle.doubles.proofs.Halves.{half_near, half_grain, finer_grain}
use Rattle.doubles.proofs.Costs.{whole_costs_lem}
use Rattle.laws.proofs.Tests.{of_true}
use Rattle.pywr.specs.Numbers.{zero64, two64}
use Rattle.pywr.specs.Network.{link, storage, Edge, kind_of}
use Rattle.pywr.specs.FlowOrder.{edge_order, edge_numbered, flow_order}
use Rattle.pywr.specs.StepFile.{NodeStep}
use Rattle.pywr.specs.Costs.{outgoing_cost, incoming_cost, edge_cost, cost_at}
use Rattle.pywr.specs.Store.{programme_in}
use Rattle.pywr.specs.Plans.{exact, units_in_one}
use Rattle.pywr.proofs.CostReadLaws.{UpTo, most}
use Rattle.theorem_costs.specs.CostOrder.{cost_of_edge, on_column, whole_costs, Stepped, store_then, WholeCosts}
use Rattle.theorem_costs.proofs.ColumnSums.{on_few, total_perm, column_sum}
use Rattle.theorem_costs.proofs.StoreCosts.{costs_over, over_length, EdgeOrder, flow_order_lem, edge_order_itself, order_few}
use Rattle.theorem_costs.proofs.StoreCosts.{flow_costs_over, edge_costs_over}
use Rattle.theorem_costs.proofs.ReadCosts.{zero_up_to, abs_mag, costs_read, costs_all, from_all}

-- a multiple of 2 ^ g units, of at most m
record Grained (g m : ℕ) (x : Float) : Type 0 where
  grain : Grain binary64 g x
  up_to : mag binary64 x ≤ m * 2 ^ 1074

whole_cost_lem : (x : Float) → UpTo most x → T (eqb (nat_abs (exact x) % units_in_one) 0) → Grained 1074 most x
unfolding units_in_one
whole_cost_lem x ok t =
    let u : ℕ = 2 ^ 1074 in
    let n : ℕ = mag binary64 x in
    let r : n % u ≡ 0 = subst (λ (k : ℕ). k % u ≡ 0) (abs_mag x ok.fit ok.is_finite) (eqb→eq (nat_abs (exact x) % u) 0 t) in
    let whole : n ≡ n / u * u = sym (div-add-mod' n u) ∙ ap (λ (k : ℕ). n / u * u + k) r ∙ add-zero (n / u * u) in
    record { grain = record { fit = ok.fit; is_finite = ok.is_finite; count = n / u; is = whole }; up_to = ok.most }

zero_grained : (g m : ℕ) → Grained g m zero64
unfolding zero64
zero_grained g m = record { grain = zero_grain binary64 g; up_to = (zero_up_to m).most }

half_most : (a b m : ℕ) → 2 * a ≤ b + 1 → b ≤ m → a ≤ m
half_most a b m h k = omega arith

-- a node's part of an edge's cost: half of its cost, its cost or minus that
half_grained : (m : ℕ) (x : Float) → Grained 1074 m x → Grained 1073 m (div binary64 x two64)
unfolding two64
half_grained m x p =
    record {
      grain = half_grain binary64 1073 x p.grain;
      up_to =
          half_most (mag binary64 (div binary64 x two)) (mag binary64 x) (m * 2 ^ 1074)
          (half_near binary64 x p.grain.fit p.grain.is_finite).over p.up_to;
    }

own_grained : (m : ℕ) (x : Float) → Grained 1074 m x → Grained 1073 m x
own_grained m x p = record { grain = finer_grain binary64 1073 x p.grain; up_to = p.up_to }

neg_grained : (m : ℕ) (x : Float) → Grained 1074 m x → Grained 1073 m (neg x)
neg_grained m x p =
    own_grained m (neg x) (record { grain = neg_grain binary64 1074 x p.grain; up_to = le_trans (le_of_eq (neg_mag binary64 x)) p.up_to })

outgoing_grained : (m kind : ℕ) (x : Float) → Grained 1074 m x → Grained 1073 m (outgoing_cost kind x)
unfolding outgoing_cost
outgoing_grained m kind x p = go (eqb kind link) (eqb kind storage)
  where
    go : (a b : Bool) → Grained 1073 m (cond a (div binary64 x two64) (cond b (neg x) x))
    go true b = half_grained m x p
    go false true = neg_grained m x p
    go false false = own_grained m x p

incoming_grained : (m kind : ℕ) (x : Float) → Grained 1074 m x → Grained 1073 m (incoming_cost kind x)
unfolding incoming_cost
incoming_grained m kind x p = go (eqb kind link)
  where
    go : (a : Bool) → Grained 1073 m (cond a (div binary64 x two64) x)
    go true = half_grained m x p
    go false = own_grained m x p

sum_most : (a b m l : ℕ) → a ≤ m * l → b ≤ m * l → a + b ≤ (2 * m) * l
sum_most a b m l h k = omega arith

edge_grained : (x y : Float) → Grained 1073 most x → Grained 1073 most y → Grained 1073 (2 * most) (add binary64 x y)
edge_grained x y p q =
    let both : mag binary64 x + mag binary64 y ≤ (2 * most) * 2 ^ 1074 = sum_most (mag binary64 x) (mag binary64 y) most (2 ^ 1074) p.up_to q.up_to in
    let s = add_grains binary64 1073 x y (lit< tt) p.grain q.grain (le_trans both (lit≤ tt)) in
    record { grain = s.grain; up_to = le_trans s.within both }

-- ---- any two orders

ranks_total : (g : ℕ → Float) (es : List ℕ) → ranks binary64 (map g es) ≡ total (λ (e : ℕ). rank binary64 (g e)) es
ranks_total g [] = refl
ranks_total g (e ∷ es) = ap (λ (z : ℤ). rank binary64 (g e) +ℤ z) (ranks_total g es)

each_map : (P : Float → Type 0) (g : ℕ → Float) → ((e : ℕ) → P (g e)) → (es : List ℕ) → Each P (map g es)
each_map P g h [] = tt
each_map P g h (e ∷ es) = (h e, each_map P g h es)

-- costs of edges that are multiples of 1/2 add up alike in every order
module _ (s : Stepped) (each : (e : ℕ) → Grained 1073 (2 * most) (cost_of_edge s.net s.step.nodes e)) where
  abbrev cost : ℕ → Float
  cost = cost_of_edge s.net s.step.nodes

  abbrev on : ℕ → List ℕ → List ℕ
  on = on_column s.net

  few : (c : ℕ) (es : List ℕ) → EdgeOrder s.net es → length (map cost (on c es)) ≤ 512
  few c es o = let a = on_few s.net c es in let b = length-map (on c es) cost in let l = order_few s es o in omega arith

  same_sums : (c : ℕ) (es fs : List ℕ) → EdgeOrder s.net es → EdgeOrder s.net fs
      → add_all binary64 zero64 (map cost (on c es)) ≡ add_all binary64 zero64 (map cost (on c fs))
  unfolding zero64
  same_sums c es fs o p =
      whole_costs_lem (map cost (on c es)) (map cost (on c fs)) (few c es o) (few c fs p)
      (each_map (Grain binary64 1073) cost (λ e. (each e).grain) (on c es))
      (each_map (Grain binary64 1073) cost (λ e. (each e).grain) (on c fs))
      (each_map (λ x. mag binary64 x ≤ 2 * most * 2 ^ 1074) cost (λ e. (each e).up_to) (on c es))
      (each_map (λ x. mag binary64 x ≤ 2 * most * 2 ^ 1074) cost (λ e. (each e).up_to) (on c fs))
      (ranks_total cost (on c es)
      ∙ total_perm s.net (λ (e : ℕ). rank binary64 (cost e)) c (Permᴰ.trans (Permᴰ.symm o.perm) p.perm)
      ∙ sym (ranks_total cost (on c fs)))

  any_order : (n : ℕ) (es fs : List ℕ) → EdgeOrder s.net es → EdgeOrder s.net fs
      → costs_over s.net s.step.nodes n es ≡ costs_over s.net s.step.nodes n fs
  any_order n es fs o p =
      ext_get_or zero64 (costs_over s.net s.step.nodes n es) (costs_over s.net s.step.nodes n fs)
      (over_length s.net s.step.nodes n es ∙ sym (over_length s.net s.step.nodes n fs))
      (λ c h.
      let under : c < n = (let l = over_length s.net s.step.nodes n es in omega arith) in
      column_sum s.net s.step.nodes c n es o.below under
      ∙ same_sums c es fs o p
      ∙ sym (column_sum s.net s.step.nodes c n fs p.below under))

whole_all : (s : Stepped) → whole_costs s.step.nodes ≡ true → (n : ℕ) → Grained 1074 most (cost_at s.step.nodes n)
unfolding whole_costs
whole_all s t =
    let w = from_all (λ (x : NodeStep). eqb (nat_abs (exact x.cost) % units_in_one) 0) 0 s.step.nodes (of_true _ t) in
    let ok = costs_read s.net s.file s.step s.read in
    costs_all (Grained 1074 most) s.step.nodes (zero_grained 1074 most) (λ x m. whole_cost_lem x.cost (ok x m) (w x m))

edges_whole : (s : Stepped) → whole_costs s.step.nodes ≡ true → (e : ℕ) → Grained 1073 (2 * most) (cost_of_edge s.net s.step.nodes e)
unfolding cost_of_edge edge_cost
edges_whole s t e =
    let edge : Edge = edge_numbered s.net e in
    edge_grained _ _
    (outgoing_grained most (kind_of s.net.nodes edge.from) (cost_at s.step.nodes edge.from) (whole_all s t edge.from))
    (incoming_grained most (kind_of s.net.nodes edge.to) (cost_at s.step.nodes edge.to) (whole_all s t edge.to))

-- "Where all costs are whole numbers, the coefficient equals the one from edge order, bit for bit."
pub whole_order : WholeCosts
whole_order s t =
    flow_costs_over s
    ∙ any_order s (edges_whole s t) (length (programme_in (store_then s)).columns) (flow_order s.net) (edge_order s.net)
    (flow_order_lem s.net) (edge_order_itself s.net)
    ∙ sym (edge_costs_over s)

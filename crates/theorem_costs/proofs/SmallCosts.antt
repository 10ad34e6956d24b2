-- Costs of at most 1,000: either order is within 2 ^ -24 of the exact sum. `SmallCosts`, proved. Assumes nothing.
use mathlib.Core.Path.{◌≡◌, refl, sym, ap, ◌∙◌, subst}
use Prim.Native.Nat.{ℕ, ◌+◌, ◌*◌, ◌^◌, ◌<◌, ◌≤◌}
use native.Mathlib.Nat.{le_trans, le_of_eq}
use native.Mathlib.Omega.{arith}
use mathlib.Core.Bool.{Bool, true, false, cond}
use mathlib.Core.List.Permᴰ
use mathlib.Core.List.{List, [], ◌∷◌, map}
use lib.ListN.{length, get_or}
use lib.IntN.{ℤ, pos, negsuc, neg_ℤ, ◌+ℤ◌, ◌-ℤ◌, nat_abs}
use lib.Dec.{T, eqb, leb, leb→le, le→leb}
use lib.Ieee.{Float, binary64, add, div, neg, fits}
use lib.Ieee.Fits.{and_i, add-fits}
use lib.Ieee.Scale.{finite}
use Rattle.doubles.specs.Integers.{plus, less}
use Rattle.doubles.specs.Units.{rank, zero+}
use Rattle.doubles.specs.Sums.{add_all}
use Rattle.doubles.specs.Errors.{Off}
use Rattle.doubles.specs.Costs.{two, twice, Part, EdgeCost, total, All}
use Rattle.doubles.proofs.Integers.{ℤ-eq, sum_is, neg_plus, neg_less}
use Rattle.doubles.proofs.Units.{neg_rank, finite_number}
use Rattle.doubles.proofs.Sums.{zero_grain}
use Rattle.doubles.proofs.Costs.{part_own, part_neg, part_half, edge_cost_lem, column_near, column_finite}
use Rattle.laws.proofs.Tests.{of_true, to_true}
use Rattle.pywr.specs.Numbers.{zero64, two64}
use Rattle.pywr.specs.Network.{link, storage, Edge, kind_of}
use Rattle.pywr.specs.FlowOrder.{edge_order, edge_numbered, flow_order}
use Rattle.pywr.specs.StepFile.{NodeStep}
use Rattle.pywr.specs.Costs.{outgoing_cost, incoming_cost, edge_cost, cost_at}
use Rattle.pywr.specs.Store.{programme_in}
use Rattle.pywr.specs.Plans.{exact, units_in_one, is_finite}
use Rattle.pywr.proofs.ExactLaws.{exact_rank, finite_is}
use Rattle.theorem_costs.specs.CostOrder.{cost_of_edge, on_column, column_by_number, small_costs, Stepped, store_then, SmallCosts}
use Rattle.theorem_costs.specs.CostOrder.{halves, exact_outgoing, exact_incoming, exact_cost, exact_sum, is_near}
use Rattle.theorem_costs.proofs.ColumnSums.{on_few, total_perm, column_sum}
use Rattle.theorem_costs.proofs.StoreCosts.{costs_over, edge_columns_lem, EdgeOrder, flow_order_lem, edge_order_itself, order_few}
use Rattle.theorem_costs.proofs.StoreCosts.{flow_costs_over, edge_costs_over}
use Rattle.theorem_costs.proofs.ReadCosts.{zero_up_to, abs_mag, costs_read, costs_all, from_all}
use Rattle.pywr.proofs.CostReadLaws.{UpTo, most}

small_of : (x : Float) → UpTo most x → T (leb (nat_abs (exact x)) (1000 * units_in_one)) → UpTo 1000 x
unfolding units_in_one
small_of x ok t =
    record {
      fit = ok.fit;
      is_finite = ok.is_finite;
      most = le_trans (le_of_eq (sym (abs_mag x ok.fit ok.is_finite))) (leb→le (nat_abs (exact x)) (1000 * 2 ^ 1074) t);
    }

-- ---- a node's part of an edge's cost: half of its cost, its cost or minus that

twice_is : (x : Float) → T (fits binary64 x) → T (finite x) → twice x ≡ halves x
unfolding halves
twice_is x p n = sym (ap (λ (z : ℤ). z +ℤ z) (exact_rank x p n))

neg_twice : (x : Float) → T (fits binary64 x) → T (finite x) → twice (neg x) ≡ neg_ℤ (halves x)
neg_twice x p n =
    ap (λ (z : ℤ). z +ℤ z) (neg_rank binary64 x (finite_number x n)) ∙ negated (rank binary64 x) ∙ ap neg_ℤ (twice_is x p n)
  where
    negated : (a : ℤ) → neg_ℤ a +ℤ neg_ℤ a ≡ neg_ℤ (a +ℤ a)
    negated a =
        ℤ-eq (neg_ℤ a +ℤ neg_ℤ a) (neg_ℤ (a +ℤ a))
        (omega (arith, sum_is (neg_ℤ a) (neg_ℤ a), neg_plus a, neg_less a, neg_plus (a +ℤ a), neg_less (a +ℤ a), sum_is a a))

half_part : (x : Float) → UpTo 1000 x → Part (div binary64 x two64) (exact x)
unfolding two64
half_part x p = subst (Part (div binary64 x two)) (sym (exact_rank x p.fit p.is_finite)) (part_half x p.fit p.is_finite p.most)

own_part : (x : Float) → UpTo 1000 x → Part x (halves x)
own_part x p = subst (Part x) (twice_is x p.fit p.is_finite) (part_own x p.fit p.is_finite p.most)

neg_part : (x : Float) → UpTo 1000 x → Part (neg x) (neg_ℤ (halves x))
neg_part x p = subst (Part (neg x)) (neg_twice x p.fit p.is_finite) (part_neg x p.fit p.is_finite p.most)

outgoing_part : (kind : ℕ) (x : Float) → UpTo 1000 x → Part (outgoing_cost kind x) (exact_outgoing kind x)
unfolding outgoing_cost exact_outgoing
outgoing_part kind x p = go (eqb kind link) (eqb kind storage)
  where
    go : (a b : Bool) → Part (cond a (div binary64 x two64) (cond b (neg x) x)) (cond a (exact x) (cond b (neg_ℤ (halves x)) (halves x)))
    go true b = half_part x p
    go false true = neg_part x p
    go false false = own_part x p

incoming_part : (kind : ℕ) (x : Float) → UpTo 1000 x → Part (incoming_cost kind x) (exact_incoming kind x)
unfolding incoming_cost exact_incoming
incoming_part kind x p = go (eqb kind link)
  where
    go : (a : Bool) → Part (cond a (div binary64 x two64) x) (cond a (exact x) (halves x))
    go true = half_part x p
    go false = own_part x p

-- ---- a column

-- a distance, where `Off` counts it twice
off_distance : (z w : ℤ) (d : ℕ) → Off z w (2 * d) → nat_abs (z -ℤ w) ≤ d
off_distance z w d o = go (z -ℤ w) (sum_is z (neg_ℤ w))
  where
    go : (v : ℤ) → plus v + (less z + less (neg_ℤ w)) ≡ plus z + plus (neg_ℤ w) + less v → nat_abs v ≤ d
    go (pos n) e = let a = o.over in omega (arith, neg_plus w, neg_less w)
    go (negsuc n) e = let a = o.under in omega (arith, neg_plus w, neg_less w)

all_fit : (xs : List Float) (acc : Float) → T (fits binary64 acc) → T (fits binary64 (add_all binary64 acc xs))
all_fit [] acc p = p
all_fit (x ∷ xs) acc p = all_fit xs (add binary64 acc x) (add-fits binary64 acc x)

module _ (s : Stepped) (each : (n : ℕ) → UpTo 1000 (cost_at s.step.nodes n)) where
  abbrev cost : ℕ → Float
  cost = cost_of_edge s.net s.step.nodes

  abbrev units : ℕ → ℤ
  units = exact_cost s.net s.step.nodes

  edge_near : (e : ℕ) → EdgeCost (cost e) (units e)
  unfolding cost_of_edge edge_cost exact_cost
  edge_near e =
      let edge : Edge = edge_numbered s.net e in
      edge_cost_lem _ _ _ _
      (outgoing_part (kind_of s.net.nodes edge.from) (cost_at s.step.nodes edge.from) (each edge.from))
      (incoming_part (kind_of s.net.nodes edge.to) (cost_at s.step.nodes edge.to) (each edge.to))

  all_near : (es : List ℕ) → All cost units es
  all_near [] = tt
  all_near (e ∷ es) = (edge_near e, all_near es)

  run_near : (es : List ℕ) → length es ≤ 512 → T (is_near (add_all binary64 zero64 (map cost es)) (total units es))
  unfolding is_near zero64
  run_near es h =
      let x : Float = add_all binary64 zero+ (map cost es) in
      let n : T (finite x) = column_finite cost units es h (all_near es) in
      let p : T (fits binary64 x) = all_fit (map cost es) zero+ (zero_grain binary64 0).fit in
      and_i (is_finite x) (leb (nat_abs (halves x -ℤ total units es)) (2 ^ 1051)) (rw (finite_is x) n)
      (le→leb (nat_abs (halves x -ℤ total units es)) (2 ^ 1051)
      (subst (λ (z : ℤ). nat_abs (z -ℤ total units es) ≤ 2 ^ 1051) (twice_is x p n)
      (off_distance (twice x) (total units es) (2 ^ 1051) (column_near cost units es h (all_near es)))))

  sum_total : (es : List ℕ) → exact_sum s.net s.step.nodes es ≡ total units es
  unfolding exact_sum
  sum_total [] = refl
  sum_total (e ∷ es) = ap (λ (z : ℤ). units e +ℤ z) (sum_total es)

  -- the exact sum is one number for all orders of the edges
  near_any : (c n : ℕ) (order : List ℕ) → EdgeOrder s.net order → c < n
      → is_near (get_or (costs_over s.net s.step.nodes n order) c zero64) (exact_sum s.net s.step.nodes (column_by_number s.net c)) ≡ true
  unfolding column_by_number
  near_any c n order o h =
      let by_number : List ℕ = edge_order s.net in
      let on : List ℕ = on_column s.net c order in
      to_true _
      (subst (λ (x : Float). T (is_near x (exact_sum s.net s.step.nodes (on_column s.net c by_number))))
      (sym (column_sum s.net s.step.nodes c n order o.below h))
      (subst (λ (z : ℤ). T (is_near (add_all binary64 zero64 (map cost on)) z))
      (total_perm s.net units c (Permᴰ.trans (Permᴰ.symm o.perm) (edge_order_itself s.net).perm)
      ∙ sym (sum_total (on_column s.net c by_number)))
      (run_near on (le_trans (on_few s.net c order) (order_few s order o)))))

small_all : (s : Stepped) → small_costs s.step.nodes ≡ true → (n : ℕ) → UpTo 1000 (cost_at s.step.nodes n)
unfolding small_costs
small_all s t =
    let w = from_all (λ (x : NodeStep). leb (nat_abs (exact x.cost)) (1000 * units_in_one)) 0 s.step.nodes (of_true _ t) in
    let ok = costs_read s.net s.file s.step s.read in
    costs_all (UpTo 1000) s.step.nodes (zero_up_to 1000) (λ x m. small_of x.cost (ok x m) (w x m))

-- "Where no cost exceeds 1,000 in magnitude, either order is within 2^-24 of the exact sum of the exact edge costs."
pub small_order : SmallCosts
small_order s t c h =
    let n : ℕ = length (programme_in (store_then s)).columns in
    let under : c < n = (let l = edge_columns_lem s in omega arith) in
    let sum : ℤ = exact_sum s.net s.step.nodes (column_by_number s.net c) in (
      ap (λ (costs : List Float). is_near (get_or costs c zero64) sum) (flow_costs_over s)
          ∙ near_any s (small_all s t) c n (flow_order s.net) (flow_order_lem s.net) under,
      ap (λ (costs : List Float). is_near (get_or costs c zero64) sum) (edge_costs_over s)
          ∙ near_any s (small_all s t) c n (edge_order s.net) (edge_order_itself s.net) under,
    )

-- The cost that a column gets from edges taken in any order is the sum of its edges' costs in that order, from 0.0. Assumes nothing.
use mathlib.Core.Path.{◌≡◌, refl, sym, ap, ◌∙◌, subst}
use Prim.Native.Nat.{ℕ, zero, suc, ◌+◌, ◌<◌, ◌≤◌}
use native.Mathlib.Nat.{add-zero, add-suc, suc-add, zero-add}
use native.Mathlib.Omega.{arith}
use mathlib.Core.Bool.{Bool, true, false}
use mathlib.Core.List.Memᴰ
use mathlib.Core.List.{List, [], ◌∷◌, map}
use mathlib.Core.List.Permᴰ
use mathlib.Core.List.{Permᴰ}
use lib.ListN.{length, get_or, set, replicate, length-set, length-replicate, get_or-replicate}
use lib.Seq.{get_or-set_same, get_or-set_other}
use lib.IntN.{ℤ, ◌+ℤ◌}
use lib.Dec.{T, eqb, eqb→eq, eqb_refl}
use lib.Ieee.{Float, binary64, add}
use Rattle.doubles.specs.Sums.{add_all}
use Rattle.doubles.specs.Costs.{total}
use Rattle.doubles.proofs.Integers.{swap-addℤ}
use Rattle.laws.proofs.Tests.{of_true}
use Rattle.pywr.specs.Numbers.{zero64}
use Rattle.pywr.specs.Network.{Node, Network, no_node, kind_of, keep_if}
use Rattle.pywr.specs.ColEdgeMap.{columns, column_at, MappedEdge, mapped_edges, column_of}
use Rattle.pywr.specs.FlowOrder.{numbers_from, edge_order, no_edge, edge_numbered}
use Rattle.pywr.specs.Programme.{NodeShape}
use Rattle.pywr.specs.Build.{node_shape}
use Rattle.pywr.specs.StepFile.{NodeStep}
use Rattle.pywr.specs.Costs.{edge_cost, kind_at, cost_at, add_costs, no_mapped_edge, edges_numbered}
use Rattle.pywr.proofs.ListLaws.{AllMem}
use Rattle.pywr.proofs.WeightLaws.{pipes_length, pipe_at}
use Rattle.pywr.proofs.FitLaws.{columns_long}
use Rattle.theorem_costs.specs.CostOrder.{cost_of_edge, on_column}

-- ---- an edge of the store's table, by its number

kind_at_lem : (nodes : List Node) (n : ℕ) → kind_at (map node_shape nodes) n ≡ kind_of nodes n
unfolding kind_at kind_of node_shape no_node
kind_at_lem [] n = refl
kind_at_lem (x ∷ xs) zero = refl
kind_at_lem (x ∷ xs) (suc n) = kind_at_lem xs n

-- a list's entries by their numbers, in their order
in_order : (all ps : List MappedEdge) (i : ℕ) → ((k : ℕ) → k < length ps → get_or all (i + k) no_mapped_edge ≡ get_or ps k no_mapped_edge)
    → edges_numbered (numbers_from i (length ps)) all ≡ ps
unfolding edges_numbered numbers_from
in_order all [] i h = refl
in_order all (p ∷ ps) i h =
    λ j. (ap (λ (k : ℕ). get_or all k no_mapped_edge) (sym (add-zero i)) ∙ h 0 (omega arith)) j
    ∷ (in_order all ps (suc i) (λ k l. ap (λ (m : ℕ). get_or all m no_mapped_edge) (suc-add i k ∙ sym (add-suc i k)) ∙ h (suc k) (omega arith))) j

module _ (net : Network) where
  mapped_long : length (mapped_edges net) ≡ length net.edges
  unfolding mapped_edges
  mapped_long = pipes_length net.edges (columns net).of (columns_long net)

  mapped_at : (e : ℕ) → e < length net.edges
      → get_or (mapped_edges net) e no_mapped_edge ≡ record { from = (edge_numbered net e).from; to = (edge_numbered net e).to; column = column_of net e }
  unfolding mapped_edges column_of column_at
  mapped_at e h = pipe_at no_mapped_edge no_edge net.edges (columns net).of e (columns_long net) h

  -- edge order is the order of the table
  pub edge_order_lem : edges_numbered (edge_order net) (mapped_edges net) ≡ mapped_edges net
  unfolding edge_order
  edge_order_lem =
      ap (λ (n : ℕ). edges_numbered (numbers_from 0 n) (mapped_edges net)) (sym mapped_long)
      ∙ in_order (mapped_edges net) (mapped_edges net) 0 (λ k h. ap (λ (m : ℕ). get_or (mapped_edges net) m no_mapped_edge) (zero-add k))

  -- ---- the edges of a column

  pub on_few : (c : ℕ) (es : List ℕ) → length (on_column net c es) ≤ length es
  unfolding on_column keep_if
  on_few c [] = omega arith
  on_few c (e ∷ es) = go (eqb (column_of net e) c) (on_few c es)
    where
      go : (b : Bool) → length (on_column net c es) ≤ length es → length (keep_if b e (on_column net c es)) ≤ suc (length es)
      go true h = omega arith
      go false h = omega arith

  on_perm : (c : ℕ) {es fs : List ℕ} → Permᴰ es fs → Permᴰ (on_column net c es) (on_column net c fs)
  unfolding on_column keep_if
  on_perm c Permᴰ.nil = Permᴰ.nil
  on_perm c (Permᴰ.cons {a} {b} {l₁ = es} {l₂ = fs} q p) =
      subst (λ (x : ℕ). Permᴰ (on_column net c (a ∷ es)) (on_column net c (x ∷ fs))) q (go (eqb (column_of net a) c) (on_perm c p))
    where
      go : (t : Bool) → Permᴰ (on_column net c es) (on_column net c fs) → Permᴰ (keep_if t a (on_column net c es)) (keep_if t a (on_column net c fs))
      go true r = Permᴰ.cons refl r
      go false r = r
  on_perm c (Permᴰ.swap {a} {b} {a'} {b'} {l = es} q r) =
      subst (λ (x : ℕ). Permᴰ (on_column net c (a ∷ b ∷ es)) (on_column net c (a' ∷ x ∷ es))) q
      (subst (λ (x : ℕ). Permᴰ (on_column net c (a ∷ b ∷ es)) (on_column net c (x ∷ a ∷ es))) r (go (eqb (column_of net a) c) (eqb (column_of net b) c)))
    where
      go : (t u : Bool) → Permᴰ (keep_if t a (keep_if u b (on_column net c es))) (keep_if u b (keep_if t a (on_column net c es)))
      go true true = Permᴰ.swap refl refl
      go true false = Permᴰ.refl _
      go false u = Permᴰ.refl _
  on_perm c (Permᴰ.trans p q) = Permᴰ.trans (on_perm c p) (on_perm c q)

  -- a sum of integers over a column's edges is the same in every order
  pub total_perm : (h : ℕ → ℤ) (c : ℕ) {es fs : List ℕ} → Permᴰ es fs → total h (on_column net c es) ≡ total h (on_column net c fs)
  total_perm h c p = go (on_perm c p)
    where
      go : {es fs : List ℕ} → Permᴰ es fs → total h es ≡ total h fs
      go Permᴰ.nil = refl
      go (Permᴰ.cons q p) = (λ i. h (q i) +ℤ go p i)
      go (Permᴰ.swap {a} {b} {l = es} q r) = swap-addℤ (h a) (h b) (total h es) ∙ (λ i. h (r i) +ℤ (h (q i) +ℤ total h es))
      go (Permᴰ.trans p q) = go p ∙ go q

  -- ---- the sums

  module _ (steps : List NodeStep) where
    abbrev shapes : List NodeShape
    shapes = map node_shape net.nodes

    abbrev cost_of : MappedEdge → Float
    cost_of p = edge_cost (kind_at shapes p.from) (cost_at steps p.from) (kind_at shapes p.to) (cost_at steps p.to)

    cost_is : (e : ℕ) → e < length net.edges → cost_of (get_or (mapped_edges net) e no_mapped_edge) ≡ cost_of_edge net steps e
    unfolding cost_of_edge
    cost_is e h =
        ap cost_of (mapped_at e h)
        ∙ (λ i.
        edge_cost (kind_at_lem net.nodes (edge_numbered net e).from i) (cost_at steps (edge_numbered net e).from)
        (kind_at_lem net.nodes (edge_numbered net e).to i) (cost_at steps (edge_numbered net e).to))

    added : (c : ℕ) (es : List ℕ) → AllMem (λ (e : ℕ). e < length net.edges) es → (costs : List Float) → c < length costs
        → get_or (add_costs shapes steps (edges_numbered es (mapped_edges net)) costs) c zero64
        ≡ add_all binary64 (get_or costs c zero64) (map (cost_of_edge net steps) (on_column net c es))
    unfolding add_costs edges_numbered on_column keep_if
    added c [] below costs h = refl
    added c (e ∷ es) below costs h =
        added c es (λ x m. below x (Memᴰ.tail m)) next
        (let l = length-set costs p.column (add binary64 (get_or costs p.column zero64) (cost_of p)) in omega arith)
        ∙ ap (λ (x : Float). add_all binary64 x rest) here
        ∙ go (eqb (column_of net e) c) refl
      where
        p : MappedEdge
        p = get_or (mapped_edges net) e no_mapped_edge

        under : e < length net.edges
        under = below e (Memᴰ.head refl)

        next : List Float
        next = set costs p.column (add binary64 (get_or costs p.column zero64) (cost_of p))

        rest : List Float
        rest = map (cost_of_edge net steps) (on_column net c es)

        -- the same by the edge's number
        here : get_or next c zero64 ≡ get_or (set costs (column_of net e) (add binary64 (get_or costs (column_of net e) zero64) (cost_of_edge net steps e))) c zero64
        here =
            λ i.
            get_or (set costs (ap (λ (q : MappedEdge). q.column) (mapped_at e under) i)
            (add binary64 (get_or costs (ap (λ (q : MappedEdge). q.column) (mapped_at e under) i) zero64) (cost_is e under i))) c zero64

        go : (b : Bool) → eqb (column_of net e) c ≡ b
            → add_all binary64 (get_or (set costs (column_of net e) (add binary64 (get_or costs (column_of net e) zero64) (cost_of_edge net steps e))) c zero64) rest
            ≡ add_all binary64 (get_or costs c zero64) (map (cost_of_edge net steps) (keep_if b e (on_column net c es)))
        go true q =
            let same : column_of net e ≡ c = eqb→eq (column_of net e) c (of_true (eqb (column_of net e) c) q) in
            ap (λ (x : Float). add_all binary64 x rest)
            (ap (λ (k : ℕ). get_or (set costs k (add binary64 (get_or costs k zero64) (cost_of_edge net steps e))) c zero64) same
            ∙ get_or-set_same costs c (add binary64 (get_or costs c zero64) (cost_of_edge net steps e)) zero64 h)
        go false q =
            ap (λ (x : Float). add_all binary64 x rest)
            (get_or-set_other costs (column_of net e) c (add binary64 (get_or costs (column_of net e) zero64) (cost_of_edge net steps e)) zero64
            (λ r. subst T q (subst (λ (k : ℕ). T (eqb (column_of net e) k)) (sym r) (eqb_refl (column_of net e)))))

    -- from 0.0, over edges in any order
    pub column_sum : (c n : ℕ) (es : List ℕ) → AllMem (λ (e : ℕ). e < length net.edges) es → c < n
        → get_or (add_costs (map node_shape net.nodes) steps (edges_numbered es (mapped_edges net)) (replicate n zero64)) c zero64
        ≡ add_all binary64 zero64 (map (cost_of_edge net steps) (on_column net c es))
    column_sum c n es below h =
        added c es below (replicate n zero64) (let l = length-replicate n zero64 in omega arith)
        ∙ ap (λ (x : Float). add_all binary64 x (map (cost_of_edge net steps) (on_column net c es))) (get_or-replicate n c zero64 zero64 h)

-- Costs by the numbers of their nodes, and the run of costs while the edges are added one after another. Assumes nothing.
use mathlib.Core.Path.{◌≡◌, refl, sym, ◌∙◌, ap}
use mathlib.Core.Bool.{true, ◌&&◌}
use mathlib.Core.List.{List, [], ◌∷◌, ◌++◌, map}
use Prim.Native.Nat.{ℕ, zero, suc, ◌+◌, ◌*◌, ◌≤◌, ◌<◌}
use native.Mathlib.Nat.{one-mul}
use native.Mathlib.Omega.{arith}
use lib.Dec.{ltb, ltb→lt}
use lib.ListN.{length, get_or, set, drop, replicate, length-set, length-replicate, drop_of_length-le, get_or-append}
use lib.Seq.{sets, sets-eq, set-append_left, drop_at}
use lib.Ieee.{Float, nan, binary64, of_bits, add}
use lib.Ieee.Fits.{and_l, and_r}
use Rattle.layout.specs.Layout.{edges_at, flow_order_at}
use Rattle.laws.proofs.Runs.{drop_next, get_d_any}
use Rattle.pywr.specs.Numbers.{zero64, two64}
use Rattle.pywr.specs.Programme.{Column, NodeShape, Shape}
use Rattle.pywr.specs.ColEdgeMap.{MappedEdge}
use Rattle.pywr.specs.StepFile.{NodeStep}
use Rattle.pywr.specs.Costs.{edge_cost, kind_at, cost_at, add_costs, no_mapped_edge, edges_numbered, step_costs}
use Rattle.pywr.specs.Store.{Store, word, entries, node_entry, edge_entry, node_row_entry, virtual_storage_entry, node_count, edge_column_count, column_count, shape_of, programme_in}
use Rattle.pywr.specs.Step.{with_costs}
use Rattle.pywr.proofs.RunLaws.{step_costs_length, with_costs_are}
use Rattle.pywr.specs.Misshapen.{edge_fits, flow_order_fits, all_entries}
use Rattle.laws.proofs.Tests.{of_true}
use Rattle.store_shape.proofs.EntryLaws.{first_entry, next_entry, entries_length, entries_at}
use Rattle.store_shape.proofs.Entries.{of_shape, entry_passes}
use Rattle.step_file.specs.Decoded.{f64_at, node_step_at, node_steps_at, decoded}
use Rattle.step_costs.specs.NodeCosts.{kind_in, cost_in}

-- the literals 0.0 and 2.0
pub zero_literal : of_bits binary64 0 ≡ zero64
unfolding of_bits zero64
zero_literal = refl

pub two_literal : of_bits binary64 0x4000000000000000 ≡ two64
unfolding of_bits two64
two_literal = refl

-- ---- the costs

-- the costs of the programme after a step
pub stepped_costs : (s : Store) (steps : List NodeStep)
    → map (λ (c : Column). c.cost) (with_costs (programme_in s).columns (step_costs (shape_of s) (length (programme_in s).columns) steps)) ≡ step_costs (shape_of s) (column_count s) steps
unfolding programme_in
stepped_costs s steps =
    with_costs_are (programme_in s).columns (step_costs (shape_of s) (length (programme_in s).columns) steps) (step_costs_length (shape_of s) (length (programme_in s).columns) steps)
    ∙ ap (λ (n : ℕ). step_costs (shape_of s) n steps) (entries_length _ 1 0 (column_count s))

-- ---- a node's kind and cost

kind_at_lem : (s : Store) (at count k : ℕ) → k < count → kind_at (entries (node_entry s) 2 at count) k ≡ get_or s.shape (at + 2 * k) 0
unfolding entries kind_at node_entry
kind_at_lem s at zero k h = absurd (omega arith)
kind_at_lem s at (suc count) zero h = ap (λ (j : ℕ). get_or s.shape j 0) (first_entry 2 at)
kind_at_lem s at (suc count) (suc k) h = kind_at_lem s (at + 2) count k (omega arith) ∙ ap (λ (j : ℕ). get_or s.shape j 0) (next_entry 2 at k)

cost_at_lem : (file : List ℕ) (shapes : List NodeShape) (at k : ℕ) → k < length shapes → cost_at (node_steps_at file shapes at) k ≡ f64_at file (at + 34 * k + 2)
unfolding node_steps_at cost_at node_step_at
cost_at_lem file [] at k h = absurd (omega arith)
cost_at_lem file (n ∷ ns) at zero h = ap (λ (j : ℕ). f64_at file (j + 2)) (first_entry 34 at)
cost_at_lem file (n ∷ ns) at (suc k) h = cost_at_lem file ns (at + 34) k (omega arith) ∙ ap (λ (j : ℕ). f64_at file (j + 2)) (next_entry 34 at k)

-- ---- one edge

pub record Edge (s : Store) (at : ℕ) : Type 0 where
  pub from : word s at < node_count s
  pub to : word s (at + 1) < node_count s
  pub column : word s (at + 2) < edge_column_count s

edge_fits_lem : (s : Store) (at : ℕ) → edge_fits s at ≡ true → Edge s at
unfolding edge_fits
edge_fits_lem s at e =
    let a = ltb (word s at) (node_count s) in
    let b = ltb (word s (at + 1)) (node_count s) in
    let c = ltb (word s (at + 2)) (edge_column_count s) in
    let t = of_true (a && b && c) e in
    let ab = and_l (a && b) c t in
    record { from = ltb→lt _ _ (and_l a b ab); to = ltb→lt _ _ (and_r a b ab); column = ltb→lt _ _ (and_r (a && b) c t) }

-- ---- the run

front_is : (d xs : List Float) (n : ℕ) → length xs ≡ n → n ≤ length d → sets d 0 xs ≡ xs ++ drop n d
front_is d xs n e h =
    let k : 0 + length xs ≡ n = omega (arith, e) in
    sets-eq xs d 0 (omega (arith, e)) ∙ ap (λ (j : ℕ). xs ++ drop j d) k

-- the shape is that of the shape run alone
of_shape_lem : (s : Store) → shape_of s ≡ shape_of (of_shape s.shape)
unfolding shape_of node_entry edge_entry node_row_entry virtual_storage_entry
of_shape_lem s = refl

module _ (file shape : List ℕ) where
  abbrev columns : ℕ
  columns = get_or shape 3 0 + get_or shape 4 0

  abbrev edges : ℕ
  edges = get_or shape 2 0

  abbrev tables : Shape
  tables = shape_of (of_shape shape)

  abbrev steps : List NodeStep
  steps = node_steps_at file tables.nodes 12

  -- i edges of the flow order were added; d₀ is the run with a zero for every column
  pub record Added (d₀ d : List Float) (i : ℕ) : Type 0 where
    pub costs : List Float
    pub size : length costs ≡ columns
    pub held : d ≡ costs ++ drop columns d₀
    pub so_far : step_costs tables columns steps ≡ add_costs tables.nodes steps (edges_numbered (drop i tables.flow_order) tables.mapped_edges) costs

  behind : (d d₁ : List Float) → columns ≤ length d → d₁ ≡ sets d 0 (replicate columns zero64) → drop columns d₁ ≡ drop columns d
  behind d d₁ h e =
      ap (drop columns) (e ∙ front_is d (replicate columns zero64) columns (length-replicate columns zero64) h)
      ∙ drop_at (replicate columns zero64) (drop columns d) columns (length-replicate columns zero64)

  pub added_none : (d d₁ : List Float) → columns ≤ length d → d₁ ≡ sets d 0 (replicate columns zero64) → Added d₁ d₁ 0
  unfolding step_costs
  added_none d d₁ h e =
      record {
        costs = replicate columns zero64;
        size = length-replicate columns zero64;
        held =
            e
            ∙ front_is d (replicate columns zero64) columns (length-replicate columns zero64) h
            ∙ ap (λ (l : List Float). replicate columns zero64 ++ l) (sym (behind d d₁ h e));
        so_far = refl;
      }

  -- what 17 has tested of the edges and of the flow order
  abbrev pub EdgesFit : Type 0
  EdgesFit = all_entries (edge_fits (of_shape shape)) 3 edges_at edges ≡ true

  abbrev pub OrderFits : Type 0
  OrderFits = all_entries (flow_order_fits (of_shape shape)) 1 flow_order_at edges ≡ true

  pub edge_at : (number : ℕ) → number < edges → EdgesFit → Edge (of_shape shape) (edges_at + 3 * number)
  edge_at number lt fit = edge_fits_lem (of_shape shape) (edges_at + 3 * number) (entry_passes (edge_fits (of_shape shape)) 3 edges edges_at fit number lt)

  -- the edge that the flow order names next
  module _ (i number : ℕ) (lt : i < edges) (is : number ≡ get_or shape (flow_order_at + i) 0) (named : OrderFits) where
    pub number_under : number < edges
    unfolding flow_order_fits
    number_under = rw is (ltb→lt _ _ (of_true _ (rw (one-mul i) at (entry_passes (flow_order_fits (of_shape shape)) 1 edges flow_order_at named i lt))))

    next_edge : edges_numbered (drop i tables.flow_order) tables.mapped_edges
        ≡ edge_entry (of_shape shape) (edges_at + 3 * number) ∷ edges_numbered (drop (i + 1) tables.flow_order) tables.mapped_edges
    unfolding shape_of edges_numbered
    next_edge =
        let s = of_shape shape in
        let more : i < length tables.flow_order = omega (arith, entries_length (word s) 1 flow_order_at edges) in
        rw (
          drop_next tables.flow_order i 0 more,
          entries_at (word s) 1 flow_order_at edges i 0 lt,
          one-mul i,
          ← is,
          entries_at (edge_entry s) 3 edges_at edges number no_mapped_edge number_under,
        )

  kind_is_lem : (k : ℕ) → k < get_or shape 1 0 → kind_at tables.nodes k ≡ kind_in shape k
  unfolding shape_of
  kind_is_lem k h = kind_at_lem (of_shape shape) 11 (get_or shape 1 0) k h

  cost_is : (k : ℕ) → k < get_or shape 1 0 → cost_at steps k ≡ cost_in file k
  unfolding shape_of
  cost_is k h = cost_at_lem file tables.nodes 12 k (rw (entries_length (node_entry (of_shape shape)) 2 11 (get_or shape 1 0)) h)

  abbrev cost_of : ℕ → ℕ → Float
  cost_of from to = edge_cost (kind_in shape from) (cost_in file from) (kind_in shape to) (cost_in file to)

  module _ (d₀ d : List Float) (i number : ℕ) (a : Added d₀ d i) (lt : i < edges) (is : number ≡ get_or shape (flow_order_at + i) 0)
      (named : OrderFits) (fit : EdgesFit) where
    abbrev at : ℕ
    at = edges_at + 3 * number

    abbrev from : ℕ
    from = get_or shape at 0

    abbrev to : ℕ
    to = get_or shape (at + 1) 0

    abbrev column : ℕ
    column = get_or shape (at + 2) 0

    abbrev costs_next : List Float
    costs_next = set a.costs column (add binary64 (get_or a.costs column zero64) (edge_cost (kind_at tables.nodes from) (cost_at steps from) (kind_at tables.nodes to) (cost_at steps to)))

    pub added_more : (x : Float) → x ≡ cost_of from to → Added d₀ (set d column (add binary64 (get_or d column nan) x)) (i + 1)
    unfolding add_costs edge_entry
    added_more x e =
        let edge = edge_at number (number_under i number lt is named) fit in
        let under : column < length a.costs = omega (arith, edge.column, a.size) in
        let k₁ = kind_is_lem from edge.from in
        let k₂ = kind_is_lem to edge.to in
        let c₁ = cost_is from edge.from in
        let c₂ = cost_is to edge.to in
        let same : x ≡ edge_cost (kind_at tables.nodes from) (cost_at steps from) (kind_at tables.nodes to) (cost_at steps to) = rw (k₁, k₂, c₁, c₂) e in
        let old : get_or (a.costs ++ drop columns d₀) column nan ≡ get_or a.costs column zero64 =
        get_or-append a.costs (drop columns d₀) nan column under ∙ get_d_any a.costs column nan zero64 under in
        record {
          costs = costs_next;
          size = length-set a.costs column _ ∙ a.size;
          held =
              ap (λ (l : List Float). set l column (add binary64 (get_or l column nan) x)) a.held
              ∙ set-append_left a.costs (drop columns d₀) column _ under
              ∙ rw (old, same);
          so_far = a.so_far ∙ ap (λ (l : List MappedEdge). add_costs tables.nodes steps l a.costs) (next_edge i number lt is named);
        }

  none_left : (i : ℕ) → edges ≤ i → edges_numbered (drop i tables.flow_order) tables.mapped_edges ≡ []
  unfolding shape_of edges_numbered
  none_left i le =
      let all : length tables.flow_order ≤ i = omega (arith, entries_length (word (of_shape shape)) 1 flow_order_at edges) in
      rw (drop_of_length-le tables.flow_order all)

  pub added_all : (d d₁ d₂ : List Float) (i : ℕ) → columns ≤ length d → d₁ ≡ sets d 0 (replicate columns zero64) → Added d₁ d₂ i → edges ≤ i
      → (s : Store) (m v : ℕ) → s.shape ≡ shape → d₂ ≡ sets d 0 (step_costs (shape_of s) (column_count s) (decoded (shape_of s).nodes m v file).nodes)
  unfolding add_costs decoded
  added_all d d₁ d₂ i h e a le s m v same =
      let costs : step_costs tables columns steps ≡ a.costs = a.so_far ∙ rw (none_left i le) in
      let here : shape_of s ≡ tables = of_shape_lem s ∙ ap (λ (l : List ℕ). shape_of (of_shape l)) same in
      a.held
      ∙ ap (λ (l : List Float). a.costs ++ l) (behind d d₁ h e)
      ∙ sym (front_is d a.costs columns a.size h)
      ∙ rw (here, same, costs)

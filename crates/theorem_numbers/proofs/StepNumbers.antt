-- A step whose file was read leaves numbers: costs are sums of at most 1,024 terms, bounds come from the file's intervals. Assumes nothing.
use mathlib.Core.Path.{◌≡◌, refl}
use Prim.Native.Nat.{ℕ, zero, suc, ◌+◌, ◌*◌, ◌≤◌}
use native.Mathlib.Omega.{arith}
use mathlib.Core.Bool.{Bool, true, false, cond}
use mathlib.Core.List.Memᴰ
use mathlib.Core.List.{List, [], ◌∷◌, map}
use lib.ListN.{length, get_or, set, replicate, length-map}
use lib.Dec.{eqb, lit≤}
use lib.Ieee.{Float, binary64, add, div, neg}
use Rattle.doubles.proofs.Units.{finite_number}
use Rattle.doubles.proofs.Order.{larger_num, smaller_num}
use Rattle.pywr.specs.declared.Sentinel.{Sentinel}
use Rattle.pywr.specs.declared.Interval.{Interval}
use Rattle.pywr.specs.Numbers.{zero64, two64, lesser, greater}
use Rattle.pywr.specs.Network.{link, storage}
use Rattle.pywr.specs.ColEdgeMap.{MappedEdge}
use Rattle.pywr.specs.Programme.{Column, Row, Programme, NodeShape, RowType, continuous, binary_upper, binary_lower, NodeRow, Shape}
use Rattle.pywr.specs.Interval.{tighten, sentinels}
use Rattle.pywr.specs.StepFile.{NodeStep, StepFile}
use Rattle.pywr.specs.StepIntervals.{intervals, Intervals}
use Rattle.pywr.specs.Costs.{outgoing_cost, incoming_cost, edge_cost, kind_at, cost_at, add_costs, edges_numbered, step_costs}
use Rattle.pywr.specs.Step.{adjust, with_bounds, apply_row_bounds, with_coefficient, over_node_rows, interval_for, apply_interval, apply_node_rows}
use Rattle.pywr.specs.Step.{reset_binary_row, reset_binary_rows, apply_coefficient, apply_coefficients, apply_intervals, row_of, step_rows, periods, with_costs, stepped}
use Rattle.pywr.proofs.BoundLaws.{high_bound, IsInterval}
use Rattle.pywr.proofs.RowLaws.{own}
use Rattle.pywr.proofs.VaryingLaws.{sentinels_interval}
use Rattle.pywr.proofs.MassLaws.{Every}
use Rattle.pywr.proofs.ListLaws.{AllMem, every_mem}
use Rattle.pywr.proofs.StepReadLaws.{at_interval, IntervalsOk}
use Rattle.theorem_numbers.proofs.SumBounds.{Within, most_terms, add_within, wider, neg_within, half_within, zero_within}
use Rattle.theorem_numbers.proofs.ReadBounds.{SmallCost}
use Rattle.theorem_numbers.proofs.BuildNumbers.{ElementsOk, RowOk, ColumnOk, ProgrammeOk, mem_every, every_replicate, zero_bound}

-- ---- the bounds of rows

abbrev Bounded : Row → Type 0
Bounded r = IsInterval (own r)

tighten_interval : (a b : Interval) → IsInterval a → IsInterval b → IsInterval (tighten a b)
unfolding tighten greater lesser
tighten_interval a b ia ib =
    record { lower = larger_num binary64 a.lower b.lower ia.lower ib.lower; upper = smaller_num binary64 a.upper b.upper ia.upper ib.upper }

apply_ok : (i : Interval) → IsInterval i → (r : Row) → Bounded r → Bounded (apply_row_bounds i r)
unfolding apply_row_bounds with_bounds
apply_ok i ii r ok = tighten_interval (own r) i ok ii

interval_ok : (t : RowType) (i : Interval) → IsInterval i → (r : Row) → Bounded r → Bounded (apply_interval t i r)
unfolding apply_interval
interval_ok continuous i ii r ok = apply_ok i ii r ok
interval_ok binary_upper i ii r ok = ok
interval_ok binary_lower i ii r ok = ok

reset_binary_ok : (s : Sentinel) (t : RowType) (c : ℕ) (r : Row) → Bounded r → Bounded (reset_binary_row s t c r)
unfolding reset_binary_row with_coefficient with_bounds
reset_binary_ok s continuous c r ok = ok
reset_binary_ok s binary_upper c r ok = record { lower = zero_bound; upper = high_bound s }
reset_binary_ok s binary_lower c r ok = record { lower = zero_bound; upper = high_bound s }

coefficient_ok : (t : RowType) (c : ℕ) (i : Interval) (r : Row) → Bounded r → Bounded (apply_coefficient t c i r)
unfolding apply_coefficient with_coefficient
coefficient_ok continuous c i r ok = ok
coefficient_ok binary_upper c i r ok = ok
coefficient_ok binary_lower c i r ok = ok

adjust_ok : (change : Row → Row) → ((r : Row) → Bounded r → Bounded (change r)) → (k : ℕ) (rows : List Row) → Every Bounded rows → Every Bounded (adjust change k rows)
unfolding adjust
adjust_ok change h k [] us = tt
adjust_ok change h zero (x ∷ xs) us = (h x us.0, us.1)
adjust_ok change h (suc k) (x ∷ xs) us = (us.0, adjust_ok change h k xs us.1)

node_rows_ok_lem : (change : NodeRow → Row → Row) → ((n : NodeRow) (r : Row) → Bounded r → Bounded (change n r)) → (ns : List NodeRow) (rows : List Row) → Every Bounded rows
    → Every Bounded (over_node_rows change ns rows)
unfolding over_node_rows
node_rows_ok_lem change h [] rows us = us
node_rows_ok_lem change h (n ∷ ns) rows us = node_rows_ok_lem change h ns (adjust (change n) n.row rows) (adjust_ok (change n) (h n) n.row rows us)

intervals_ok : (rs : List ℕ) (is : List Interval) → AllMem IsInterval is → (rows : List Row) → Every Bounded rows → Every Bounded (apply_intervals rs is rows)
unfolding apply_intervals
intervals_ok [] is ii rows us = us
intervals_ok (r ∷ rs) [] ii rows us = us
intervals_ok (r ∷ rs) (i ∷ is) ii rows us =
    intervals_ok rs is (λ j m. ii j (Memᴰ.tail m)) (adjust (apply_row_bounds i) r rows) (adjust_ok (apply_row_bounds i) (apply_ok i (ii i (Memᴰ.head refl))) r rows us)

reset_ok : (s : Sentinel) (rows : List Row) → Every Bounded (map (with_bounds (sentinels s)) rows)
unfolding with_bounds
reset_ok s [] = tt
reset_ok s (x ∷ xs) = (sentinels_interval s, reset_ok s xs)

rows_ok : (s : Sentinel) (shape : Shape) (a v : ℕ) (i : Intervals) → IntervalsOk a v i → (rows : List Row) → Every Bounded (step_rows s shape i rows)
unfolding step_rows apply_node_rows interval_for reset_binary_rows apply_coefficients
rows_ok s shape a v i ii rows =
    let e : ℕ = shape.edge_columns in
    node_rows_ok_lem _ (λ n. coefficient_ok n.row_type (e + n.set) (get_or i.nodes n.node (sentinels s))) shape.node_rows _
    (node_rows_ok_lem _ (λ n. reset_binary_ok s n.row_type (e + n.set)) shape.node_rows _
    (intervals_ok (map row_of shape.virtual_storages) i.virtual_storages ii.virtual_storages_are _
    (intervals_ok shape.aggregates i.aggregates ii.aggregates_are _
    (node_rows_ok_lem _ (λ n. interval_ok n.row_type (get_or i.nodes n.node (sentinels s)) (at_interval s i.nodes n.node ii.nodes)) shape.node_rows _
    (reset_ok s rows)))))

-- ---- costs

cost_at_lem : (steps : List NodeStep) (n : ℕ) → AllMem SmallCost steps → Within 1 (cost_at steps n)
unfolding cost_at
cost_at_lem [] n small = zero_within 1
cost_at_lem (x ∷ xs) zero small = small x (Memᴰ.head refl)
cost_at_lem (x ∷ xs) (suc n) small = cost_at_lem xs n (λ y m. small y (Memᴰ.tail m))

cond_within : (n : ℕ) (b : Bool) (x y : Float) → Within n x → Within n y → Within n (cond b x y)
cond_within n true x y u v = u
cond_within n false x y u v = v

edge_cost_lem : (k l : ℕ) (x y : Float) → Within 1 x → Within 1 y → Within 2 (edge_cost k x l y)
unfolding edge_cost outgoing_cost incoming_cost
edge_cost_lem k l x y u v =
    add_within 1 1 (outgoing_cost k x) (incoming_cost l y) (lit≤ tt)
    (cond_within 1 (eqb k link) (div binary64 x two64) (cond (eqb k storage) (neg x) x) (half_within 1 x u) (cond_within 1 (eqb k storage) (neg x) x (neg_within 1 x u) u))
    (cond_within 1 (eqb l link) (div binary64 y two64) y (half_within 1 y v) v)

module _ (P : Float → Type 0) where
  every_set : (xs : List Float) (i : ℕ) (x : Float) → P x → Every P xs → Every P (set xs i x)
  every_set [] i x p us = tt
  every_set (y ∷ ys) zero x p us = (p, us.1)
  every_set (y ∷ ys) (suc i) x p us = (us.0, every_set ys i x p us.1)

  every_get : (xs : List Float) (i : ℕ) (d : Float) → P d → Every P xs → P (get_or xs i d)
  every_get [] i d p us = p
  every_get (y ∷ ys) zero d p us = us.0
  every_get (y ∷ ys) (suc i) d p us = every_get ys i d p us.1

more_all : (a b : ℕ) (xs : List Float) → a ≤ b → Every (Within a) xs → Every (Within b) xs
more_all a b [] h us = tt
more_all a b (x ∷ xs) h us = (wider a b x h us.0, more_all a b xs h us.1)

costs_within : (shapes : List NodeShape) (steps : List NodeStep) → AllMem SmallCost steps → (ps : List MappedEdge) (n : ℕ) (costs : List Float) → n + length ps * 2 ≤ most_terms → Every (Within n) costs
    → Every (Within (n + length ps * 2)) (add_costs shapes steps ps costs)
unfolding add_costs
costs_within shapes steps small [] n costs room us = more_all n (n + 0 * 2) costs (omega arith) us
costs_within shapes steps small (p ∷ ps) n costs room us =
    let old : Float = get_or costs p.column zero64 in
    let cost : Float = edge_cost (kind_at shapes p.from) (cost_at steps p.from) (kind_at shapes p.to) (cost_at steps p.to) in
    let sum : Within (n + 2) (add binary64 old cost) =
    add_within n 2 old cost (omega arith) (every_get (Within n) costs p.column zero64 (zero_within n) us)
    (edge_cost_lem (kind_at shapes p.from) (kind_at shapes p.to) (cost_at steps p.from) (cost_at steps p.to) (cost_at_lem steps p.from small) (cost_at_lem steps p.to small)) in
    let next : List Float = set costs p.column (add binary64 old cost) in
    more_all (n + 2 + length ps * 2) (n + suc (length ps) * 2) (add_costs shapes steps ps next) (omega arith)
    (costs_within shapes steps small ps (n + 2) next (omega arith) (every_set (Within (n + 2)) costs p.column (add binary64 old cost) sum (more_all n (n + 2) costs (omega arith) us)))

with_costs_lem : (n : ℕ) (cs : List Column) (xs : List Float) → Every ColumnOk cs → Every (Within n) xs → Every ColumnOk (with_costs cs xs)
unfolding with_costs
with_costs_lem n [] xs oks us = tt
with_costs_lem n (c ∷ cs) [] oks us = tt
with_costs_lem n (c ∷ cs) (x ∷ xs) oks us =
    (record { lower = oks.0.lower; upper = oks.0.upper; cost = (us.0.fit, finite_number x us.0.is_finite) }, with_costs_lem n cs xs oks.1 us.1)

-- ---- the whole step

-- over the elements that the step leaves in its varying rows
pub stepped_ok : (P : Float → Type 0) (shape : Shape) (f : StepFile) (p : Programme) (a v : ℕ) → length shape.flow_order ≤ 512 → AllMem SmallCost f.nodes
    → IntervalsOk a v (intervals p.sentinel (periods shape) f) → AllMem (ElementsOk P) (stepped shape f p).varying → ProgrammeOk P p → ProgrammeOk P (stepped shape f p)
unfolding stepped step_costs edges_numbered
stepped_ok P shape f p a v few small ii elements ok =
    let edges : List MappedEdge = edges_numbered shape.flow_order shape.mapped_edges in
    let many : length edges ≡ length shape.flow_order = length-map shape.flow_order _ in
    let n : ℕ = length p.columns in
    let rows : List Row = step_rows p.sentinel shape (intervals p.sentinel (periods shape) f) p.varying in
    let bounded : AllMem Bounded rows = every_mem Bounded rows (rows_ok p.sentinel shape a v (intervals p.sentinel (periods shape) f) ii p.varying) in
    record {
      columns = with_costs_lem (0 + length edges * 2) p.columns (step_costs shape n f.nodes) ok.columns
          (costs_within shape.nodes f.nodes small edges 0 (replicate n zero64) (let l = many in omega arith) (every_replicate (Within 0) n zero64 (zero_within 0)));
      varying = mem_every (RowOk P) rows (λ r m. record { lower = (bounded r m).lower; upper = (bounded r m).upper; elements = elements r m });
      fixed = ok.fixed;
    }

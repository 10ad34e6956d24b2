-- `step_costs::update_edge_objectives` meets its contract. The loop's invariant: the costs of i edges of the flow order were added.
use mathlib.Core.Path.{refl, ◌∙◌}
use Prim.Native.Nat.{ℕ, ◌+◌, ◌*◌, ◌<◌}
use native.Mathlib.Omega.{arith}
use lib.ListN.{length}
use Rattle.layout.specs.Layout.{edges_at, edges_in}
use Rattle.store_shape.proofs.Entries.{of_shape}
use Rattle.step_costs.proofs.CostLaws.{zero_literal, Edge, added_none, added_more, added_all, number_under, edge_at}
use Rattle.step_costs.proofs.update_edge_objectives.Goals.{After-from-c, After-from-e}
use Rattle.step_costs.proofs.update_edge_objectives.Goals as goal

-- the edge that the flow order names at this turn
abbrev number : After-from-e → ℕ
number c = c.from-e.result

under : (c : After-from-e) → number c < edges_in c.args.shape.now
under c =
    let more = c.loop-i-test.true in
    let counted = c.from-edges.ensures in
    let named = c.requires.7 (of_shape c.args.shape.now) refl in
    number_under c.args.file.now _ c.loop-i.i _ (omega (arith, more, counted)) c.from-e.ensures named

edge : (c : After-from-e) → Edge (of_shape c.args.shape.now) (edges_at + 3 * number c)
edge c =
    edge_at c.args.file.now _ (number c) (under c) (c.requires.6 (of_shape c.args.shape.now) refl)

pub loop-i-init : goal.loop-i-init
loop-i-init c =
    added_none c.args.file.now c.args.shape.now c.args.col_obj_coef.now _ (omega arith)
    (c.fill.ensures ∙ rw (c.from.ensures, c.from-2.ensures, zero_literal))

-- the words of that edge
pub bounds-shape-at : goal.bounds-shape-at
bounds-shape-at c =
    let pre = c.requires in
    omega (arith, under (goal.at.bounds-shape-at c).After-from-e, pre.0, pre.3)

pub bounds-shape-at-in-loop-i : goal.bounds-shape-at-in-loop-i
bounds-shape-at-in-loop-i c =
    let pre = c.requires in
    omega (arith, under (goal.at.bounds-shape-at-in-loop-i c).After-from-e, pre.0, pre.3)

pub bounds-shape-at-in-loop-i-2 : goal.bounds-shape-at-in-loop-i-2
bounds-shape-at-in-loop-i-2 c =
    let pre = c.requires in
    omega (arith, under (goal.at.bounds-shape-at-in-loop-i-2 c).After-from-e, pre.0, pre.3)

pub edge_cost-requires : goal.edge_cost-requires
edge_cost-requires c =
    let pre = c.requires in
    (pre.0, pre.2, (edge (goal.at.edge_cost-requires c).After-from-e).from, (edge (goal.at.edge_cost-requires c).After-from-e).to, pre.8)

column-within : (c : After-from-c) → Edge (of_shape c.args.shape.now) (edges_at + 3 * c.from-e.result) → c.from-c.result < length c.loop-i.col_obj_coef
column-within c named =
    let pre = c.requires in
    omega (arith, named.column, c.from-c.ensures, pre.1, pre.4)

pub bounds-col_obj_coef-c : goal.bounds-col_obj_coef-c
bounds-col_obj_coef-c c = column-within (goal.at.bounds-col_obj_coef-c c).After-from-c (edge (goal.at.bounds-col_obj_coef-c c).After-from-e)

pub bounds-col_obj_coef-c-in-loop-i : goal.bounds-col_obj_coef-c-in-loop-i
bounds-col_obj_coef-c-in-loop-i c = column-within (goal.at.bounds-col_obj_coef-c-in-loop-i c).After-from-c (edge (goal.at.bounds-col_obj_coef-c-in-loop-i c).After-from-e)

pub loop-i-preserved : goal.loop-i-preserved
loop-i-preserved c =
    let store = of_shape c.args.shape.now in
    rw c.from-c.ensures
    (added_more _ _ _ _ _ _ c.loop-i.invariant (omega (arith, c.loop-i-test.true, c.from-edges.ensures))
    c.from-e.ensures (c.requires.7 store refl) (c.requires.6 store refl) _ c.edge_cost.ensures)

pub returns : goal.returns
returns c =
    added_all _ _ _ _ _ _ (omega arith)
    (c.fill.ensures ∙ rw (c.from.ensures, c.from-2.ensures, zero_literal))
    c.loop-i.invariant (omega (arith, c.loop-i-test.false, c.from-edges.ensures))

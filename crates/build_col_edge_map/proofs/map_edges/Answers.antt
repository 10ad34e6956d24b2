-- `build_col_edge_map::map_edges` meets its contract. The loop's invariant: the map holds the columns after the first e edges.
use mathlib.Core.Path.{sym, ap, ◌∙◌}
use native.Mathlib.Nat.{le_trans}
use native.Mathlib.Omega.{arith}
use Rattle.build_incident_edges.proofs.Listed.{listed_most}
use Rattle.build_col_edge_map.specs.Mapped.{number_of}
use Rattle.build_col_edge_map.proofs.Turn.{none_placed, number_most, shared_read, shared_under, simple_placed, equal_placed, all_placed}
use Rattle.build_col_edge_map.proofs.map_edges.Goals as goal
use Rattle.build_col_edge_map.proofs.map_edges.Goals.{in-None, in-Some}

pub loop-e-init : goal.loop-e-init
loop-e-init c = none_placed _ _ _ c.requires.1

pub shares_with-requires : goal.shares_with-requires
shares_with-requires c =
    let under = c.requires.3 c.loop-e.e c.loop-e-test.true in (
      omega (arith, c.from_node_index-from.ensures, c.requires.0),
      omega (arith, c.from_node_index-from.ensures, c.requires.2),
      le_trans (listed_most c.requires.4 c.from_node_index-from.result.0) c.requires.1,
      le_trans (listed_most c.requires.5 c.from_node_index-from.result.0) c.requires.1,
    )

pub add_equal_edges-requires : goal.add_equal_edges-requires
add_equal_edges-requires c =
    let few = c.loop-e.invariant.few_columns in
    let most = c.requires.1 in
    let k = shared_read _ _ _ c.requires.4 c.requires.5 c.loop-e.e _ _ c.from_node_index-from.ensures c.shares_with.ensures in
    let under = shared_under _ _ _ c.requires.4 c.loop-e.e _ (sym (ap number_of c.in-Some.is) ∙ k) in
    (c.loop-e-test.true, under, most, omega arith, number_most _ _ _ c.loop-e.invariant _ c.loop-e-test.true)

pub loop-e-preserved : goal.loop-e-preserved
loop-e-preserved c =
    let k = shared_read _ _ _ c.requires.4 c.requires.5 c.loop-e.e _ _ c.from_node_index-from.ensures c.shares_with.ensures in
    let under = c.requires.3 c.loop-e.e c.loop-e-test.true in
    elim c.match-shares_with.branch [
      | in-None w ↦
          rw w.map-is
          (simple_placed _ _ _ _ _ _ _ _ c.loop-e.invariant c.loop-e-test.true under w.add_simple_edge.ensures.0 (sym k ∙ ap number_of w.in-None.is)
          (w.add_simple_edge.ensures.1 c.loop-e.invariant.now_columns c.loop-e.invariant.mapped (omega (arith, c.loop-e.invariant.kept.long))))
      | in-Some w ↦
          rw w.map-is
          (equal_placed _ _ _ _ _ _ _ _ c.loop-e.invariant c.loop-e-test.true under w.add_equal_edges.ensures.0 _ (sym (ap number_of w.in-Some.is) ∙ k)
          (w.add_equal_edges.ensures.1 c.loop-e.invariant.now_columns c.loop-e.invariant.mapped c.loop-e.invariant.kept.long))
    ]

pub returns : goal.returns
returns c = all_placed _ _ _ _ _ _ c.loop-e.invariant c.loop-e-test.false

-- `build_rows::finish_shape` meets its contract.
use mathlib.Core.Path.{refl, ap, ◌∙◌}
use Prim.Native.Nat.{ℕ, ◌≤◌}
use mathlib.Core.List.{List}
use native.Mathlib.Omega.{arith}
use lib.ListN.{length}
use lib.Seq.{sets}
use Rattle.layout.specs.Layout.{flow_order_at, flow_order_made_at, shape_made_at, words_length}
use Rattle.laws.proofs.Tails.{tail_kept, tail_written}
use Rattle.pywr.specs.FlowOrder.{flow_order}
use Rattle.build_incident_edges.proofs.PassedEdges.{from_under, to_under}
use Rattle.build_node_row.specs.Tables.{network_of}
use Rattle.build_rows.proofs.EdgeTable.{placed}
use Rattle.build_rows.proofs.LaidOut.{shape_room}
use Rattle.build_rows.proofs.finish_shape.Goals as goal

pub write_tables-requires : goal.write_tables-requires
write_tables-requires c =
    let t = c.requires.0 in (
      c.requires.1,
      omega (arith, t.sections.fixed, t.sections.inside, c.requires.2, c.requires.3),
      c.requires.5,
      c.requires.4,
      λ e h. placed _ _ _ t e (omega (arith, c.requires.3)),
    )

pub slice_bounds-write_flow_order-count : goal.slice_bounds-write_flow_order-count
slice_bounds-write_flow_order-count c =
    -- the words with the tables of nodes and edges and the counts
    let words₁ : List ℕ = c.write_tables.new.words in
    let room₁ : words_length ≤ length words₁ = omega (arith, c.write_tables.auto.words, c.requires.5) in
    omega (arith, room₁)

pub write_flow_order-requires : goal.write_flow_order-requires
write_flow_order-requires c =
    -- the words with the tables of nodes and edges and the counts
    let words₁ : List ℕ = c.write_tables.new.words in
    let room₁ : words_length ≤ length words₁ = omega (arith, c.write_tables.auto.words, c.requires.5) in
    let t = c.requires.0 in
    let s = t.sections in (
      s.few_nodes,
      s.few_edges,
      omega (arith, s.fixed, s.inside),
      (λ e h. from_under _ _ _ s.edges_pass e h),
      (λ e h. to_under _ _ _ s.edges_pass e h),
      t.into,
      t.out_of,
      shape_room words₁ room₁,
    )

pub shape_of-words : goal.shape_of-words
shape_of-words c =
    -- the words with the tables of nodes and edges and the counts
    let words₁ : List ℕ = c.write_tables.new.words in
    tail_kept shape_made_at words₁ c.write_flow_order.new.shape
    c.write_flow_order.auto.shape
    ∙ c.write_tables.auto.words

pub returns : goal.returns
returns c =
    -- the words with the tables of nodes and edges and the counts
    let words₁ : List ℕ = c.write_tables.new.words in
    let a = c.args in
    let order : List ℕ = flow_order (network_of a.tables.now.file.now a.tables.now.counts) in
    tail_written shape_made_at words₁ flow_order_at flow_order_made_at _ order refl
    (c.write_flow_order.ensures a.tables.now.counts.aggregates a.tables.now.counts.virtual_storages)
    ∙ ap (λ (l : List ℕ). sets l flow_order_made_at order) c.write_tables.ensures

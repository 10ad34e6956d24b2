-- `build_rows::write_tables` meets its contract.
use mathlib.Core.Path.{◌≡◌, ◌∙◌}
use Prim.Native.Nat.{ℕ, ◌≤◌}
use mathlib.Core.List.{List}
use native.Mathlib.Omega.{arith}
use lib.ListN.{length}
use Rattle.layout.specs.Layout.{shape_made_at, words_length}
use Rattle.laws.proofs.Tails.{put_tail, tail_kept}
use Rattle.build_rows.proofs.LaidOut.{shape_room, tables_lent}
use Rattle.build_rows.proofs.write_tables.Goals as goal

pub write_nodes-requires : goal.write_nodes-requires
write_nodes-requires c = (c.requires.0.nodes, omega (arith, c.requires.1), shape_room c.args.words.now c.requires.2)

pub slice_bounds-write_edges-count : goal.slice_bounds-write_edges-count
slice_bounds-write_edges-count c =
    -- the words with the nodes' table, and with the edges'
    let words₁ : List ℕ = put_tail shape_made_at c.args.words.now c.write_nodes.new.shape in
    let long₁ : length words₁ ≡ length c.args.words.now = tail_kept shape_made_at c.args.words.now c.write_nodes.new.shape c.write_nodes.auto.shape in
    let room₁ : words_length ≤ length words₁ = omega (arith, long₁, c.requires.2) in
    omega (arith, room₁)

pub write_edges-requires : goal.write_edges-requires
write_edges-requires c =
    -- the words with the nodes' table, and with the edges'
    let words₁ : List ℕ = put_tail shape_made_at c.args.words.now c.write_nodes.new.shape in
    let long₁ : length words₁ ≡ length c.args.words.now = tail_kept shape_made_at c.args.words.now c.write_nodes.new.shape c.write_nodes.auto.shape in
    let room₁ : words_length ≤ length words₁ = omega (arith, long₁, c.requires.2) in
    (c.requires.0.nodes, c.requires.0.edges, c.requires.1, shape_room words₁ room₁, c.requires.4)

pub slice_bounds-write_counts-count : goal.slice_bounds-write_counts-count
slice_bounds-write_counts-count c =
    -- the words with the nodes' table, and with the edges'
    let words₁ : List ℕ = put_tail shape_made_at c.args.words.now c.write_nodes.new.shape in
    let words₂ : List ℕ = put_tail shape_made_at words₁ c.write_edges.new.shape in
    let long₁ : length words₁ ≡ length c.args.words.now = tail_kept shape_made_at c.args.words.now c.write_nodes.new.shape c.write_nodes.auto.shape in
    let long₂ : length words₂ ≡ length words₁ = tail_kept shape_made_at words₁ c.write_edges.new.shape c.write_edges.auto.shape in
    let room₁ : words_length ≤ length words₁ = omega (arith, long₁, c.requires.2) in
    let room₂ : words_length ≤ length words₂ = omega (arith, long₂, room₁) in
    omega (arith, room₂)

pub write_counts-requires : goal.write_counts-requires
write_counts-requires c =
    -- the words with the nodes' table, and with the edges'
    let words₁ : List ℕ = put_tail shape_made_at c.args.words.now c.write_nodes.new.shape in
    let words₂ : List ℕ = put_tail shape_made_at words₁ c.write_edges.new.shape in
    let long₁ : length words₁ ≡ length c.args.words.now = tail_kept shape_made_at c.args.words.now c.write_nodes.new.shape c.write_nodes.auto.shape in
    let long₂ : length words₂ ≡ length words₁ = tail_kept shape_made_at words₁ c.write_edges.new.shape c.write_edges.auto.shape in
    let room₁ : words_length ≤ length words₁ = omega (arith, long₁, c.requires.2) in
    let room₂ : words_length ≤ length words₂ = omega (arith, long₂, room₁) in
    (shape_room words₂ room₂, c.requires.0, c.requires.3)

pub shape_of-words : goal.shape_of-words
shape_of-words c =
    -- the words with the nodes' table, and with the edges'
    let words₁ : List ℕ = put_tail shape_made_at c.args.words.now c.write_nodes.new.shape in
    let words₂ : List ℕ = put_tail shape_made_at words₁ c.write_edges.new.shape in
    let long₁ : length words₁ ≡ length c.args.words.now = tail_kept shape_made_at c.args.words.now c.write_nodes.new.shape c.write_nodes.auto.shape in
    let long₂ : length words₂ ≡ length words₁ = tail_kept shape_made_at words₁ c.write_edges.new.shape c.write_edges.auto.shape in
    tail_kept shape_made_at words₂ c.write_counts.new.shape c.write_counts.auto.shape
    ∙ long₂ ∙ long₁

pub returns : goal.returns
returns c =
    let t = c.args in
    tables_lent t.sentinel t.s.now t.edge_to_col.now t.z t.varying t.words.now c.write_nodes.new.shape
    c.write_edges.new.shape c.write_counts.new.shape c.write_nodes.ensures
    c.write_edges.ensures c.write_counts.ensures

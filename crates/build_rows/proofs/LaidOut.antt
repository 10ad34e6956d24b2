-- The tables written behind the rows lay the programme out. Assumes nothing.
use mathlib.Core.Path.{◌≡◌, refl, ◌∙◌, ap}
use Prim.Native.Nat.{ℕ, ◌+◌, ◌*◌, ◌≤◌}
use mathlib.Core.List.{List, map, flat_map}
use native.Mathlib.Omega.{arith}
use lib.ListN.{length, take}
use lib.Seq.{sets, length-sets}
use lib.Ieee.{Float}
use Rattle.layout.specs.Layout.{aggregates_made_at, edges_at, edges_made_at, flow_order_made_at, makers_made_at, node_rows_made_at, nodes_at, nodes_made_at, sentinel_at, shape_length, shape_made_at, virtual_storages_made_at, words_length}
use Rattle.laws.specs.Part.{part}
use Rattle.laws.proofs.Sets.{part_same, part_before, part_after}
use Rattle.laws.proofs.Tails.{tail, put_tail, tail_length, tail_written}
use Rattle.pywr.specs.declared.Sentinel.{Sentinel}
use Rattle.pywr.specs.Programme.{Built}
use Rattle.pywr.specs.Build.{node_shape}
use Rattle.pywr.specs.Written.{node_words, edge_words, node_row_words, virtual_storage_words, maker_words, count_words, rows_of}
use Rattle.network_laws.specs.NetworkAt.{node_records}
use Rattle.build_shape.specs.ShapeTables.{edge_entries, counts}
use Rattle.build_write.specs.declared.Sizes.{Sizes}
use Rattle.build_write.specs.Lp.{Few, columns_of}
use Rattle.build_append.specs.LpBuilder.{RowsHeld}
use Rattle.build_append.proofs.RowsHeldLaws.{held_agrees}
use Rattle.build_rows.specs.Assembled.{Laid, tables_written}

-- ---- the shape run's words, lent

pub shape_room : (words : List ℕ) → words_length ≤ length words → shape_length ≤ length (tail shape_made_at words)
shape_room words h = omega (arith, tail_length shape_made_at words)

-- the part comes back with the nodes' table, with the edges' and with the counts
module _ (s : Sentinel) (file table : List ℕ) (z : Sizes) (varying : ℕ) (words s₁ s₂ s₃ : List ℕ) where
  abbrev ns : List ℕ
  ns = flat_map node_words (map node_shape (node_records file z.nodes))

  abbrev es : List ℕ
  es = flat_map edge_words (edge_entries file table z.nodes z.edges)

  abbrev words₁ : List ℕ
  words₁ = put_tail shape_made_at words s₁

  abbrev words₂ : List ℕ
  words₂ = put_tail shape_made_at words₁ s₂

  pub tables_lent : s₁ ≡ sets (tail shape_made_at words) nodes_at ns → s₂ ≡ sets (tail shape_made_at words₁) edges_at es → s₃ ≡ sets (tail shape_made_at words₂) sentinel_at (counts s z varying)
      → put_tail shape_made_at words₂ s₃ ≡ tables_written s file table z varying words
  tables_lent e₁ e₂ e₃ =
      tail_written shape_made_at words₂ sentinel_at shape_made_at s₃ (counts s z varying) refl e₃
      ∙ ap (λ (l : List ℕ). sets l shape_made_at (counts s z varying)) (tail_written shape_made_at words₁ edges_at edges_made_at s₂ es refl e₂
      ∙ ap (λ (l : List ℕ). sets l edges_made_at es) (tail_written shape_made_at words nodes_at nodes_made_at s₁ ns refl e₁))

-- ---- the tables, written

-- what the passes over the rows leave: the rows, and the tables of node rows, aggregates, virtual storages and makers
pub record RowsLaid (b : Built) (z : Sizes) (words : List ℕ) (numbers : List Float) : Type 0 where
  pub rows : RowsHeld (rows_of b.programme) words numbers (record { rows = z.rows; elements = z.elements })
  pub node_rows : part node_rows_made_at (4 * z.node_rows) words ≡ flat_map node_row_words b.shape.node_rows
  pub aggregates : part aggregates_made_at z.aggregates words ≡ b.shape.aggregates
  pub virtual_storages : part virtual_storages_made_at (6 * z.virtual_storages) words ≡ flat_map virtual_storage_words b.shape.virtual_storages
  pub makers : part makers_made_at (3 * z.rows) words ≡ flat_map maker_words b.makers

module _ (words ns es cs os : List ℕ) (n e : ℕ) (ln : length ns ≡ 2 * n) (le : length es ≡ 3 * e) (lc : length cs ≡ 11) (lo : length os ≡ e)
    (fn : n ≤ 256) (fe : e ≤ 512) (room : words_length ≤ length words) where
  -- nodes, edges and counts written, in this order, and the flow order behind them
  abbrev tables : List ℕ
  tables = sets (sets (sets words nodes_made_at ns) edges_made_at es) shape_made_at cs

  abbrev pub after : List ℕ
  after = sets tables flow_order_made_at os

  -- the flow order changes nothing in front of it
  in_front : (a k : ℕ) → a + k ≤ flow_order_made_at → part a k after ≡ part a k tables
  in_front a k h = part_before tables os flow_order_made_at a k h

  -- between the tables and the flow order, and in front of all, the words stay
  pub between : (a k : ℕ) → node_rows_made_at ≤ a → a + k ≤ flow_order_made_at → part a k after ≡ part a k words
  between a k h i =
      in_front a k i
      ∙ part_after (sets (sets words nodes_made_at ns) edges_made_at es) cs shape_made_at a k (omega (arith, lc))
      ∙ part_after (sets words nodes_made_at ns) es edges_made_at a k (omega (arith, le))
      ∙ part_after words ns nodes_made_at a k (omega (arith, ln))

  pub before : take shape_made_at after ≡ take shape_made_at words
  before =
      in_front 0 shape_made_at (omega arith)
      ∙ part_before (sets (sets words nodes_made_at ns) edges_made_at es) cs shape_made_at 0 shape_made_at (omega arith)
      ∙ part_before (sets words nodes_made_at ns) es edges_made_at 0 shape_made_at (omega arith)
      ∙ part_before words ns nodes_made_at 0 shape_made_at (omega arith)

  pub counts_there : part shape_made_at 11 after ≡ cs
  counts_there =
      in_front shape_made_at 11 (omega arith)
      ∙ part_same (sets (sets words nodes_made_at ns) edges_made_at es) cs shape_made_at 11 lc
      (omega (arith, length-sets (sets words nodes_made_at ns) edges_made_at es, length-sets words nodes_made_at ns))

  pub nodes_there : part nodes_made_at (2 * n) after ≡ ns
  nodes_there =
      in_front nodes_made_at (2 * n) (omega arith)
      ∙ part_after (sets (sets words nodes_made_at ns) edges_made_at es) cs shape_made_at nodes_made_at (2 * n) (omega (arith, lc))
      ∙ part_before (sets words nodes_made_at ns) es edges_made_at nodes_made_at (2 * n) (omega arith)
      ∙ part_same words ns nodes_made_at (2 * n) ln (omega arith)

  pub edges_there : part edges_made_at (3 * e) after ≡ es
  edges_there =
      in_front edges_made_at (3 * e) (omega arith)
      ∙ part_after (sets (sets words nodes_made_at ns) edges_made_at es) cs shape_made_at edges_made_at (3 * e) (omega (arith, lc))
      ∙ part_same (sets words nodes_made_at ns) es edges_made_at (3 * e) le (omega (arith, length-sets words nodes_made_at ns))

  pub flow_order_there : part flow_order_made_at e after ≡ os
  flow_order_there =
      part_same tables os flow_order_made_at e lo
      (omega
      (arith, length-sets (sets (sets words nodes_made_at ns) edges_made_at es) shape_made_at cs, length-sets (sets words nodes_made_at ns) edges_made_at es, length-sets words nodes_made_at ns))

pub laid_out : (s : Sentinel) (b : Built) (z : Sizes) (words : List ℕ) (numbers : List Float) (ns es cs os : List ℕ)
    → Few z → columns_of s z ≡ b.programme.columns → words_length ≤ length words
    → length ns ≡ 2 * z.nodes → length es ≡ 3 * z.edges → length cs ≡ 11 → length os ≡ z.edges
    → ns ≡ flat_map node_words b.shape.nodes → es ≡ flat_map edge_words b.shape.mapped_edges → cs ≡ count_words b → os ≡ b.shape.flow_order
    → RowsLaid b z words numbers
    → Laid s b z (sets (sets (sets (sets words nodes_made_at ns) edges_made_at es) shape_made_at cs) flow_order_made_at os) numbers
laid_out s b z words numbers ns es cs os few cols room ln le lc lo en ee ec eo r =
    let w : List ℕ = after words ns es cs os z.nodes z.edges ln le lc lo few.nodes few.edges room in
    let stays : (a k : ℕ) → node_rows_made_at ≤ a → a + k ≤ flow_order_made_at → part a k w ≡ part a k words =
    between words ns es cs os z.nodes z.edges ln le lc lo few.nodes few.edges room in
    record {
      few = few;
      columns = cols;
      rows = held_agrees (rows_of b.programme) words w numbers numbers (record { rows = z.rows; elements = z.elements }) r.rows
          (before words ns es cs os z.nodes z.edges ln le lc lo few.nodes few.edges room) refl;
      counts = counts_there words ns es cs os z.nodes z.edges ln le lc lo few.nodes few.edges room ∙ ec;
      nodes = nodes_there words ns es cs os z.nodes z.edges ln le lc lo few.nodes few.edges room ∙ en;
      edges = edges_there words ns es cs os z.nodes z.edges ln le lc lo few.nodes few.edges room ∙ ee;
      node_rows = stays node_rows_made_at (4 * z.node_rows) (omega arith) (omega (arith, few.node_rows)) ∙ r.node_rows;
      aggregates = stays aggregates_made_at z.aggregates (omega arith) (omega (arith, few.aggregates)) ∙ r.aggregates;
      virtual_storages = stays virtual_storages_made_at (6 * z.virtual_storages) (omega arith) (omega (arith, few.virtual_storages)) ∙ r.virtual_storages;
      makers = stays makers_made_at (3 * z.rows) (omega arith) (omega (arith, few.rows)) ∙ r.makers;
      flow_order = flow_order_there words ns es cs os z.nodes z.edges ln le lc lo few.nodes few.edges room ∙ eo;
    }

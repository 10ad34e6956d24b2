-- A programme assembled in a build's work runs. In `words` stand the columns of the elements, the row starts and the shape run's words;
-- in `numbers` the lower bounds of the rows, the upper bounds and the elements. Assumes nothing.
use Rattle.std.specs.Prelude.{◌≡◌, ℕ, ◌*◌, Float, Result, Ok, Err}
use mathlib.Core.List.{List, map, flat_map}
use Rattle.std.proofs.lemmas.List.Edits.{sets}
use Rattle.layout.specs.Layout.{counts_length, node_width, edge_width, node_row_width, virtual_storage_width, maker_width}
use Rattle.layout.specs.Layout.{shape_made_at, nodes_made_at, edges_made_at, node_rows_made_at, aggregates_made_at, virtual_storages_made_at, makers_made_at, flow_order_made_at}
use Rattle.laws.specs.Part.{part}
use Rattle.pywr.specs.declared.Sentinel.{Sentinel}
use Rattle.pywr.specs.declared.Refusal.{Refusal}
use Rattle.pywr.specs.Result.{value, refused}
use Rattle.pywr.specs.Programme.{Built}
use Rattle.pywr.specs.Build.{node_shape, build}
use Rattle.pywr.specs.Written.{node_words, edge_words, node_row_words, virtual_storage_words, maker_words, count_words, rows_of}
use Rattle.network_laws.specs.NetworkAt.{node_records}
use Rattle.build_shape.specs.ShapeTables.{edge_entries, counts}
use Rattle.build_write.specs.declared.Sizes.{Sizes}
use Rattle.build_write.specs.Lp.{Few, columns_of}
use Rattle.build_append.specs.LpBuilder.{RowsHeld}

-- the programme b with its shape, as the work runs hold it
pub record Laid (s : Sentinel) (b : Built) (z : Sizes) (words : List ℕ) (numbers : List Float) : Type 0 where
  pub few : Few z
  pub columns : columns_of s z ≡ b.programme.columns
  pub rows : RowsHeld (rows_of b.programme) words numbers (record { rows = z.rows; elements = z.elements })
  pub counts : part shape_made_at counts_length words ≡ count_words b
  pub nodes : part nodes_made_at (node_width * z.nodes) words ≡ flat_map node_words b.shape.nodes
  pub edges : part edges_made_at (edge_width * z.edges) words ≡ flat_map edge_words b.shape.mapped_edges
  pub node_rows : part node_rows_made_at (node_row_width * z.node_rows) words ≡ flat_map node_row_words b.shape.node_rows
  pub aggregates : part aggregates_made_at z.aggregates words ≡ b.shape.aggregates
  pub virtual_storages : part virtual_storages_made_at (virtual_storage_width * z.virtual_storages) words ≡ flat_map virtual_storage_words b.shape.virtual_storages
  pub makers : part makers_made_at (maker_width * z.rows) words ≡ flat_map maker_words b.makers
  pub flow_order : part flow_order_made_at z.edges words ≡ b.shape.flow_order

-- the build's programme is laid out
pub record Made (s : Sentinel) (file : List ℕ) (z : Sizes) (words : List ℕ) (numbers : List Float) : Type 0 where
  pub built : Built
  pub is : build s file ≡ value built
  pub laid : Laid s built z words numbers

-- what assembling promises, refusals included
pub record AfterAssemble (s : Sentinel) (file : List ℕ) (r : Result Sizes Refusal) (words : List ℕ) (numbers : List Float) : Type 0 where
  pub refusal : (refusal : Refusal) → r ≡ Err refusal → build s file ≡ refused refusal.number refusal.place
  pub made : (z : Sizes) → r ≡ Ok z → Made s file z words numbers

-- the tables of nodes and edges and the counts, written into `words` behind the rows
abbrev pub tables_written : Sentinel → List ℕ → List ℕ → Sizes → ℕ → List ℕ → List ℕ
tables_written s file table z varying words =
    sets
    (sets
    (sets words nodes_made_at (flat_map node_words (map node_shape (node_records file z.nodes))))
    edges_made_at (flat_map edge_words (edge_entries file table z.nodes z.edges)))
    shape_made_at (counts s z varying)

-- these, and the edges' numbers in flow order
abbrev pub shape_finished : Sentinel → List ℕ → List ℕ → Sizes → ℕ → List ℕ → List ℕ → List ℕ
shape_finished s file table z varying order words = sets (tables_written s file table z varying words) flow_order_made_at order

-- What is written from a build's work runs into the store's runs. In `words` stand the columns of the elements, the row starts and the shape run's words;
-- in `numbers` the lower bounds of the rows, the upper bounds and the elements. Assumes nothing.
use Rattle.std.specs.Prelude.{◌≡◌, ℕ, ◌+◌, ◌*◌, ◌<◌, ◌≤◌, List, ◌++◌, map, get_or, replicate, Float}
use Rattle.std.proofs.lemmas.List.Edits.{sets}
use Rattle.layout.specs.Layout.{node_ceiling, edge_ceiling, aggregate_ceiling, virtual_storage_ceiling, set_ceiling, row_ceiling, element_ceiling, node_row_ceiling, counts_length}
use Rattle.layout.specs.Layout.{nodes_at, edges_at, node_rows_at, aggregates_at, virtual_storages_at, node_width, edge_width, node_row_width, virtual_storage_width, makers_at, maker_width, flow_order_at}
use Rattle.layout.specs.Layout.{starts_made_at, shape_made_at, nodes_made_at, edges_made_at, node_rows_made_at, aggregates_made_at, virtual_storages_made_at, makers_made_at, flow_order_made_at, uppers_made_at, elements_made_at}
use Rattle.laws.specs.Part.{part}
use Rattle.pywr.specs.declared.Sentinel.{Sentinel}
use Rattle.pywr.specs.Programme.{Column}
use Rattle.pywr.specs.Build.{edge_column, set_column}
use Rattle.build_write.specs.declared.Sizes.{Sizes}

-- the sizes are within the ceilings
pub record Few (z : Sizes) : Type 0 where
  pub nodes : z.nodes ≤ node_ceiling
  pub edges : z.edges ≤ edge_ceiling
  pub edge_columns : z.edge_columns ≤ edge_ceiling
  pub sets : z.sets ≤ set_ceiling
  pub rows : z.rows ≤ row_ceiling
  pub elements : z.elements ≤ element_ceiling
  pub node_rows : z.node_rows ≤ node_row_ceiling
  pub aggregates : z.aggregates ≤ aggregate_ceiling
  pub virtual_storages : z.virtual_storages ≤ virtual_storage_ceiling

-- the row starts that `words` holds begin at 0, do not fall, and end at the element count
pub record RowStarts (z : Sizes) (words : List ℕ) : Type 0 where
  pub first : get_or words starts_made_at 0 ≡ 0
  pub rise : (r : ℕ) → r < z.rows → get_or words (starts_made_at + r) 0 ≤ get_or words (starts_made_at + r + 1) 0
  pub last : get_or words (starts_made_at + z.rows) 0 ≡ z.elements

-- "edges, lower 0, upper the high sentinel; then one 0..1 integer column per distinct exclusive set"
abbrev pub columns_of : Sentinel → Sizes → List Column
columns_of s z = replicate z.edge_columns (edge_column s) ++ replicate z.sets set_column

pub record ColumnsWritten (s : Sentinel) (z : Sizes) (lower upper cost lower' upper' cost' : List Float) : Type 0 where
  pub lowers : lower' ≡ sets lower 0 (map (λ (c : Column). c.lower) (columns_of s z))
  pub uppers : upper' ≡ sets upper 0 (map (λ (c : Column). c.upper) (columns_of s z))
  pub costs : cost' ≡ sets cost 0 (map (λ (c : Column). c.cost) (columns_of s z))

pub record RowsWritten (z : Sizes) (numbers lower upper lower' upper' : List Float) : Type 0 where
  pub lowers : lower' ≡ sets lower 0 (part 0 z.rows numbers)
  pub uppers : upper' ≡ sets upper 0 (part uppers_made_at z.rows numbers)

pub record MatrixWritten (z : Sizes) (words : List ℕ) (numbers elements : List Float) (columns starts : List ℕ) (elements' : List Float) (columns' starts' : List ℕ) : Type 0 where
  pub factors : elements' ≡ sets elements 0 (part elements_made_at z.elements numbers)
  pub places : columns' ≡ sets columns 0 (part 0 z.elements words)
  pub row_starts : starts' ≡ sets starts 0 (part starts_made_at (z.rows + 1) words)

-- the counts, then the tables of nodes, edges, node rows, aggregates and virtual storages
unfoldable pub shape_tables : Sizes → List ℕ → List ℕ → List ℕ
shape_tables z words old =
    let counts : List ℕ = sets old 0 (part shape_made_at counts_length words) in
    let nodes : List ℕ = sets counts nodes_at (part nodes_made_at (node_width * z.nodes) words) in
    let edges : List ℕ = sets nodes edges_at (part edges_made_at (edge_width * z.edges) words) in
    let node_rows : List ℕ = sets edges node_rows_at (part node_rows_made_at (node_row_width * z.node_rows) words) in
    let aggregates : List ℕ = sets node_rows aggregates_at (part aggregates_made_at z.aggregates words) in
    sets aggregates virtual_storages_at (part virtual_storages_made_at (virtual_storage_width * z.virtual_storages) words)

-- these, and behind them the makers of the rows and the flow order
unfoldable pub shape_written : Sizes → List ℕ → List ℕ → List ℕ
shape_written z words old =
    let makers : List ℕ = sets (shape_tables z words old) makers_at (part makers_made_at (maker_width * z.rows) words) in
    sets makers flow_order_at (part flow_order_made_at z.edges words)

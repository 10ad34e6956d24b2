-- The layout of the store and of the work areas: ceilings, lengths of runs, where each thing stands in a run, and the words of the shape run by name.
-- `follows` proves that each table starts where the one before it ends, so that no number changes alone. src/lib.rt has the same for the code. Assumes nothing.
use Rattle.std.specs.Prelude.{◌≡◌, refl, ℕ, ◌+◌, ◌*◌, List, get_or}

-- ---- ceilings

abbrev pub node_ceiling : ℕ
node_ceiling = 256

abbrev pub edge_ceiling : ℕ
edge_ceiling = 512

abbrev pub aggregate_ceiling : ℕ
aggregate_ceiling = 64

abbrev pub virtual_storage_ceiling : ℕ
virtual_storage_ceiling = 32

-- the sets that an aggregate lists, and the parts of a virtual storage
abbrev pub aggregate_set_ceiling : ℕ
aggregate_set_ceiling = 16

abbrev pub part_ceiling : ℕ
part_ceiling = 64

-- distinct exclusive sets, and the nodes that a set lists; a membership is a node's place in a set
abbrev pub set_ceiling : ℕ
set_ceiling = 128

abbrev pub set_size_ceiling : ℕ
set_size_ceiling = 16

abbrev pub membership_ceiling : ℕ
membership_ceiling = 2048

-- an edge's columns and the sets'
abbrev pub column_ceiling : ℕ
column_ceiling = 640

abbrev pub row_ceiling : ℕ
row_ceiling = 1024

abbrev pub element_ceiling : ℕ
element_ceiling = 4096

-- of a node in no exclusive set one, of a node in sets two for each membership
abbrev pub node_row_ceiling : ℕ
node_row_ceiling = 4352

-- ---- the store: its runs of columns, of rows and of elements are as long as their ceilings

-- the start of each row, and where the last one ends
abbrev pub row_starts_length : ℕ
row_starts_length = 1025

abbrev pub shape_length : ℕ
shape_length = 23307

-- the shape run starts with the sentinel's code and the counts
abbrev pub sentinel_at : ℕ
sentinel_at = 0

abbrev pub node_count_at : ℕ
node_count_at = 1

abbrev pub edge_count_at : ℕ
edge_count_at = 2

abbrev pub edge_column_count_at : ℕ
edge_column_count_at = 3

abbrev pub set_count_at : ℕ
set_count_at = 4

abbrev pub varying_count_at : ℕ
varying_count_at = 5

abbrev pub fixed_count_at : ℕ
fixed_count_at = 6

abbrev pub element_count_at : ℕ
element_count_at = 7

abbrev pub node_row_count_at : ℕ
node_row_count_at = 8

abbrev pub aggregate_count_at : ℕ
aggregate_count_at = 9

abbrev pub virtual_storage_count_at : ℕ
virtual_storage_count_at = 10

abbrev pub counts_length : ℕ
counts_length = 11

-- where its tables start
abbrev pub nodes_at : ℕ
nodes_at = 11

abbrev pub edges_at : ℕ
edges_at = 523

abbrev pub node_rows_at : ℕ
node_rows_at = 2059

abbrev pub aggregates_at : ℕ
aggregates_at = 19467

abbrev pub virtual_storages_at : ℕ
virtual_storages_at = 19531

abbrev pub makers_at : ℕ
makers_at = 19723

abbrev pub flow_order_at : ℕ
flow_order_at = 22795

-- how many words an entry of each has
abbrev pub node_width : ℕ
node_width = 2

abbrev pub edge_width : ℕ
edge_width = 3

abbrev pub node_row_width : ℕ
node_row_width = 4

abbrev pub aggregate_width : ℕ
aggregate_width = 1

abbrev pub virtual_storage_width : ℕ
virtual_storage_width = 6

abbrev pub maker_width : ℕ
maker_width = 3

abbrev pub flow_order_width : ℕ
flow_order_width = 1

-- the counts of a shape run
abbrev pub sentinel_in : List ℕ → ℕ
sentinel_in shape = get_or shape sentinel_at 0

abbrev pub nodes_in : List ℕ → ℕ
nodes_in shape = get_or shape node_count_at 0

abbrev pub edges_in : List ℕ → ℕ
edges_in shape = get_or shape edge_count_at 0

abbrev pub edge_columns_in : List ℕ → ℕ
edge_columns_in shape = get_or shape edge_column_count_at 0

abbrev pub sets_in : List ℕ → ℕ
sets_in shape = get_or shape set_count_at 0

abbrev pub varying_in : List ℕ → ℕ
varying_in shape = get_or shape varying_count_at 0

abbrev pub fixed_in : List ℕ → ℕ
fixed_in shape = get_or shape fixed_count_at 0

abbrev pub elements_in : List ℕ → ℕ
elements_in shape = get_or shape element_count_at 0

abbrev pub node_rows_in : List ℕ → ℕ
node_rows_in shape = get_or shape node_row_count_at 0

abbrev pub aggregates_in : List ℕ → ℕ
aggregates_in shape = get_or shape aggregate_count_at 0

abbrev pub virtual_storages_in : List ℕ → ℕ
virtual_storages_in shape = get_or shape virtual_storage_count_at 0

-- the words of the entry at `at`: of a node
abbrev pub node_kind : List ℕ → ℕ → ℕ
node_kind shape at = get_or shape at 0

abbrev pub node_flag : List ℕ → ℕ → ℕ
node_flag shape at = get_or shape (at + 1) 0

-- of an edge
abbrev pub edge_from : List ℕ → ℕ → ℕ
edge_from shape at = get_or shape at 0

abbrev pub edge_to : List ℕ → ℕ → ℕ
edge_to shape at = get_or shape (at + 1) 0

abbrev pub mapped_column : List ℕ → ℕ → ℕ
mapped_column shape at = get_or shape (at + 2) 0

-- of a node row
abbrev pub node_row_node : List ℕ → ℕ → ℕ
node_row_node shape at = get_or shape at 0

abbrev pub node_row_row : List ℕ → ℕ → ℕ
node_row_row shape at = get_or shape (at + 1) 0

abbrev pub node_row_type : List ℕ → ℕ → ℕ
node_row_type shape at = get_or shape (at + 2) 0

abbrev pub node_row_set : List ℕ → ℕ → ℕ
node_row_set shape at = get_or shape (at + 3) 0

-- of an aggregate or a virtual storage: its row
abbrev pub entry_row : List ℕ → ℕ → ℕ
entry_row shape at = get_or shape at 0

-- of a virtual storage: its period
abbrev pub period_flag : List ℕ → ℕ → ℕ
period_flag shape at = get_or shape (at + 1) 0

abbrev pub period_start_month : List ℕ → ℕ → ℕ
period_start_month shape at = get_or shape (at + 2) 0

abbrev pub period_start_day : List ℕ → ℕ → ℕ
period_start_day shape at = get_or shape (at + 3) 0

abbrev pub period_end_month : List ℕ → ℕ → ℕ
period_end_month shape at = get_or shape (at + 4) 0

abbrev pub period_end_day : List ℕ → ℕ → ℕ
period_end_day shape at = get_or shape (at + 5) 0

-- of a row's maker
abbrev pub maker_kind : List ℕ → ℕ → ℕ
maker_kind shape at = get_or shape at 0

abbrev pub maker_index : List ℕ → ℕ → ℕ
maker_index shape at = get_or shape (at + 1) 0

abbrev pub maker_shared_by : List ℕ → ℕ → ℕ
maker_shared_by shape at = get_or shape (at + 2) 0

-- of the flow order: an edge's number
abbrev pub flow_order_edge : List ℕ → ℕ → ℕ
flow_order_edge shape at = get_or shape at 0

-- ---- the build's work area

-- a run of words: the elements' columns from 0, the row starts, then the shape run's words
abbrev pub starts_made_at : ℕ
starts_made_at = 4096

abbrev pub shape_made_at : ℕ
shape_made_at = 5121

abbrev pub nodes_made_at : ℕ
nodes_made_at = shape_made_at + nodes_at

abbrev pub edges_made_at : ℕ
edges_made_at = shape_made_at + edges_at

abbrev pub node_rows_made_at : ℕ
node_rows_made_at = shape_made_at + node_rows_at

abbrev pub aggregates_made_at : ℕ
aggregates_made_at = shape_made_at + aggregates_at

abbrev pub virtual_storages_made_at : ℕ
virtual_storages_made_at = shape_made_at + virtual_storages_at

abbrev pub makers_made_at : ℕ
makers_made_at = shape_made_at + makers_at

abbrev pub flow_order_made_at : ℕ
flow_order_made_at = shape_made_at + flow_order_at

abbrev pub words_length : ℕ
words_length = 28428

-- a run of doubles: the rows' lower bounds from 0, their upper bounds, then the elements, with room for the row that is being gathered
abbrev pub uppers_made_at : ℕ
uppers_made_at = 1024

abbrev pub elements_made_at : ℕ
elements_made_at = 2048

abbrev pub numbers_length : ℕ
numbers_length = 6784

-- ---- the step's work area: the lower bounds of the intervals, the nodes' from 0, then the aggregates' and the virtual storages'; then all upper bounds

abbrev pub aggregates_held_at : ℕ
aggregates_held_at = 256

abbrev pub virtual_storages_held_at : ℕ
virtual_storages_held_at = 320

abbrev pub uppers_at : ℕ
uppers_at = 352

abbrev pub step_work_length : ℕ
step_work_length = 704

-- ---- each number with those that it follows from

pub record Follows : Type 0 where
  pub memberships : membership_ceiling ≡ set_size_ceiling * set_ceiling
  pub columns : column_ceiling ≡ edge_ceiling + set_ceiling
  pub node_rows_lem : node_row_ceiling ≡ node_ceiling + 2 * membership_ceiling
  pub row_starts_lem : row_starts_length ≡ row_ceiling + 1
  pub counts : counts_length ≡ virtual_storage_count_at + 1
  pub nodes : nodes_at ≡ counts_length
  pub edges : edges_at ≡ nodes_at + node_width * node_ceiling
  pub node_rows : node_rows_at ≡ edges_at + edge_width * edge_ceiling
  pub aggregates : aggregates_at ≡ node_rows_at + node_row_width * node_row_ceiling
  pub virtual_storages : virtual_storages_at ≡ aggregates_at + aggregate_width * aggregate_ceiling
  pub makers : makers_at ≡ virtual_storages_at + virtual_storage_width * virtual_storage_ceiling
  pub flow_order_lem : flow_order_at ≡ makers_at + maker_width * row_ceiling
  pub shape : shape_length ≡ flow_order_at + flow_order_width * edge_ceiling
  pub starts_made : starts_made_at ≡ element_ceiling
  pub shape_made : shape_made_at ≡ starts_made_at + row_starts_length
  pub words : words_length ≡ shape_made_at + shape_length
  pub uppers_made : uppers_made_at ≡ row_ceiling
  pub elements_made : elements_made_at ≡ uppers_made_at + row_ceiling
  pub numbers : numbers_length ≡ elements_made_at + element_ceiling + column_ceiling
  pub aggregates_held : aggregates_held_at ≡ node_ceiling
  pub virtual_storages_held_lem : virtual_storages_held_at ≡ aggregates_held_at + aggregate_ceiling
  pub uppers : uppers_at ≡ virtual_storages_held_at + virtual_storage_ceiling
  pub step_work_lem : step_work_length ≡ 2 * uppers_at

pub follows : Follows
follows =
    record {
      memberships = refl;
      columns = refl;
      node_rows_lem = refl;
      row_starts_lem = refl;
      counts = refl;
      nodes = refl;
      edges = refl;
      node_rows = refl;
      aggregates = refl;
      virtual_storages = refl;
      makers = refl;
      flow_order_lem = refl;
      shape = refl;
      starts_made = refl;
      shape_made = refl;
      words = refl;
      uppers_made = refl;
      elements_made = refl;
      numbers = refl;
      aggregates_held = refl;
      virtual_storages_held_lem = refl;
      uppers = refl;
      step_work_lem = refl;
    }

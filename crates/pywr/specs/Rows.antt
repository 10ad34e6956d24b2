-- The rows: elements that rise by column, and what each maker of a row puts into it (builder.rs). Assumes nothing.
use Rattle.std.specs.Prelude.{ℕ, ◌+◌, List, [], ◌∷◌, cond, ltb, eqb, Float}
use Rattle.std.specs.Float.{binary64}
use Rattle.std.specs.Float.Ieee.{add, neg}
use Rattle.pywr.specs.Numbers.{zero64, one64}
use Rattle.pywr.specs.Network.{output, storage, Node, Aggregate, Part, VirtualStorage, Network, kind_of, keep_if}
use Rattle.pywr.specs.ColEdgeMap.{columns, MappedEdge, mapped_edges}
use Rattle.pywr.specs.ExclusiveSets.{exclusive_sets, set_number}

pub record Element : Type 0 where
  pub column : ℕ
  pub value : Float

abbrev pub element : ℕ → Float → Element
element column value = record { column = column; value = value }

-- add_element: "Elements of a row rise by column; repeats add, from 0.0."
unfoldable pub add_element : ℕ → Float → List Element → List Element
add_element column value [] = element column (add binary64 zero64 value) ∷ []
add_element column value (e ∷ es) =
    cond (ltb column e.column) (element column (add binary64 zero64 value) ∷ e ∷ es)
    (cond (eqb column e.column) (element column (add binary64 e.value value) ∷ es)
    (e ∷ add_element column value es))

-- the same factor added on each column of a list, in order
unfoldable pub add_on : List ℕ → Float → List Element → List Element
add_on [] factor row = row
add_on (column ∷ columns) factor row = add_on columns factor (add_element column factor row)

-- what every row is made from: the network's nodes, its edges with their columns, how many edge columns there are, the distinct sets
pub record ColumnMap : Type 0 where
  pub nodes : List Node
  pub mapped_edges : List MappedEdge
  pub edge_columns : ℕ
  pub sets : List (List ℕ)

unfoldable pub column_map : Network → ColumnMap
column_map net = record { nodes = net.nodes; mapped_edges = mapped_edges net; edge_columns = (columns net).count; sets = exclusive_sets net }

-- the columns of the edges whose one end is the node, in edge order
unfoldable pub columns_with : (MappedEdge → ℕ) → ℕ → List MappedEdge → List ℕ
columns_with end node [] = []
columns_with end node (edge ∷ edges) = keep_if (eqb (end edge) node) edge.column (columns_with end node edges)

unfoldable pub columns_into : ℕ → List MappedEdge → List ℕ
columns_into node edges = columns_with (λ edge. edge.to) node edges

unfoldable pub columns_out_of : ℕ → List MappedEdge → List ℕ
columns_out_of node edges = columns_with (λ edge. edge.from) node edges

-- add_node: a factor times the node's row is added. "Node row: input and link use outgoing edges, output incoming, storage + incoming − outgoing."
unfoldable pub add_node : ColumnMap → ℕ → Float → List Element → List Element
add_node mapping node factor row =
    let into : List ℕ = columns_into node mapping.mapped_edges in
    let out : List ℕ = columns_out_of node mapping.mapped_edges in
    cond (eqb (kind_of mapping.nodes node) output) (add_on into factor row)
    (cond (eqb (kind_of mapping.nodes node) storage) (add_on out (neg factor) (add_on into factor row))
    (add_on out factor row))

unfoldable pub node_row : ColumnMap → ℕ → List Element
node_row mapping node = add_node mapping node one64 []

-- "A link's mass row (+1 in, −1 out, bounds 0)"
unfoldable pub mass_row : ColumnMap → ℕ → List Element
mass_row mapping node = add_on (columns_out_of node mapping.mapped_edges) (neg one64) (add_on (columns_into node mapping.mapped_edges) one64 [])

-- "Aggregate row, plain or exclusive: the node rows of every node listed."
unfoldable pub add_nodes : ColumnMap → List ℕ → List Element → List Element
add_nodes mapping [] row = row
add_nodes mapping (node ∷ nodes) row = add_nodes mapping nodes (add_node mapping node one64 row)

unfoldable pub add_sets_of : ColumnMap → List (List ℕ) → List Element → List Element
add_sets_of mapping [] row = row
add_sets_of mapping (set ∷ sets) row = add_sets_of mapping sets (add_nodes mapping set row)

unfoldable pub aggregate_row : ColumnMap → Aggregate → List Element
aggregate_row mapping aggregate = add_sets_of mapping aggregate.sets []

-- a virtual storage: "Row: minus factor times node row."
unfoldable pub add_parts : ColumnMap → List Part → List Element → List Element
add_parts mapping [] row = row
add_parts mapping (part ∷ parts) row = add_parts mapping parts (add_node mapping part.node (neg part.factor) row)

unfoldable pub virtual_storage_row : ColumnMap → VirtualStorage → List Element
virtual_storage_row mapping v = add_parts mapping v.parts []

-- an exclusive node and the number of its set: "an upper row (minus its node row, plus a coefficient on the set's column), then a lower row (its node row,
-- plus a coefficient there)"
unfoldable pub upper_row : ColumnMap → ℕ → ℕ → Float → List Element
upper_row mapping node set coefficient = add_element (mapping.edge_columns + set) coefficient (add_node mapping node (neg one64) [])

unfoldable pub lower_row : ColumnMap → ℕ → ℕ → Float → List Element
lower_row mapping node set coefficient = add_element (mapping.edge_columns + set) coefficient (add_node mapping node one64 [])

-- "Exclusivity row: 1 per listed set on its column"
unfoldable pub add_active : ColumnMap → List (List ℕ) → List Element → List Element
add_active mapping [] row = row
add_active mapping (set ∷ sets) row = add_active mapping sets (add_element (mapping.edge_columns + set_number set mapping.sets) one64 row)

unfoldable pub exclusivity_row : ColumnMap → Aggregate → List Element
exclusivity_row mapping aggregate = add_active mapping aggregate.sets []

-- The columns of the edges: col_edge_map.rs over the edges in index order, and columns that meet unite (document 02, L2).
-- Assumes nothing.
use Rattle.std.specs.Prelude.{ℕ, suc, ◌-◌, List, [], ◌∷◌, map, cond, ◌&&◌, length, get_or, set, replicate, eqb, ltb}
use Rattle.std.proofs.Math.Option
use Rattle.std.proofs.Math.Option.{Option, none, some}
use Rattle.std.proofs.Math.ListN.{get_elem?}
use Rattle.pywr.specs.Network.{link, Edge, Network, kind_of, incoming, outgoing}

-- the column of each edge that has one, and how many columns there are
pub record Columns : Type 0 where
  pub of : List (Option ℕ)
  pub count : ℕ

unfoldable pub column_at : Columns → ℕ → Option ℕ
column_at given edge = get_or given.of edge none

-- an edge gets a column that is there already
unfoldable pub put : ℕ → ℕ → Columns → Columns
put edge column given = record { of = set given.of edge (some column); count = given.count }

-- an edge gets a new column
unfoldable pub put_new : ℕ → Columns → Columns
put_new edge given = record { of = set given.of edge (some given.count); count = suc given.count }

-- add_simple_edge: "any other takes a new column unless it has one". The edge's column comes first
unfoldable pub add_simple_edge : Option ℕ → ℕ → Columns → Columns
add_simple_edge (some column) edge given = given
add_simple_edge none edge given = put_new edge given

-- "the columns now unite under the lower number and later numbers close up" (document 02, L2). Columns low and high unite, low < high:
-- the number that a column has afterwards
unfoldable pub united : ℕ → ℕ → ℕ → ℕ
united low high column = cond (eqb column high) low (cond (ltb high column) (column - 1) column)

unfoldable pub unite_under : ℕ → ℕ → Columns → Columns
unite_under low high given = record { of = map (Option.map (united low high)) given.of; count = given.count - 1 }

-- where a ring closes, a column meets itself
unfoldable pub unite : ℕ → ℕ → Columns → Columns
unite column other given = cond (ltb column other) (unite_under column other given) (cond (ltb other column) (unite_under other column given) given)

-- add_equal_edges: an edge and the incoming edge whose column it shares. "When both edges already have columns, the columns now unite".
-- The columns of the two come first
unfoldable pub add_equal_edges : Option ℕ → Option ℕ → ℕ → ℕ → Columns → Columns
add_equal_edges (some column) (some other) edge before given = unite column other given
add_equal_edges none (some column) edge before given = put edge column given
add_equal_edges (some column) none edge before given = put before column given
add_equal_edges none none edge before given = put before given.count (put_new edge given)

-- "An edge leaving a link with one edge in and one out shares that incoming edge's column": that incoming edge
unfoldable pub single : List ℕ → List ℕ → Option ℕ
single into out = cond (eqb (length into) 1 && eqb (length out) 1) (get_elem? into 0) none

unfoldable pub shares_with : Network → Edge → Option ℕ
shares_with net edge = cond (eqb (kind_of net.nodes edge.from) link) (single (incoming net edge.from) (outgoing net edge.from)) none

unfoldable pub place_edge : Option ℕ → ℕ → Columns → Columns
place_edge none edge given = add_simple_edge (column_at given edge) edge given
place_edge (some before) edge given = add_equal_edges (column_at given edge) (column_at given before) edge before given

-- "Edges go in index order"; the first edge of the list has this number
unfoldable pub place_edges : Network → ℕ → List Edge → Columns → Columns
place_edges net number [] given = given
place_edges net number (edge ∷ edges) given = place_edges net (suc number) edges (place_edge (shares_with net edge) number given)

unfoldable pub columns : Network → Columns
columns net = place_edges net 0 net.edges (record { of = replicate (length net.edges) none; count = 0 })

-- an edge with its column
pub record MappedEdge : Type 0 where
  pub from : ℕ
  pub to : ℕ
  pub column : ℕ

-- `columns` gives every edge a column, so the 0 never stands
unfoldable pub with_columns : List Edge → List (Option ℕ) → List MappedEdge
with_columns [] given = []
with_columns (edge ∷ edges) [] = []
with_columns (edge ∷ edges) (column ∷ rest) = record { from = edge.from; to = edge.to; column = Option.get_or column 0 } ∷ with_columns edges rest

unfoldable pub mapped_edges : Network → List MappedEdge
mapped_edges net = with_columns net.edges (columns net).of

-- the column of an edge by its number
unfoldable pub column_of : Network → ℕ → ℕ
column_of net edge = Option.get_or (column_at (columns net) edge) 0

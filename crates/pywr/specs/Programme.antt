-- A programme: its columns and rows; its shape, what the store keeps beside it for the steps; and who made its rows. Assumes nothing.
use Rattle.std.specs.Prelude.{ℕ, List, Bool, Float}
use Rattle.pywr.specs.declared.Sentinel.{Sentinel}
use Rattle.pywr.specs.Network.{Period}
use Rattle.pywr.specs.ColEdgeMap.{MappedEdge}
use Rattle.pywr.specs.Rows.{Element}

pub record Column : Type 0 where
  pub integer : Bool
  pub lower : Float
  pub upper : Float
  pub cost : Float

pub record Row : Type 0 where
  pub lower : Float
  pub upper : Float
  pub elements : List Element

-- "Rows: varying first .., then fixed"
pub record Programme : Type 0 where
  pub sentinel : Sentinel
  pub columns : List Column
  pub varying : List Row
  pub fixed : List Row

-- ---- what a step needs of the network

pub record NodeShape : Type 0 where
  pub kind : ℕ
  pub constant : Bool

-- NodeRowType: what a step does to the row. A continuous row's bounds are tightened by the node's interval; on a binary one, which is an upper or a lower row
-- of an exclusive node, the coefficient on the set's column is set
pub data RowType : Type 0 where
  continuous binary_upper binary_lower : RowType

-- NodeRowId, for each row that a varying node asked for: `row` is the row's number, `set` that of the exclusive set, and 0 in a continuous one
pub record NodeRow : Type 0 where
  pub node : ℕ
  pub row : ℕ
  pub row_type : RowType
  pub set : ℕ

-- `row` is the number of its row
pub record VirtualStorageShape : Type 0 where
  pub row : ℕ
  pub period : Period

-- `flow_order` has the edges' numbers in flow order, `aggregates` the number of each aggregate's row
pub record Shape : Type 0 where
  pub nodes : List NodeShape
  pub mapped_edges : List MappedEdge
  pub flow_order : List ℕ
  pub edge_columns : ℕ
  pub node_rows : List NodeRow
  pub aggregates : List ℕ
  pub virtual_storages : List VirtualStorageShape

-- ---- who made a row

-- document 02, L5: "kind (mass, node, aggregate, virtual storage, exclusivity)", "kinds 0 to 4 in that order"
abbrev pub by_mass : ℕ
by_mass = 0

abbrev pub by_node : ℕ
by_node = 1

abbrev pub by_aggregate : ℕ
by_aggregate = 2

abbrev pub by_virtual_storage : ℕ
by_virtual_storage = 3

abbrev pub by_exclusivity : ℕ
by_exclusivity = 4

-- "its first maker's kind .. and index, and how many makers share it". The index is a node's where the kind is mass or node, an aggregate's where it is
-- aggregate or exclusivity, and a virtual storage's where it is virtual storage
pub record Maker : Type 0 where
  pub kind : ℕ
  pub index : ℕ
  pub shared_by : ℕ

-- `makers` has one for each row, the varying rows' first; see `Makers`
pub record Built : Type 0 where
  pub programme : Programme
  pub shape : Shape
  pub makers : List Maker

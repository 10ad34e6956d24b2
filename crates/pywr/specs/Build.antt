-- The programme and the shape of a network, and the build's answer to a file (SolverBuilder::create). Assumes nothing.
use Rattle.std.specs.Prelude.{ℕ, ◌+◌, List, [], ◌∷◌, ◌++◌, map, Bool, true, false, ◌&&◌, length, replicate, leb}
use Rattle.layout.specs.Layout.{set_ceiling, row_ceiling, element_ceiling}
use Rattle.pywr.specs.declared.Sentinel.{Sentinel}
use Rattle.pywr.specs.Result.{Result, ◌>>=◌, need}
use Rattle.pywr.specs.Numbers.{zero64, one64, high}
use Rattle.pywr.specs.Network.{Node, VirtualStorage, Network}
use Rattle.pywr.specs.NetworkFile.{parse_network}
use Rattle.pywr.specs.FlowOrder.{flow_order}
use Rattle.pywr.specs.Rows.{Element, ColumnMap, column_map, aggregate_row, virtual_storage_row}
use Rattle.pywr.specs.VariableRows.{add_variable_rows, Joined}
use Rattle.pywr.specs.Programme.{Column, Row, Programme, NodeShape, NodeRow, VirtualStorageShape, Shape, Built}
use Rattle.pywr.specs.VaryingRows.{RowRequest, requests_from, fresh_row}
use Rattle.pywr.specs.FixedRows.{mass_rows_from, constant_rows_from, exclusivity_rows}
use Rattle.pywr.specs.Makers.{askers, varying_makers, fixed_makers}

-- "edges, lower 0, upper the high sentinel; then one 0..1 integer column per distinct exclusive set"
unfoldable pub edge_column : Sentinel → Column
edge_column s = record { integer = false; lower = zero64; upper = high s; cost = zero64 }

unfoldable pub set_column : Column
set_column = record { integer = true; lower = zero64; upper = one64; cost = zero64 }

unfoldable pub all_columns : Sentinel → ColumnMap → List Column
all_columns s mapping = replicate mapping.edge_columns (edge_column s) ++ replicate (length mapping.sets) set_column

unfoldable pub node_shape : Node → NodeShape
node_shape node = record { kind = node.kind; constant = node.constant }

-- each request with the number of the row that it became
unfoldable pub placed_node_rows : List RowRequest → List ℕ → List NodeRow
placed_node_rows [] rows = []
placed_node_rows (request ∷ rest) [] = []
placed_node_rows (request ∷ rest) (row ∷ rows) =
    record { node = request.node; row = row; row_type = request.row_type; set = request.set } ∷ placed_node_rows rest rows

unfoldable pub placed_virtual_storages : List VirtualStorage → List ℕ → List VirtualStorageShape
placed_virtual_storages [] rows = []
placed_virtual_storages (v ∷ vs) [] = []
placed_virtual_storages (v ∷ vs) (row ∷ rows) = record { row = row; period = v.period } ∷ placed_virtual_storages vs rows

unfoldable pub requested_row : RowRequest → List Element
requested_row request = request.row

-- "varying first (nodes, aggregates, virtual storages), then fixed (mass, constant nodes, exclusivity)"
unfoldable pub assemble : Sentinel → Network → ColumnMap → Built
assemble s net mapping =
    let requests : List RowRequest = requests_from mapping 0 net.nodes in
    let for_nodes : Joined = add_variable_rows (map requested_row requests) (record { rows = []; places = [] }) in
    let for_aggregates : Joined = add_variable_rows (map (aggregate_row mapping) net.aggregates) (record { rows = for_nodes.rows; places = [] }) in
    let for_virtual_storages : Joined = add_variable_rows (map (virtual_storage_row mapping) net.virtual_storages) (record { rows = for_aggregates.rows; places = [] }) in
    let shape : Shape =
    record {
      nodes = map node_shape net.nodes;
      mapped_edges = mapping.mapped_edges;
      flow_order = flow_order net;
      edge_columns = mapping.edge_columns;
      node_rows = placed_node_rows requests for_nodes.places;
      aggregates = for_aggregates.places;
      virtual_storages = placed_virtual_storages net.virtual_storages for_virtual_storages.places;
    } in
    record {
      programme =
          record {
            sentinel = s;
            columns = all_columns s mapping;
            varying = map (fresh_row s) for_virtual_storages.rows;
            fixed = mass_rows_from mapping 0 net.nodes ++ constant_rows_from s mapping 0 net.nodes ++ exclusivity_rows mapping net.aggregates;
          };
      shape = shape;
      makers = varying_makers (askers shape) 0 (length for_virtual_storages.rows) ++ fixed_makers s mapping net;
    }

unfoldable pub programme_of : Sentinel → Network → Built
programme_of s net = assemble s net (column_map net)

-- "at most 128 sets, 1,024 rows, 4,096 elements, after equal rows join"
unfoldable pub element_count : List Row → ℕ
element_count [] = 0
element_count (r ∷ rs) = length r.elements + element_count rs

unfoldable pub under_ceilings : ColumnMap → Programme → Bool
under_ceilings f p =
    leb (length f.sets) set_ceiling
    && leb (length p.varying + length p.fixed) row_ceiling
    && leb (element_count p.varying + element_count p.fixed) element_ceiling

-- a build's answer: the file's refusals, then 11 "programme over its ceilings (place 0)"
unfoldable pub build : Sentinel → List ℕ → Result Built
build s file = parse_network file >>= λ net. need (under_ceilings (column_map net) (programme_of s net).programme) 11 0 (programme_of s net)

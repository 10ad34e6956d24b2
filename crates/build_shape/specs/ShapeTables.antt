-- The edges of a file with the columns of a table that has each edge's column plus 1, and the counts of a programme. Assumes nothing.
use Rattle.std.specs.Prelude.{ℕ, zero, suc, ◌+◌, ◌-◌, List, [], ◌∷◌, get_or}
use Rattle.pywr.specs.declared.Sentinel.{Sentinel}
use Rattle.pywr.specs.ColEdgeMap.{MappedEdge}
use Rattle.pywr.specs.Written.{sentinel_word}
use Rattle.build_write.specs.declared.Sizes.{Sizes}
use Rattle.network_edge.specs.Edge.{edge_at, edge_place}

abbrev pub edge_entry : List ℕ → List ℕ → ℕ → ℕ → MappedEdge
edge_entry file table nodes e =
    record { from = (edge_at file (edge_place nodes e)).from; to = (edge_at file (edge_place nodes e)).to; column = get_or table e 0 - 1 }

-- `count` edges from edge e on
unfoldable pub edges_from : List ℕ → List ℕ → ℕ → ℕ → ℕ → List MappedEdge
edges_from file table nodes zero e = []
edges_from file table nodes (suc count) e = edge_entry file table nodes e ∷ edges_from file table nodes count (e + 1)

abbrev pub edge_entries : List ℕ → List ℕ → ℕ → ℕ → List MappedEdge
edge_entries file table nodes edges = edges_from file table nodes edges 0

-- the sentinel and the counts, as the shape run starts
unfoldable pub counts : Sentinel → Sizes → ℕ → List ℕ
counts s z varying =
    sentinel_word s
    ∷ z.nodes
    ∷ z.edges
    ∷ z.edge_columns
    ∷ z.sets
    ∷ varying
    ∷ (z.rows - varying)
    ∷ z.elements
    ∷ z.node_rows
    ∷ z.aggregates
    ∷ z.virtual_storages
    ∷ []

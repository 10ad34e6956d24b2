-- The edges in edge order and in flow order: "Sum each column in flow order; a closed ring starts at its lowest edge." (document 02, L10). Assumes nothing.
use Rattle.std.specs.Prelude.{ℕ, zero, suc, List, [], ◌∷◌, ◌++◌, Bool, true, false, cond, length, get_or, eqb}
use Rattle.std.proofs.Math.Option.{Option, none, some}
use Rattle.pywr.specs.Network.{link, Edge, Network, kind_of, listed, incoming, outgoing}
use Rattle.pywr.specs.ColEdgeMap.{single, shares_with}

-- so many numbers from this one on
unfoldable pub numbers_from : ℕ → ℕ → List ℕ
numbers_from first zero = []
numbers_from first (suc count) = first ∷ numbers_from (suc first) count

-- the edges by their numbers, as document 01 adds their costs
unfoldable pub edge_order : Network → List ℕ
edge_order net = numbers_from 0 (length net.edges)

-- the edge after an edge in its column: the one edge out of the link that it enters, if that link has one edge in and one out
unfoldable pub next_edge : Network → Edge → Option ℕ
next_edge net edge = cond (eqb (kind_of net.nodes edge.to) link) (single (outgoing net edge.to) (incoming net edge.to)) none

-- an edge by its number; every number below is under the count, so `no_edge` never stands
unfoldable pub no_edge : Edge
no_edge = record { from = 0; to = 0 }

abbrev pub edge_numbered : Network → ℕ → Edge
edge_numbered net number = get_or net.edges number no_edge

-- an edge and those after it, put behind the order up to one that is in it already, at most so many
unfoldable pub follow : Network → ℕ → Option ℕ → List ℕ → List ℕ
follow net zero edge order = order
follow net (suc most) none order = order
follow net (suc most) (some edge) order = cond (listed edge order) order (follow net most (next_edge net (edge_numbered net edge)) (order ++ edge ∷ []))

unfoldable pub is_none : Option ℕ → Bool
is_none none = true
is_none (some edge) = false

-- an edge starts a path if no edge is before it in its column
unfoldable pub starts_path : Network → Edge → Bool
starts_path net edge = is_none (shares_with net edge)

-- each edge that passes the test followed, in index order; the first edge of the list has this number
unfoldable pub follow_all : Network → (Edge → Bool) → ℕ → List Edge → List ℕ → List ℕ
follow_all net test number [] order = order
follow_all net test number (edge ∷ edges) order =
    follow_all net test (suc number) edges (cond (test edge) (follow net (length net.edges) (some number) order) order)

-- the paths, each from its first edge
unfoldable pub paths : Network → List ℕ
paths net = follow_all net (starts_path net) 0 net.edges []

-- then the edges that are left, which are those of the closed rings, each ring from its lowest edge
unfoldable pub flow_order : Network → List ℕ
flow_order net = follow_all net (λ edge. true) 0 net.edges (paths net)

-- Document 01's two chains are one chain keyed twice, so that the laws of file order are about something; and of two pipes keyed in either order each gets the
-- other's column. Computed from the files. Assumes nothing.
use mathlib.Core.Path.{◌≡◌, refl, ap}
use mathlib.Core.Logic.{◌≢◌}
use Prim.Native.Nat.{ℕ}
use native.Mathlib.Omega.{arith}
use mathlib.Core.Bool.{false}
use mathlib.Core.List.Memᴰ
use mathlib.Core.List.{List, [], ◌∷◌, ◌++◌, Memᴰ}
use Rattle.pywr.specs.Result.{value}
use Rattle.pywr.specs.Numbers.{zero64}
use Rattle.pywr.specs.Network.{input, output, link, Node, Edge, Network}
use Rattle.pywr.specs.NetworkFile.{parse_network}
use Rattle.pywr.specs.ColEdgeMap.{columns, column_of}
use Rattle.pywr.specs.Rows.{column_map}
use Rattle.pywr.specs.FixedRows.{mass_rows_from}
use Rattle.pywr.specs.FileBytes.{varying}
use Rattle.pywr.specs.FileBytes.{edge as edge_bytes}
use Rattle.pywr.specs.Compute.{computing}
use Rattle.pywr.specs.Cases.{chain_nodes, mixed_chain, ordered_chain}
use Rattle.theorem_file_order.specs.ProgrammeOrder.{SameNetwork}

varying_node : ℕ → Node
varying_node kind = record { kind = kind; constant = false; min = zero64; max = zero64 }

edge : ℕ → ℕ → Edge
edge from to = record { from = from; to = to }

-- the chain's edges, in document 01's two orders
mixed_edges : List Edge
mixed_edges = edge 1 2 ∷ edge 3 4 ∷ edge 2 3 ∷ edge 0 1 ∷ []

ordered_edges : List Edge
ordered_edges = edge 0 1 ∷ edge 1 2 ∷ edge 2 3 ∷ edge 3 4 ∷ []

chain : List Edge → Network
chain edges =
    record {
      nodes = varying_node input ∷ varying_node link ∷ varying_node link ∷ varying_node link ∷ varying_node output ∷ [];
      edges = edges;
      aggregates = [];
      virtual_storages = [];
    }

-- two pipes, keyed in either order
pipes_file : List ℕ → List ℕ
pipes_file edges = varying input ++ varying output ++ varying input ++ varying output ++ edges

pipes : List Edge → Network
pipes edges =
    record {
      nodes = varying_node input ∷ varying_node output ∷ varying_node input ∷ varying_node output ∷ [];
      edges = edges;
      aggregates = [];
      virtual_storages = [];
    }

pub record OrderExample : Type 0 where
  mixed : parse_network mixed_chain ≡ value (chain mixed_edges)
  ordered : parse_network ordered_chain ≡ value (chain ordered_edges)
  another : mixed_edges ≢ ordered_edges
  same : SameNetwork (chain mixed_edges) (chain ordered_edges)
  one_column : (columns (chain mixed_edges)).count ≡ 1
  no_mass_row : mass_rows_from (column_map (chain mixed_edges)) 0 (chain mixed_edges).nodes ≡ []
  one_pipe_first : parse_network (pipes_file (edge_bytes 0 1 ++ edge_bytes 2 3)) ≡ value (pipes (edge 0 1 ∷ edge 2 3 ∷ []))
  other_pipe_first : parse_network (pipes_file (edge_bytes 2 3 ++ edge_bytes 0 1)) ≡ value (pipes (edge 2 3 ∷ edge 0 1 ∷ []))
  same_pipes : SameNetwork (pipes (edge 0 1 ∷ edge 2 3 ∷ [])) (pipes (edge 2 3 ∷ edge 0 1 ∷ []))
  -- the pipe from node 0 to node 1
  first_number : column_of (pipes (edge 0 1 ∷ edge 2 3 ∷ [])) 0 ≡ 0
  new_number : column_of (pipes (edge 2 3 ∷ edge 0 1 ∷ [])) 1 ≡ 1

pub order_example : OrderExample
unfolding computing chain_nodes mixed_chain ordered_chain varying_node edge mixed_edges ordered_edges chain pipes_file pipes
order_example =
    record {
      mixed = refl;
      ordered = refl;
      another = λ q. let first : edge 1 2 ≡ edge 0 1 = cc in let z : ◌≡◌ {A = ℕ} 1 0 = ap (λ (e : Edge). e.from) first in omega arith;
      same = record { but_order = record { nodes = refl; edges = λ x. (to_ordered x, to_mixed x) }; aggregates = refl; virtual_storages = refl };
      one_column = refl;
      no_mass_row = refl;
      one_pipe_first = refl;
      other_pipe_first = refl;
      same_pipes = record { but_order = record { nodes = refl; edges = λ x. (swapped x, swapped x) }; aggregates = refl; virtual_storages = refl };
      first_number = refl;
      new_number = refl;
    }
  where
    to_ordered : (x : Edge) → Memᴰ x mixed_edges → Memᴰ x ordered_edges
    to_ordered x (Memᴰ.head q) = Memᴰ.tail (Memᴰ.head q)
    to_ordered x (Memᴰ.tail (Memᴰ.head q)) = Memᴰ.tail (Memᴰ.tail (Memᴰ.tail (Memᴰ.head q)))
    to_ordered x (Memᴰ.tail (Memᴰ.tail (Memᴰ.head q))) = Memᴰ.tail (Memᴰ.tail (Memᴰ.head q))
    to_ordered x (Memᴰ.tail (Memᴰ.tail (Memᴰ.tail (Memᴰ.head q)))) = Memᴰ.head q
    to_ordered x (Memᴰ.tail (Memᴰ.tail (Memᴰ.tail (Memᴰ.tail m)))) = absurd (Memᴰ.not-nil m)

    swapped : {p q : Edge} (x : Edge) → Memᴰ x (p ∷ q ∷ []) → Memᴰ x (q ∷ p ∷ [])
    swapped x (Memᴰ.head e) = Memᴰ.tail (Memᴰ.head e)
    swapped x (Memᴰ.tail (Memᴰ.head e)) = Memᴰ.head e
    swapped x (Memᴰ.tail (Memᴰ.tail m)) = absurd (Memᴰ.not-nil m)

    to_mixed : (x : Edge) → Memᴰ x ordered_edges → Memᴰ x mixed_edges
    to_mixed x (Memᴰ.head q) = Memᴰ.tail (Memᴰ.tail (Memᴰ.tail (Memᴰ.head q)))
    to_mixed x (Memᴰ.tail (Memᴰ.head q)) = Memᴰ.head q
    to_mixed x (Memᴰ.tail (Memᴰ.tail (Memᴰ.head q))) = Memᴰ.tail (Memᴰ.tail (Memᴰ.head q))
    to_mixed x (Memᴰ.tail (Memᴰ.tail (Memᴰ.tail (Memᴰ.head q)))) = Memᴰ.tail (Memᴰ.head q)
    to_mixed x (Memᴰ.tail (Memᴰ.tail (Memᴰ.tail (Memᴰ.tail m)))) = absurd (Memᴰ.not-nil m)

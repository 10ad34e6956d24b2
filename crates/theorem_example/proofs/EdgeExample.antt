-- An edge's refusals, computed: each slip with its number and place, the order of the three, what comes before them, and pairs that pass. Assumes nothing.
use mathlib.Core.Path.{◌≡◌, refl}
use Prim.Native.Nat.{ℕ}
use mathlib.Core.List.{List, [], ◌∷◌, ◌++◌}
use lib.ListN.{take}
use Rattle.pywr.specs.Result.{value, Result, refused, ◌>>=◌}
use Rattle.pywr.specs.Network.{input, output, link, storage, Edge}
use Rattle.pywr.specs.NetworkFile.{parse_network}
use Rattle.pywr.specs.FileBytes.{varying, edge}
use Rattle.pywr.specs.Compute.{computing}

pair : List ℕ
pair = varying input ++ varying output ++ edge 0 1

edges_of : List ℕ → Result (List Edge)
edges_of file = parse_network file >>= λ net. value net.edges

pub record EdgeExample : Type 0 where
  -- each slip
  into_input : edges_of (varying link ++ varying input ++ edge 0 1) ≡ refused 5 42
  out_of_output : edges_of (varying link ++ varying output ++ edge 1 0) ≡ refused 5 42
  link_to_itself : edges_of (varying link ++ edge 0 0) ≡ refused 19 22
  storage_to_itself : edges_of (varying storage ++ edge 0 0) ≡ refused 19 22
  repeated : edges_of (pair ++ edge 0 1) ≡ refused 20 48
  -- 5 before 19, and a record whole before the next
  input_to_itself : edges_of (varying input ++ edge 0 0) ≡ refused 5 22
  output_to_itself : edges_of (varying output ++ edge 0 0) ≡ refused 5 22
  first_record : edges_of (varying link ++ varying input ++ edge 0 0 ++ edge 0 1) ≡ refused 19 42
  -- 1 and 4 before them, at the record
  cut : edges_of (varying link ++ take 5 (edge 0 0)) ≡ refused 1 20
  no_node : edges_of (varying output ++ edge 0 1) ≡ refused 4 20
  -- the same nodes the other way
  both_ways : edges_of (varying input ++ varying link ++ varying link ++ edge 0 1 ++ edge 1 2 ++ edge 2 1)
      ≡ value (record { from = 0; to = 1 } ∷ record { from = 1; to = 2 } ∷ record { from = 2; to = 1 } ∷ [])

pub edge_example : EdgeExample
unfolding computing pair edges_of
edge_example =
    record {
      into_input = refl;
      out_of_output = refl;
      link_to_itself = refl;
      storage_to_itself = refl;
      repeated = refl;
      input_to_itself = refl;
      output_to_itself = refl;
      first_record = refl;
      cut = refl;
      no_node = refl;
      both_ways = refl;
    }

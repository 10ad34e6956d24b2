-- What 5, 19 and 20 leave of a network's edges, and what they were as document 01's one number. Assumes nothing.
use Rattle.std.specs.Prelude.{◌≡◌, ◌≢◌, ℕ, ◌+◌, ◌-◌, List, Bool, cond, not, ◌||◌, length, ltb, eqb}
use Rattle.std.proofs.Math.Option.{some}
use Rattle.std.proofs.Math.ListN.{get_elem?}
use Rattle.pywr.specs.Result.{Result, value, refused, ◌>>=◌, need}
use Rattle.pywr.specs.Bytes.{u16, checked}
use Rattle.pywr.specs.Network.{input, output, Edge, Network, kind_of}
use Rattle.pywr.specs.NetworkFile.{Read, joins, read_edge, parse_network}

-- ---- the edges of a network that was read

-- no edge goes into an input, none comes out of an output
pub record EdgesRightWay (net : Network) : Type 0 where
  pub into_no_input : (number : ℕ) (edge : Edge) → get_elem? net.edges number ≡ some edge → kind_of net.nodes edge.to ≢ input
  pub out_of_no_output : (number : ℕ) (edge : Edge) → get_elem? net.edges number ≡ some edge → kind_of net.nodes edge.from ≢ output

abbrev pub ReadRightWay : Type 0
ReadRightWay = (file : List ℕ) (net : Network) → parse_network file ≡ value net → EdgesRightWay net

-- ---- telling them apart accepts no other edge

-- document 01's 5 "edge into an input, out of an output, to itself, or repeating a pair", at the record
unfoldable pub bad_edge : Network → ℕ → ℕ → Bool
bad_edge net from to = eqb (kind_of net.nodes to) input || eqb (kind_of net.nodes from) output || eqb from to || joins net.edges from to

unfoldable pub read_edge_with_five : Network → List ℕ → ℕ → Result (Read Edge)
read_edge_with_five net file at = do
  from ← checked 4 at (λ n. ltb n (length net.nodes)) (u16 file at 1 (at + 2))
  to ← checked 4 at (λ n. ltb n (length net.nodes)) (u16 file at 1 (at + 4))
  need (not (bad_edge net from to)) 5 at (record { item = record { from = from; to = to }; next = at + 6 })

-- an answer with 5, 19 and 20 all told as 5, at the record and not at its `from` field
unfoldable pub told_as_five : {A : Type 0} → Result A → Result A
told_as_five (value x) = value x
told_as_five (refused number place) = cond (eqb number 5 || eqb number 19 || eqb number 20) (refused 5 (place - 2)) (refused number place)

abbrev pub SameEdges : Type 0
SameEdges = (net : Network) (file : List ℕ) (at : ℕ) → told_as_five (read_edge net file at) ≡ read_edge_with_five net file at

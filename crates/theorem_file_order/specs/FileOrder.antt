-- "File order must not change the column count." (document 02, L2). Assumes nothing.
use Rattle.std.specs.Prelude.{◌≡◌, ◌↔◌, ℕ, length}
use mathlib.Core.List.{List, Memᴰ}
use Rattle.std.proofs.Math.Option.{some}
use Rattle.std.proofs.Math.ListN.{get_elem?}
use Rattle.pywr.specs.Result.{value}
use Rattle.pywr.specs.Network.{Edge, Network}
use Rattle.pywr.specs.NetworkFile.{parse_network}
use Rattle.pywr.specs.ColEdgeMap.{columns, column_of}
use Rattle.pywr.specs.Rows.{column_map}
use Rattle.pywr.specs.FixedRows.{mass_rows_from}
use Rattle.pywr.specs.Makers.{mass_makers}

-- two networks with the same nodes and the same edges, in whatever order these stand
pub record SameButOrder (a b : Network) : Type 0 where
  pub nodes : a.nodes ≡ b.nodes
  pub edges : (edge : Edge) → Memᴰ edge a.edges ↔ Memᴰ edge b.edges

-- an edge by its number in each of the two
pub record SameEdge (a b : Network) (in_first in_second : ℕ) : Type 0 where
  pub edge : Edge
  pub first : get_elem? a.edges in_first ≡ some edge
  pub second : get_elem? b.edges in_second ≡ some edge

pub record SameColumns (a b : Network) : Type 0 where
  pub count : (columns a).count ≡ (columns b).count
  -- two edges have one column in the one exactly if they have in the other
  pub together : (e f e' f' : ℕ) → SameEdge a b e e' → SameEdge a b f f' → (column_of a e ≡ column_of a f) ↔ (column_of b e' ≡ column_of b f')
  -- the same links have mass rows, so there are as many
  pub mass_links : mass_makers (column_map a) 0 a.nodes ≡ mass_makers (column_map b) 0 b.nodes
  pub mass_rows : length (mass_rows_from (column_map a) 0 a.nodes) ≡ length (mass_rows_from (column_map b) 0 b.nodes)

-- of every two files that were read
abbrev pub FileOrder : Type 0
FileOrder = (first second : List ℕ) (a b : Network) → parse_network first ≡ value a → parse_network second ≡ value b → SameButOrder a b → SameColumns a b

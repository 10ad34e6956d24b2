-- What the columns of a network's edges are, said without the order in which edges are taken (document 02, L2). Assumes nothing.
use Rattle.std.specs.Prelude.{◌≡◌, ◌↔◌, ℕ, ◌<◌, ◌≤◌, List, [], ◌∷◌, length, T, eqb}
use Rattle.std.proofs.Math.Option.{some}
use Rattle.pywr.specs.Result.{value}
use Rattle.pywr.specs.Network.{link, Network, kind_of, incoming, outgoing}
use Rattle.pywr.specs.NetworkFile.{parse_network}
use Rattle.pywr.specs.ColEdgeMap.{columns, column_at, column_of}
use Rattle.pywr.specs.Rows.{column_map, mass_row}

-- a plain joint is "a link with one edge in and one out": edges `into` and `out`
pub record PlainJoint (net : Network) (node into out : ℕ) : Type 0 where
  pub is_link : T (eqb (kind_of net.nodes node) link)
  pub one_in : incoming net node ≡ into ∷ []
  pub one_out : outgoing net node ≡ out ∷ []

-- edges that plain joints join, directly or through others, whichever way the water flows
pub data Joined (net : Network) : ℕ → ℕ → Type 0 where
  itself : {edge : ℕ} → Joined net edge edge
  downstream : {edge next last : ℕ} (node : ℕ) → PlainJoint net node edge next → Joined net next last → Joined net edge last
  upstream : {edge before last : ℕ} (node : ℕ) → PlainJoint net node before edge → Joined net before last → Joined net edge last

-- the columns are the classes of joined edges, and are numbered by their lowest edges
pub record ColumnClasses (net : Network) : Type 0 where
  -- every edge has a column
  pub placed : (edge : ℕ) → edge < length net.edges → (column_at (columns net) edge ≡ some (column_of net edge)) × (column_of net edge < (columns net).count)
  -- two edges have one column exactly if plain joints join them
  pub classes : (edge other : ℕ) → edge < length net.edges → other < length net.edges → (column_of net edge ≡ column_of net other) ↔ Joined net edge other
  -- every column has an edge, and columns stand in the order of their lowest edges
  pub lowest : ℕ → ℕ
  pub lies : (column : ℕ) → column < (columns net).count → (lowest column < length net.edges) × (column_of net (lowest column) ≡ column)
  pub least : (edge : ℕ) → edge < length net.edges → lowest (column_of net edge) ≤ edge
  pub rising : (column later : ℕ) → column < later → later < (columns net).count → lowest column < lowest later
  -- document 01's "dropped exactly if it has one distinct column": a link's mass row is dropped exactly at a plain joint
  pub dropped : (node : ℕ) → T (eqb (kind_of net.nodes node) link)
      → (length (mass_row (column_map net) node) ≡ 1) ↔ ((into : ℕ) × (out : ℕ) × PlainJoint net node into out)

-- of every network that is read from a file
abbrev pub ColumnsAreClasses : Type 0
ColumnsAreClasses = (file : List ℕ) (net : Network) → parse_network file ≡ value net → ColumnClasses net

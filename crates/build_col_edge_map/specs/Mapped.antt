-- The columns of the edges in a table of numbers: at an edge its column plus 1, or 0 if it has none yet. Assumes nothing.
use Rattle.std.specs.Prelude.{ℕ, suc, ◌≡◌, List, [], ◌∷◌, map, cond, length, take, eqb}
use Rattle.std.proofs.Math.Option.{Option, none, some}
use Rattle.std.specs.Prelude as declared
use Rattle.pywr.specs.declared.EdgeIndex.{EdgeIndex}
use Rattle.pywr.specs.Network.{link}
use Rattle.pywr.specs.ColEdgeMap.{Columns, single}

-- an edge's number plus 1, or 0 for no edge
abbrev pub number_of : declared.Option EdgeIndex → ℕ
number_of declared.None = 0
number_of (declared.Some edge) = suc edge.0

abbrev pub code : Option ℕ → ℕ
code none = 0
code (some n) = suc n

-- the table and the count hold the columns c
pub record Mapped (c : Columns) (table : List ℕ) (count : ℕ) : Type 0 where
  pub table_is : take (length c.of) table ≡ map code c.of
  pub count_is : count ≡ c.count

-- the one number of a list
abbrev pub only : List ℕ → Option ℕ
only [] = none
only (j ∷ []) = some j
only (j ∷ k ∷ js) = none

-- `shares_with` of an edge that leaves a node of this kind, with these edges in and out
abbrev pub shares_across : ℕ → List ℕ → List ℕ → Option ℕ
shares_across kind into out = cond (eqb kind link) (single into out) none

-- The order of a file's edges does not change a column's cost, but where it is a closed ring, whose start that order picks (document 02, L10).
-- Assumes nothing.
use Rattle.std.specs.Prelude.{◌≡◌, ℕ, ◌<◌, length, get_or}
use Rattle.pywr.specs.Numbers.{zero64}
use Rattle.pywr.specs.Network.{Network}
use Rattle.pywr.specs.ColEdgeMap.{column_of}
use Rattle.theorem_file_order.specs.ColumnClasses.{PlainJoint}
use Rattle.theorem_file_order.specs.FileOrder.{SameEdge}
use Rattle.theorem_file_order.specs.ProgrammeOrder.{SameNetwork}
use Rattle.theorem_costs.specs.CostOrder.{costs_in, Stepped, store_then}

-- a column that is no closed ring: into one of its edges no plain joint leads
pub record OpenColumn (net : Network) (column : ℕ) : Type 0 where
  pub first : ℕ
  pub under : first < length net.edges
  pub lies : column_of net first ≡ column
  pub none_into : (node into : ℕ) → PlainJoint net node into first → ⊥

-- after the same step on builds of two files that differ in the order of their edges alone: the column of an edge has one cost, bit for bit, in both
abbrev pub CostFileOrder : Type 0
CostFileOrder = (s t : Stepped) → SameNetwork s.net t.net → s.file ≡ t.file
    → (edge edge' : ℕ) → SameEdge s.net t.net edge edge' → OpenColumn s.net (column_of s.net edge)
    → get_or (costs_in (store_then s)) (column_of s.net edge) zero64 ≡ get_or (costs_in (store_then t)) (column_of t.net edge') zero64

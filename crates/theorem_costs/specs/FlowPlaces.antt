-- What flow order is, said without the walk that finds it: "Sum each column in flow order; a closed ring starts at its lowest edge."
-- (document 02, L10). Assumes nothing.
use Rattle.std.specs.Prelude.{◌≡◌, ◌⊎◌, ◌↔◌, ℕ, ◌<◌, ◌≤◌, length}
use mathlib.Core.List.{List, ◌∷◌, ◌++◌, Memᴰ, Nodup}
use Rattle.pywr.specs.Result.{value}
use Rattle.pywr.specs.Network.{Network}
use Rattle.pywr.specs.NetworkFile.{parse_network}
use Rattle.pywr.specs.ColEdgeMap.{column_of}
use Rattle.pywr.specs.FlowOrder.{flow_order}
use Rattle.theorem_file_order.specs.ColumnClasses.{PlainJoint}

-- an edge stands right behind another
pub record RightBehind (order : List ℕ) (edge before : ℕ) : Type 0 where
  pub front : List ℕ
  pub rest : List ℕ
  pub is : order ≡ front ++ before ∷ edge ∷ rest

-- the lowest edge of a closed ring: no edge of its column is lower, and into each of them a plain joint leads
pub record RingStart (net : Network) (edge : ℕ) : Type 0 where
  pub lowest : (other : ℕ) → other < length net.edges → column_of net other ≡ column_of net edge → edge ≤ other
  pub closed : (other : ℕ) → other < length net.edges → column_of net other ≡ column_of net edge → (node : ℕ) × (into : ℕ) × PlainJoint net node into other

pub record FlowPlaces (net : Network) : Type 0 where
  -- every edge, once
  pub edges : (edge : ℕ) → Memᴰ edge (flow_order net) ↔ (edge < length net.edges)
  pub once : Nodup (flow_order net)
  -- downstream: the edge out of a plain joint stands right behind the edge in, but where a closed ring starts
  pub downstream : (node into out : ℕ) → PlainJoint net node into out → RightBehind (flow_order net) out into ⊎ RingStart net out

-- of every network that is read from a file
abbrev pub FlowOrderPlaces : Type 0
FlowOrderPlaces = (file : List ℕ) (net : Network) → parse_network file ≡ value net → FlowPlaces net

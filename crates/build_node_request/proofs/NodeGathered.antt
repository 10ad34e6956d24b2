-- A node's own row gathered. Assumes nothing.
use mathlib.Core.Path.{◌≡◌, ap, ◌∙◌}
use Prim.Native.Nat.{ℕ}
use mathlib.Core.List.{List, []}
use lib.Ieee.{Float}
use Rattle.pywr.specs.Numbers.{one64}
use Rattle.pywr.specs.Rows.{column_map, add_node, node_row}
use Rattle.pywr.specs.Store.{elements_of}
use Rattle.network_record.specs.declared.Counts.{Counts}
use Rattle.build_row.specs.RowBuilder.{gathered}
use Rattle.build_node_row.specs.Tables.{network_of}
use Rattle.build_node_row.specs.NodeAdded.{NodeAdded}
use Rattle.build_row.specs.Gathered.{Gathered}

pub node_gathered : (file : List ℕ) (c : Counts) (node : ℕ) (x : Float) (cols : List ℕ) (elements : List Float) (cols' : List ℕ) (elements' : List Float) (r : ℕ) → x ≡ one64
    → NodeAdded file c node x cols elements 0 cols' elements' r → Gathered (node_row (column_map (network_of file c)) node) cols' elements' r
unfolding node_row gathered elements_of
node_gathered file c node x cols elements cols' elements' r e h =
    record { is = h.row ∙ ap (λ (y : Float). add_node (column_map (network_of file c)) node y []) e; rising = h.rising; few = h.few }

-- `row_holds` meets its contract. The loop's invariant: the column is in the row exactly if it is in front of k.
use mathlib.Core.Path.{◌≡◌}
use Prim.Native.Nat.{◌-◌, ◌≤◌}
use lib.Seq.{slice}
use Rattle.pywr.specs.Network.{listed}
use Rattle.store_node_rows.proofs.row_holds.Given as goal

abbrev pub invariant-loop-k : goal.invariant-loop-k
invariant-loop-k l = (l.k ≤ l.end) × (listed l.column.0 (slice l.start l.end l.columns) ≡ listed l.column.0 (slice l.start l.k l.columns))

abbrev pub decreases-loop-k : goal.decreases-loop-k
decreases-loop-k l = l.k - l.start

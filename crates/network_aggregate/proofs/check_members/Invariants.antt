-- `network_aggregate::check_members` meets its contract. The invariant: the answer is that of the nodes from `here` on.
use mathlib.Core.Path.{◌≡◌}
use Prim.Native.Nat.{◌-◌, ◌≤◌}
use lib.ListN.{length}
use Rattle.fields.specs.Records.{check_each}
use Rattle.network_aggregate.specs.AggregatedNode.{check_member}
use Rattle.network_aggregate.proofs.check_members.Given as goal

abbrev pub invariant-loop : goal.invariant-loop
invariant-loop l =
    (l.here ≤ length l.s) × (check_each (check_member l.s l.place l.nodes) l.count l.at ≡ check_each (check_member l.s l.place l.nodes) (l.count - l.counter) l.here)

-- `network_virtual_storage::check_parts` meets its contract. The invariant: the answer is that of the parts from `here` on.
use mathlib.Core.Path.{◌≡◌}
use Prim.Native.Nat.{◌-◌, ◌≤◌}
use lib.ListN.{length}
use Rattle.fields.specs.Records.{check_each}
use Rattle.network_virtual_storage.specs.VirtualStorage.{check_part}
use Rattle.network_virtual_storage.proofs.check_parts.Given as goal

abbrev pub invariant-loop : goal.invariant-loop
invariant-loop l =
    (l.here ≤ length l.s) × (check_each (check_part l.s l.place l.nodes) l.count l.at ≡ check_each (check_part l.s l.place l.nodes) (l.count - l.counter) l.here)

-- `network_checks::first_unconnected` meets its contract. The invariant: the answer is that of the nodes from i on.
use mathlib.Core.Path.{◌≡◌}
use Prim.Native.Nat.{◌+◌, ◌*◌, ◌-◌, ◌≤◌}
use Rattle.pywr.specs.Result.{first_refused}
use Rattle.pywr.specs.NetworkFile.{unconnected_link}
use Rattle.fields.specs.Records.{records_at}
use Rattle.network_node.specs.Node.{node_at}
use Rattle.network_laws.specs.NetworkAt.{node_records}
use Rattle.network_record.specs.Counts.{network_of}
use Rattle.network_checks.proofs.first_unconnected.Given as goal

abbrev pub invariant-loop-i : goal.invariant-loop-i
invariant-loop-i l =
    (l.i ≤ l.fn.c.nodes)
    × (first_refused (unconnected_link (network_of l.s l.fn.c)) 0 (node_records l.s l.fn.c.nodes)
    ≡ first_refused (unconnected_link (network_of l.s l.fn.c)) l.i (records_at (node_at l.s) (λ at. at + 20) (l.fn.c.nodes - l.i) (20 * l.i)))

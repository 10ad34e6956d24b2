-- `network_checks::mark_set` meets its contract. The invariant: the marks are those of the nodes from k on, on top of what is marked.
use mathlib.Core.Path.{◌≡◌}
use Prim.Native.Nat.{◌+◌, ◌*◌, ◌-◌, ◌≤◌}
use Rattle.pywr.specs.Bytes.{le16}
use Rattle.fields.specs.Records.{records_at}
use Rattle.network_aggregate.specs.AggregatedNode.{aggregate_set_at}
use Rattle.network_checks.specs.Marks.{mark_all}
use Rattle.network_checks.proofs.mark_set.Given as goal

abbrev pub invariant-loop-k : goal.invariant-loop-k
invariant-loop-k l =
    (l.k ≤ l.size) × (mark_all (aggregate_set_at l.s l.at) l.initial.marks ≡ mark_all (records_at (le16 l.s) (λ at. at + 2) (l.size - l.k) (l.at + 1 + 2 * l.k)) l.marks)

-- `network_checks::mark_ends` meets its contract. The invariant: the marks are those of the edges from j on, on top of what is marked.
use mathlib.Core.Path.{◌≡◌}
use mathlib.Core.List.{map}
use mathlib.Core.Bool.{false}
use lib.ListN.{replicate}
use Prim.Native.Nat.{◌+◌, ◌*◌, ◌-◌, ◌≤◌}
use Rattle.pywr.specs.Network.{source, target}
use Rattle.fields.specs.Records.{records_at}
use Rattle.network_edge.specs.Edge.{edge_at}
use Rattle.network_laws.specs.NetworkAt.{edge_records}
use Rattle.network_checks.specs.Marks.{mark_all}
use Rattle.network_checks.proofs.mark_ends.Given as goal

abbrev pub invariant-loop-j : goal.invariant-loop-j
invariant-loop-j l =
    (l.j ≤ l.e)
    × (mark_all (map target (edge_records l.s l.n l.e)) (replicate 256 false) ≡ mark_all (map target (records_at (edge_at l.s) (λ at. at + 6) (l.e - l.j) (20 * l.n + 6 * l.j))) l.into)
    × (mark_all (map source (edge_records l.s l.n l.e)) (replicate 256 false) ≡ mark_all (map source (records_at (edge_at l.s) (λ at. at + 6) (l.e - l.j) (20 * l.n + 6 * l.j))) l.out)

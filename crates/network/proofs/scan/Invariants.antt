-- `network::scan` meets its contract. The invariant is `ScanInvariant`; the measure counts the records that may still come.
use Prim.Native.Nat.{◌+◌, ◌-◌}
use Rattle.network.proofs.ScanLoop.{ScanInvariant}
use Rattle.network.proofs.scan.Given as goal

abbrev pub invariant-loop-at : goal.invariant-loop-at
invariant-loop-at l = ScanInvariant l.s l.at l.stage l.c

abbrev pub decreases-loop-at : goal.decreases-loop-at
decreases-loop-at l = 864 - (l.c.nodes + l.c.edges + l.c.aggregates + l.c.virtual_storages)

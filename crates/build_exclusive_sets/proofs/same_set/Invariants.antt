-- `build_exclusive_sets::same_set` meets its contract: after i members alike, the sets are the same if the rest is.
use mathlib.Core.Path.{◌≡◌}
use lib.ListN.{drop}
use Rattle.pywr.specs.ExclusiveSets.{same_set}
use Rattle.network_aggregate.specs.AggregatedNode.{aggregate_set_at}
use Rattle.build_exclusive_sets.proofs.same_set.Given as goal

abbrev pub invariant-loop-i : goal.invariant-loop-i
invariant-loop-i l = same_set (aggregate_set_at l.s l.a) (aggregate_set_at l.s l.b) ≡ same_set (drop l.i (aggregate_set_at l.s l.a)) (drop l.i (aggregate_set_at l.s l.b))

-- `ExclusiveSets::set_number` meets its contract: none of the first k sets is the same, so that its number is k more than among the rest.
use Prim.Native.Nat.{◌+◌}
use mathlib.Core.Path.{◌≡◌}
use lib.ListN.{drop}
use Rattle.pywr.specs.ExclusiveSets.{set_number}
use Rattle.network_aggregate.specs.AggregatedNode.{aggregate_set_at}
use Rattle.build_exclusive_sets.specs.Sets.{sets_at}
use Rattle.build_exclusive_sets.proofs.ExclusiveSets.set_number.Given as goal

abbrev pub invariant-loop-k : goal.invariant-loop-k
invariant-loop-k l =
    set_number (aggregate_set_at l.s l.at) (sets_at l.s l.self.at l.self.count) ≡ l.k + set_number (aggregate_set_at l.s l.at) (drop l.k (sets_at l.s l.self.at l.self.count))

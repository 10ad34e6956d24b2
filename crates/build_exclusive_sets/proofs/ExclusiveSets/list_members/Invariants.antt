-- `ExclusiveSets::list_members` meets its contract: the memberships in the sets numbered from k are linked.
use Prim.Native.Nat.{◌*◌}
use Rattle.build_exclusive_sets.specs.Sets.{MembershipsFrom}
use Rattle.build_exclusive_sets.proofs.ListMembers.{from_set}
use Rattle.build_exclusive_sets.proofs.ExclusiveSets.list_members.Given as goal

abbrev pub invariant-loop-k : goal.invariant-loop-k
invariant-loop-k l = MembershipsFrom (16 * l.k) l.memberships.first l.memberships.next (from_set l.s l.self.at l.self.count l.k)

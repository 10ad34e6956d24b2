-- `build_exclusive_sets::list_set` meets its contract: the members from i on stand in front of the memberships so far.
use Prim.Native.Nat.{ℕ, ◌+◌, ◌*◌}
use mathlib.Core.List.{List}
use Rattle.build_exclusive_sets.specs.Sets.{MembershipsFrom}
use Rattle.build_exclusive_sets.proofs.ListMembers.{with_members}
use Rattle.build_exclusive_sets.proofs.list_set.Given as goal

abbrev pub invariant-loop-i : goal.invariant-loop-i
invariant-loop-i l =
    (of : ℕ → List ℕ) → MembershipsFrom (16 * l.k + 16) l.initial.memberships.first l.initial.memberships.next of → MembershipsFrom (16 * l.k + l.i) l.memberships.first l.memberships.next (with_members l.s l.k l.at of l.i)

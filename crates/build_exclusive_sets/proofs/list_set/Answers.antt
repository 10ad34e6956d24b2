-- `build_exclusive_sets::list_set` meets its contract: the members from i on stand in front of the memberships so far.
use Prim.Native.Nat.{ℕ, ◌+◌, ◌*◌, ◌-◌}
use mathlib.Core.Path.{◌≡◌, ◌∙◌, subst}
use native.Mathlib.Omega.{arith}
use Rattle.build_exclusive_sets.specs.Sets.{MembershipsFrom}
use Rattle.build_exclusive_sets.proofs.ListMembers.{with_members, members_none, members_more, members_all}
use Rattle.build_exclusive_sets.proofs.list_set.Goals as goal

pub loop-i-init : goal.loop-i-init
loop-i-init c =
    let p = c.args in
    λ of h. members_none p.s.now p.k p.at of p.memberships.now.first p.memberships.now.next c.set_size-i.result
    c.set_size-i.ensures.0 (omega (arith, c.set_size-i.ensures.0, c.requires.1.most)) h

pub loop-i-preserved : goal.loop-i-preserved
loop-i-preserved c =
    let l = c.loop-i in
    let m = l.memberships in
    let p = c.args in
    let e : l.i ≡ l.i - 1 + 1 = omega arith in
    λ of h. members_more p.s.now p.k p.at of m.first m.next (l.i - 1) c.from-n.result (omega (arith, l.auto.i, c.set_size-i.ensures.0))
    (c.from-n.ensures ∙ c.member-m.ensures) (omega (arith, c.from-n.ensures, c.member-m.ensures, c.requires.1.members (l.i - 1) (omega (arith, l.auto.i, c.set_size-i.ensures.0)))) (omega (arith, c.requires.1.most, l.auto.i, c.set_size-i.ensures.0))
    (subst (λ (i : ℕ). MembershipsFrom (16 * p.k + i) m.first m.next (with_members p.s.now p.k p.at of i)) e (l.invariant of h))

pub returns : goal.returns
returns c =
    let l = c.loop-i in
    let p = c.args in
    λ of h. members_all p.s.now p.k p.at of l.memberships.first l.memberships.next l.i (omega arith) (l.invariant of h)

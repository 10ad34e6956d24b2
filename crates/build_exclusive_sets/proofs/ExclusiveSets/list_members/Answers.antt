-- `ExclusiveSets::list_members` meets its contract: the memberships in the sets numbered from k are linked.
use Prim.Native.Nat.{ℕ, ◌+◌, ◌*◌, ◌-◌}
use mathlib.Core.Path.{◌≡◌, subst}
use native.Mathlib.Omega.{arith}
use lib.ListN.{get_or-replicate, length-replicate}
use Rattle.build_exclusive_sets.specs.Sets.{MembershipsFrom}
use Rattle.build_exclusive_sets.proofs.ListMembers.{from_set, sets_none, sets_more}
use Rattle.build_exclusive_sets.proofs.ExclusiveSets.list_members.Goals as goal

pub loop-k-init : goal.loop-k-init
loop-k-init c =
    let p = c.args in
    sets_none p.s.now p.self.now.at p.self.now.count (omega (arith, c.requires.long, c.requires.few)) _ _ (length-replicate {A = ℕ} 256 0) (length-replicate {A = ℕ} 2048 0) (λ n l. get_or-replicate 256 n 0 0 l)

pub loop-k-preserved : goal.loop-k-preserved
loop-k-preserved c =
    let l = c.loop-k in
    let m = l.memberships in
    let p = c.args in
    let e : 16 * l.k ≡ 16 * (l.k - 1) + 16 = omega arith in
    let q : l.k ≡ l.k - 1 + 1 = omega arith in
    sets_more p.s.now p.self.now.at p.self.now.count (omega (arith, c.requires.long, c.requires.few)) _ _ (l.k - 1) c.from.result (omega arith) c.from.ensures
    (c.list_set.ensures (from_set p.s.now p.self.now.at p.self.now.count (l.k - 1 + 1))
    (subst (λ (low : ℕ). MembershipsFrom low m.first m.next (from_set p.s.now p.self.now.at p.self.now.count (l.k - 1 + 1))) e
    (subst (λ (k : ℕ). MembershipsFrom (16 * l.k) m.first m.next (from_set p.s.now p.self.now.at p.self.now.count k)) q l.invariant)))

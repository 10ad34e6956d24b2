-- `walk_node` meets its contract: the tests that a good answer passed, then the bounds by the node's flag and kind.
use mathlib.Core.Path.{◌≡◌, sym, ap, ◌∙◌}
use borrow.Author.Tests.{eq-eqb, ne_eqb}
use lib.Dec.{eqb}
use Rattle.pywr.specs.declared.Interval.{Interval}
use Rattle.pywr.specs.Numbers.{is_small}
use Rattle.std.specs.Prelude.{Option, Some}
use Rattle.step_walk_record.specs.WalkedRecord.{NodeWalked}
use Rattle.step_walk_record.proofs.BoundsLaws.{BoundsGood, constant_good, storage_good, flow_good}
use Rattle.step_walk_record.proofs.WalkedLaws.{node_stopped, node_walked}
use Rattle.step_walk_record.proofs.walk_node.Goals.{Else-not-is_small}
use Rattle.step_walk_record.proofs.walk_node.Goals as goal

abbrev Bounds : Else-not-is_small → Interval → Type 0
Bounds c x =
    let a = c.args in
    BoundsGood a.file.now a.at (record { kind = a.kind; constant = eqb a.constant 1 }) a.days a.sentinel x

abbrev Node : Else-not-is_small → Option Interval → Type 0
Node c r =
    let a = c.args in
    NodeWalked a.file.now a.at a.kind a.constant a.days a.sentinel r

-- behind the mark and the cost
bounds-walked : (c : Else-not-is_small) (r : Option Interval) → ((x : Interval) → r ≡ Some x → Bounds c x) → Node c r
bounds-walked c r b =
    node_walked _ _ _ _ _ _ r c.requires
    (sym c.is_marked.ensures ∙ c.if-not-is_marked.false)
    (sym (ap is_small c.u64_at.ensures) ∙ sym c.is_small.ensures ∙ c.if-not-is_small.false)
    b

pub returns-then-not-is_marked : goal.returns-then-not-is_marked
returns-then-not-is_marked c = node_stopped _ _ _ _ _ _

pub returns-then-not-is_small : goal.returns-then-not-is_small
returns-then-not-is_small c = node_stopped _ _ _ _ _ _

pub returns-then-constant-eq1 : goal.returns-then-constant-eq1
returns-then-constant-eq1 c =
    bounds-walked (goal.at.returns-then-constant-eq1 c).Else-not-is_small _
    (λ x e. constant_good _ _ _ _ _ x (eq-eqb _ _ c.if-constant-eq1.true) (sym c.constant_interval.ensures ∙ e))

pub returns-then-kind-eq-STORAGE : goal.returns-then-kind-eq-STORAGE
returns-then-kind-eq-STORAGE c =
    bounds-walked (goal.at.returns-then-kind-eq-STORAGE c).Else-not-is_small _
    (λ x e. storage_good _ _ _ _ _ x (ne_eqb _ _ c.if-constant-eq1.false) (eq-eqb _ _ c.if-kind-eq-STORAGE.true) (sym c.storage_interval.ensures ∙ e))

pub returns-else-kind-eq-STORAGE : goal.returns-else-kind-eq-STORAGE
returns-else-kind-eq-STORAGE c =
    bounds-walked (goal.at.returns-else-kind-eq-STORAGE c).Else-not-is_small _
    (λ x e. flow_good _ _ _ _ _ x (ne_eqb _ _ c.if-constant-eq1.false) (ne_eqb _ _ c.if-kind-eq-STORAGE.false) (sym c.flow_interval.ensures ∙ e))

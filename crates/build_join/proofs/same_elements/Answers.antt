-- `build_join::same_elements` meets its contract. The loop's invariant: the rows are the same exactly if they are from element i on.
use mathlib.Core.Path.{sym, ◌∙◌}
use native.Mathlib.Nat.{sub-zero}
use lib.Ieee.{ne}
use borrow.Author.Tests.{not-true, not-false}
use Rattle.build_join.proofs.PositionLaws.{columns_differ, values_differ, same_next, same_end}
use borrow.Author.Rules.{rules}
use Rattle.build_join.proofs.same_elements.Goals as goal

pub loop-i-init : goal.loop-i-init
loop-i-init c = (search rules, rw sub-zero)

pub returns-then-words-at : goal.returns-then-words-at
returns-then-words-at c = sym (c.loop-i.invariant.1 ∙ columns_differ _ _ _ _ _ _ _ c.requires c.loop-i-test.true c.if-words-at.true)

pub returns-then-numbers-at : goal.returns-then-numbers-at
unfolding ne
returns-then-numbers-at c =
    let l = c.loop-i in
    sym (l.invariant.1 ∙ values_differ _ _ _ _ _ _ _ c.requires c.loop-i-test.true c.if-words-at.false (not-true _ c.if-numbers-at.true))

pub loop-i-preserved : goal.loop-i-preserved
unfolding ne
loop-i-preserved c =
    let l = c.loop-i in
    (search rules, l.invariant.1 ∙ same_next _ _ _ _ _ _ _ c.requires c.loop-i-test.true c.if-words-at.false (not-false _ c.if-numbers-at.false))

pub returns : goal.returns
returns c = sym (c.loop-i.invariant.1 ∙ same_end _ _ _ _ _ _ _ c.requires c.loop-i-test.false)

-- `row_holds` meets its contract. The loop's invariant: the column is in the row exactly if it is in front of k.
use mathlib.Core.Path.{refl, sym, ◌∙◌}
use native.Mathlib.Omega.{arith}
use Rattle.store_node_rows.proofs.Holds.{found, further, absent}
use borrow.Author.Rules.{rules}
use Rattle.store_node_rows.proofs.row_holds.Goals as goal

pub loop-k-init : goal.loop-k-init
loop-k-init c = (search rules, refl)

pub returns-then-column-columns : goal.returns-then-column-columns
returns-then-column-columns c = sym (c.loop-k.invariant.1 ∙ found _ _ _ _ c.loop-k-test.true (omega arith) c.if-column-columns.true)

pub loop-k-preserved : goal.loop-k-preserved
loop-k-preserved c =
    (search rules, c.loop-k.invariant.1 ∙ further _ _ _ _ c.loop-k-test.true (omega arith) c.if-column-columns.false)

pub returns : goal.returns
returns c = sym (c.loop-k.invariant.1 ∙ absent _ _ _ _ c.loop-k-test.false)

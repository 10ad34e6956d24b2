-- `start_fall` meets its contract.
use mathlib.Core.Path.{◌∙◌, sym}
use native.Mathlib.Omega.{arith}
use borrow.Author.Tests.{lt-ltb, le-ltb}
use Rattle.store_rows.specs.Falls.{fall_at, start_fall}
use Rattle.store_rows.proofs.Sums.{fall_is}
use borrow.Author.Rules.{rules}
use Rattle.store_rows.proofs.start_fall.Goals.{then-end-start-via-then-end-start, then-end-start-via-else-end-start+then-start-eq0}
use Rattle.store_rows.proofs.start_fall.Goals as goal

pub returns-then-end-start : goal.returns-then-end-start
unfolding start_fall fall_at
returns-then-end-start c = (
  elim c.then-end-start.branch [
    | then-end-start-via-then-end-start w ↦ rw (le-ltb _ _ w.if-end-start.true)
    | then-end-start-via-else-end-start+then-start-eq0 w ↦ rw (lt-ltb _ _ w.if-end-start.false, w.if-start-eq0.true)
  ],
  search rules,
)

pub returns : goal.returns
unfolding start_fall
returns c =
    (rw (lt-ltb _ _ c.if-end-start.false) (c.fall_of.ensures.0 ∙ sym (fall_is _ _ (omega arith))), c.fall_of.ensures.1)

-- `row_columns` meets its contract.
use Prim.Native.Nat.{◌≤◌}
use lib.ListN.{length}
use Rattle.store.proofs.Answers.{read-part, read_none}
use borrow.Author.Rules.{rules}
use Rattle.store.proofs.row_columns.Goals.{In-Ok}
use Rattle.store.proofs.row_columns.Goals as goal

-- the part that the answer names lies within the columns
within : (c : In-Ok) → (c.in-Ok.start ≤ c.in-Ok.end) × (c.in-Ok.end ≤ length c.args.columns.now)
within c = rw c.in-Ok.is at c.row_answer-answer.ensures.inside

pub offset_bounds-columns-start : goal.offset_bounds-columns-start
offset_bounds-columns-start c = let h = within (goal.at.offset_bounds-columns-start c).In-Ok in search rules

pub slice_bounds-result-count-in-Ok : goal.slice_bounds-result-count-in-Ok
slice_bounds-result-count-in-Ok c = let h = within (goal.at.slice_bounds-result-count-in-Ok c).In-Ok in search rules

pub returns-in-Err : goal.returns-in-Err
returns-in-Err c = read_none c.row_answer-answer.ensures _ c.in-Err.is

pub returns-in-Ok : goal.returns-in-Ok
returns-in-Ok c = read-part c.row_answer-answer.ensures _ _ c.in-Ok.is

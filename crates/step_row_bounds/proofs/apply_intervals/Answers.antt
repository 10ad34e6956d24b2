-- `step_row_bounds::apply_intervals` meets its contract. The loop's invariant: the intervals passed are applied to the rows that the runs held at first.
use native.Mathlib.Omega.{arith}
use Rattle.step_row_bounds.proofs.SameRuns.{bounds_alone, alone_then}
use Rattle.step_row_bounds.proofs.Applied.{entry_within, entry_row, applied_none, applied_more, applied_all}
use borrow.Author.Rules.{rules}
use Rattle.step_row_bounds.proofs.apply_intervals.Goals as goal

pub loop-i-init : goal.loop-i-init
loop-i-init c = record { applied = applied_none _ _ _ _ _ _ _ _; alone = bounds_alone _ }

pub overflow_mul-words : goal.overflow_mul-words
overflow_mul-words c = let h = entry_within c.requires.0 _ c.loop-i-test.true in omega arith

pub overflow_add-table : goal.overflow_add-table
overflow_add-table c = let h = entry_within c.requires.0 _ c.loop-i-test.true in omega arith

pub bounds-store-table : goal.bounds-store-table
bounds-store-table c =
    let h = entry_within c.requires.0 _ c.loop-i-test.true in rw c.loop-i.invariant.alone.runs.shape (omega (arith, c.requires.0.some_words, c.requires.0.shape_long))

pub offset_bounds-store-table : goal.offset_bounds-store-table
offset_bounds-store-table c = let h = entry_within c.requires.0 _ c.loop-i-test.true in search rules

pub apply_row_bounds-requires : goal.apply_row_bounds-requires
apply_row_bounds-requires c =
    let h = entry_row c.requires.0 _ c.loop-i-test.true in
    let row = rw c.loop-i.invariant.alone.runs.shape at c.from-row.ensures in
    let same = c.loop-i.invariant.alone.runs in
    (omega (arith, row, same.lower_long, c.requires.0.varying), omega (arith, row, same.upper_long, c.requires.0.varying))

pub loop-i-preserved : goal.loop-i-preserved
loop-i-preserved c =
    let h = entry_row c.requires.0 _ c.loop-i-test.true in
    let row = rw c.loop-i.invariant.alone.runs.shape at c.from-row.ensures in
    let same = c.loop-i.invariant.alone.runs in
    record {
      applied =
          applied_more _ _ _ _ _ _ _ _ c.loop-i.invariant.applied _ _ _ _ c.loop-i-test.true row c.held_interval.ensures (omega (arith, h, row))
          (omega (arith, c.requires.0.varying, c.requires.1, same.lower_long)) (omega (arith, c.requires.0.varying, c.requires.2, same.upper_long))
          c.apply_row_bounds.ensures.row;
      alone = alone_then c.loop-i.invariant.alone c.apply_row_bounds.ensures.alone;
    }

pub returns : goal.returns
returns c =
    record {
      rows = applied_all _ _ _ _ _ _ _ _ c.loop-i.invariant.applied c.loop-i-test.false;
      alone = c.loop-i.invariant.alone;
    }

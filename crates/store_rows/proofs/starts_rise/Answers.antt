-- `starts_rise` meets its contract. The loop's invariant: `good` says whether the starts up to r rise from 0.
use mathlib.Core.List.{[]}
use Rattle.store_rows.proofs.Starts.{of_runs, starts_same, risen_none, risen_more, risen_all}
use Rattle.store_rows.proofs.starts_rise.Goals as goal

pub loop-r-init : goal.loop-r-init
loop-r-init c = risen_none _ _

pub loop-r-preserved : goal.loop-r-preserved
loop-r-preserved c = risen_more c.loop-r.invariant c.loop-r-test.true

pub returns : goal.returns
returns c =
    λ s er es. rw (starts_same s (of_runs [] _ _) er es 0, er, es, ← c.row_count-rows.ensures, c.from.ensures) (risen_all c.loop-r.invariant c.loop-r-test.false)

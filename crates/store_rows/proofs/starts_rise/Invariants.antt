-- `starts_rise` meets its contract. The loop's invariant: `good` says whether the starts up to r rise from 0.
use mathlib.Core.List.{[]}
use Rattle.store_rows.proofs.Starts.{of_runs, Risen}
use Rattle.store_rows.proofs.starts_rise.Given as goal

abbrev pub invariant-loop-r : goal.invariant-loop-r
invariant-loop-r l = Risen (of_runs [] l.row_starts l.shape) l.rows l.good l.r

-- `start_falls` meets its contract. The loop's invariant: `sum` counts the falls at the starts of the rows in front of r.
use Rattle.store_rows.specs.Falls.{row_fall}
use Rattle.store_rows.proofs.Sums.{Summed}
use Rattle.store_rows.proofs.start_falls.Given as goal

abbrev pub invariant-loop-r : goal.invariant-loop-r
invariant-loop-r l = Summed (row_fall l.columns l.row_starts) l.rows l.sum l.r

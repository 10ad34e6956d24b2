-- `falls` meets its contract. The loop's invariant: `sum` counts the falls in front of i.
use Rattle.store_rows.specs.Falls.{fall_at}
use Rattle.store_rows.proofs.Sums.{Summed}
use Rattle.store_rows.proofs.falls.Given as goal

abbrev pub invariant-loop-i : goal.invariant-loop-i
invariant-loop-i l = Summed (fall_at l.columns) l.n l.sum l.i

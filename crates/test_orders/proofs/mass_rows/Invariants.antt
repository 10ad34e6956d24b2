-- `test_orders::mass_rows`: each row counts at most one.
use Rattle.std.proofs.Common.{◌≤◌}
use Rattle.test_orders.proofs.mass_rows.Given as goal

abbrev pub invariant-loop-row : goal.invariant-loop-row
invariant-loop-row g l = l.count ≤ l.row

-- `makers_fit` meets its contract. The loop's invariant: the makers of i rows were tested, and all passed.
use mathlib.Core.Bool.{true}
use Rattle.layout.specs.Layout.{makers_at}
use Rattle.pywr.specs.Misshapen.{maker_fits}
use Rattle.store_shape.proofs.Entries.{of_shape, Tested}
use Rattle.store_shape.proofs.makers_fit.Given as goal

abbrev pub invariant-loop-i : goal.invariant-loop-i
invariant-loop-i l = Tested (maker_fits (of_shape l.shape)) 3 makers_at l.rows true l.i

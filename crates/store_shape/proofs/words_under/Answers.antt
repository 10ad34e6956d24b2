-- `words_under` meets its contract. The loop's invariant: i words were tested, and `good` says whether all passed.
use mathlib.Core.Path.{◌≡◌}
use Prim.Native.Nat.{◌*◌}
use native.Mathlib.Omega.{arith}
use Rattle.store_shape.proofs.Entries.{tested_none, tested_more, tested_all}
use Rattle.store_shape.proofs.words_under.Goals as goal

pub loop-i-init : goal.loop-i-init
loop-i-init c = tested_none _ _ _ _

pub loop-i-preserved : goal.loop-i-preserved
loop-i-preserved c = let one : 1 * c.loop-i.i ≡ c.loop-i.i = omega arith in rw one at (tested_more c.loop-i.invariant c.loop-i-test.true)

pub returns : goal.returns
returns c = tested_all c.loop-i.invariant c.loop-i-test.false

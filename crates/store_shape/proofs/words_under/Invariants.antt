-- `words_under` meets its contract. The loop's invariant: i words were tested, and `good` says whether all passed.
use Prim.Native.Nat.{ℕ}
use lib.Dec.{ltb}
use lib.ListN.{get_or}
use Rattle.store_shape.proofs.Entries.{Tested}
use Rattle.store_shape.proofs.words_under.Given as goal

abbrev pub invariant-loop-i : goal.invariant-loop-i
invariant-loop-i l = Tested (λ (j : ℕ). ltb (get_or l.words j 0) l.limit) 1 l.first l.count l.good l.i

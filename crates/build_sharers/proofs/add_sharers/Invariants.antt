-- `build_sharers::add_sharers` meets its contract. The loop's invariant: the first i have been counted.
use Rattle.build_makers.specs.MakerKind.{kind_number}
use Rattle.build_sharers.specs.Sharers.{entry_asker}
use Rattle.build_sharers.proofs.Walk.{Walked}
use Rattle.build_sharers.proofs.add_sharers.Given as goal

abbrev pub invariant-loop-i : goal.invariant-loop-i
invariant-loop-i l = Walked l.initial.shape (entry_asker l.initial.shape l.fn.at l.fn.width (kind_number l.fn.kind)) l.fn.count l.shape l.i

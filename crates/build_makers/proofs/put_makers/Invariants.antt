-- `build_makers::put_makers` meets its contract. The loop's invariant: the entries of the rows before `row` are put.
use Rattle.build_makers.specs.MakerKind.{kind_number}
use Rattle.build_makers.proofs.Entries.{Put}
use Rattle.build_makers.proofs.put_makers.Given as goal

abbrev pub invariant-loop-row : goal.invariant-loop-row
invariant-loop-row l = Put (record { kind = kind_number l.fn.kind; index = l.fn.index; shared_by = l.fn.shared_by }) l.initial.shape l.fn.first l.fn.end l.shape l.row

-- `build_write::write_elements` meets its contract. The loop's invariant: the first r rows are written.
use Rattle.build_write.proofs.RowByRow.{Written}
use Rattle.build_write.proofs.write_elements.Given as goal

abbrev pub invariant-loop-r : goal.invariant-loop-r
invariant-loop-r l = Written l.fn.z.rows l.words l.numbers l.initial.elements l.elements l.r

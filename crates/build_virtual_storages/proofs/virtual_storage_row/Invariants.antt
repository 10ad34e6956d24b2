-- `build_virtual_storages::virtual_storage_row` meets its contract. The invariant: the parts left, added to the row so far, make the virtual storage's row.
use mathlib.Core.Path.{◌≡◌}
use lib.ListN.{length}
use Rattle.build_virtual_storages.proofs.VirtualStorageLaws.{AddingParts}
use Rattle.build_virtual_storages.proofs.virtual_storage_row.Given as goal

abbrev pub invariant-loop-k : goal.invariant-loop-k
invariant-loop-k l =
    AddingParts l.fn.tables.file.now l.fn.tables.counts l.fn.at l.k l.columns l.elements l.n × (length l.elements ≡ length l.initial.elements)

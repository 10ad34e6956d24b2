-- The number of what made a row, as the table of makers has it. Assumes nothing.
use Rattle.std.specs.Prelude.{ℕ}
use Rattle.pywr.specs.Programme.{by_mass, by_node, by_aggregate, by_virtual_storage, by_exclusivity}
use Rattle.build_makers.specs.declared.MakerKind.{MakerKind}

abbrev pub kind_number : MakerKind → ℕ
kind_number MakerKind.Mass = by_mass
kind_number MakerKind.Node = by_node
kind_number MakerKind.Aggregate = by_aggregate
kind_number MakerKind.VirtualStorage = by_virtual_storage
kind_number MakerKind.Exclusivity = by_exclusivity

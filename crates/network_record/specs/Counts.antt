-- The network of a file by its counts, and what holds of a file whose records were all accepted. Assumes nothing.
use Rattle.std.specs.Prelude.{ℕ, List}
use Rattle.pywr.specs.Network.{Network}
use Rattle.network_laws.specs.NetworkAt.{network_at}
use Rattle.network_laws.specs.Sections.{Sections}
use Rattle.network_record.specs.declared.Counts.{Counts}

abbrev pub network_of : List ℕ → Counts → Network
network_of file c = network_at file c.nodes c.edges c.aggregates c.virtual_storages

abbrev pub SectionsOf : List ℕ → Counts → Type 0
SectionsOf file c = Sections file c.nodes c.edges c.aggregates c.virtual_storages c.virtual_storages_at

-- What rows are made from: an accepted network file with its counts, the edges of each node, the column of each edge, and the exclusive sets. Assumes nothing.
use Rattle.std.specs.Prelude.{◌≡◌, ℕ, ◌<◌, List, get_or}
use Rattle.layout.specs.Layout.{node_ceiling, membership_ceiling}
use Rattle.laws.specs.Linked.{Linked}
use Rattle.pywr.specs.Result.{value}
use Rattle.pywr.specs.Network.{Network, source, target}
use Rattle.pywr.specs.NetworkFile.{parse_network}
use Rattle.pywr.specs.ColEdgeMap.{columns}
use Rattle.pywr.specs.ExclusiveSets.{exclusive_sets}
use Rattle.network_laws.specs.NetworkAt.{network_at}
use Rattle.network_laws.specs.Sections.{Sections}
use Rattle.network_record.specs.declared.Counts.{Counts}
use Rattle.build_incident_edges.specs.IncidentEdges.{EdgesListed}
use Rattle.build_col_edge_map.specs.Mapped.{Mapped}
use Rattle.build_exclusive_sets.specs.declared.Memberships.{Memberships}
use Rattle.build_node_row.specs.declared.EdgeTables.{EdgeTables}
use Rattle.build_exclusive_sets.specs.Sets.{sets_at, SetsFit, memberships_of}

-- the network of a file with these counts
abbrev pub network_of : List ℕ → Counts → Network
network_of file c = network_at file c.nodes c.edges c.aggregates c.virtual_storages

-- an accepted file, and the tables made from it
pub record TablesOf (file : List ℕ) (c : Counts) (tables : EdgeTables) : Type 0 where
  pub parsed : parse_network file ≡ value (network_of file c)
  pub sections : Sections file c.nodes c.edges c.aggregates c.virtual_storages c.virtual_storages_at
  pub into : EdgesListed target file c.nodes c.edges tables.incoming
  pub out_of : EdgesListed source file c.nodes c.edges tables.outgoing
  pub mapped : Mapped (columns (network_of file c)) tables.edge_to_col (columns (network_of file c)).count

-- its tables and the file that they hold
abbrev pub TablesHold : EdgeTables → Type 0
TablesHold tables = TablesOf tables.file.now tables.counts tables

-- the distinct exclusive sets by the offsets of their records, and of each node its memberships: membership set_size_ceiling * k + i is member i of the set numbered k
pub record SetTables (file : List ℕ) (c : Counts) (aggregate_set_at : List ℕ) (sets : ℕ) (memberships : Memberships) : Type 0 where
  pub held : sets_at file aggregate_set_at sets ≡ exclusive_sets (network_of file c)
  pub fit : SetsFit file aggregate_set_at sets
  pub listed : (n : ℕ) → n < node_ceiling → Linked membership_ceiling memberships.next (get_or memberships.first n 0) (memberships_of n 0 (sets_at file aggregate_set_at sets))

-- the memberships alone
pub record MembershipTables (file : List ℕ) (c : Counts) (memberships : Memberships) : Type 0 where
  pub aggregate_set_at : List ℕ
  pub sets : ℕ
  pub tables : SetTables file c aggregate_set_at sets memberships

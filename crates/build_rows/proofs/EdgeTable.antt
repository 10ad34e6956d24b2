-- The table of edges that is written is that of the network's edges with their columns. Assumes nothing.
use mathlib.Core.Path.{◌≡◌, sym, ◌∙◌, ap}
use Prim.Native.Nat.{ℕ, suc, ◌+◌, ◌*◌, ◌-◌, ◌<◌, ◌≤◌}
use mathlib.Core.List.{List}
use mathlib.Core.Option
use mathlib.Core.Option.{none}
use native.Mathlib.Nat.{zero-add}
use native.Mathlib.Omega.{arith}
use lib.ListN.{length, get_or}
use lib.Seq.{ext_get_or}
use Rattle.pywr.specs.Network.{Edge, Network}
use Rattle.pywr.specs.ColEdgeMap.{columns, column_at, MappedEdge, mapped_edges, column_of}
use Rattle.pywr.proofs.WeightLaws.{pipes_length, pipe_at}
use Rattle.pywr.proofs.FitLaws.{columns_long}
use Rattle.network_edge.specs.Edge.{edge_at}
use Rattle.network_laws.proofs.Index.{edge_count, edge_index}
use Rattle.network_record.specs.declared.Counts.{Counts}
use Rattle.build_col_edge_map.proofs.EdgeColumns.{column_at_lem}
use Rattle.build_node_row.specs.declared.EdgeTables.{EdgeTables}
use Rattle.build_node_row.specs.Tables.{network_of, TablesOf}
use Rattle.build_node_row.proofs.NodeColumns.{sound}
use Rattle.build_shape.specs.ShapeTables.{edge_entry, edge_entries}
use Rattle.build_shape.proofs.Table.{edge_get, edges_many}

module _ (file : List ℕ) (c : Counts) (tables : EdgeTables) (t : TablesOf file c tables) where
  abbrev net : Network
  net = network_of file c

  abbrev table : List ℕ
  table = tables.edge_to_col

  edges_are : length net.edges ≡ c.edges
  edges_are = edge_count file c.nodes c.edges c.aggregates c.virtual_storages

  at : (e : ℕ) → e < c.edges → get_or table e 0 ≡ suc (column_of net e)
  at e h = column_at_lem net (sound file c tables t).noself e (omega (arith, edges_are)) table (columns net).count t.mapped

  -- every edge has a column
  pub placed : (e : ℕ) → e < c.edges → 1 ≤ get_or table e 0
  placed e h = omega (arith, at e h)

  same : (i : ℕ) (x : Edge) → get_or table i 0 - 1 ≡ Option.get_or (get_or (columns net).of i none) 0 → get_or net.edges i x ≡ edge_at file (20 * c.nodes + 6 * i)
      → edge_entry file table c.nodes i ≡ record { from = (get_or net.edges i x).from; to = (get_or net.edges i x).to; column = Option.get_or (get_or (columns net).of i none) 0 }
  same i x col e = λ j. record { from = sym (ap (λ (y : Edge). y.from) e) j; to = sym (ap (λ (y : Edge). y.to) e) j; column = col j }

  pub entries_are : edge_entries file table c.nodes c.edges ≡ mapped_edges net
  unfolding mapped_edges column_of column_at
  entries_are =
      let d : MappedEdge = edge_entry file table c.nodes 0 in
      ext_get_or d (edge_entries file table c.nodes c.edges) (mapped_edges net)
      (edges_many file table c.nodes c.edges 0 ∙ sym (pipes_length net.edges (columns net).of (columns_long net) ∙ edges_are))
      (λ i h.
      let under : i < c.edges = omega (arith, edges_many file table c.nodes c.edges 0) in
      let col : get_or table i 0 - 1 ≡ Option.get_or (get_or (columns net).of i none) 0 = omega (arith, at i under) in
      let x : Edge = edge_at file 0 in
      edge_get file table c.nodes c.edges 0 i d under
      ∙ ap (edge_entry file table c.nodes) (zero-add i)
      ∙ same i x col (edge_index file c.nodes c.edges c.aggregates c.virtual_storages i x under)
      ∙ sym (pipe_at d x net.edges (columns net).of i (columns_long net) (omega (arith, edges_are))))

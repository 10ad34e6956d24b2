-- The columns of a node's edges as the tables give them. Assumes nothing.
use mathlib.Core.Path.{◌≡◌, refl, sym, ◌∙◌, ap, ap₂}
use Prim.Native.Nat.{ℕ, suc, ◌-◌, ◌<◌, ◌≤◌}
use mathlib.Core.List.{List, [], ◌∷◌, map}
use native.Mathlib.Omega.{arith}
use borrow.Author.Tests.{eq-eqb, ne_eqb}
use lib.ListN.{length, get_or}
use lib.Dec.{eqb}
use lib.Ieee.{Float, neg}
use mathlib.Core.Bool.{true, false}
use mathlib.Core.Logic.{◌≢◌}
use Rattle.laws.specs.Linked.{Linked}
use Rattle.laws.proofs.LinkedLaws.{linked_size}
use Rattle.pywr.specs.Network.{output, storage, Node, Network, no_node, kind_of, incoming, outgoing}
use Rattle.pywr.specs.ColEdgeMap.{columns, column_of, mapped_edges}
use Rattle.pywr.specs.Rows.{column_map, columns_into, columns_out_of, add_node}
use Rattle.pywr.proofs.ReadLaws.{Sound, read_sound}
use Rattle.network_node.specs.Node.{node_at, node_place}
use Rattle.network_laws.proofs.Index.{node_index, edge_count}
use Rattle.network_laws.proofs.Accepted.{node_accepted}
use Rattle.network_record.specs.declared.Counts.{Counts}
use Rattle.build_incident_edges.proofs.Listed.{incoming_listed, outgoing_listed}
use Rattle.build_col_edge_map.proofs.EdgeColumns.{column_under, column_at_lem, columns_few, columns_into_lem, columns_out_of_lem}
use Rattle.build_row.specs.EdgeList.{columns_of, HaveColumns, ListedEdges, ColumnsAdded}
use Rattle.build_node_row.specs.Tables.{network_of, TablesOf}
use Rattle.build_node_row.specs.declared.EdgeTables.{EdgeTables}
use Rattle.build_node_row.specs.NodeAdded.{NodeAdded}

module _ (file : List ℕ) (c : Counts) (tables : EdgeTables) (t : TablesOf file c tables) where
  abbrev net : Network
  net = network_of file c

  pub sound : Sound net
  sound = read_sound file net t.parsed

  edges_are : length net.edges ≡ c.edges
  edges_are = edge_count file c.nodes c.edges c.aggregates c.virtual_storages

  -- at an edge, its column plus 1
  at : (e : ℕ) → e < c.edges → get_or tables.edge_to_col e 0 ≡ suc (column_of net e)
  at e h = column_at_lem net sound.noself e (omega (arith, edges_are)) tables.edge_to_col (columns net).count t.mapped

  few : (e : ℕ) → e < c.edges → get_or tables.edge_to_col e 0 ≤ 512
  few e h =
      let u = column_under net sound.noself e (omega (arith, edges_are)) in
      omega (arith, at e h, u, columns_few net tables.edge_to_col (columns net).count t.mapped, edges_are, t.sections.few_edges)

  have : (next : List ℕ) (first : ℕ) (es : List ℕ) → Linked c.edges next first es → HaveColumns tables.edge_to_col es
  have next first [] l = tt
  have next first (e ∷ es) l = (omega (arith, at e l.1), omega (arith, few e l.1), have next (get_or next e 0) es l.3)

  are : (next : List ℕ) (first : ℕ) (es : List ℕ) → Linked c.edges next first es → columns_of tables.edge_to_col es ≡ map (column_of net) es
  unfolding columns_of
  are next first [] l = refl
  are next first (e ∷ es) l =
      let q : get_or tables.edge_to_col e 0 - 1 ≡ column_of net e = omega (arith, at e l.1) in
      ap₂ (λ (x : ℕ) (xs : List ℕ). x ∷ xs) q (are next (get_or next e 0) es l.3)

  module _ (n : ℕ) where
    in_list : Linked c.edges tables.incoming.next (get_or tables.incoming.first n 0) (incoming net n)
    in_list = incoming_listed file c.nodes c.edges tables.incoming t.into c.aggregates c.virtual_storages n

    out_list : Linked c.edges tables.outgoing.next (get_or tables.outgoing.first n 0) (outgoing net n)
    out_list = outgoing_listed file c.nodes c.edges tables.outgoing t.out_of c.aggregates c.virtual_storages n

    pub in_linked : Linked 512 tables.incoming.next (get_or tables.incoming.first n 0) (incoming net n)
    in_linked = linked_size c.edges 512 tables.incoming.next (get_or tables.incoming.first n 0) (incoming net n) t.sections.few_edges in_list

    pub out_linked : Linked 512 tables.outgoing.next (get_or tables.outgoing.first n 0) (outgoing net n)
    out_linked = linked_size c.edges 512 tables.outgoing.next (get_or tables.outgoing.first n 0) (outgoing net n) t.sections.few_edges out_list

    -- what `add_columns` asks of the lists
    pub in_listed : ListedEdges tables.incoming.next tables.edge_to_col (get_or tables.incoming.first n 0)
    in_listed = record { edges = incoming net n; listed = in_linked; mapped = have tables.incoming.next (get_or tables.incoming.first n 0) (incoming net n) in_list }

    pub out_listed : ListedEdges tables.outgoing.next tables.edge_to_col (get_or tables.outgoing.first n 0)
    out_listed = record { edges = outgoing net n; listed = out_linked; mapped = have tables.outgoing.next (get_or tables.outgoing.first n 0) (outgoing net n) out_list }

    pub in_columns : columns_of tables.edge_to_col (incoming net n) ≡ columns_into n (mapped_edges net)
    in_columns = are tables.incoming.next (get_or tables.incoming.first n 0) (incoming net n) in_list ∙ sym (columns_into_lem net n)

    pub out_columns : columns_of tables.edge_to_col (outgoing net n) ≡ columns_out_of n (mapped_edges net)
    out_columns = are tables.outgoing.next (get_or tables.outgoing.first n 0) (outgoing net n) out_list ∙ sym (columns_out_of_lem net n)

    pub kind_is_lem : n < c.nodes → kind_of net.nodes n ≡ (node_at file (node_place n)).kind
    unfolding kind_of
    kind_is_lem h = ap (λ (x : Node). x.kind) (node_index file c.nodes c.edges c.aggregates c.virtual_storages n no_node h)

    pub under_ceiling : n < c.nodes → n < 256
    under_ceiling h = omega (arith, t.sections.few_nodes)

    pub kind_most : n < c.nodes → (node_at file (node_place n)).kind ≤ 3
    kind_most h = (node_accepted file c.nodes c.edges c.aggregates c.virtual_storages c.virtual_storages_at t.sections n h).kind

  -- ---- a node added by its kind as the file has it

  module _ (n : ℕ) (h : n < c.nodes) (kind : ℕ) (read : kind ≡ (node_at file (node_place n)).kind) (x : Float) where
    kind_at_lem : kind ≡ kind_of net.nodes n
    kind_at_lem = read ∙ sym (kind_is_lem n h)

    module _ (cols : List ℕ) (els : List Float) (m : ℕ) (cols' : List ℕ) (els' : List Float) (r : ℕ) where
      pub output_added : kind ≡ 1 → ColumnsAdded tables.incoming.next tables.edge_to_col (get_or tables.incoming.first n 0) x cols els m cols' els' r → NodeAdded file c n x cols els m cols' els' r
      unfolding add_node column_map
      output_added one a =
          let is : eqb (kind_of net.nodes n) output ≡ true = eq-eqb _ _ (sym kind_at_lem ∙ one) in
          record {
            row = a.row (incoming net n) (in_linked n) ∙ rw (is, in_columns n);
            rising = a.rising;
            few = a.few;
          }

      pub outgoing_added : kind ≢ 1 → kind ≢ 3
          → ColumnsAdded tables.outgoing.next tables.edge_to_col (get_or tables.outgoing.first n 0) x cols els m cols' els' r → NodeAdded file c n x cols els m cols' els' r
      unfolding add_node column_map
      outgoing_added ne₁ ne₃ a =
          let no : eqb (kind_of net.nodes n) output ≡ false = ne_eqb _ _ (λ q. ne₁ (kind_at_lem ∙ q)) in
          let nor : eqb (kind_of net.nodes n) storage ≡ false = ne_eqb _ _ (λ q. ne₃ (kind_at_lem ∙ q)) in
          record {
            row = a.row (outgoing net n) (out_linked n) ∙ rw (no, nor, out_columns n);
            rising = a.rising;
            few = a.few;
          }

    pub storage_added : (cols : List ℕ) (els : List Float) (m : ℕ) (cols₁ : List ℕ) (els₁ : List Float) (m₁ : ℕ) (cols₂ : List ℕ) (els₂ : List Float) (r : ℕ)
        → kind ≡ 3
        → ColumnsAdded tables.incoming.next tables.edge_to_col (get_or tables.incoming.first n 0) x cols els m cols₁ els₁ m₁
        → ColumnsAdded tables.outgoing.next tables.edge_to_col (get_or tables.outgoing.first n 0) (neg x) cols₁ els₁ m₁ cols₂ els₂ r
        → NodeAdded file c n x cols els m cols₂ els₂ r
    unfolding add_node column_map
    storage_added cols els m cols₁ els₁ m₁ cols₂ els₂ r three a b =
        let no : eqb (kind_of net.nodes n) output ≡ false = ne_eqb (kind_of net.nodes n) output (λ q. omega (arith, three, kind_at_lem, q)) in
        let is : eqb (kind_of net.nodes n) storage ≡ true = eq-eqb _ _ (sym kind_at_lem ∙ three) in
        record {
          row = b.row (outgoing net n) (out_linked n) ∙ rw (no, is, out_columns n, a.row (incoming net n) (in_linked n), in_columns n);
          rising = b.rising;
          few = b.few;
        }

-- The mass rows of a list of nodes, one node at a time, and a link's row gathered from the tables. Assumes nothing.
use mathlib.Core.Path.{◌≡◌, refl, sym, ap, ◌∙◌}
use Prim.Native.Nat.{ℕ, ◌+◌, ◌*◌, ◌-◌, ◌≤◌}
use native.Mathlib.Omega.{arith}
use mathlib.Core.Bool.{Bool, true, false, not}
use mathlib.Core.Logic.{◌≢◌}
use denote.Enum.Bare.{sameb}
use Rattle.network_node.specs.contracts.NodeKind.{the_type}
use Rattle.network_node.specs.declared.NodeKind.{NodeKind}
use Rattle.network_node.specs.Node.{node_kind}
use Rattle.network_node.proofs.KindLaws.{is_link}
use Rattle.std.specs.Prelude.{Result, Ok}
use mathlib.Core.List.{List, [], ◌∷◌}
use lib.ListN.{length, get_or, drop}
use lib.Ieee.{Float, neg}
use borrow.Author.Tests.{eq-eqb, ne_eqb}
use borrow.Rule.Slice.PartMut.{put_mid}
use Rattle.laws.specs.Linked.{Linked}
use Rattle.pywr.specs.Bytes.{byte}
use Rattle.pywr.specs.Numbers.{zero64, one64}
use Rattle.pywr.specs.Network.{link, Node, Network, incoming, outgoing}
use Rattle.pywr.specs.Rows.{add_on, ColumnMap, column_map, mass_row}
use Rattle.pywr.specs.FixedRows.{mass_rows_from}
use Rattle.network_node.specs.Node.{node_at}
use Rattle.network_record.specs.declared.Counts.{Counts}
use Rattle.build_row.specs.RowBuilder.{gathered}
use Rattle.build_row.specs.EdgeList.{columns_of}
use Rattle.build_row.specs.Gathered.{Gathered}
use Rattle.build_node_row.specs.declared.EdgeTables.{EdgeTables}
use Rattle.build_node_row.specs.Tables.{network_of, TablesOf}
use Rattle.build_node_row.proofs.NodeColumns.{in_linked, out_linked, in_columns, out_columns}
use Rattle.build_append.proofs.RowLaws.{gathered_length}
use Rattle.build_append.specs.declared.Filled.{Filled}
use Rattle.build_exclusive_sets.specs.declared.ProgrammeFull.{ProgrammeFull}
use Rattle.build_append.proofs.AddingRows.{Adds, adds_none}
use Rattle.build_append.proofs.LentRow.{lent_none, lent_row}

-- ---- the test of a node's kind; k is its byte

link_alone : (kind : NodeKind) → not (sameb the_type kind NodeKind.Link) ≡ false → kind ≡ NodeKind.Link
link_alone NodeKind.Input e = absurd (cc)
link_alone NodeKind.Output e = absurd (cc)
link_alone NodeKind.Link e = refl
link_alone NodeKind.Storage e = absurd (cc)

module _ (k : ℕ) (kind : NodeKind) (is : kind ≡ node_kind k) (other : Bool) (told : other ≡ not (sameb the_type kind NodeKind.Link)) where
  pub other_kind : other ≡ true → k ≢ 2
  unfolding node_kind
  other_kind h q =
      let l : kind ≡ NodeKind.Link = is ∙ ap node_kind q in
      let e : other ≡ false = told ∙ rw l in
      absurd (cc)

  pub link_kind : other ≡ false → k ≡ 2
  link_kind h = is_link k (sym is ∙ link_alone kind (sym told ∙ h))

-- ---- the rows of one node

module _ (f : ColumnMap) (n : ℕ) (x : Node) where
  not_link : x.kind ≢ 2 → mass_rows_from f n (x ∷ []) ≡ []
  unfolding mass_rows_from
  not_link h = rw (ne_eqb x.kind link h)

  pub no_mass_row_lem : x.kind ≢ 2 → (words : List ℕ) (numbers : List Float) (g : Filled) → Adds (mass_rows_from f n (x ∷ [])) words numbers g (Ok g) words numbers
  no_mass_row_lem h words numbers g = rw (not_link h) (adds_none words numbers g)

  module _ (h : x.kind ≡ 2) where
    one_column_lem : length (mass_row f n) ≡ 1 → mass_rows_from f n (x ∷ []) ≡ []
    unfolding mass_rows_from
    one_column_lem e = rw (eq-eqb x.kind link h, eq-eqb (length (mass_row f n)) 1 e)

    more_columns : length (mass_row f n) ≢ 1 → mass_rows_from f n (x ∷ []) ≡ record { lower = zero64; upper = zero64; elements = mass_row f n } ∷ []
    unfolding mass_rows_from
    more_columns e = rw (eq-eqb x.kind link h, ne_eqb (length (mass_row f n)) 1 e)

-- a row gathered for the link n
module _ (file : List ℕ) (c : Counts) (tables : EdgeTables) (t : TablesOf file c tables)
    (n : ℕ) (columns : List ℕ) (elements : List Float) (r : ℕ) where
  abbrev net : Network
  net = network_of file c

  pub mass_row_lem : ((into out : List ℕ) → Linked 512 tables.incoming.next (get_or tables.incoming.first n 0) into → Linked 512 tables.outgoing.next (get_or tables.outgoing.first n 0) out
      → Gathered (add_on (columns_of tables.edge_to_col out) (neg one64) (add_on (columns_of tables.edge_to_col into) one64 [])) columns elements r) → Gathered (mass_row (column_map net) n) columns elements r
  unfolding mass_row column_map
  mass_row_lem g =
      rw (← (in_columns file c tables t n), ← (out_columns file c tables t n))
      (g (incoming net n) (outgoing net n) (in_linked file c tables t n) (out_linked file c tables t n))

  module _ (g : Gathered (mass_row (column_map net) n) columns elements r) (kind : byte file (20 * n + 2) ≡ 2) (long_columns : 640 ≤ length columns) (long_elements : 640 ≤ length elements)
      (words : List ℕ) (numbers : List Float) (f : Filled) (a : ℕ) (ea : a ≡ 2048 + f.elements) (ha : a ≤ length numbers) where
    columns_are : length (mass_row (column_map net) n) ≡ r
    columns_are = ap length (sym g.is) ∙ gathered_length columns elements r (omega (arith, g.few)) (omega (arith, g.few))

    abbrev lent : List Float
    lent = put_mid a (length numbers - a) numbers elements

    pub row_dropped : r ≡ 1 → Adds (mass_rows_from (column_map net) n (node_at file (20 * n) ∷ [])) words numbers f (Ok f) words lent
    row_dropped h = rw (one_column_lem (column_map net) n (node_at file (20 * n)) kind (columns_are ∙ h)) (lent_none words numbers elements f a ea ha)

    pub row_added : (lower upper : Float) (o : Result Filled ProgrammeFull) (words' : List ℕ) (numbers' : List Float) → r ≢ 1 → lower ≡ zero64 → upper ≡ zero64
        → Adds (record { lower = lower; upper = upper; elements = gathered columns (drop (2048 + f.elements) lent) r } ∷ []) words lent f o words' numbers'
        → Adds (mass_rows_from (column_map net) n (node_at file (20 * n) ∷ [])) words numbers f o words' numbers'
    row_added lower upper o words' numbers' h el eu added =
        rw (more_columns (column_map net) n (node_at file (20 * n)) kind (λ l. h (sym columns_are ∙ l)))
        (lent_row words numbers elements f a ea ha columns r lower upper zero64 zero64 (mass_row (column_map net) n) o words' numbers' el eu g.is added)

-- What the nodes ask for in node order: one node more, the whole, and at most 4,352 requests. Assumes nothing.
use mathlib.Core.Path.{◌≡◌, refl, sym, ap, ◌∙◌}
use Prim.Native.Nat.{ℕ, suc, ◌+◌, ◌*◌, ◌<◌, ◌≤◌}
use native.Mathlib.Nat.{add-zero}
use native.Mathlib.Omega.{arith}
use mathlib.Core.Bool.{Bool, true, false}
use mathlib.Core.Logic.{◌≢◌}
use Rattle.std.specs.Prelude.{Result, Ok, Err}
use mathlib.Core.List.{List, [], ◌∷◌, ◌++◌, flat_map, append-nil, append_assoc}
use lib.ListN.{length, get_or, take, drop, length-append, length-map, take-append-drop}
use lib.Seq.{take_all, length-take-le}
use lib.Ieee.{Float}
use Rattle.layout.specs.Layout.{node_row_ceiling}
use Rattle.laws.proofs.Runs.{take_more}
use Rattle.pywr.specs.declared.Sentinel.{Sentinel}
use Rattle.pywr.specs.Network.{Node, no_node}
use Rattle.pywr.specs.ExclusiveSets.{exclusive_sets, sets_with_node}
use Rattle.pywr.specs.Rows.{ColumnMap, column_map, node_row}
use Rattle.pywr.specs.VariableRows.{add_variable_rows}
use Rattle.pywr.specs.Programme.{continuous}
use Rattle.pywr.specs.Build.{placed_node_rows}
use Rattle.pywr.specs.VaryingRows.{RowRequest, exclusive_requests, requests_by_sets, requests_from}
use Rattle.pywr.proofs.FitLaws.{asks_of}
use Rattle.pywr.proofs.ReadLaws.{read_sound}
use Rattle.pywr.proofs.CountLaws.{requests_few}
use Rattle.network_node.specs.Node.{node_at}
use Rattle.network_laws.proofs.Index.{node_index, node_count_lem}
use Rattle.network_record.specs.declared.Counts.{Counts}
use Rattle.build_exclusive_sets.specs.Sets.{sets_at}
use Rattle.build_exclusive_sets.proofs.MembershipLaws.{no_sets}
use Rattle.build_append.specs.declared.Filled.{Filled}
use Rattle.build_append.specs.LpBuilder.{RowsHeld}
use Rattle.build_node_row.specs.Tables.{network_of, TablesOf, MembershipTables}
use Rattle.build_node_table.specs.NodeTable.{NodeRowsHeld, AfterRequests, requests_before, listed_requests}
use Rattle.build_node_table.specs.NodeTable.{NodeRows}
use Rattle.build_node_row.specs.declared.EdgeTables.{EdgeTables}
use Rattle.build_exclusive_sets.specs.declared.Memberships.{Memberships}
use Rattle.build_exclusive_sets.specs.declared.ProgrammeFull.{ProgrammeFull}
use Rattle.build_node_table.proofs.Table.{requests_done, full_later}

-- ---- any nodes

requests_append : (f : ColumnMap) (k : ℕ) (xs ys : List Node) → requests_from f k (xs ++ ys) ≡ requests_from f k xs ++ requests_from f (k + length xs) ys
unfolding requests_from
requests_append f k [] ys = ap (λ (j : ℕ). requests_from f j ys) (sym (add-zero k))
requests_append f k (x ∷ xs) ys =
    let e : suc k + length xs ≡ k + suc (length xs) = omega arith in
    ap (λ (l : List RowRequest). asks_of f k x ++ l) (requests_append f (suc k) xs ys ∙ ap (λ (j : ℕ). requests_from f (suc k) xs ++ requests_from f j ys) e)
    ∙ sym (append_assoc (asks_of f k x) (requests_from f (suc k) xs) (requests_from f (k + suc (length xs)) ys))

module _ (f : ColumnMap) (n : ℕ) where
  before_more : n < length f.nodes → requests_before f (n + 1) ≡ requests_before f n ++ asks_of f n (get_or f.nodes n no_node)
  unfolding requests_from
  before_more h =
      let at : 0 + length (take n f.nodes) ≡ n = omega (arith, length-take-le n f.nodes (omega arith)) in
      ap (requests_from f 0) (sym (take_more f.nodes n no_node h))
      ∙ requests_append f 0 (take n f.nodes) (get_or f.nodes n no_node ∷ [])
      ∙ ap (λ (j : ℕ). requests_before f n ++ requests_from f j (get_or f.nodes n no_node ∷ [])) at
      ∙ ap (λ (l : List RowRequest). requests_before f n ++ l) (append-nil (asks_of f n (get_or f.nodes n no_node)))

  -- what the nodes from n on ask for
  abbrev after : List RowRequest
  after = requests_from f (0 + length (take n f.nodes)) (drop n f.nodes)

  before_after : requests_from f 0 f.nodes ≡ requests_before f n ++ after
  before_after = ap (requests_from f 0) (sym (take-append-drop n f.nodes)) ∙ requests_append f 0 (take n f.nodes) (drop n f.nodes)

-- a node that a set lists
by_sets : (f : ColumnMap) (n : ℕ) (ks : List ℕ) → ks ≢ [] → requests_by_sets f n ks ≡ exclusive_requests f n ks
unfolding requests_by_sets
by_sets f n [] h = absurd (h refl)
by_sets f n (k ∷ ks) h = refl

-- ---- the nodes of an accepted file

module _ (file : List ℕ) (c : Counts) (tables : EdgeTables) (t : TablesOf file c tables) where
  abbrev f : ColumnMap
  f = column_map (network_of file c)

  nodes_are : length f.nodes ≡ c.nodes
  unfolding column_map
  nodes_are = node_count_lem file c.nodes c.edges c.aggregates c.virtual_storages

  node_is : (n : ℕ) → n < c.nodes → get_or f.nodes n no_node ≡ node_at file (20 * n)
  unfolding column_map
  node_is n h = node_index file c.nodes c.edges c.aggregates c.virtual_storages n no_node h

  more : (n : ℕ) → n < c.nodes → requests_before f (n + 1) ≡ requests_before f n ++ asks_of f n (node_at file (20 * n))
  more n h = before_more f n (omega (arith, nodes_are)) ∙ ap (λ (x : Node). requests_before f n ++ asks_of f n x) (node_is n h)

  pub node_within : (n : ℕ) → n < c.nodes → 20 * n + 20 ≤ length file
  node_within n h = omega (arith, t.sections.fixed, t.sections.inside)

  pub node_under : (n : ℕ) → n < c.nodes → n < 256
  node_under n h = omega (arith, t.sections.few_nodes)

  module _ (s : Sentinel) (words : List ℕ) (numbers : List Float) where
    pub order_first : (g : Filled) → RowsHeld [] words numbers g → NodeRowsHeld s (requests_before f 0) words numbers (record { filled = g; count = 0 })
    unfolding requests_from add_variable_rows placed_node_rows flat_map
    order_first g h = record { held = h; counted = refl; table = refl }

    pub order_full : (n : ℕ) (v : Result NodeRows ProgrammeFull) → AfterRequests s (requests_before f n) v words numbers → (full : ProgrammeFull) → v ≡ Err full
        → AfterRequests s (requests_from f 0 (network_of file c).nodes) (Err full) words numbers
    unfolding column_map
    order_full n v a full e = rw (before_after f n) (full_later s (requests_before f n) (after f n) v words numbers a full e)

    pub order_done : (n : ℕ) (r : NodeRows) → c.nodes ≤ n → NodeRowsHeld s (requests_before f n) words numbers r → AfterRequests s (requests_from f 0 (network_of file c).nodes) (Ok r) words numbers
    unfolding column_map
    order_done n r h a =
        let all : take n f.nodes ≡ f.nodes = take_all n f.nodes (omega (arith, nodes_are)) in
        requests_done s (requests_from f 0 (network_of file c).nodes) words numbers r (rw all at a)

  pub constant_after : (n : ℕ) → n < c.nodes → (b : Bool) → b ≡ (node_at file (20 * n)).constant → b ≡ true → (s : Sentinel) (words : List ℕ) (numbers : List Float) (r : NodeRows)
      → NodeRowsHeld s (requests_before f n) words numbers r → AfterRequests s (requests_before f (n + 1)) (Ok r) words numbers
  constant_after n h b eb is s words numbers r held =
      let same : requests_before f (n + 1) ≡ requests_before f n = more n h ∙ rw (sym eb ∙ is) (append-nil (requests_before f n)) in
      requests_done s (requests_before f (n + 1)) words numbers r (rw same held)

  module _ (memberships : Memberships) (l : MembershipTables file c memberships) where
    sets_few : length (exclusive_sets (network_of file c)) ≤ 128
    sets_few =
        let long : length (sets_at file l.aggregate_set_at l.sets) ≡ length (take l.sets l.aggregate_set_at) = simp length-map in
        omega (arith, long, ap (λ (x : List (List ℕ)). length x) l.tables.held, length-take-le l.sets l.aggregate_set_at (omega (arith, l.tables.fit.long, l.tables.fit.few)), l.tables.fit.few)

    before_few : (n : ℕ) → length (requests_before f n) ≤ node_row_ceiling
    unfolding column_map
    before_few n =
        omega (
          arith,
          requests_few (network_of file c) (read_sound file (network_of file c) t.parsed).good sets_few,
          ap (λ (x : List RowRequest). length x)
              (before_after f n),
          length-append (requests_before f n) (after f n),
        )

    -- ---- a varying node

    module _ (n k : ℕ) (e : k ≡ n) (h : n < c.nodes) (b : Bool) (eb : b ≡ (node_at file (20 * n)).constant) (no : b ≡ false) where
      varying : requests_before f (n + 1) ≡ requests_before f n ++ requests_by_sets f n (sets_with_node n 0 f.sets)
      varying = more n h ∙ rw (sym eb ∙ no)

      -- no set lists the node
      module _ (z : get_or memberships.first k 0 ≡ 0) where
        none : sets_with_node n 0 f.sets ≡ []
        unfolding column_map
        none =
            (no_sets file l.aggregate_set_at l.sets l.tables.fit (network_of file c) l.tables.held n memberships.next (get_or memberships.first k 0) (rw e (l.tables.listed n (node_under n h)))).1 z

        abbrev own : List RowRequest
        own = record { node = n; row_type = continuous; set = 0; row = node_row f n } ∷ []

        own_is : requests_before f (n + 1) ≡ requests_before f n ++ own
        unfolding requests_by_sets
        own_is = varying ∙ ap (λ (ks : List ℕ). requests_before f n ++ requests_by_sets f n ks) none

        pub own_room : (s : Sentinel) (words : List ℕ) (numbers : List Float) (r : NodeRows) → NodeRowsHeld s (requests_before f n) words numbers r → r.count < node_row_ceiling
        own_room s words numbers r held =
            omega (arith, held.counted, ap (λ (x : List RowRequest). length x) own_is, length-append (requests_before f n) own, before_few (n + 1))

        pub own_after : (s : Sentinel) (v : Result NodeRows ProgrammeFull) (words : List ℕ) (numbers : List Float) → AfterRequests s (requests_before f n ++ own) v words numbers
            → AfterRequests s (requests_before f (n + 1)) v words numbers
        own_after s v words numbers a = rw own_is a

      -- sets list the node
      module _ (ne : get_or memberships.first k 0 ≢ 0) where
        listed_is : requests_before f (n + 1) ≡ requests_before f n ++ listed_requests f n
        unfolding column_map
        listed_is =
            varying
            ∙ ap (λ (x : List RowRequest). requests_before f n ++ x)
            (by_sets f n (sets_with_node n 0 f.sets)
            (λ q. ne ((no_sets file l.aggregate_set_at l.sets l.tables.fit (network_of file c) l.tables.held n memberships.next (get_or memberships.first k 0)
            (rw e (l.tables.listed n (node_under n h)))).0 q)))

        pub listed_room : length (requests_before f n ++ listed_requests f n) ≤ node_row_ceiling
        listed_room = rw listed_is at (before_few (n + 1))

        pub listed_after : (s : Sentinel) (v : Result NodeRows ProgrammeFull) (words : List ℕ) (numbers : List Float) → AfterRequests s (requests_before f n ++ listed_requests f n) v words numbers
            → AfterRequests s (requests_before f (n + 1)) v words numbers
        listed_after s v words numbers a = rw listed_is a

-- Who made the rows of a programme: a varying row was asked for, its maker is the first who asked, and its count is how often the shape's tables name it; a fixed
-- row has one maker; and every maker is one of the network. Assumes nothing.
use mathlib.Core.Path.{◌≡◌, refl, sym, ap, ◌∙◌, subst}
use Prim.Native.Nat.{ℕ, suc, ◌+◌, ◌<◌, ◌≤◌, zero-le}
use native.Mathlib.Nat.{zero-add, lt_of_not-le}
use native.Mathlib.Decide.{dec_le}
use native.Mathlib.Omega.{arith}
use mathlib.Core.Bool.{cond}
use mathlib.Core.List.{List, [], ◌∷◌, ◌++◌, map, Memᴰ}
use mathlib.Core.Option.{some}
use lib.ListN.{length, get_elem?, length-map}
use lib.Dec.{leb, eqb, lit≤}
use Rattle.pywr.specs.declared.Sentinel.{Sentinel}
use Rattle.pywr.specs.Network.{Node, Aggregate, Network}
use Rattle.pywr.specs.Rows.{Element, ColumnMap, column_map, aggregate_row, virtual_storage_row}
use Rattle.pywr.specs.Programme.{Row, NodeRow, VirtualStorageShape, Shape, Maker, by_mass, by_node, by_aggregate, by_virtual_storage, by_exclusivity}
use Rattle.pywr.specs.VaryingRows.{RowRequest, requests_from, fresh_row}
use Rattle.pywr.specs.FixedRows.{mass_rows_from, constant_rows_from, exclusivity_rows}
use Rattle.pywr.specs.Makers.{Asker, askers_by_nodes, askers_in_turn, askers, sharers_of, maker_of, varying_makers, references}
use Rattle.pywr.specs.Makers.{made_by, made_in_turn, mass_makers, constant_makers, exclusivity_makers, fixed_makers}
use Rattle.pywr.specs.Build.{node_shape, placed_node_rows, requested_row, assemble, programme_of}
use Rattle.pywr.specs.Step.{row_of}
use Rattle.pywr.specs.RowMakers.{FirstAsker}
use Rattle.pywr.proofs.ListLaws.{AllMem, all_none, all_cons, all_append, all_map, every_mem, found_mem, found_below, below_found, mem_found, found_left, found_right, same_some}
use Rattle.pywr.proofs.MakerLaws.{varying_makers_length}
use Rattle.pywr.proofs.ReadLaws.{Sound}
use Rattle.pywr.proofs.VaryingLaws.{node_places_lem}
use Rattle.pywr.proofs.ShapeLaws.{AskOk, requests_ok}
use Rattle.pywr.proofs.JoinLaws.{places_under}
use Rattle.pywr.proofs.FitLaws.{for_nodes, for_aggregates, for_virtual_storages, length_n, length_v, aggregates_length, same_places, same_virtual_storages}
use Rattle.pywr.proofs.FitLaws.{nodes_placed, aggregates_placed, virtual_storages_placed}
use Rattle.pywr.proofs.AskerLaws.{AskedFor, joined_covers, asked_left, asked_right, nodes_ask, in_turn_ask, node_asker}
use Rattle.pywr.proofs.AskerLaws.{first_made, first_within, node_row_asks, nodes_kind, in_turn_kind, sharers_count, first_count, askers_named, varying_found}

-- ---- a maker is one of so many nodes, aggregates and virtual storages

abbrev pub makers_for : Shape → ℕ → ℕ
makers_for shape kind = cond (leb kind by_node) (length shape.nodes) (cond (eqb kind by_virtual_storage) (length shape.virtual_storages) (length shape.aggregates))

pub record InRange (shape : Shape) (kind index : ℕ) : Type 0 where
  pub kind_most : kind ≤ by_exclusivity
  pub index_under : index < makers_for shape kind

pub record Made (shape : Shape) (m : Maker) : Type 0 where
  pub range : InRange shape m.kind m.index
  pub shared : 1 ≤ m.shared_by

module _ (shape : Shape) where
  of_kind : (k kind index : ℕ) → kind ≡ k → k ≤ by_exclusivity → index < makers_for shape k → InRange shape kind index
  of_kind k kind index e m u = subst (λ (n : ℕ). InRange shape n index) (sym e) (record { kind_most = m; index_under = u })

  in_turn_range : (k index : ℕ) (rows : List ℕ) → k ≤ by_exclusivity → index + length rows ≤ makers_for shape k
      → AllMem (λ (a : Asker). InRange shape a.kind a.index) (askers_in_turn k index rows)
  unfolding askers_in_turn
  in_turn_range k index [] m u = all_none (λ (a : Asker). InRange shape a.kind a.index)
  in_turn_range k index (row ∷ rows) m u =
      all_cons (λ (a : Asker). InRange shape a.kind a.index) _ (askers_in_turn k (suc index) rows)
      (record { kind_most = m; index_under = (let v : index + suc (length rows) ≤ makers_for shape k = u in omega arith) })
      (in_turn_range k (suc index) rows m (let v : index + suc (length rows) ≤ makers_for shape k = u in omega arith))

  nodes_range : (ns : List NodeRow) → AllMem (λ (n : NodeRow). n.node < length shape.nodes) ns → AllMem (λ (a : Asker). InRange shape a.kind a.index) (askers_by_nodes ns)
  unfolding askers_by_nodes
  nodes_range ns h =
      all_map (λ (a : Asker). InRange shape a.kind a.index) (λ (n : NodeRow). record { kind = by_node; index = n.node; row = n.row }) ns
      (λ n m. record { kind_most = lit≤ tt; index_under = h n m })

  askers_range : AllMem (λ (n : NodeRow). n.node < length shape.nodes) shape.node_rows → AllMem (λ (a : Asker). InRange shape a.kind a.index) (askers shape)
  unfolding askers
  askers_range h =
      let P : Asker → Type 0 = (λ (a : Asker). InRange shape a.kind a.index) in
      let storages : List ℕ = map (λ (v : VirtualStorageShape). v.row) shape.virtual_storages in
      let l = length-map shape.virtual_storages (λ (v : VirtualStorageShape). v.row) in
      all_append P (askers_by_nodes shape.node_rows ++ askers_in_turn by_aggregate 0 shape.aggregates) (askers_in_turn by_virtual_storage 0 storages)
      (all_append P (askers_by_nodes shape.node_rows) (askers_in_turn by_aggregate 0 shape.aggregates)
      (nodes_range shape.node_rows h)
      (in_turn_range by_aggregate 0 shape.aggregates (lit≤ tt) (let z = zero-add (length shape.aggregates) in omega arith)))
      (in_turn_range by_virtual_storage 0 storages (lit≤ tt) (let z = zero-add (length storages) in omega arith))

placed_under : (n : ℕ) (wanted : List RowRequest) (ps : List ℕ) → AllMem (λ (a : RowRequest). a.node < n) wanted → AllMem (λ (x : NodeRow). x.node < n) (placed_node_rows wanted ps)
unfolding placed_node_rows
placed_under n [] ps h = all_none (λ (x : NodeRow). x.node < n)
placed_under n (a ∷ wanted) [] h = all_none (λ (x : NodeRow). x.node < n)
placed_under n (a ∷ wanted) (p ∷ ps) h =
    all_cons (λ (x : NodeRow). x.node < n) _ (placed_node_rows wanted ps) (h a (Memᴰ.head refl)) (placed_under n wanted ps (λ b m. h b (Memᴰ.tail m)))

-- ---- rows under a count

by_nodes_under : (n : ℕ) (ns : List NodeRow) → AllMem (λ (p : ℕ). p < n) (node_places_lem ns) → AllMem (λ (a : Asker). a.row < n) (askers_by_nodes ns)
unfolding node_places_lem askers_by_nodes
by_nodes_under n [] h = all_none (λ (a : Asker). a.row < n)
by_nodes_under n (x ∷ ns) h =
    all_cons (λ (a : Asker). a.row < n) _ (askers_by_nodes ns) (h x.row (Memᴰ.head refl)) (by_nodes_under n ns (λ p m. h p (Memᴰ.tail m)))

in_turn_under : (n kind index : ℕ) (rows : List ℕ) → AllMem (λ (p : ℕ). p < n) rows → AllMem (λ (a : Asker). a.row < n) (askers_in_turn kind index rows)
unfolding askers_in_turn
in_turn_under n kind index [] h = all_none (λ (a : Asker). a.row < n)
in_turn_under n kind index (row ∷ rows) h =
    all_cons (λ (a : Asker). a.row < n) _ (askers_in_turn kind (suc index) rows) (h row (Memᴰ.head refl)) (in_turn_under n kind (suc index) rows (λ p m. h p (Memᴰ.tail m)))

-- ---- makers of fixed rows

record Single (kind count : ℕ) (m : Maker) : Type 0 where
  of : m.kind ≡ kind
  index_under : m.index < count
  once : m.shared_by ≡ 1

in_turn_single : {A : Type 0} (kind count : ℕ) (rows_by : ℕ → A → List Row) (index : ℕ) (xs : List A) → index + length xs ≤ count → AllMem (Single kind count) (made_in_turn kind rows_by index xs)
unfolding made_in_turn made_by
in_turn_single kind count rows_by index [] h = all_none (Single kind count)
in_turn_single kind count rows_by index (x ∷ xs) h =
    all_append (Single kind count) (made_by kind index (rows_by index x)) (made_in_turn kind rows_by (suc index) xs)
    (all_map (Single kind count) (λ (row : Row). record { kind = kind; index = index; shared_by = 1 }) (rows_by index x)
    (λ row m. record { of = refl; index_under = (let k : index + suc (length xs) ≤ count = h in omega arith); once = refl }))
    (in_turn_single kind count rows_by (suc index) xs (let k : index + suc (length xs) ≤ count = h in omega arith))

module _ (w : Sentinel) (net : Network) where
  abbrev shape : Shape
  shape = (programme_of w net).shape

  abbrev joined : List (List Element)
  joined = (for_virtual_storages w net).rows

  fixed_all : (P : Maker → Type 0) → ((m : Maker) → Single by_mass (length net.nodes) m → P m) → ((m : Maker) → Single by_node (length net.nodes) m → P m)
      → ((m : Maker) → Single by_exclusivity (length net.aggregates) m → P m) → AllMem P (fixed_makers w (column_map net) net)
  unfolding fixed_makers mass_makers constant_makers exclusivity_makers
  fixed_all P mass node exclusivity =
      let f : ColumnMap = column_map net in
      let nodes = zero-add (length net.nodes) in
      let aggregates = zero-add (length net.aggregates) in
      all_append P (mass_makers f 0 net.nodes ++ constant_makers w f 0 net.nodes) (exclusivity_makers f 0 net.aggregates)
      (all_append P (mass_makers f 0 net.nodes) (constant_makers w f 0 net.nodes)
      (λ m k. mass m (in_turn_single by_mass (length net.nodes) (λ (n : ℕ) (x : Node). mass_rows_from f n (x ∷ [])) 0 net.nodes (omega arith) m k))
      (λ m k. node m (in_turn_single by_node (length net.nodes) (λ (n : ℕ) (x : Node). constant_rows_from w f n (x ∷ [])) 0 net.nodes (omega arith) m k)))
      (λ m k. exclusivity m (in_turn_single by_exclusivity (length net.aggregates) (λ (n : ℕ) (x : Aggregate). exclusivity_rows f (x ∷ [])) 0 net.aggregates (omega arith) m k))

  -- ---- of a programme

  varying_long : length (programme_of w net).programme.varying ≡ length joined
  unfolding programme_of assemble
  varying_long = length-map joined (fresh_row w)

  varying_maker : (r : ℕ) → r < length joined → get_elem? (programme_of w net).makers r ≡ some (maker_of (askers (programme_of w net).shape) r)
  unfolding programme_of assemble
  varying_maker r h =
      found_left (varying_makers (askers shape) 0 (length joined)) (fixed_makers w (column_map net) net) r (maker_of (askers shape) r)
      (varying_found (askers shape) 0 (length joined) r h ∙ ap (λ (n : ℕ). some (maker_of (askers shape) n)) (zero-add r))

  fixed_maker : (r : ℕ) (m : Maker) → length joined ≤ r → get_elem? (programme_of w net).makers r ≡ some m → Memᴰ m (fixed_makers w (column_map net) net)
  unfolding programme_of assemble
  fixed_maker r m h e =
      found_right (varying_makers (askers shape) 0 (length joined)) (fixed_makers w (column_map net) net) r m
      (let l = varying_makers_length (askers shape) 0 (length joined) in omega arith) e

  storage_places : map (λ (v : VirtualStorageShape). v.row) (programme_of w net).shape.virtual_storages ≡ (for_virtual_storages w net).places
  unfolding programme_of assemble row_of
  storage_places = same_virtual_storages net.virtual_storages (for_virtual_storages w net).places (length_v w net)

  -- every row that was asked for is a varying row
  joined_under : AllMem (λ (a : Asker). a.row < length joined) (askers (programme_of w net).shape)
  unfolding programme_of assemble askers
  joined_under =
      let n : ℕ = length joined in
      let P : Asker → Type 0 = (λ (a : Asker). a.row < n) in
      let nodes : List Asker = askers_by_nodes shape.node_rows in
      let aggregates : List Asker = askers_in_turn by_aggregate 0 shape.aggregates in
      let storages : List ℕ = map (λ (v : VirtualStorageShape). v.row) shape.virtual_storages in
      let places : AllMem (λ (p : ℕ). p < n) (node_places_lem shape.node_rows) =
      subst (AllMem (λ (p : ℕ). p < n)) (sym (same_places (requests_from (column_map net) 0 net.nodes) (for_nodes w net).places (length_n w net)))
      (places_under joined _ _ (nodes_placed w net)) in
      all_append P (nodes ++ aggregates) (askers_in_turn by_virtual_storage 0 storages)
      (all_append P nodes aggregates (by_nodes_under n shape.node_rows places) (in_turn_under n by_aggregate 0 shape.aggregates (places_under joined _ _ (aggregates_placed w net))))
      (in_turn_under n by_virtual_storage 0 storages (subst (AllMem (λ (p : ℕ). p < n)) (sym storage_places) (places_under joined _ _ (virtual_storages_placed w net))))

  pub asked_under : AllMem (λ (a : Asker). a.row < length (programme_of w net).programme.varying) (askers (programme_of w net).shape)
  asked_under = subst (λ (n : ℕ). AllMem (λ (a : Asker). a.row < n) (askers (programme_of w net).shape)) (sym varying_long) joined_under

  -- every varying row was asked for
  row_asked : (r : ℕ) → r < length joined → AskedFor r (askers (programme_of w net).shape)
  unfolding programme_of assemble askers
  row_asked r h = by_nodes (dec_le (suc r) (length (for_nodes w net).rows))
    where
      nodes : List Asker
      nodes = askers_by_nodes shape.node_rows

      aggregates : List Asker
      aggregates = askers_in_turn by_aggregate 0 shape.aggregates

      storages : List Asker
      storages = askers_in_turn by_virtual_storage 0 (map (λ (v : VirtualStorageShape). v.row) shape.virtual_storages)

      by_aggregates : length (for_nodes w net).rows ≤ r → Dec (suc r ≤ length (for_aggregates w net).rows) → AskedFor r (nodes ++ aggregates ++ storages)
      by_aggregates l (yes m) =
          asked_left r (nodes ++ aggregates) storages
          (asked_right r nodes aggregates
          (in_turn_ask by_aggregate 0 (for_aggregates w net).places r
          (joined_covers (map (aggregate_row (column_map net)) net.aggregates) (for_nodes w net).rows r l m)))
      by_aggregates l (no f) =
          asked_right r (nodes ++ aggregates) storages
          (in_turn_ask by_virtual_storage 0 (map (λ (v : VirtualStorageShape). v.row) shape.virtual_storages) r
          (subst (λ (ps : List ℕ). Memᴰ r ps) (sym storage_places)
          (joined_covers (map (virtual_storage_row (column_map net)) net.virtual_storages) (for_aggregates w net).rows r (let o = lt_of_not-le f in omega arith) h)))

      by_nodes : Dec (suc r ≤ length (for_nodes w net).rows) → AskedFor r (nodes ++ aggregates ++ storages)
      by_nodes (yes m) =
          asked_left r (nodes ++ aggregates) storages
          (asked_left r nodes aggregates
          (nodes_ask shape.node_rows r
          (subst (λ (ps : List ℕ). Memᴰ r ps) (sym (same_places (requests_from (column_map net) 0 net.nodes) (for_nodes w net).places (length_n w net)))
          (joined_covers (map requested_row (requests_from (column_map net) 0 net.nodes)) [] r zero-le m))))
      by_nodes (no f) = by_aggregates (let o = lt_of_not-le f in omega arith) (dec_le (suc r) (length (for_aggregates w net).rows))

  -- "its first maker's kind .. and index"
  pub first_asker : (r : ℕ) (m : Maker) → r < length (programme_of w net).programme.varying → get_elem? (programme_of w net).makers r ≡ some m → FirstAsker r (askers (programme_of w net).shape) m
  first_asker r m h e =
      let under : r < length joined = subst (λ (n : ℕ). r < n) varying_long h in
      subst (λ (x : Maker). FirstAsker r (askers shape) x) (same_some (maker_of (askers shape) r) m (sym (varying_maker r under) ∙ e)) (first_made r (askers shape) (row_asked r under))

  -- a row that a node asked for is a node's, whoever asked later
  pub nodes_first : (r i : ℕ) (n : NodeRow) (m : Maker) → get_elem? (programme_of w net).shape.node_rows i ≡ some n → n.row ≡ r
      → r < length (programme_of w net).programme.varying → get_elem? (programme_of w net).makers r ≡ some m → m.kind ≡ by_node
  nodes_first r i n m q g h e = go (dec_le (suc i) first.at)
    where
      first : FirstAsker r (askers shape) m
      first = first_asker r m h e

      go : Dec (suc i ≤ first.at) → m.kind ≡ by_node
      go (yes l) = absurd (first.none_before i (node_asker n) l (node_row_asks shape i n q) g)
      go (no o) =
          let b = found_below shape.node_rows i n q in
          let l = lt_of_not-le o in
          let x = below_found shape.node_rows first.at (omega arith) in
          let same : first.asker ≡ node_asker x.0 = same_some first.asker (node_asker x.0) (sym first.found ∙ node_row_asks shape first.at x.0 x.1) in
          first.kind ∙ ap (λ (a : Asker). a.kind) same

  -- and one that an aggregate asked for is no virtual storage's
  pub aggregates_first : (r : ℕ) (m : Maker) → Memᴰ r (programme_of w net).shape.aggregates
      → r < length (programme_of w net).programme.varying → get_elem? (programme_of w net).makers r ≡ some m → m.kind ≤ by_aggregate
  unfolding askers
  aggregates_first r m q h e =
      let nodes : List Asker = askers_by_nodes shape.node_rows in
      let aggregates : List Asker = askers_in_turn by_aggregate 0 shape.aggregates in
      let storages : List Asker = askers_in_turn by_virtual_storage 0 (map (λ (v : VirtualStorageShape). v.row) shape.virtual_storages) in
      let P : Asker → Type 0 = (λ (a : Asker). a.kind ≤ by_aggregate) in
      let asks = asked_right r nodes aggregates (in_turn_ask by_aggregate 0 shape.aggregates r q) in
      let at = mem_found (nodes ++ aggregates) asks.asker asks.among in
      first_within (λ (k : ℕ). k ≤ by_aggregate) r m (nodes ++ aggregates) storages
      (all_append P nodes aggregates (λ a k. subst (λ (n : ℕ). n ≤ by_aggregate) (sym (nodes_kind shape.node_rows a k)) (lit≤ tt))
      (λ a k. subst (λ (n : ℕ). n ≤ by_aggregate) (sym (in_turn_kind by_aggregate 0 shape.aggregates a k)) (lit≤ tt)))
      at.0 asks.asker at.1 asks.given (first_asker r m h e)

  -- "how many makers share it, one that asks twice counted twice"
  pub shared_counts : (r : ℕ) (m : Maker) → r < length (programme_of w net).programme.varying → get_elem? (programme_of w net).makers r ≡ some m
      → m.shared_by ≡ references (programme_of w net).shape r
  unfolding maker_of
  shared_counts r m h e =
      let under : r < length joined = subst (λ (n : ℕ). r < n) varying_long h in
      ap (λ (x : Maker). x.shared_by) (same_some m (maker_of (askers shape) r) (sym e ∙ varying_maker r under))
      ∙ first_count (sharers_of r (askers shape))
      ∙ sharers_count r (askers shape)
      ∙ askers_named shape r

  -- a fixed row is its maker's alone
  pub fixed_once : (r : ℕ) (m : Maker) → length (programme_of w net).programme.varying ≤ r → get_elem? (programme_of w net).makers r ≡ some m → m.shared_by ≡ 1
  fixed_once r m h e =
      let over : length joined ≤ r = subst (λ (n : ℕ). n ≤ r) varying_long h in
      fixed_all (λ (x : Maker). x.shared_by ≡ 1) (λ x s. s.once) (λ x s. s.once) (λ x s. s.once) m (fixed_maker r m over e)

  -- ---- of a sound network: every maker is one of it

  module _ (sound : Sound net) where
    nodes_long : length (programme_of w net).shape.nodes ≡ length net.nodes
    unfolding programme_of assemble
    nodes_long = length-map net.nodes node_shape

    nodes_under : AllMem (λ (x : NodeRow). x.node < length (programme_of w net).shape.nodes) (programme_of w net).shape.node_rows
    unfolding programme_of assemble
    nodes_under =
        subst (λ (n : ℕ). AllMem (λ (x : NodeRow). x.node < n) shape.node_rows) (sym nodes_long)
        (placed_under (length net.nodes) (requests_from (column_map net) 0 net.nodes) (for_nodes w net).places
        (λ a m. (every_mem (AskOk net sound) (requests_from (column_map net) 0 net.nodes) (requests_ok net sound) a m).node_under))

    varying_made : (r : ℕ) → r < length joined → Made (programme_of w net).shape (maker_of (askers (programme_of w net).shape) r)
    varying_made r h =
        let first = first_made r (askers shape) (row_asked r h) in
        let range = askers_range shape nodes_under first.asker (found_mem (askers shape) first.at first.asker first.found) in
        record {
          range = subst (λ (k : ℕ). InRange shape k (maker_of (askers shape) r).index) (sym first.kind)
              (subst (λ (i : ℕ). InRange shape first.asker.kind i) (sym first.index) range);
          shared = first.shared;
        }

    fixed_made : AllMem (Made (programme_of w net).shape) (fixed_makers w (column_map net) net)
    fixed_made =
        fixed_all (Made shape)
        (λ m s. single by_mass (length net.nodes) m s (lit≤ tt) (omega (arith, nodes_long)))
        (λ m s. single by_node (length net.nodes) m s (lit≤ tt) (omega (arith, nodes_long)))
        (λ m s. single by_exclusivity (length net.aggregates) m s (lit≤ tt) (omega (arith, aggregates_length w net)))
      where
        single : (k n : ℕ) (m : Maker) → Single k n m → k ≤ by_exclusivity → n ≤ makers_for shape k → Made shape m
        single k n m s most u = record { range = of_kind shape k m.kind m.index s.of most (let i = s.index_under in omega arith); shared = (let o = s.once in omega arith) }

    pub makers_made : AllMem (Made (programme_of w net).shape) (programme_of w net).makers
    makers_made m k =
        let at = mem_found (programme_of w net).makers m k in
        go at.0 at.1 (dec_le (suc at.0) (length joined))
      where
        go : (r : ℕ) → get_elem? (programme_of w net).makers r ≡ some m → Dec (suc r ≤ length joined) → Made (programme_of w net).shape m
        go r e (yes h) = subst (Made shape) (same_some (maker_of (askers shape) r) m (sym (varying_maker r h) ∙ e)) (varying_made r h)
        go r e (no f) = fixed_made m (fixed_maker r m (let o = lt_of_not-le f in omega arith) e)

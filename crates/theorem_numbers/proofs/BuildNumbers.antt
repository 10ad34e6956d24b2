-- The programme of a network that was read: every bound and cost is a number, and every element is finite and not −0.0. Assumes nothing.
use mathlib.Core.Path.{◌≡◌, refl, sym, subst}
use Prim.Native.Nat.{ℕ, zero, suc, ◌≤◌}
use native.Mathlib.Nat.{le_trans, le_of_eq, zero-add}
use mathlib.Core.Bool.{Bool, true, false, cond, not, ◌&&◌}
use mathlib.Core.List.{List, [], ◌∷◌, ◌++◌, map, Memᴰ}
use mathlib.Core.Option.{some}
use lib.ListN.{length, replicate, get_elem?}
use lib.Dec.{T, eqb}
use lib.Ieee.{Float, binary64, fits, neg, eq}
use Rattle.doubles.proofs.Rounding.{round_num}
use Rattle.pywr.specs.declared.Sentinel.{Sentinel}
use Rattle.pywr.specs.Numbers.{double, zero64, one64, high}
use Rattle.pywr.specs.Network.{link, Node, Aggregate, Network}
use Rattle.pywr.specs.ColEdgeMap.{columns, mapped_edges}
use Rattle.pywr.specs.ExclusiveSets.{exclusive_sets, sets_with_node}
use Rattle.pywr.specs.Rows.{Element, ColumnMap, column_map, add_node, mass_row, aggregate_row, virtual_storage_row, upper_row, lower_row, exclusivity_row}
use Rattle.pywr.specs.VariableRows.{Joined, add_variable_rows}
use Rattle.pywr.specs.Programme.{Column, Row, Programme}
use Rattle.pywr.specs.VaryingRows.{RowRequest, exclusive_requests, requests_by_sets, requests_from, fresh_row}
use Rattle.pywr.specs.FixedRows.{mass_rows_from, upper_coefficient, lower_coefficient, exclusive_rows, constant_rows, constant_rows_from, exclusivity_rows}
use Rattle.pywr.specs.Build.{edge_column, set_column, all_columns, requested_row, assemble, programme_of}
use Rattle.pywr.proofs.BoundLaws.{IsBound, high_bound}
use Rattle.pywr.proofs.MassLaws.{Every, every_append}
use Rattle.pywr.proofs.NumberLaws.{FiniteFit}
use Rattle.pywr.proofs.ExclusiveLaws.{Under}
use Rattle.pywr.proofs.ListLaws.{AllMem, all_none, all_append, all_map, every_mem, found_mem, each_of}
use Rattle.pywr.proofs.WeightLaws.{pipes_length}
use Rattle.pywr.proofs.MembershipLaws.{membership_exclusive}
use Rattle.pywr.proofs.FitLaws.{columns_long}
use Rattle.pywr.proofs.CoefficientLaws.{upper_finite, lower_finite}
use Rattle.pywr.proofs.ShapeLaws.{Rising, node_rises, joins_all}
use Rattle.pywr.proofs.ElementSums.{rising_under}
use Rattle.pywr.proofs.ReadLaws.{AggregateOk, Good, Sound}
use Rattle.theorem_numbers.specs.ProgrammeNumbers.{asked_rows}
use Rattle.theorem_numbers.proofs.SumBounds.{within_finite, neg_within, one_within}
use Rattle.theorem_numbers.proofs.ReadBounds.{AllSmall}
use Rattle.theorem_numbers.proofs.ElementBounds.{Plain, AllPlain, node_plain, mass_plain, upper_plain, lower_plain, aggregate_plain, virtual_storage_plain, exclusivity_plain}

-- elements of which P holds
abbrev pub ElementsOk : (Float → Type 0) → Row → Type 0
ElementsOk P r = Every (λ (e : Element). P e.value) r.elements

-- and bounds that are numbers
pub record RowOk (P : Float → Type 0) (r : Row) : Type 0 where
  pub lower : IsBound r.lower
  pub upper : IsBound r.upper
  pub elements : ElementsOk P r

pub record ColumnOk (c : Column) : Type 0 where
  pub lower : IsBound c.lower
  pub upper : IsBound c.upper
  pub cost : IsBound c.cost

pub record ProgrammeOk (P : Float → Type 0) (p : Programme) : Type 0 where
  pub columns : Every ColumnOk p.columns
  pub varying : Every (RowOk P) p.varying
  pub fixed : Every (RowOk P) p.fixed

-- ---- lists

pub mem_every : {A : Type 0} (P : A → Type 0) (xs : List A) → AllMem P xs → Every P xs
mem_every P [] h = tt
mem_every P (x ∷ xs) h = (h x (Memᴰ.head refl), mem_every P xs (λ y m. h y (Memᴰ.tail m)))

pub every_replicate : {A : Type 0} (P : A → Type 0) (n : ℕ) (x : A) → P x → Every P (replicate n x)
every_replicate P zero x p = tt
every_replicate P (suc n) x p = (p, every_replicate P n x p)

-- one where the test passes
every_if : {A : Type 0} (P : A → Type 0) (b : Bool) (x : A) → P x → Every P (cond b (x ∷ []) [])
every_if P true x p = (p, tt)
every_if P false x p = tt

-- ---- numbers

pub zero_bound : IsBound zero64
unfolding zero64 fits
zero_bound = (tt, tt)

one_bound : IsBound one64
unfolding one64 fits
one_bound = (tt, tt)

double_bound : (n : ℕ) → IsBound (double n)
unfolding double
double_bound n = round_num binary64 false n 1

-- ---- columns

columns_ok : (s : Sentinel) (f : ColumnMap) → Every ColumnOk (all_columns s f)
unfolding all_columns edge_column set_column
columns_ok s f =
    (every_append ColumnOk (replicate f.edge_columns (edge_column s)) (replicate (length f.sets) set_column)).1 (
      every_replicate ColumnOk f.edge_columns (edge_column s) (record { lower = zero_bound; upper = high_bound s; cost = zero_bound }),
      every_replicate ColumnOk (length f.sets) set_column (record { lower = zero_bound; upper = one_bound; cost = zero_bound }),
    )

pub edges_few : (net : Network) → Good net → length (mapped_edges net) ≤ 512
unfolding mapped_edges
edges_few net good = le_trans (le_of_eq (pipes_length net.edges (columns net).of (columns_long net))) good.edge_count

module _ (net : Network) (sound : Sound net) where
  abbrev f : ColumnMap
  f = column_map net

  few : length f.mapped_edges ≤ 512
  unfolding column_map
  few = edges_few net sound.good

  -- a node's columns are edge columns
  under : (i : ℕ) (x : Float) → Under f.edge_columns (add_node f i x [])
  unfolding column_map
  under i x = rising_under (columns net).count 0 (add_node (column_map net) i x []) (node_rises net sound i x [] Rising.none)

  upper_ok : (n k : ℕ) (x : Float) → FiniteFit x → AllPlain (upper_row f n k x)
  upper_ok n k x ok = upper_plain f few n k x ok (under n (neg one64))

  lower_ok : (n k : ℕ) (x : Float) → FiniteFit x → AllPlain (lower_row f n k x)
  lower_ok n k x ok = lower_plain f few n k x ok (under n one64)

  -- ---- varying rows

  abbrev AskOk : RowRequest → Type 0
  AskOk a = AllPlain a.row

  exclusive_asks : (n : ℕ) (ks : List ℕ) → Every AskOk (exclusive_requests f n ks)
  unfolding exclusive_requests
  exclusive_asks n [] = tt
  exclusive_asks n (k ∷ ks) =
      (upper_ok n k one64 (within_finite 1 one64 one_within), (lower_ok n k (neg one64) (within_finite 1 (neg one64) (neg_within 1 one64 one_within)), exclusive_asks n ks))

  asks_by : (n : ℕ) (ks : List ℕ) → Every AskOk (requests_by_sets f n ks)
  unfolding requests_by_sets
  asks_by n [] = (node_plain f few n, tt)
  asks_by n (k ∷ ks) = exclusive_asks n (k ∷ ks)

  asks_ok : (n : ℕ) (xs : List Node) → Every AskOk (requests_from f n xs)
  unfolding requests_from
  asks_ok n [] = tt
  asks_ok n (x ∷ xs) = (every_append AskOk (cond x.constant [] (requests_by_sets f n (sets_with_node n 0 f.sets))) (requests_from f (suc n) xs)).1 (go x.constant, asks_ok (suc n) xs)
    where
      go : (b : Bool) → Every AskOk (cond b [] (requests_by_sets f n (sets_with_node n 0 f.sets)))
      go true = tt
      go false = asks_by n (sets_with_node n 0 f.sets)

  -- ---- mass rows

  masses_ok : (n : ℕ) (xs : List Node) → Every (RowOk Plain) (mass_rows_from f n xs)
  unfolding mass_rows_from
  masses_ok n [] = tt
  masses_ok n (x ∷ xs) =
      let r : Row = record { lower = zero64; upper = zero64; elements = mass_row f n } in
      let b : Bool = eqb x.kind link && not (eqb (length (mass_row f n)) 1) in
      (every_append (RowOk Plain) (cond b (r ∷ []) []) (mass_rows_from f (suc n) xs)).1
      (every_if (RowOk Plain) b r (record { lower = zero_bound; upper = zero_bound; elements = mass_plain f few n }), masses_ok (suc n) xs)

  -- ---- exclusivity rows

  exclusivities_ok : (nodes : ℕ) (ags : List Aggregate) → AllMem (AggregateOk nodes) ags → Every (RowOk Plain) (exclusivity_rows f ags)
  unfolding exclusivity_rows
  exclusivities_ok nodes [] ok = tt
  exclusivities_ok nodes (a ∷ ags) ok =
      let r : Row = record { lower = double a.min_active; upper = double a.max_active; elements = exclusivity_row f a } in
      (every_append (RowOk Plain) (cond a.exclusive (r ∷ []) []) (exclusivity_rows f ags)).1 (
        every_if (RowOk Plain) a.exclusive r
            (record { lower = double_bound a.min_active; upper = double_bound a.max_active; elements = exclusivity_plain f few a (ok a (Memᴰ.head refl)).few }),
        exclusivities_ok nodes ags (λ b m. ok b (Memᴰ.tail m)),
      )

  module _ (s : Sentinel) where
    -- from 0.0 to the high sentinel
    from_zero : (es : List Element) → AllPlain es → RowOk Plain (record { lower = zero64; upper = high s; elements = es })
    from_zero es h = record { lower = zero_bound; upper = high_bound s; elements = h }

    fresh_ok : (rows : List (List Element)) → Every AllPlain rows → Every (RowOk Plain) (map (fresh_row s) rows)
    unfolding fresh_row
    fresh_ok [] h = tt
    fresh_ok (r ∷ rs) h = (from_zero r h.0, fresh_ok rs h.1)

    -- ---- rows of constant nodes

    exclusives_ok : (n : ℕ) (x : Node) → FiniteFit (lower_coefficient x.min) → FiniteFit (upper_coefficient x.max) → (ks : List ℕ) → Every (RowOk Plain) (exclusive_rows s f n x ks)
    unfolding exclusive_rows
    exclusives_ok n x l u [] = tt
    exclusives_ok n x l u (k ∷ ks) =
        let lower : Row = record { lower = zero64; upper = high s; elements = lower_row f n k (lower_coefficient x.min) } in (
          from_zero (upper_row f n k (upper_coefficient x.max)) (upper_ok n k (upper_coefficient x.max) u),
          (every_append (RowOk Plain) (cond (eq x.min zero64) [] (lower ∷ [])) (exclusive_rows s f n x ks)).1
              (omitted (eq x.min zero64) lower (from_zero lower.elements (lower_ok n k (lower_coefficient x.min) l)), exclusives_ok n x l u ks),
        )
      where
        omitted : (b : Bool) (r : Row) → RowOk Plain r → Every (RowOk Plain) (cond b [] (r ∷ []))
        omitted true r h = tt
        omitted false r h = (h, tt)

    module _ (n : ℕ) (x : Node) (at : get_elem? net.nodes n ≡ some x) where
      -- 10 refused the coefficients that are not finite
      constant_ok : T x.constant → (ks : List ℕ) → AllMem (λ (k : ℕ). Memᴰ k (sets_with_node n 0 (exclusive_sets net))) ks → Every (RowOk Plain) (constant_rows s f n x ks)
      unfolding constant_rows upper_coefficient lower_coefficient
      constant_ok t [] listed =
          let ok = sound.good.nodes x (found_mem net.nodes n x at) in
          (record { lower = ok.least t; upper = ok.most t; elements = node_plain f few n }, tt)
      constant_ok t (k ∷ ks) listed =
          let ok = sound.good.nodes x (found_mem net.nodes n x at) in
          let c = sound.coefficients n x at t (membership_exclusive net n k (listed k (Memᴰ.head refl))) in
          exclusives_ok n x (lower_finite x.min (ok.least t) c.least) (upper_finite x.max (ok.most t) c.most) (k ∷ ks)

      constant_part : (b : Bool) → (T b → T x.constant) → Every (RowOk Plain) (cond b (constant_rows s f n x (sets_with_node n 0 f.sets)) [])
      unfolding column_map
      constant_part true t = constant_ok (t tt) (sets_with_node n 0 (exclusive_sets net)) (λ k m. m)
      constant_part false t = tt

    constants_ok : Every (RowOk Plain) (constant_rows_from s f 0 net.nodes)
    unfolding constant_rows_from
    constants_ok =
        let rows : ℕ → Node → List Row = (λ n x. cond x.constant (constant_rows s f n x (sets_with_node n 0 f.sets)) []) in
        (each_of (RowOk Plain) rows (constant_rows_from s f) (λ n. refl) (λ n x xs. refl) net.nodes 0).1
        (λ n x at. subst (λ (m : ℕ). Every (RowOk Plain) (rows m x)) (sym (zero-add n)) (constant_part n x at x.constant (λ t. t)))

  -- ---- the whole programme

  module _ (small : AllSmall net) where
    abbrev of_nodes : List (List Element)
    of_nodes = map requested_row (requests_from f 0 net.nodes)

    abbrev of_aggregates : List (List Element)
    of_aggregates = map (aggregate_row f) net.aggregates

    abbrev of_virtual_storages : List (List Element)
    of_virtual_storages = map (virtual_storage_row f) net.virtual_storages

    nodes_asked : AllMem AllPlain of_nodes
    unfolding requested_row
    nodes_asked = all_map AllPlain requested_row (requests_from f 0 net.nodes) (every_mem AskOk (requests_from f 0 net.nodes) (asks_ok 0 net.nodes))

    aggregates_asked : AllMem AllPlain of_aggregates
    aggregates_asked = all_map AllPlain (aggregate_row f) net.aggregates (λ g m. aggregate_plain f few (length net.nodes) g (sound.good.aggregates g m))

    virtual_storages_asked : AllMem AllPlain of_virtual_storages
    virtual_storages_asked = all_map AllPlain (virtual_storage_row f) net.virtual_storages (λ v m. virtual_storage_plain f few v (small v m) (sound.good.virtual_storages v m).few)

    pub asked_plain : AllMem AllPlain (asked_rows net)
    unfolding asked_rows
    asked_plain = all_append AllPlain (of_nodes ++ of_aggregates) of_virtual_storages (all_append AllPlain of_nodes of_aggregates nodes_asked aggregates_asked) virtual_storages_asked

    pub build_ok : (s : Sentinel) → ProgrammeOk Plain (programme_of s net).programme
    unfolding programme_of assemble
    build_ok s =
        let for_nodes : Joined = add_variable_rows of_nodes (record { rows = []; places = [] }) in
        let for_aggregates : Joined = add_variable_rows of_aggregates (record { rows = for_nodes.rows; places = [] }) in
        let for_virtual_storages : Joined = add_variable_rows of_virtual_storages (record { rows = for_aggregates.rows; places = [] }) in
        let a : AllMem AllPlain for_nodes.rows = joins_all AllPlain of_nodes (record { rows = []; places = [] }) nodes_asked (all_none AllPlain) in
        let b : AllMem AllPlain for_aggregates.rows = joins_all AllPlain of_aggregates (record { rows = for_nodes.rows; places = [] }) aggregates_asked a in
        let c : AllMem AllPlain for_virtual_storages.rows = joins_all AllPlain of_virtual_storages (record { rows = for_aggregates.rows; places = [] }) virtual_storages_asked b in
        let mass : List Row = mass_rows_from f 0 net.nodes in
        let constant : List Row = constant_rows_from s f 0 net.nodes in
        record {
          columns = columns_ok s f;
          varying = fresh_ok s for_virtual_storages.rows (mem_every AllPlain for_virtual_storages.rows c);
          fixed =
              (every_append (RowOk Plain) (mass ++ constant) (exclusivity_rows f net.aggregates)).1 (
                (every_append (RowOk Plain) mass constant).1 (masses_ok 0 net.nodes, constants_ok s),
                exclusivities_ok (length net.nodes) net.aggregates sound.good.aggregates,
              );
        }

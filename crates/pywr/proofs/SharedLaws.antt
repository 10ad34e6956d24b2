-- Which rows of a built programme are shared. The rows of varying exclusive nodes have one column over the edge columns, their set's: so only node rows
-- of one set share such a row, and no interval is for it. Assumes nothing.
use mathlib.Core.Path.{◌≡◌, refl, sym, subst}
use mathlib.Core.Logic.{◌⊎◌, inl, inr}
use Prim.Native.Nat.{ℕ, suc, ◌+◌, ◌<◌}
use native.Mathlib.Omega.{arith}
use mathlib.Core.Bool.{Bool, true, false, not, ◌&&◌}
use mathlib.Core.List.Memᴰ
use mathlib.Core.List.{List, [], ◌∷◌, map, Memᴰ}
use lib.ListN.{length, get_or}
use lib.Dec.{T, eqb, eqb→eq, eqb_refl}
use lib.Ieee.{Float, neg}
use lib.Ieee.Fits.{and_i, and_l, and_r}
use Rattle.laws.proofs.Tests.{same_test, or_l, or_r, or_elim}
use Rattle.pywr.specs.declared.Sentinel.{Sentinel}
use Rattle.pywr.specs.Numbers.{one64}
use Rattle.pywr.specs.Network.{Node, Network, no_node, keep_if, is_exclusive}
use Rattle.pywr.specs.ColEdgeMap.{columns}
use Rattle.pywr.specs.ExclusiveSets.{exclusive_sets, set_number, sets_with_node}
use Rattle.pywr.specs.Rows.{Element, add_element, ColumnMap, column_map, add_node, node_row, aggregate_row, virtual_storage_row, upper_row, lower_row}
use Rattle.pywr.specs.Programme.{RowType, continuous, NodeRow}
use Rattle.pywr.specs.VaryingRows.{RowRequest, exclusive_requests, requests_by_sets, requests_from}
use Rattle.pywr.specs.Build.{placed_node_rows, requested_row, assemble, programme_of}
use Rattle.pywr.specs.StepIntervals.{is_binary, has_binary_row}
use Rattle.pywr.specs.Step.{row_of}
use Rattle.pywr.specs.Correspondence.{is_varying_exclusive}
use Rattle.pywr.proofs.ElementLaws.{add_none, add_cases}
use Rattle.pywr.proofs.ExclusiveLaws.{Under}
use Rattle.pywr.proofs.JoinLaws.{cols, Alike, alike_columns, Placed}
use Rattle.pywr.proofs.VaryingLaws.{continuous_rows, node_places_lem}
use Rattle.pywr.proofs.BinaryRowLaws.{Binary}
use Rattle.pywr.proofs.MassLaws.{Every}
use Rattle.pywr.proofs.ListLaws.{AllMem, all_none, all_cons, all_map, every_mem, found_get, below_found}
use Rattle.pywr.proofs.MembershipLaws.{exclusive_lists, exclusive_listed, membership_exclusive}
use Rattle.pywr.proofs.ReadLaws.{Sound}
use Rattle.pywr.proofs.FitLaws.{varying_asks, asked, for_nodes, for_virtual_storages, length_n}
use Rattle.pywr.proofs.ShapeLaws.{Rising, AskOk, requests_ok, node_rises, aggregate_rises, virtual_storage_rises}
use Rattle.pywr.proofs.ElementSums.{rising_under}

-- ---- columns

under_cols : (n : ℕ) (row : List Element) → Under n row → AllMem (λ (c : ℕ). c < n) (cols row)
under_cols n [] Under.none = all_none (λ (c : ℕ). c < n)
under_cols n (e ∷ es) (Under.more h us) = all_cons (λ (c : ℕ). c < n) e.column (cols es) h (under_cols n es us)

added_cols : (P : ℕ → Type 0) (c : ℕ) (x : Float) (row : List Element) → P c → AllMem P (cols row) → AllMem P (cols (add_element c x row))
added_cols P c x [] p h = rw (add_none c x) (all_cons P c [] p (all_none P))
added_cols P c x (e ∷ es) p h =
    let rest : AllMem P (cols es) = (λ k m. h k (Memᴰ.tail m)) in
    add_cases c x e es (λ (row : List Element). AllMem P (cols row)) (λ q. all_cons P c (cols (e ∷ es)) p h) (λ q. all_cons P c (cols es) p rest)
    (λ q. all_cons P e.column (cols (add_element c x es)) (h e.column (Memᴰ.head refl)) (added_cols P c x es p rest))

-- the row has the column of a set
abbrev pub HasSetColumn : Network → ℕ → List Element → Type 0
HasSetColumn net k row = Memᴰ ((columns net).count + k) (cols row)

-- ---- what nodes ask for

module _ (net : Network) (sound : Sound net) where
  abbrev f : ColumnMap
  f = column_map net

  abbrev edges : ℕ
  edges = (columns net).count

  -- a column of an edge, or the set's
  abbrev OneSet : ℕ → ℕ → Type 0
  OneSet k c = (c < edges) ⊎ (c ≡ edges + k)

  record AskCols (a : RowRequest) : Type 0 where
    continuous_under : T (not (is_binary a.row_type)) → Under edges a.row
    one_set : T (is_binary a.row_type) → AllMem (OneSet a.set) (cols a.row)
    varies : T (is_binary a.row_type) → T (is_varying_exclusive net a.node)

  with_set_cols : (n k : ℕ) (x c : Float) → AllMem (OneSet k) (cols (add_element (edges + k) c (add_node f n x [])))
  with_set_cols n k x c =
      added_cols (OneSet k) (edges + k) c (add_node f n x []) (inr refl)
      (λ d m. inl (under_cols edges _ (rising_under edges 0 _ (node_rises net sound n x [] Rising.none)) d m))

  exclusive_cols : (n : ℕ) → T (is_varying_exclusive net n) → (ks : List ℕ) → Every AskCols (exclusive_requests f n ks)
  unfolding exclusive_requests upper_row lower_row column_map is_binary
  exclusive_cols n t [] = tt
  exclusive_cols n t (k ∷ ks) = (
    record { continuous_under = λ h. absurd h; one_set = λ h. with_set_cols n k (neg one64) one64; varies = λ h. t },
    (record { continuous_under = λ h. absurd h; one_set = λ h. with_set_cols n k one64 (neg one64); varies = λ h. t }, exclusive_cols n t ks),
  )

  by_sets_cols : (n : ℕ) (ks : List ℕ) → ((k : ℕ) → Memᴰ k ks → T (is_varying_exclusive net n)) → Every AskCols (requests_by_sets f n ks)
  unfolding requests_by_sets node_row is_binary
  by_sets_cols n [] h = (record { continuous_under = λ t. rising_under edges 0 _ (node_rises net sound n one64 [] Rising.none); one_set = λ t. absurd t; varies = λ t. absurd t }, tt)
  by_sets_cols n (k ∷ ks) h = exclusive_cols n (h k (Memᴰ.head refl)) (k ∷ ks)

  requests_cols : Every AskCols (requests_from f 0 net.nodes)
  unfolding is_varying_exclusive column_map
  requests_cols =
      (varying_asks f AskCols net.nodes).1
      (λ i x e t. by_sets_cols i (sets_with_node i 0 (exclusive_sets net))
      (λ k m.
      and_i (is_exclusive net.aggregates i) (not (get_or net.nodes i no_node).constant) (membership_exclusive net i k m)
      (subst (λ (y : Node). T (not y.constant)) (sym (found_get net.nodes i x no_node e)) t)))

  ask_has : (a : RowRequest) → AskOk net sound a → T (is_binary a.row_type) → HasSetColumn net a.set a.row
  unfolding is_binary
  ask_has a k t = go k.has_set_lem
    where
      go : (a.row_type ≡ continuous) ⊎ ((a.set < length (exclusive_sets net)) × HasSetColumn net a.set a.row) → HasSetColumn net a.set a.row
      go (inl q) = absurd (subst (λ (r : RowType). T (is_binary r)) q t)
      go (inr q) = q.1

-- ---- where the asked rows stand

abbrev pub placed_row : RowRequest → ℕ → NodeRow
placed_row a p = record { node = a.node; row = p; row_type = a.row_type; set = a.set }

-- a node row comes from what a node asked for
pub record FromAsk (joined : List (List Element)) (wanted : List RowRequest) (n : NodeRow) : Type 0 where
  pub ask : RowRequest
  pub among : Memᴰ ask wanted
  pub node : n.node ≡ ask.node
  pub row_type : n.row_type ≡ ask.row_type
  pub set : n.set ≡ ask.set
  pub under : n.row < length joined
  pub alike : Alike (get_or joined n.row []) ask.row

from_asks : (joined : List (List Element)) (wanted : List RowRequest) (ps : List ℕ) → Placed joined (map requested_row wanted) (node_places_lem (placed_node_rows wanted ps))
    → AllMem (FromAsk joined wanted) (placed_node_rows wanted ps)
unfolding placed_node_rows node_places_lem requested_row
from_asks joined [] ps h n m = absurd (Memᴰ.not-nil m)
from_asks joined (a ∷ wanted) [] h n m = absurd (Memᴰ.not-nil m)
from_asks joined (a ∷ wanted) (p ∷ ps) (Placed.more u k rest) n m = go (from_asks joined wanted ps rest n) (Memᴰ.cases_cons m)
  where
    go : (Memᴰ n (placed_node_rows wanted ps) → FromAsk joined wanted n) → (n ≡ placed_row a p) ⊎ Memᴰ n (placed_node_rows wanted ps) → FromAsk joined (a ∷ wanted) n
    go ih (inl e) =
        subst (λ (q : NodeRow). FromAsk joined (a ∷ wanted) q) (sym e)
        (record { ask = a; among = Memᴰ.head refl; node = refl; row_type = refl; set = refl; under = u; alike = k })
    go ih (inr j) =
        let r = ih j in
        record { ask = r.ask; among = Memᴰ.tail r.among; node = r.node; row_type = r.row_type; set = r.set; under = r.under; alike = r.alike }

-- the row of a place, among the rows that were asked for there
abbrev AskedAt : List (List Element) → List (List Element) → ℕ → Type 0
AskedAt joined asked q = (r : List Element) × Memᴰ r asked × Alike (get_or joined q []) r

placed_from : (joined asked : List (List Element)) (ps : List ℕ) → Placed joined asked ps → (q : ℕ) → Memᴰ q ps → AskedAt joined asked q
placed_from joined [] [] Placed.none q m = absurd (Memᴰ.not-nil m)
placed_from joined (r ∷ rs) (p ∷ ps) (Placed.more u k rest) q m = go (placed_from joined rs ps rest q) (Memᴰ.cases_cons m)
  where
    go : (Memᴰ q ps → AskedAt joined rs q) → (q ≡ p) ⊎ Memᴰ q ps → AskedAt joined (r ∷ rs) q
    go ih (inl e) = (r, Memᴰ.head refl, subst (λ (j : ℕ). Alike (get_or joined j []) r) (sym e) k)
    go ih (inr j) = let s = ih j in (s.0, Memᴰ.tail s.1, s.2)
placed_from joined [] (p ∷ ps) x4 q m = elim x4 [ ]
placed_from joined (r ∷ rs) [] x4 q m = elim x4 [ ]

-- a continuous node row whose row is q
abbrev ContinuousAt : List NodeRow → ℕ → Type 0
ContinuousAt ns q = (n : NodeRow) × Memᴰ n ns × T (not (is_binary n.row_type)) × (n.row ≡ q)

continuous_from : (ns : List NodeRow) (q : ℕ) → Memᴰ q (node_places_lem (continuous_rows ns)) → ContinuousAt ns q
unfolding continuous_rows node_places_lem keep_if
continuous_from [] q m = absurd (Memᴰ.not-nil m)
continuous_from (n ∷ ns) q m = go (is_binary n.row_type) refl (λ j. continuous_from ns q j) m
  where
    later : ContinuousAt ns q → ContinuousAt (n ∷ ns) q
    later r = (r.0, Memᴰ.tail r.1, r.2, r.3)

    one : (b : Bool) → is_binary n.row_type ≡ b → T (not b) → (q ≡ n.row) ⊎ Memᴰ q (node_places_lem (continuous_rows ns))
        → (Memᴰ q (node_places_lem (continuous_rows ns)) → ContinuousAt ns q) → ContinuousAt (n ∷ ns) q
    one b e t (inl s) ih = (n, Memᴰ.head refl, subst (λ (c : Bool). T (not c)) (sym e) t, sym s)
    one b e t (inr j) ih = later (ih j)

    go : (b : Bool) → is_binary n.row_type ≡ b → (Memᴰ q (node_places_lem (continuous_rows ns)) → ContinuousAt ns q)
        → Memᴰ q (node_places_lem (keep_if (not b) n (continuous_rows ns))) → ContinuousAt (n ∷ ns) q
    go true e ih j = later (ih j)
    go false e ih j = one false e tt (Memᴰ.cases_cons j) ih

-- ---- the rows of varying exclusive nodes

module _ (w : Sentinel) (net : Network) (sound : Sound net) where
  abbrev joined : List (List Element)
  joined = (for_virtual_storages w net).rows

  abbrev ns : List NodeRow
  ns = (programme_of w net).shape.node_rows

  abbrev wanted : List RowRequest
  wanted = requests_from (column_map net) 0 net.nodes

  pub row_from : AllMem (FromAsk joined wanted) ns
  unfolding programme_of assemble
  row_from = from_asks joined wanted _ (asked w net).nodes

  binary_ask : (n : NodeRow) (m : Memᴰ n ns) → Binary n → T (is_binary (row_from n m).ask.row_type)
  binary_ask n m b = subst (λ (t : RowType). T (is_binary t)) (row_from n m).row_type b

  -- such a node varies and is exclusive
  pub binary_node : (n : NodeRow) → Memᴰ n ns → Binary n → T (is_varying_exclusive net n.node)
  binary_node n m b =
      let r = row_from n m in
      subst (λ (k : ℕ). T (is_varying_exclusive net k)) (sym r.node)
      ((every_mem (AskCols net sound) wanted (requests_cols net sound) r.ask r.among).varies (binary_ask n m b))

  -- its row has the set's column
  pub has_set_lem : (n : NodeRow) → Memᴰ n ns → Binary n → HasSetColumn net n.set (get_or joined n.row [])
  has_set_lem n m b =
      let r = row_from n m in
      subst (λ (l : List ℕ). Memᴰ ((columns net).count + n.set) l) (sym (alike_columns r.alike))
      (subst (λ (k : ℕ). HasSetColumn net k r.ask.row) (sym r.set)
      (ask_has net sound r.ask (every_mem (AskOk net sound) wanted (requests_ok net sound) r.ask r.among) (binary_ask n m b)))

  -- and no other column over the edges'
  pub sharers_of_one_set : (m n : NodeRow) → Memᴰ m ns → Memᴰ n ns → Binary m → Binary n → n.row ≡ m.row → n.set ≡ m.set
  sharers_of_one_set m n km kn bm bn q =
      let r = row_from n kn in
      let mine : HasSetColumn net m.set r.ask.row =
      subst (λ (l : List ℕ). Memᴰ ((columns net).count + m.set) l) (alike_columns r.alike)
      (subst (λ (k : ℕ). HasSetColumn net m.set (get_or joined k [])) (sym q) (has_set_lem m km bm)) in
      go r.set ((every_mem (AskCols net sound) wanted (requests_cols net sound) r.ask r.among).one_set (binary_ask n kn bn) _ mine)
    where
      go : {k : ℕ} → n.set ≡ k → ((columns net).count + m.set < (columns net).count) ⊎ ((columns net).count + m.set ≡ (columns net).count + k) → n.set ≡ m.set
      go e (inl h) = absurd (omega arith)
      go e (inr h) = omega arith

  -- a row with edge columns alone is not one of these
  apart : (n : NodeRow) → Memᴰ n ns → Binary n → (q : ℕ) (r : List Element) → Alike (get_or joined q []) r → Under (columns net).count r → ¬ (q ≡ n.row)
  apart n m b q r k h e =
      let l : (columns net).count + n.set < (columns net).count =
      under_cols (columns net).count r h _
      (subst (λ (l : List ℕ). Memᴰ ((columns net).count + n.set) l) (alike_columns k)
      (subst (λ (j : ℕ). HasSetColumn net n.set (get_or joined j [])) (sym e) (has_set_lem n m b))) in
      omega arith

  pub apart_nodes : (n : NodeRow) → Memᴰ n ns → Binary n → AllMem (λ (q : ℕ). ¬ (q ≡ n.row)) (node_places_lem (continuous_rows ns))
  apart_nodes n m b q k =
      let p = continuous_from ns q k in
      let r = row_from p.0 p.1 in
      apart n m b q r.ask.row (subst (λ (j : ℕ). Alike (get_or joined j []) r.ask.row) p.3 r.alike)
      ((every_mem (AskCols net sound) wanted (requests_cols net sound) r.ask r.among).continuous_under (subst (λ (t : RowType). T (not (is_binary t))) r.row_type p.2))

  aggregate_under : AllMem (Under (columns net).count) (map (aggregate_row (column_map net)) net.aggregates)
  aggregate_under = all_map _ (aggregate_row (column_map net)) net.aggregates (λ a k. rising_under _ 0 _ (aggregate_rises net sound a))

  virtual_storage_under : AllMem (Under (columns net).count) (map (virtual_storage_row (column_map net)) net.virtual_storages)
  virtual_storage_under = all_map _ (virtual_storage_row (column_map net)) net.virtual_storages (λ v k. rising_under _ 0 _ (virtual_storage_rises net sound v))

  pub apart_aggregates : (n : NodeRow) → Memᴰ n ns → Binary n → AllMem (λ (q : ℕ). ¬ (q ≡ n.row)) (programme_of w net).shape.aggregates
  apart_aggregates n m b q k = let p = placed_from joined _ _ (asked w net).aggregates q k in apart n m b q p.0 p.2 (aggregate_under p.0 p.1)

  pub apart_virtual_storages : (n : NodeRow) → Memᴰ n ns → Binary n → AllMem (λ (q : ℕ). ¬ (q ≡ n.row)) (map row_of (programme_of w net).shape.virtual_storages)
  apart_virtual_storages n m b q k = let p = placed_from joined _ _ (asked w net).virtual_storages q k in apart n m b q p.0 p.2 (virtual_storage_under p.0 p.1)

  -- ---- the nodes with a binary row are the varying exclusive nodes

  binary_found : (rs : List NodeRow) (n : ℕ) → T (has_binary_row rs n) → (r : NodeRow) × Memᴰ r rs × T (is_binary r.row_type) × (r.node ≡ n)
  unfolding has_binary_row
  binary_found [] n h = absurd h
  binary_found (r ∷ rs) n h =
      or_elim (eqb r.node n && is_binary r.row_type) (has_binary_row rs n) h
      (λ t. (r, Memᴰ.head refl, and_r (eqb r.node n) (is_binary r.row_type) t, eqb→eq r.node n (and_l (eqb r.node n) (is_binary r.row_type) t)))
      (λ t. let q = binary_found rs n t in (q.0, Memᴰ.tail q.1, q.2, q.3))

  -- the node of a request for a binary row has one
  abbrev HasBinary : List NodeRow → RowRequest → Type 0
  HasBinary rs a = T (is_binary a.row_type) → T (has_binary_row rs a.node)

  asks_binary : (as' : List RowRequest) (ps : List ℕ) → length as' ≡ length ps → (rs : List NodeRow)
      → ((n : ℕ) → T (has_binary_row (placed_node_rows as' ps) n) → T (has_binary_row rs n)) → Every (HasBinary rs) as'
  unfolding placed_node_rows has_binary_row
  asks_binary [] ps l rs h = tt
  asks_binary (a ∷ as') [] l rs h = let z : suc (length as') ≡ 0 = l in absurd (omega arith)
  asks_binary (a ∷ as') (p ∷ ps) l rs h = (
    λ t.
        h a.node
        (or_l (eqb a.node a.node && is_binary a.row_type) (has_binary_row (placed_node_rows as' ps) a.node)
        (and_i (eqb a.node a.node) (is_binary a.row_type) (eqb_refl a.node) t)),
    asks_binary as' ps (let z : suc (length as') ≡ suc (length ps) = l in omega arith) rs
        (λ n t. h n (or_r (eqb a.node n && is_binary a.row_type) (has_binary_row (placed_node_rows as' ps) n) t)),
  )

  wanted_binary : Every (HasBinary ns) wanted
  unfolding programme_of assemble
  wanted_binary = asks_binary wanted (for_nodes w net).places (length_n w net) _ (λ n t. t)

  exclusive_binary : (n : ℕ) (ks : List ℕ) (k : ℕ) → Memᴰ k ks → Every (HasBinary ns) (requests_by_sets (column_map net) n ks) → T (has_binary_row ns n)
  unfolding requests_by_sets exclusive_requests is_binary
  exclusive_binary n [] k m h = absurd (Memᴰ.not-nil m)
  exclusive_binary n (j ∷ ks) k m h = h.0 tt

  pub binary_rows_tell : (n : ℕ) → has_binary_row ns n ≡ is_varying_exclusive net n
  unfolding is_varying_exclusive column_map
  binary_rows_tell n =
      same_test (has_binary_row ns n) (is_exclusive net.aggregates n && not (get_or net.nodes n no_node).constant) (
        λ t. let r = binary_found ns n t in subst (λ (k : ℕ). T (is_varying_exclusive net k)) r.3 (binary_node r.0 r.1 r.2),
        λ t.
            let ex : Bool = is_exclusive net.aggregates n in
            let va : Bool = not (get_or net.nodes n no_node).constant in
            let s = exclusive_lists net.aggregates n (and_l ex va t) in
            let from = s.1 in
            let under : n < length net.nodes = ((sound.good.aggregates from.aggregate from.known).sets s.0 from.has).members n s.2 in
            let b = below_found net.nodes n under in
            let varies : T (not b.0.constant) = subst (λ (y : Node). T (not y.constant)) (found_get net.nodes n b.0 no_node b.1) (and_r ex va t) in
            exclusive_binary n (sets_with_node n 0 (exclusive_sets net)) (set_number s.0 (exclusive_sets net)) (exclusive_listed net n s.0 from s.2)
            ((varying_asks (column_map net) (HasBinary ns) net.nodes).0 wanted_binary n b.0 b.1 varies),
      )

-- The rows of a sound network's programme rise by column under the column count, and every row that a varying exclusive node asked for has its
-- set's column. Assumes nothing.
use mathlib.Core.Path.{◌≡◌, refl, sym, subst}
use mathlib.Core.Logic.{◌⊎◌, inl, inr}
use Prim.Native.Nat.{ℕ, suc, ◌+◌, ◌<◌, ◌≤◌, suc-le-suc, zero-le}
use native.Mathlib.Nat.{lt_of_lt_of_le}
use native.Mathlib.Omega.{arith}
use mathlib.Core.Bool.{Bool, true, false, cond, not, ◌&&◌, ◌||◌}
use mathlib.Core.List.{List, [], ◌∷◌, ◌++◌, Memᴰ}
use lib.ListN.{length}
use lib.Dec.{T, leb, ltb, eqb, le→leb, lt→ltb}
use lib.Ieee.{Float, neg, eq}
use lib.Ieee.Fits.{and_i}
use Rattle.pywr.specs.declared.Sentinel.{Sentinel}
use Rattle.pywr.specs.Numbers.{double, zero64, one64, high}
use Rattle.pywr.specs.Network.{output, link, storage, Node, Aggregate, Part, VirtualStorage, Network, kind_of}
use Rattle.pywr.specs.ColEdgeMap.{columns, mapped_edges}
use Rattle.pywr.specs.ExclusiveSets.{same_set, has_set, exclusive_sets, set_number, sets_with_node}
use Rattle.pywr.specs.Rows.{Element, add_element, add_on, ColumnMap, column_map, columns_into, columns_out_of, add_node, node_row, mass_row}
use Rattle.pywr.specs.Rows.{add_nodes, add_sets_of, aggregate_row, add_parts, virtual_storage_row, upper_row, lower_row, add_active, exclusivity_row}
use Rattle.pywr.specs.VariableRows.{position, add_variable_rows, Joined, add_variable_row}
use Rattle.pywr.specs.Programme.{Row, continuous}
use Rattle.pywr.specs.VaryingRows.{RowRequest, exclusive_requests, requests_by_sets, requests_from}
use Rattle.pywr.specs.FixedRows.{mass_rows_from, upper_coefficient, lower_coefficient, exclusive_rows, constant_rows, constant_rows_from, exclusivity_rows}
use Rattle.pywr.specs.Misshapen.{columns_rise}
use Rattle.pywr.proofs.MassLaws.{HasColumn, added, Every, every_append}
use Rattle.pywr.proofs.EvenLaws.{mapped_edge_of}
use Rattle.pywr.proofs.ElementLaws.{add_none, add_cases}
use Rattle.pywr.proofs.JoinLaws.{cols}
use Rattle.pywr.proofs.ListLaws.{AllMem, all_snoc, found_mem, found_below, each_of}
use Rattle.pywr.proofs.MembershipLaws.{membership_sound, from_known}
use Rattle.pywr.proofs.ReadLaws.{Sound}
use Rattle.pywr.proofs.FitLaws.{each_ask}
use Rattle.pywr.proofs.FixedLaws.{columns_under}

-- ---- rising columns

pub data Rising (n : ℕ) : ℕ → List Element → Type 0 where
  none : {least : ℕ} → Rising n least []
  more : {least : ℕ} {e : Element} {es : List Element} → least ≤ e.column → e.column < n → Rising n (e.column + 1) es → Rising n least (e ∷ es)

pub rising_add : (n c : ℕ) (x : Float) (least : ℕ) (row : List Element) → least ≤ c → c < n → Rising n least row → Rising n least (add_element c x row)
rising_add n c x least [] h l Rising.none = rw (add_none c x) (Rising.more h l Rising.none)
rising_add n c x least (e ∷ es) h l (Rising.more a b r) =
    add_cases c x e es (Rising n least)
    (λ k. Rising.more h l (Rising.more (let j : c + 1 ≤ e.column = omega arith in j) b r))
    (λ k. Rising.more h l (subst (λ (m : ℕ). Rising n (m + 1) es) (sym k) r))
    (λ k. Rising.more a b (rising_add n c x (e.column + 1) es (let j : e.column + 1 ≤ c = omega arith in j) l r))

rising_on : (n : ℕ) (cs : List ℕ) (x : Float) (row : List Element) → AllMem (λ (c : ℕ). c < n) cs → Rising n 0 row → Rising n 0 (add_on cs x row)
unfolding add_on
rising_on n [] x row h r = r
rising_on n (c ∷ cs) x row h r = rising_on n cs x (add_element c x row) (λ k m. h k (Memᴰ.tail m)) (rising_add n c x 0 row zero-le (h c (Memᴰ.head refl)) r)

pub rising_more : (n m least : ℕ) (row : List Element) → n ≤ m → Rising n least row → Rising m least row
rising_more n m least [] h Rising.none = Rising.none
rising_more n m least (e ∷ es) h (Rising.more a b r) = Rising.more a (lt_of_lt_of_le b h) (rising_more n m (e.column + 1) es h r)

pub rising_test : (n least : ℕ) (row : List Element) → Rising n least row → T (columns_rise n least (cols row))
unfolding columns_rise
rising_test n least [] Rising.none = tt
rising_test n least (e ∷ es) (Rising.more a b r) =
    and_i (leb least e.column && ltb e.column n) (columns_rise n (e.column + 1) (cols es))
    (and_i (leb least e.column) (ltb e.column n) (le→leb least e.column a) (lt→ltb e.column n b))
    (rising_test n (e.column + 1) es r)

number_under : (s : List ℕ) (sets : List (List ℕ)) → T (has_set s sets) → set_number s sets < length sets
unfolding has_set set_number
number_under s [] h = absurd h
number_under s (t ∷ ts) h = go (same_set t s) h (λ k. number_under s ts k)
  where
    go : (b : Bool) → T (b || has_set s ts) → (T (has_set s ts) → set_number s ts < length ts) → cond b 0 (suc (set_number s ts)) < suc (length ts)
    go true k ih = suc-le-suc zero-le
    go false k ih = suc-le-suc (ih k)

module _ (net : Network) (sound : Sound net) where
  abbrev f : ColumnMap
  f = column_map net

  abbrev edges : ℕ
  edges = (columns net).count

  abbrev sets : ℕ
  sets = length (exclusive_sets net)

  abbrev pub Good-row : List Element → Type 0
  Good-row row = Rising ((columns net).count + length (exclusive_sets net)) 0 row

  ins : (n : ℕ) → AllMem (λ (c : ℕ). c < edges) (columns_into n (mapped_edges net))
  unfolding columns_into
  ins n = columns_under (λ p. p.to) n edges (mapped_edges net) (λ i p e. (mapped_edge_of net sound.noself i p e).below)

  outs : (n : ℕ) → AllMem (λ (c : ℕ). c < edges) (columns_out_of n (mapped_edges net))
  unfolding columns_out_of
  outs n = columns_under (λ p. p.from) n edges (mapped_edges net) (λ i p e. (mapped_edge_of net sound.noself i p e).below)

  pub node_rises : (n : ℕ) (x : Float) (row : List Element) → Rising edges 0 row → Rising edges 0 (add_node f n x row)
  unfolding add_node column_map
  node_rises n x row r = go (eqb (kind_of net.nodes n) output) (eqb (kind_of net.nodes n) storage)
    where
      go : (a b : Bool)
          → Rising edges 0
          (cond a (add_on (columns_into n (mapped_edges net)) x row)
          (cond b (add_on (columns_out_of n (mapped_edges net)) (neg x) (add_on (columns_into n (mapped_edges net)) x row)) (add_on (columns_out_of n (mapped_edges net)) x row)))
      go true b = rising_on edges (columns_into n (mapped_edges net)) x row (ins n) r
      go false true = rising_on edges (columns_out_of n (mapped_edges net)) (neg x) _ (outs n) (rising_on edges (columns_into n (mapped_edges net)) x row (ins n) r)
      go false false = rising_on edges (columns_out_of n (mapped_edges net)) x row (outs n) r

  nodes_rise : (ns : List ℕ) (row : List Element) → Rising edges 0 row → Rising edges 0 (add_nodes f ns row)
  unfolding add_nodes
  nodes_rise [] row r = r
  nodes_rise (n ∷ ns) row r = nodes_rise ns _ (node_rises n one64 row r)

  sets_rise : (ss : List (List ℕ)) (row : List Element) → Rising edges 0 row → Rising edges 0 (add_sets_of f ss row)
  unfolding add_sets_of
  sets_rise [] row r = r
  sets_rise (s ∷ ss) row r = sets_rise ss _ (nodes_rise s row r)

  parts_rise : (ps : List Part) (row : List Element) → Rising edges 0 row → Rising edges 0 (add_parts f ps row)
  unfolding add_parts
  parts_rise [] row r = r
  parts_rise (p ∷ ps) row r = parts_rise ps _ (node_rises p.node (neg p.factor) row r)

  widen : (row : List Element) → Rising edges 0 row → Good-row row
  widen row r = rising_more edges (edges + sets) 0 row (omega arith) r

  node_good : (n : ℕ) → Good-row (node_row f n)
  unfolding node_row
  node_good n = widen _ (node_rises n one64 [] Rising.none)

  pub aggregate_rises : (a : Aggregate) → Rising (columns net).count 0 (aggregate_row (column_map net) a)
  unfolding aggregate_row
  aggregate_rises a = sets_rise a.sets [] Rising.none

  pub aggregate_good : (a : Aggregate) → Good-row (aggregate_row f a)
  aggregate_good a = widen _ (aggregate_rises a)

  pub virtual_storage_rises : (v : VirtualStorage) → Rising (columns net).count 0 (virtual_storage_row (column_map net) v)
  unfolding virtual_storage_row
  virtual_storage_rises v = parts_rise v.parts [] Rising.none

  pub virtual_storage_good : (v : VirtualStorage) → Good-row (virtual_storage_row f v)
  virtual_storage_good v = widen _ (virtual_storage_rises v)

  with_set : (n k : ℕ) (x c : Float) → k < sets → Good-row (add_element (edges + k) c (add_node f n x []))
  with_set n k x c h = rising_add (edges + sets) (edges + k) c 0 _ zero-le (omega arith) (widen _ (node_rises n x [] Rising.none))

  upper_good : (n k : ℕ) (c : Float) → k < sets → Good-row (upper_row f n k c)
  unfolding upper_row column_map
  upper_good n k c h = with_set n k (neg one64) c h

  lower_good : (n k : ℕ) (c : Float) → k < sets → Good-row (lower_row f n k c)
  unfolding lower_row column_map
  lower_good n k c h = with_set n k one64 c h

  listed_under : (n : ℕ) → AllMem (λ (k : ℕ). k < sets) (sets_with_node n 0 (exclusive_sets net))
  listed_under n k m = let r = membership_sound n 0 k (exclusive_sets net) m in let b = found_below (exclusive_sets net) r.at r.set r.found in let e = r.where_at in omega arith

  -- ---- fixed rows

  abbrev Good-fixed : Row → Type 0
  Good-fixed r = Good-row r.elements

  mass_good : (n : ℕ) → Good-row (mass_row f n)
  unfolding mass_row column_map
  mass_good n = widen _ (rising_on edges (columns_out_of n (mapped_edges net)) (neg one64) _ (outs n) (rising_on edges (columns_into n (mapped_edges net)) one64 [] (ins n) Rising.none))

  cond_good : (b : Bool) (r : Row) → Good-fixed r → Every Good-fixed (cond b (r ∷ []) [])
  cond_good true r h = (h, tt)
  cond_good false r h = tt

  cond_good' : (b : Bool) (r : Row) → Good-fixed r → Every Good-fixed (cond b [] (r ∷ []))
  cond_good' true r h = tt
  cond_good' false r h = (h, tt)

  pub masses_good : Every Good-fixed (mass_rows_from f 0 net.nodes)
  unfolding mass_rows_from
  masses_good =
      (each_of Good-fixed (λ (n : ℕ) (x : Node). cond (eqb x.kind link && not (eqb (length (mass_row f n)) 1))
      (record { lower = zero64; upper = zero64; elements = mass_row f n } ∷ []) []) (mass_rows_from f) (λ m. refl) (λ m x l. refl) net.nodes 0).1
      (λ i x e. cond_good (eqb x.kind link && not (eqb (length (mass_row f (0 + i))) 1)) (record { lower = zero64; upper = zero64; elements = mass_row f (0 + i) }) (mass_good (0 + i)))

  exclusives_good : (w : Sentinel) (n : ℕ) (x : Node) (ks : List ℕ) → AllMem (λ (k : ℕ). k < sets) ks → Every Good-fixed (exclusive_rows w f n x ks)
  unfolding exclusive_rows
  exclusives_good w n x [] h = tt
  exclusives_good w n x (k ∷ ks) h =
      let u = h k (Memᴰ.head refl) in (
        upper_good n k (upper_coefficient x.max) u,
        (every_append Good-fixed (cond (eq x.min zero64) [] (record { lower = zero64; upper = high w; elements = lower_row f n k (lower_coefficient x.min) } ∷ [])) (exclusive_rows w f n x ks)).1
            (cond_good' (eq x.min zero64) _ (lower_good n k (lower_coefficient x.min) u), exclusives_good w n x ks (λ j m. h j (Memᴰ.tail m))),
      )

  constant_good : (w : Sentinel) (n : ℕ) (x : Node) (ks : List ℕ) → AllMem (λ (k : ℕ). k < sets) ks → Every Good-fixed (constant_rows w f n x ks)
  unfolding constant_rows
  constant_good w n x [] h = (node_good n, tt)
  constant_good w n x (k ∷ ks) h = exclusives_good w n x (k ∷ ks) h

  pub constants_good : (w : Sentinel) → Every Good-fixed (constant_rows_from w f 0 net.nodes)
  unfolding constant_rows_from column_map
  constants_good w =
      (each_of Good-fixed (λ (n : ℕ) (x : Node). cond x.constant (constant_rows w f n x (sets_with_node n 0 (exclusive_sets net))) []) (constant_rows_from w f)
      (λ m. refl) (λ m x l. refl) net.nodes 0).1
      (λ i x e. go x.constant (0 + i) x)
    where
      go : (b : Bool) (n : ℕ) (x : Node) → Every Good-fixed (cond b (constant_rows w f n x (sets_with_node n 0 (exclusive_sets net))) [])
      go true n x = constant_good w n x (sets_with_node n 0 (exclusive_sets net)) (listed_under n)
      go false n x = tt

  active_good : (ss : List (List ℕ)) (row : List Element) → AllMem (λ (s : List ℕ). T (has_set s (exclusive_sets net))) ss → Good-row row → Good-row (add_active f ss row)
  unfolding add_active column_map
  active_good [] row h r = r
  active_good (s ∷ ss) row h r =
      active_good ss _ (λ t m. h t (Memᴰ.tail m))
      (rising_add (edges + sets) (edges + set_number s (exclusive_sets net)) one64 0 row zero-le (let l = number_under s (exclusive_sets net) (h s (Memᴰ.head refl)) in omega arith) r)

  pub actives_good : Every Good-fixed (exclusivity_rows f net.aggregates)
  unfolding exclusivity_rows exclusivity_row
  actives_good =
      (each_of Good-fixed (λ (n : ℕ) (a : Aggregate). cond a.exclusive
      (record { lower = double a.min_active; upper = double a.max_active; elements = exclusivity_row f a } ∷ []) []) (λ n xs. exclusivity_rows f xs) (λ m.
      refl) (λ m x l. refl) net.aggregates 0).1
      (λ i a e. go a (found_mem net.aggregates i a e) a.exclusive refl)
    where
      go : (a : Aggregate) → Memᴰ a net.aggregates → (b : Bool) → a.exclusive ≡ b
          → Every Good-fixed (cond b (record { lower = double a.min_active; upper = double a.max_active; elements = exclusivity_row f a } ∷ []) [])
      go a m true q = (active_good a.sets [] (λ s k. from_known net s (record { aggregate = a; known = m; exclusive = subst T (sym q) tt; has = k })) Rising.none, tt)
      go a m false q = tt

  -- ---- what nodes ask for

  pub record AskOk (a : RowRequest) : Type 0 where
    pub node_under : a.node < length net.nodes
    pub rises : Good-row a.row
    pub has_set_lem : (a.row_type ≡ continuous) ⊎ ((a.set < length (exclusive_sets net)) × Memᴰ ((columns net).count + a.set) (cols a.row))

  column_mem : (c : ℕ) (row : List Element) → HasColumn c row → Memᴰ c (cols row)
  column_mem c (e ∷ es) (HasColumn.here q) = Memᴰ.head (sym q)
  column_mem c (e ∷ es) (HasColumn.there h) = Memᴰ.tail (column_mem c es h)
  column_mem c [] x' = elim x' [ ]

  exclusive_requests_ok : (n : ℕ) → n < length net.nodes → (ks : List ℕ) → AllMem (λ (k : ℕ). k < sets) ks → Every AskOk (exclusive_requests f n ks)
  unfolding exclusive_requests upper_row lower_row column_map
  exclusive_requests_ok n u [] h = tt
  exclusive_requests_ok n u (k ∷ ks) h =
      let l = h k (Memᴰ.head refl) in (
        record { node_under = u; rises = with_set n k (neg one64) one64 l; has_set_lem = inr (l, column_mem (edges + k) _ (added (edges + k) one64 _)) },
        (
          record { node_under = u; rises = with_set n k one64 (neg one64) l; has_set_lem = inr (l, column_mem (edges + k) _ (added (edges + k) (neg one64) _)) },
          exclusive_requests_ok n u ks (λ j m. h j (Memᴰ.tail m)),
        ),
      )

  by_sets_ok : (n : ℕ) → n < length net.nodes → (ks : List ℕ) → AllMem (λ (k : ℕ). k < sets) ks → Every AskOk (requests_by_sets f n ks)
  unfolding requests_by_sets
  by_sets_ok n u [] h = (record { node_under = u; rises = node_good n; has_set_lem = inl refl }, tt)
  by_sets_ok n u (k ∷ ks) h = exclusive_requests_ok n u (k ∷ ks) h

  pub requests_ok : Every AskOk (requests_from f 0 net.nodes)
  unfolding column_map
  requests_ok = (each_ask f AskOk net.nodes 0).1 (λ i x e. go x.constant (0 + i) (let h = found_below net.nodes i x e in omega arith))
    where
      go : (b : Bool) (n : ℕ) → n < length net.nodes → Every AskOk (cond b [] (requests_by_sets f n (sets_with_node n 0 (exclusive_sets net))))
      go true n u = tt
      go false n u = by_sets_ok n u (sets_with_node n 0 (exclusive_sets net)) (listed_under n)

-- ---- joined rows

pub joins_all : (P : List Element → Type 0) (asked : List (List Element)) (j : Joined) → AllMem P asked → AllMem P j.rows → AllMem P (add_variable_rows asked j).rows
unfolding add_variable_rows add_variable_row
joins_all P [] j h k = k
joins_all P (r ∷ rs) j h k = joins_all P rs (add_variable_row r j) (λ x m. h x (Memᴰ.tail m)) (go (ltb (position r j.rows) (length j.rows)))
  where
    go : (b : Bool) → AllMem P (cond b j.rows (j.rows ++ (r ∷ [])))
    go true = k
    go false = all_snoc P j.rows r k (h r (Memᴰ.head refl))

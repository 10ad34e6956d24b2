-- The fixed rows and the columns: constant nodes' rows are met exactly if their rules hold, exclusivity rows exactly if the counts do, and the columns'
-- own bounds always. Assumes nothing.
use mathlib.Core.Path.{◌≡◌, refl, sym, ap, ap₂, ◌∙◌, subst}
use mathlib.Core.Logic.{◌↔◌}
use Prim.Native.Nat.{ℕ, zero, suc, ◌+◌, ◌-◌, ◌*◌, ◌^◌, ◌<◌, ◌≤◌, zero-le}
use native.Mathlib.Nat.{zero-add, lt_of_le_of_lt, lt_of_lt_of_le}
use native.Mathlib.Omega.{arith}
use mathlib.Core.Bool.{Bool, true, false, cond, not, ◌&&◌, ◌||◌}
use mathlib.Core.List.Memᴰ
use mathlib.Core.List.{List, [], ◌∷◌, ◌++◌, map, Memᴰ}
use mathlib.Core.Option.{some}
use lib.ListN.{length, get_or, get_elem?, replicate}
use lib.IntN.{ℤ, pos, neg_ℤ, ◌+ℤ◌, ◌-ℤ◌, ◌*ℤ◌, *ℤ_comm, +ℤ_idr}
use lib.Signed.{le_z}
use lib.Dec.{T, T_not, eqb, leb, le→leb, lit<}
use lib.Ieee.{Float, neg, eq, le, lt, of_bits}
use lib.Ieee.Fits.{and_i, and_l, and_r}
use Rattle.doubles.proofs.Integers.{difference_le}
use Rattle.pywr.specs.declared.Sentinel.{Sentinel}
use Rattle.pywr.specs.declared.Sentinel.TheVariants.{Infinity, Largest}
use Rattle.pywr.specs.declared.Interval.{Interval}
use Rattle.pywr.specs.Numbers.{double, zero64, one64, million, millionth, high, low, lesser, greater}
use Rattle.pywr.specs.Network.{output, storage, Node, Aggregate, Network, kind_of, keep_if, is_exclusive}
use Rattle.pywr.specs.ColEdgeMap.{columns, MappedEdge, mapped_edges}
use Rattle.pywr.specs.ExclusiveSets.{has_set, exclusive_sets, sets_with_node}
use Rattle.pywr.specs.Rows.{Element, add_element, add_on, ColumnMap, column_map, columns_with, columns_into, columns_out_of, add_node, node_row, upper_row, lower_row, add_active, exclusivity_row}
use Rattle.pywr.specs.Programme.{Column, Row}
use Rattle.pywr.specs.FixedRows.{upper_coefficient, lower_coefficient, exclusive_rows, constant_rows, constant_rows_from, exclusivity_rows}
use Rattle.pywr.specs.Build.{edge_column, set_column, all_columns}
use Rattle.pywr.specs.Interval.{zero_to_high}
use Rattle.pywr.specs.Plans.{exact, meets, Plan, units_in_one, signed, is_finite, times_one, lower_met, upper_met, all_from}
use Rattle.pywr.specs.Allows.{node_amount, on_amount, exclusive_meets, varying_exclusive_meets, on_count}
use Rattle.pywr.specs.Admits.{on_column, row_sum, column_met}
use Rattle.pywr.proofs.SumLaws.{AllUpto}
use Rattle.pywr.proofs.WeightLaws.{neg_upto}
use Rattle.pywr.proofs.AmountLaws.{Carries, node_sum, one_upto, one_exact, node_row_sum}
use Rattle.pywr.proofs.ExactLaws.{exact_neg}
use Rattle.pywr.proofs.EvenLaws.{mapped_edge_of}
use Rattle.pywr.proofs.MassLaws.{Every, every_append, Met}
use Rattle.pywr.proofs.ExclusiveLaws.{Under, under_add, coefficient_sum, set_sum}
use Rattle.pywr.proofs.BinaryRowLaws.{set_to}
use Rattle.pywr.proofs.SetLaws.{set_column_lem, Known, active_sum}
use Rattle.pywr.proofs.ListLaws.{AllMem, all_none, all_cons, found_mem, each_of}
use Rattle.pywr.proofs.MembershipLaws.{membership_exclusive, from_known, listed_none}
use Rattle.pywr.proofs.ReadLaws.{Sound}
use Rattle.pywr.proofs.FitLaws.{columns_long}
use Rattle.pywr.proofs.NumberLaws.{FiniteFit}
use Rattle.pywr.proofs.CoefficientLaws.{nonneg_times_one, times_one_less, less_times_one, on_times_one, on_neg, zero_up, upper_finite, lower_finite, count_met}

-- ---- a node's row stays under the edge columns

under_on : (m : ℕ) (cs : List ℕ) (x : Float) (row : List Element) → AllMem (λ (c : ℕ). c < m) cs → Under m row → Under m (add_on cs x row)
unfolding add_on
under_on m [] x row h u = u
under_on m (c ∷ cs) x row h u = under_on m cs x (add_element c x row) (λ k j. h k (Memᴰ.tail j)) (under_add m c x row (h c (Memᴰ.head refl)) u)

pub columns_under : (pe : MappedEdge → ℕ) (n m : ℕ) (ps : List MappedEdge) → ((i : ℕ) (p : MappedEdge) → get_elem? ps i ≡ some p → p.column < m) → AllMem (λ (c : ℕ). c < m) (columns_with pe n ps)
unfolding columns_with keep_if
columns_under pe n m [] h = all_none (λ (c : ℕ). c < m)
columns_under pe n m (p ∷ ps) h = go (eqb (pe p) n) (columns_under pe n m ps (λ i q e. h (suc i) q e))
  where
    go : (b : Bool) → AllMem (λ (c : ℕ). c < m) (columns_with pe n ps) → AllMem (λ (c : ℕ). c < m) (keep_if b p.column (columns_with pe n ps))
    go true ih = all_cons (λ (c : ℕ). c < m) p.column (columns_with pe n ps) (h 0 p refl) ih
    go false ih = ih

under_more : (m n : ℕ) (row : List Element) → m ≤ n → Under m row → Under n row
under_more m n [] h Under.none = Under.none
under_more m n (e ∷ es) h (Under.more l us) = Under.more (lt_of_lt_of_le l h) (under_more m n es h us)

known_all : (sets ss : List (List ℕ)) → AllMem (λ (s : List ℕ). T (has_set s sets)) ss → Known sets ss
known_all sets [] h = Known.none
known_all sets (s ∷ ss) h = Known.more (h s (Memᴰ.head refl)) (known_all sets ss (λ t m. h t (Memᴰ.tail m)))

count_few : (plan : Plan) (ss : List (List ℕ)) → on_count plan ss ≤ length ss
unfolding on_count
count_few plan [] = zero-le
count_few plan (s ∷ ss) = go (plan.on s) (count_few plan ss)
  where
    go : (b : Bool) → on_count plan ss ≤ length ss → cond b 1 0 + on_count plan ss ≤ suc (length ss)
    go true h = omega arith
    go false h = omega arith

units_comm : (k : ℕ) → pos units_in_one *ℤ pos (k * units_in_one) ≡ times_one (pos (k * units_in_one))
unfolding times_one
units_comm k = *ℤ_comm (pos units_in_one) (pos (k * units_in_one))

zero_one : (w : Sentinel) (b : Bool) → T (meets w (record { lower = zero64; upper = one64 }) (times_one (pos (cond b units_in_one 0))))
unfolding meets lower_met upper_met le lt eq low high neg of_bits is_finite zero64 one64 exact signed times_one units_in_one
zero_one Infinity true = tt
zero_one Infinity false = tt
zero_one Largest true = tt
zero_one Largest false = tt

abbrev pub bounds : Node → Interval
bounds x = record { lower = x.min; upper = x.max }

module _ (w : Sentinel) (net : Network) (sound : Sound net) (plan : Plan) (carries : Carries net plan) where
  abbrev f : ColumnMap
  f = column_map net

  abbrev E : ℕ
  E = length net.edges

  pub room : E * 1 + E * 1 < 2 ^ 53
  room = let e = sound.good.edge_count in let a : E * 1 + E * 1 ≤ 1024 = omega arith in lt_of_le_of_lt a (lit< tt)

  pub node_amount_lem : (n : ℕ) → row_sum f plan (node_row f n) ≡ times_one (node_amount net plan n)
  node_amount_lem n = node_row_sum net plan (columns_long net) carries n room

  node_under : (n : ℕ) (x : Float) → Under (column_map net).edge_columns (add_node f n x [])
  unfolding add_node column_map columns_into columns_out_of
  node_under n x = go (eqb (kind_of net.nodes n) output) (eqb (kind_of net.nodes n) storage)
    where
      ins : AllMem (λ (c : ℕ). c < (columns net).count) (columns_into n (mapped_edges net))
      ins = columns_under (λ p. p.to) n (columns net).count (mapped_edges net) (λ i p e. (mapped_edge_of net sound.noself i p e).below)

      outs : AllMem (λ (c : ℕ). c < (columns net).count) (columns_out_of n (mapped_edges net))
      outs = columns_under (λ p. p.from) n (columns net).count (mapped_edges net) (λ i p e. (mapped_edge_of net sound.noself i p e).below)

      go : (a b : Bool)
          → Under (columns net).count
          (cond a (add_on (columns_into n (mapped_edges net)) x [])
          (cond b (add_on (columns_out_of n (mapped_edges net)) (neg x) (add_on (columns_into n (mapped_edges net)) x [])) (add_on (columns_out_of n (mapped_edges net)) x [])))
      go true b = under_on (columns net).count (columns_into n (mapped_edges net)) x [] ins Under.none
      go false true = under_on (columns net).count (columns_out_of n (mapped_edges net)) (neg x) _ outs (under_on (columns net).count (columns_into n (mapped_edges net)) x [] ins Under.none)
      go false false = under_on (columns net).count (columns_out_of n (mapped_edges net)) x [] outs Under.none

  abbrev on_set : ℕ → Bool
  on_set k = plan.on (get_or f.sets k [])

  -- a coefficient c on the set's column, beside minus or plus the node's row
  with_coefficient_lem : (n k : ℕ) (x c : Float) → FiniteFit c → row_sum f plan (add_element (f.edge_columns + k) c (add_node f n x [])) ≡ times_one (on_amount (on_set k) c) +ℤ row_sum f plan (add_node f n x [])
  with_coefficient_lem n k x c ok =
      coefficient_sum f plan (f.edge_columns + k) c ok.fit ok.finite (add_node f n x []) (under_more f.edge_columns (f.edge_columns + k) (add_node f n x []) (omega arith) (node_under n x))
      ∙ ap (λ (z : ℤ). z +ℤ row_sum f plan (add_node f n x [])) (ap (λ (m : ℕ). exact c *ℤ pos m) (set_column_lem f plan k) ∙ on_times_one (on_set k) c)

  plus_node : (n : ℕ) → row_sum f plan (add_node f n one64 []) ≡ pos units_in_one *ℤ node_amount net plan n +ℤ pos 0
  unfolding row_sum
  plus_node n =
      node_sum net plan (columns_long net) carries n one64 1 one_upto 0 [] AllUpto.none (let r = room in omega arith)
      ∙ ap (λ (z : ℤ). z *ℤ node_amount net plan n +ℤ pos 0) one_exact

  minus_node : (n : ℕ) → row_sum f plan (add_node f n (neg one64) []) ≡ neg_ℤ (pos units_in_one) *ℤ node_amount net plan n +ℤ pos 0
  unfolding row_sum
  minus_node n =
      node_sum net plan (columns_long net) carries n (neg one64) 1 (neg_upto 1 one64 one_upto) 0 [] AllUpto.none (let r = room in omega arith)
      ∙ ap (λ (z : ℤ). z *ℤ node_amount net plan n +ℤ pos 0) (exact_neg one64 ∙ ap neg_ℤ one_exact)

  above_zero : (v : ℤ) (a b : ℤ) → v ≡ times_one (a -ℤ b) → T (meets w (record { lower = zero64; upper = high w }) v) ↔ T (le_z b a)
  above_zero v a b e =
      let z = zero_up w v in
      let same : le_z (pos 0) v ≡ le_z b a = ap (le_z (pos 0)) e ∙ nonneg_times_one (a -ℤ b) ∙ difference_le b a in
      (λ h. subst T same (z.0 h), λ h. z.1 (subst T (sym same) h))

  -- a coefficient c set on the set's column, whatever stood there
  with_set : (n k : ℕ) (x y c : Float)
      → row_sum f plan (set_to (f.edge_columns + k) c (add_element (f.edge_columns + k) y (add_node f n x []))) ≡ times_one (on_amount (on_set k) c) +ℤ row_sum f plan (add_node f n x [])
  with_set n k x y c =
      set_sum f plan (f.edge_columns + k) y c (add_node f n x []) (under_more f.edge_columns (f.edge_columns + k) (add_node f n x []) (omega arith) (node_under n x))
      ∙ ap (λ (z : ℤ). z +ℤ row_sum f plan (add_node f n x [])) (ap (λ (m : ℕ). exact c *ℤ pos m) (set_column_lem f plan k) ∙ on_times_one (on_set k) c)

  -- "flow between lower and upper when on, 0 when off"
  pub varying_exclusive_rule : (n k : ℕ) (i : Interval)
      → (T (meets w (zero_to_high w) (row_sum f plan (set_to (f.edge_columns + k) i.upper (upper_row f n k one64))))
      × T (meets w (zero_to_high w) (row_sum f plan (set_to (f.edge_columns + k) (neg i.lower) (lower_row f n k (neg one64))))))
      ↔ T (varying_exclusive_meets (on_set k) i (node_amount net plan n))
  unfolding varying_exclusive_meets upper_row lower_row
  varying_exclusive_rule n k i =
      let amount : ℤ = node_amount net plan n in
      let a : Bool = le_z amount (on_amount (on_set k) i.upper) in
      let b : Bool = le_z (on_amount (on_set k) i.lower) amount in
      let u = above_zero _ (on_amount (on_set k) i.upper) amount
      (with_set n k (neg one64) one64 i.upper ∙ ap (λ (z : ℤ). times_one (on_amount (on_set k) i.upper) +ℤ z) (minus_node n) ∙ times_one_less (on_amount (on_set k) i.upper) amount) in
      let l = above_zero _ amount (on_amount (on_set k) i.lower)
      (with_set n k one64 (neg one64) (neg i.lower)
      ∙ ap₂ (λ (y z : ℤ). times_one y +ℤ z) (on_neg (on_set k) i.lower) (plus_node n)
      ∙ less_times_one (on_amount (on_set k) i.lower) amount) in
      (λ h. and_i a b (u.0 h.0) (l.0 h.1), λ h. (u.1 (and_l a b h), l.1 (and_r a b h)))

  -- "at most min(max, 1e6) when on and 0 when off"
  upper_met_lem : (n k : ℕ) (max : Float) → FiniteFit (lesser max million)
      → Met w f plan (record { lower = zero64; upper = high w; elements = upper_row f n k (upper_coefficient max) }) ↔ T (le_z (node_amount net plan n) (on_amount (on_set k) (lesser max million)))
  unfolding upper_row upper_coefficient
  upper_met_lem n k max ok =
      let c : Float = lesser max million in
      above_zero (row_sum f plan (add_element (f.edge_columns + k) c (add_node f n (neg one64) []))) (on_amount (on_set k) c) (node_amount net plan n)
      (with_coefficient_lem n k (neg one64) c ok ∙ ap (λ (z : ℤ). times_one (on_amount (on_set k) c) +ℤ z) (minus_node n) ∙ times_one_less (on_amount (on_set k) c) (node_amount net plan n))

  -- "at least max(min, 1e-6) when on and 0 when off"
  lower_met_lem : (n k : ℕ) (min : Float) → FiniteFit (neg (greater min millionth))
      → Met w f plan (record { lower = zero64; upper = high w; elements = lower_row f n k (lower_coefficient min) }) ↔ T (le_z (on_amount (on_set k) (greater min millionth)) (node_amount net plan n))
  unfolding lower_row lower_coefficient
  lower_met_lem n k min ok =
      let c : Float = greater min millionth in
      above_zero (row_sum f plan (add_element (f.edge_columns + k) (neg c) (add_node f n one64 []))) (node_amount net plan n) (on_amount (on_set k) c)
      (with_coefficient_lem n k one64 (neg c) ok
      ∙ ap₂ (λ (y z : ℤ). times_one y +ℤ z) (on_neg (on_set k) c) (plus_node n)
      ∙ less_times_one (on_amount (on_set k) c) (node_amount net plan n))

  abbrev Rule : ℕ → ℕ → Interval → Type 0
  Rule n k i = T (exclusive_meets (on_set k) i (node_amount net plan n))

  omitted : (b c : Bool) (r : Row) → Met w f plan r ↔ T c → Every (Met w f plan) (cond b [] (r ∷ [])) ↔ T (b || c)
  omitted true c r h = (λ k. tt, λ k. tt)
  omitted false c r h = (λ k. h.0 k.0, λ k. (h.1 k, tt))

  -- an exclusive node's rows for one set, whatever its interval
  one_set : (n k : ℕ) (i : Interval) → FiniteFit (lesser i.upper million) → FiniteFit (neg (greater i.lower millionth))
      → Every (Met w f plan) (record { lower = zero64; upper = high w; elements = upper_row f n k (upper_coefficient i.upper) }
      ∷ cond (eq i.lower zero64) [] (record { lower = zero64; upper = high w; elements = lower_row f n k (lower_coefficient i.lower) } ∷ [])) ↔ Rule n k i
  unfolding exclusive_meets
  one_set n k i fu fl =
      let a : Bool = le_z (node_amount net plan n) (on_amount (on_set k) (lesser i.upper million)) in
      let c : Bool = le_z (on_amount (on_set k) (greater i.lower millionth)) (node_amount net plan n) in
      let b : Bool = eq i.lower zero64 || c in
      let u = upper_met_lem n k i.upper fu in
      let l = omitted (eq i.lower zero64) c (record { lower = zero64; upper = high w; elements = lower_row f n k (lower_coefficient i.lower) }) (lower_met_lem n k i.lower fl) in
      (λ h. and_i a b (u.0 h.0) (l.0 h.1), λ h. (u.1 (and_l a b h), l.1 (and_r a b h)))

  exclusive_met : (n : ℕ) (x : Node) → FiniteFit (lesser x.max million) → FiniteFit (neg (greater x.min millionth)) → (ks : List ℕ)
      → Every (Met w f plan) (exclusive_rows w f n x ks) ↔ ((k : ℕ) → Memᴰ k ks → Rule n k (bounds x))
  unfolding exclusive_rows
  exclusive_met n x fu fl [] = (λ h k m. absurd (Memᴰ.not-nil m), λ h. tt)
  exclusive_met n x fu fl (k ∷ ks) =
      both (every_append (Met w f plan) (record { lower = zero64; upper = high w; elements = upper_row f n k (upper_coefficient x.max) }
      ∷ cond (eq x.min zero64) [] (record { lower = zero64; upper = high w; elements = lower_row f n k (lower_coefficient x.min) } ∷ [])) (exclusive_rows w f n x ks))
      (one_set n k (bounds x) fu fl) (exclusive_met n x fu fl ks)
    where
      both : {P Q R : Type 0} → R ↔ (P × Q) → P ↔ Rule n k (bounds x) → Q ↔ ((j : ℕ) → Memᴰ j ks → Rule n j (bounds x)) → R ↔ ((j : ℕ) → Memᴰ j (k ∷ ks) → Rule n j (bounds x))
      both cut one rest = (
        λ h. let r = cut.0 h in all_cons (λ (j : ℕ). Rule n j (bounds x)) k ks (one.0 r.0) (rest.0 r.1),
        λ h. cut.1 (one.1 (h k (Memᴰ.head refl)), rest.1 (λ j m. h j (Memᴰ.tail m))),
      )

  -- ---- the rows of constant nodes

  pub record ConstantMet (n : ℕ) (x : Node) : Type 0 where
    pub plain : T (not (is_exclusive net.aggregates n)) → T (meets w (bounds x) (times_one (node_amount net plan n)))
    pub exclusive : (k : ℕ) → Memᴰ k (sets_with_node n 0 f.sets) → Rule n k (bounds x)

  constant_one : (n : ℕ) (x : Node) → get_elem? net.nodes n ≡ some x → T x.constant → (l : List ℕ) → sets_with_node n 0 f.sets ≡ l
      → Every (Met w f plan) (constant_rows w f n x l) ↔ ConstantMet n x
  unfolding constant_rows column_map
  constant_one n x e t [] q =
      let free : T (not (is_exclusive net.aggregates n)) = listed_none net n q in
      let s = node_amount_lem n in (
        λ h. record { plain = λ u. subst (λ (v : ℤ). T (meets w (bounds x) v)) s h.0; exclusive = λ k m. absurd (Memᴰ.not-nil (subst (λ (l : List ℕ). Memᴰ k l) q m)) },
        λ h. (subst (λ (v : ℤ). T (meets w (bounds x) v)) (sym s) (h.plain free), tt),
      )
  constant_one n x e t (k ∷ ks) q =
      let u : T (is_exclusive net.aggregates n) = membership_exclusive net n k (subst (λ (l : List ℕ). Memᴰ k l) (sym q) (Memᴰ.head refl)) in
      let c = sound.coefficients n x e t u in
      let ok = sound.good.nodes x (found_mem net.nodes n x e) in
      let r = exclusive_met n x (upper_finite x.max (ok.most t) c.most) (lower_finite x.min (ok.least t) c.least) (k ∷ ks) in (
        λ h. record { plain = λ v. absurd (T_not (is_exclusive net.aggregates n) v u); exclusive = λ j m. r.0 h j (subst (λ (l : List ℕ). Memᴰ j l) q m) },
        λ h. r.1 (λ j m. h.exclusive j (subst (λ (l : List ℕ). Memᴰ j l) (sym q) m)),
      )

  abbrev constant_of : ℕ → Node → List Row
  constant_of n x = cond x.constant (constant_rows w f n x (sets_with_node n 0 f.sets)) []

  constant_part : (n : ℕ) (x : Node) → get_elem? net.nodes n ≡ some x → (b : Bool) → x.constant ≡ b
      → Every (Met w f plan) (cond b (constant_rows w f n x (sets_with_node n 0 f.sets)) []) ↔ (T x.constant → ConstantMet n x)
  constant_part n x e true q = let r = constant_one n x e (subst T (sym q) tt) (sets_with_node n 0 f.sets) refl in (λ h t. r.0 h, λ h. r.1 (h (subst T (sym q) tt)))
  constant_part n x e false q = (λ h t. absurd (subst T q t), λ h. tt)

  pub constant_met : Every (Met w f plan) (constant_rows_from w f 0 net.nodes) ↔ ((n : ℕ) (x : Node) → get_elem? net.nodes n ≡ some x → T x.constant → ConstantMet n x)
  unfolding constant_rows_from
  constant_met =
      let each = each_of (Met w f plan) constant_of (constant_rows_from w f) (λ m. refl) (λ m x l. refl) net.nodes 0 in (
        λ h n x e. (constant_part n x e x.constant refl).0 (subst (λ (m : ℕ). Every (Met w f plan) (constant_of m x)) (zero-add n) (each.0 h n x e)),
        λ h. each.1 (λ n x e. subst (λ (m : ℕ). Every (Met w f plan) (constant_of m x)) (sym (zero-add n)) ((constant_part n x e x.constant refl).1 (h n x e))),
      )

  -- ---- the exclusivity rows

  abbrev Counted : Aggregate → Type 0
  Counted a = T (leb a.min_active (on_count plan a.sets) && leb (on_count plan a.sets) a.max_active)

  abbrev active_row : Aggregate → Row
  active_row a = record { lower = double a.min_active; upper = double a.max_active; elements = exclusivity_row f a }

  active_one : (a : Aggregate) → Memᴰ a net.aggregates → T a.exclusive → Met w f plan (active_row a) ↔ Counted a
  unfolding exclusivity_row row_sum column_map
  active_one a m t =
      let ok = sound.good.aggregates a m in
      let few = ok.few in
      let count = count_few plan a.sets in
      let known : Known (exclusive_sets net) a.sets = known_all (exclusive_sets net) a.sets (λ s k. from_known net s (record { aggregate = a; known = m; exclusive = t; has = k })) in
      let big : 0 + length a.sets ≤ 16 = omega arith in
      let sum = active_sum f plan a.sets known 0 [] AllUpto.none (lt_of_le_of_lt big (lit< tt)) in
      let s : row_sum f plan (add_active f a.sets []) ≡ times_one (pos (on_count plan a.sets * units_in_one)) = sum
      ∙ +ℤ_idr (exact one64 *ℤ pos (on_count plan a.sets * units_in_one)) ∙ ap (λ (z : ℤ). z *ℤ pos (on_count plan a.sets * units_in_one)) one_exact ∙ units_comm (on_count plan a.sets) in
      let r = count_met w (on_count plan a.sets) (let q : on_count plan a.sets ≤ 100 = omega arith in q) a.min_active a.max_active in (
        λ h. r.0 (subst (λ (v : ℤ). T (meets w (record { lower = double a.min_active; upper = double a.max_active }) v)) s h),
        λ h. subst
            (λ (v : ℤ). T (meets w (record { lower = double a.min_active; upper = double a.max_active }) v)) (sym s) (r.1 h),
      )

  abbrev active_of : ℕ → Aggregate → List Row
  active_of n a = cond a.exclusive (active_row a ∷ []) []

  active_part : (a : Aggregate) → Memᴰ a net.aggregates → (b : Bool) → a.exclusive ≡ b → Every (Met w f plan) (cond b (active_row a ∷ []) []) ↔ (T a.exclusive → Counted a)
  active_part a m true q = let r = active_one a m (subst T (sym q) tt) in (λ h t. r.0 h.0, λ h. (r.1 (h (subst T (sym q) tt)), tt))
  active_part a m false q = (λ h t. absurd (subst T q t), λ h. tt)

  pub active_met : Every (Met w f plan) (exclusivity_rows f net.aggregates) ↔ ((n : ℕ) (a : Aggregate) → get_elem? net.aggregates n ≡ some a → T a.exclusive → Counted a)
  unfolding exclusivity_rows
  active_met =
      let each = each_of (Met w f plan) active_of (λ n xs. exclusivity_rows f xs) (λ m. refl) (λ m x l. refl) net.aggregates 0 in (
        λ h n a e. (active_part a (found_mem net.aggregates n a e) a.exclusive refl).0 (each.0 h n a e),
        λ h. each.1 (λ n a e. (active_part a (found_mem net.aggregates n a e) a.exclusive refl).1 (h n a e)),
      )

-- ---- the columns' own bounds

module _ (w : Sentinel) (g : ColumnMap) (plan : Plan) where
  edge_met : (n : ℕ) → T (column_met w g plan n (edge_column w))
  unfolding column_met edge_column
  edge_met n = (zero_up w (times_one (pos (on_column g plan n)))).1 (rw (nonneg_times_one (pos (on_column g plan n))) (le→leb 0 (on_column g plan n) zero-le))

  set_met : (n : ℕ) → g.edge_columns ≤ n → T (column_met w g plan n set_column)
  unfolding column_met set_column
  set_met n h =
      let k : ℕ = n - g.edge_columns in
      let e : g.edge_columns + k ≡ n = omega arith in
      subst (λ (m : ℕ). T (meets w (record { lower = zero64; upper = one64 }) (times_one (pos m)))) (sym (ap (on_column g plan) (sym e) ∙ set_column_lem g plan k))
      (zero_one w (plan.on (get_or g.sets k [])))

  sets_met : (k n : ℕ) → g.edge_columns ≤ n → T (all_from (column_met w g plan) n (replicate k set_column))
  unfolding all_from
  sets_met zero n h = tt
  sets_met (suc k) n h = and_i (column_met w g plan n set_column) (all_from (column_met w g plan) (suc n) (replicate k set_column)) (set_met n h) (sets_met k (suc n) (omega arith))

  edges_met : (k m n : ℕ) → n + k ≡ g.edge_columns → T (all_from (column_met w g plan) n (replicate k (edge_column w) ++ replicate m set_column))
  unfolding all_from
  edges_met zero m n h = sets_met m n (omega arith)
  edges_met (suc k) m n h = and_i (column_met w g plan n (edge_column w))
      (all_from (column_met w g plan) (suc n) (replicate k (edge_column w) ++ replicate m set_column)) (edge_met n) (edges_met k m (suc n) (omega arith))

  same_bounds : (cs ds : List Column) (n : ℕ) → map (λ (c : Column). c.lower) cs ≡ map (λ (c : Column). c.lower) ds → map (λ (c : Column). c.upper) cs ≡ map (λ (c : Column). c.upper) ds
      → all_from (column_met w g plan) n cs ≡ all_from (column_met w g plan) n ds
  unfolding all_from column_met
  same_bounds [] [] n l u = refl
  same_bounds [] (d ∷ ds) n l u = let z : ◌≡◌ {A = ℕ} 0 1 = cc in absurd (omega arith)
  same_bounds (c ∷ cs) [] n l u = let z : ◌≡◌ {A = ℕ} 0 1 = cc in absurd (omega arith)
  same_bounds (c ∷ cs) (d ∷ ds) n l u =
      let hl : c.lower ≡ d.lower = cc in
      let hu : c.upper ≡ d.upper = cc in
      let tl : map (λ (x : Column). x.lower) cs ≡ map (λ (x : Column). x.lower) ds = cc in
      let tu : map (λ (x : Column). x.upper) cs ≡ map (λ (x : Column). x.upper) ds = cc in
      ap₂ (λ (a b : Bool). a && b) (ap₂ (λ (x y : Float). meets w (record { lower = x; upper = y }) (times_one (pos (on_column g plan n)))) hl hu) (same_bounds cs ds (suc n) tl tu)

  pub columns_met : (cs : List Column) → map (λ (c : Column). c.lower) cs ≡ map (λ (c : Column). c.lower) (all_columns w g)
      → map (λ (c : Column). c.upper) cs ≡ map (λ (c : Column). c.upper) (all_columns w g)
      → T (all_from (column_met w g plan) 0 cs)
  unfolding all_columns
  columns_met cs l u = subst T (sym (same_bounds cs (all_columns w g) 0 l u)) (edges_met g.edge_columns (length g.sets) 0 (zero-add g.edge_columns))

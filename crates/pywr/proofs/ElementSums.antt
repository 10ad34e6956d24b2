-- The elements of a virtual storage's row are the exact sums of its parts: the row's elements weighed by 1 on a column and 0 elsewhere. Assumes nothing.
use mathlib.Core.Path.{◌≡◌, refl, sym, ap, ap₂, ◌∙◌, subst}
use mathlib.Core.Logic.{◌≢◌}
use Prim.Native.Nat.{ℕ, suc, ◌+◌, ◌*◌, ◌^◌, ◌<◌, ◌≤◌}
use native.Mathlib.Omega.{arith}
use mathlib.Core.Bool.{Bool, true, cond}
use mathlib.Core.List.{List, [], ◌∷◌, tail, Memᴰ}
use mathlib.Core.Option.{some}
use lib.ListN.{length, get_or, get_elem?}
use lib.IntN.{ℤ, pos, one, neg_ℤ, ◌+ℤ◌, ◌-ℤ◌, ◌*ℤ◌, *ℤ-zero, *ℤ-one, +ℤ_idl, +ℤ_idr}
use lib.Dec.{T, eqb}
use borrow.Author.Tests.{eq-eqb, ne_eqb}
use Rattle.laws.proofs.Tests.{to_true, of_true}
use Rattle.pywr.specs.Network.{output, storage, Part, VirtualStorage, Network, kind_of}
use Rattle.pywr.specs.ColEdgeMap.{columns}
use Rattle.pywr.specs.Rows.{Element, ColumnMap, column_map, columns_into, columns_out_of, virtual_storage_row}
use Rattle.pywr.specs.Plans.{exact, is_finite}
use Rattle.pywr.specs.Correspondence.{factors_in1024ths}
use Rattle.pywr.specs.ExactElements.{occurrences, node_times, factor_sum, ElementsExact, ExactElements}
use Rattle.pywr.proofs.ExactLaws.{finite_is}
use Rattle.pywr.proofs.SumLaws.{AllUpto, weighed, on_columns}
use Rattle.pywr.proofs.WeightLaws.{Factors, node_weight, parts_weight, node_room, parts_weighed, parts_upto}
use Rattle.pywr.proofs.JoinLaws.{cols, Alike, alike_is, alike_columns, alike_sum, alike_finite}
use Rattle.pywr.proofs.ExclusiveLaws.{Under}
use Rattle.pywr.proofs.FitLaws.{columns_long}
use Rattle.pywr.proofs.FactorLaws.{limit_in1024ths, part_factors, parts_room}
use Rattle.pywr.proofs.ReadLaws.{Sound, read_sound}
use Rattle.pywr.proofs.ShapeLaws.{Rising, virtual_storage_rises}

-- ---- 1 on the column, and 0 on any other

unfoldable one_on : ℕ → ℕ → ℕ
one_on column c = cond (eqb c column) 1 0

-- the weights of a node's row and of parts are their counts on the column
times_listed : (column : ℕ) (cs : List ℕ) → on_columns (one_on column) cs ≡ occurrences column cs
unfolding on_columns occurrences one_on
times_listed column [] = refl
times_listed column (c ∷ cs) = ap (λ (n : ℕ). cond (eqb c column) 1 0 + n) (times_listed column cs)

node_times_lem : (mapping : ColumnMap) (column node : ℕ) → node_weight (one_on column) mapping node ≡ node_times mapping column node
unfolding node_weight node_times
node_times_lem mapping column node =
    ap₂ (λ (i o : ℕ). cond (eqb (kind_of mapping.nodes node) output) (pos i) (cond (eqb (kind_of mapping.nodes node) storage) (pos i -ℤ pos o) (pos o)))
    (times_listed column (columns_into node mapping.mapped_edges))
    (times_listed column (columns_out_of node mapping.mapped_edges))

parts_times : (mapping : ColumnMap) (column : ℕ) (ps : List Part) → parts_weight (one_on column) mapping ps ≡ factor_sum mapping column ps
unfolding parts_weight factor_sum
parts_times mapping column [] = refl
parts_times mapping column (p ∷ ps) = ap₂ (λ (n r : ℤ). neg_ℤ (exact p.factor) *ℤ n +ℤ r) (node_times_lem mapping column p.node) (parts_times mapping column ps)

-- ---- one element of a row

-- an element on another column counts nothing
other : (column : ℕ) (e : Element) (es : List Element) → e.column ≢ column → weighed (one_on column) (e ∷ es) ≡ weighed (one_on column) es
unfolding weighed one_on
other column e es apart =
    ap (λ (b : Bool). exact e.value *ℤ pos (cond b 1 0) +ℤ weighed (one_on column) es) (ne_eqb e.column column apart)
    ∙ ap (λ (z : ℤ). z +ℤ weighed (one_on column) es) (*ℤ-zero (exact e.value))
    ∙ +ℤ_idl (weighed (one_on column) es)

absent : (column : ℕ) (row : List Element) → ((e : Element) → Memᴰ e row → e.column ≢ column) → weighed (one_on column) row ≡ pos 0
unfolding weighed
absent column [] apart = refl
absent column (e ∷ es) apart = other column e es (apart e (Memᴰ.head refl)) ∙ absent column es (λ x m. apart x (Memᴰ.tail m))

rising_least : (n least : ℕ) (row : List Element) → Rising n least row → (e : Element) → Memᴰ e row → least ≤ e.column
rising_least n least (x ∷ xs) (Rising.more a b r) e (Memᴰ.head q) = subst (λ (y : Element). least ≤ y.column) (sym q) a
rising_least n least (x ∷ xs) (Rising.more a b r) e (Memᴰ.tail m) = let h = rising_least n (x.column + 1) xs r e m in omega arith
rising_least n least [] _ e x3 = elim x3 [ ]

pub rising_under : (n least : ℕ) (row : List Element) → Rising n least row → Under n row
rising_under n least [] Rising.none = Under.none
rising_under n least (x ∷ xs) (Rising.more a b r) = Under.more b (rising_under n (x.column + 1) xs r)

-- where columns rise, an element is alone on its column
alone : (n least : ℕ) (row : List Element) → Rising n least row → (e : Element) → Memᴰ e row → weighed (one_on e.column) row ≡ exact e.value
unfolding weighed one_on one
alone n least (x ∷ xs) (Rising.more a b r) e (Memᴰ.head q) =
    let later : (y : Element) → Memᴰ y xs → y.column ≢ x.column = (λ y m same. let h = rising_least n (x.column + 1) xs r y m in absurd (omega arith)) in
    ap (λ (y : Element). weighed (one_on y.column) (x ∷ xs)) q
    ∙ ap (λ (t : Bool). exact x.value *ℤ pos (cond t 1 0) +ℤ weighed (one_on x.column) xs) (eq-eqb x.column x.column refl)
    ∙ ap₂ (λ (y z : ℤ). y +ℤ z) (*ℤ-one (exact x.value)) (absent x.column xs later)
    ∙ +ℤ_idr (exact x.value)
    ∙ ap (λ (y : Element). exact y.value) (sym q)
alone n least (x ∷ xs) (Rising.more a b r) e (Memᴰ.tail m) =
    other e.column x xs (λ same. let h = rising_least n (x.column + 1) xs r e m in absurd (omega arith)) ∙ alone n (x.column + 1) xs r e m
alone n least [] _ e x3 = elim x3 [ ]

-- rows of the same columns rise alike
pub rising_alike : (n least : ℕ) (a b : List Element) → cols a ≡ cols b → Rising n least b → Rising n least a
rising_alike n least [] b e r = Rising.none
rising_alike n least (x ∷ xs) [] e r = let z : suc (length (cols xs)) ≡ 0 = ap length e in absurd (omega arith)
rising_alike n least (x ∷ xs) (y ∷ ys) e (Rising.more a b r) =
    let c : x.column ≡ y.column = ap (λ (l : List ℕ). get_or l 0 0) e in
    let rest : cols xs ≡ cols ys = ap tail e in
    Rising.more (subst (λ (k : ℕ). least ≤ k) (sym c) a) (subst (λ (k : ℕ). k < n) (sym c) b) (subst (λ (k : ℕ). Rising n (k + 1) xs) (sym c) (rising_alike n (y.column + 1) xs ys rest r))

upto_finite : {g b : ℕ} (row : List Element) → AllUpto g b row → (e : Element) → Memᴰ e row → is_finite e.value ≡ true
upto_finite (x ∷ xs) (AllUpto.more u us) e (Memᴰ.head q) = ap (λ (y : Element). is_finite y.value) q ∙ finite_is x.value ∙ to_true _ u.grain.is_finite
upto_finite (x ∷ xs) (AllUpto.more u us) e (Memᴰ.tail m) = upto_finite xs us e m
upto_finite {g = g} {b = b} [] _ e x3 = elim x3 [ ]

-- ---- a virtual storage's row, and every row that counts as it

module _ (net : Network) (sound : Sound net) (factors : T (factors_in1024ths net)) (n : ℕ) (v : VirtualStorage) (at : get_elem? net.virtual_storages n ≡ some v) where
  abbrev f : ColumnMap
  f = column_map net

  parts : Factors 10 limit_in1024ths v.parts
  parts = part_factors net sound n v at factors

  room : 0 + length v.parts * node_room net limit_in1024ths < 2 ^ 53
  room = let h = parts_room net sound n v at in omega arith

  sum_on_lem : (column : ℕ) → weighed (one_on column) (virtual_storage_row f v) ≡ factor_sum f column v.parts
  unfolding virtual_storage_row weighed
  sum_on_lem column =
      parts_weighed net (columns_long net) (one_on column) limit_in1024ths v.parts parts 0 [] AllUpto.none room
      ∙ +ℤ_idr (parts_weight (one_on column) f v.parts)
      ∙ parts_times f column v.parts

  all_finite : (e : Element) → Memᴰ e (virtual_storage_row f v) → is_finite e.value ≡ true
  unfolding virtual_storage_row
  all_finite = upto_finite (virtual_storage_row f v) (parts_upto net (columns_long net) limit_in1024ths v.parts parts 0 [] AllUpto.none room)

  pub alike_exact : (row : List Element) → Alike row (virtual_storage_row f v) → ElementsExact f v row
  alike_exact row same =
      let rises : Rising (columns net).count 0 row = rising_alike _ 0 row (virtual_storage_row f v) (alike_columns same) (virtual_storage_rises net sound v) in
      let sum : (column : ℕ) → weighed (one_on column) row ≡ factor_sum f column v.parts = (λ column. alike_sum (one_on column) same ∙ sum_on_lem column) in
      record {
        finite = alike_finite same all_finite;
        each = λ e m. sym (alone _ 0 row rises e m) ∙ sum e.column;
        elsewhere = λ column apart. sym (sum column) ∙ absent column row apart;
      }

-- the row that the definitions make
pub exact_elements : ExactElements
exact_elements network_file net parsed factors n v at =
    alike_exact net (read_sound network_file net parsed) (of_true (factors_in1024ths net) factors) n v at (virtual_storage_row (column_map net) v) (alike_is refl)

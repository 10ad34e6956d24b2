-- Every row has a maker: there are as many makers as rows, and each fixed row is one that its maker makes. Assumes nothing.
use mathlib.Core.Path.{◌≡◌, refl, sym, ap, ap₂, ◌∙◌, subst}
use mathlib.Core.Logic.{◌⊎◌, inl, inr}
use Prim.Native.Nat.{ℕ, zero, suc, ◌+◌}
use native.Mathlib.Nat.{add-zero, add-suc, suc-add, zero-add}
use native.Mathlib.Omega.{arith}
use mathlib.Core.Bool.{cond, not, ◌&&◌}
use mathlib.Core.List.{List, [], ◌∷◌, ◌++◌, map, append-nil, Memᴰ}
use mathlib.Core.Option.{some}
use lib.ListN.{length, get_elem?, length-append, length-map}
use lib.Dec.{eqb}
use Rattle.pywr.specs.declared.Sentinel.{Sentinel}
use Rattle.pywr.specs.Numbers.{double, zero64}
use Rattle.pywr.specs.Network.{link, Node, Aggregate, Network}
use Rattle.pywr.specs.ExclusiveSets.{sets_with_node}
use Rattle.pywr.specs.Rows.{Element, ColumnMap, column_map, aggregate_row, virtual_storage_row, mass_row, exclusivity_row}
use Rattle.pywr.specs.Programme.{Row, Maker, by_mass, by_node, by_exclusivity}
use Rattle.pywr.specs.VariableRows.{Joined, add_variable_rows}
use Rattle.pywr.specs.VaryingRows.{requests_from, fresh_row}
use Rattle.pywr.specs.FixedRows.{mass_rows_from, constant_rows, constant_rows_from, exclusivity_rows}
use Rattle.pywr.specs.Makers.{Asker, askers, varying_makers, made_by, made_in_turn, mass_makers, constant_makers, exclusivity_makers, fixed_makers}
use Rattle.pywr.specs.Build.{requested_row, assemble, programme_of}
use Rattle.pywr.specs.RowMakers.{FixedBy}
use Rattle.pywr.proofs.ListLaws.{AllMem, all_map, found_mem, found_after, not_found}

-- ---- rows made in turn: those of the first of a list, then those of the others

pub record InTurn {A : Type 0} (rows_from : ℕ → List A → List Row) : Type 0 where
  pub none : (n : ℕ) → rows_from n [] ≡ []
  pub split : (n : ℕ) (x : A) (xs : List A) → rows_from n (x ∷ xs) ≡ rows_from n (x ∷ []) ++ rows_from (suc n) xs

-- what the first of a list makes
abbrev mass_of : ColumnMap → ℕ → Node → List Row
mass_of f n x = cond (eqb x.kind link && not (eqb (length (mass_row f n)) 1)) (record { lower = zero64; upper = zero64; elements = mass_row f n } ∷ []) []

abbrev exclusivity_of : ColumnMap → Aggregate → List Row
exclusivity_of f x = cond x.exclusive (record { lower = double x.min_active; upper = double x.max_active; elements = exclusivity_row f x } ∷ []) []

pub masses_in_turn : (f : ColumnMap) → InTurn (mass_rows_from f)
unfolding mass_rows_from
masses_in_turn f = record { none = λ n. refl; split = λ n x xs. rw (append-nil (mass_of f n x)) }

pub constants_in_turn : (s : Sentinel) (f : ColumnMap) → InTurn (constant_rows_from s f)
unfolding constant_rows_from
constants_in_turn s f =
    record { none = λ n. refl; split = λ n x xs. rw (append-nil (cond x.constant (constant_rows s f n x (sets_with_node n 0 f.sets)) [])) }

pub exclusivities_in_turn : (f : ColumnMap) → InTurn (λ (n : ℕ) (xs : List Aggregate). exclusivity_rows f xs)
unfolding exclusivity_rows
exclusivities_in_turn f = record { none = λ n. refl; split = λ n x xs. rw (append-nil (exclusivity_of f x)) }

-- the varying rows, nodes', aggregates' and virtual storages'
abbrev joined : Network → Joined
joined net = add_variable_rows (map (virtual_storage_row (column_map net)) net.virtual_storages)
    (record {
      rows = (add_variable_rows (map (aggregate_row (column_map net)) net.aggregates)
          (record { rows = (add_variable_rows (map requested_row (requests_from (column_map net) 0 net.nodes)) (record { rows = []; places = [] })).rows; places = [] })).rows;
      places = [];
    })

-- ---- as many makers as rows

pub made_length : (kind index : ℕ) (rows : List Row) → length (made_by kind index rows) ≡ length rows
unfolding made_by
made_length kind index rows = length-map rows (λ (row : Row). record { kind = kind; index = index; shared_by = 1 })

pub in_turn_length : {A : Type 0} (kind : ℕ) (rows_from : ℕ → List A → List Row) → InTurn rows_from → (n : ℕ) (xs : List A)
    → length (made_in_turn kind (λ (m : ℕ) (x : A). rows_from m (x ∷ [])) n xs) ≡ length (rows_from n xs)
unfolding made_in_turn
in_turn_length kind rows_from turn n [] = sym (ap length (turn.none n))
in_turn_length kind rows_from turn n (x ∷ xs) =
    length-append (made_by kind n (rows_from n (x ∷ []))) _
    ∙ ap₂ (λ (a b : ℕ). a + b) (made_length kind n (rows_from n (x ∷ []))) (in_turn_length kind rows_from turn (suc n) xs)
    ∙ sym (length-append (rows_from n (x ∷ [])) (rows_from (suc n) xs))
    ∙ sym (ap length (turn.split n x xs))

pub fixed_makers_length : (s : Sentinel) (f : ColumnMap) (net : Network)
    → length (fixed_makers s f net) ≡ length (mass_rows_from f 0 net.nodes ++ constant_rows_from s f 0 net.nodes ++ exclusivity_rows f net.aggregates)
unfolding fixed_makers mass_makers constant_makers exclusivity_makers
fixed_makers_length s f net =
    let m = in_turn_length by_mass (mass_rows_from f) (masses_in_turn f) 0 net.nodes in
    let c = in_turn_length by_node (constant_rows_from s f) (constants_in_turn s f) 0 net.nodes in
    let e = in_turn_length by_exclusivity (λ (n : ℕ) (xs : List Aggregate). exclusivity_rows f xs) (exclusivities_in_turn f) 0 net.aggregates in
    length-append (mass_makers f 0 net.nodes ++ constant_makers s f 0 net.nodes) (exclusivity_makers f 0 net.aggregates)
    ∙ ap₂ (λ (a b : ℕ). a + b) (length-append (mass_makers f 0 net.nodes) (constant_makers s f 0 net.nodes) ∙ ap₂ (λ (a b : ℕ). a + b) m c
    ∙ sym (length-append (mass_rows_from f 0 net.nodes) (constant_rows_from s f 0 net.nodes))) e
    ∙ sym (length-append (mass_rows_from f 0 net.nodes ++ constant_rows_from s f 0 net.nodes) (exclusivity_rows f net.aggregates))

pub varying_makers_length : (all : List Asker) (row count : ℕ) → length (varying_makers all row count) ≡ count
unfolding varying_makers
varying_makers_length all row zero = refl
varying_makers_length all row (suc count) = ap suc (varying_makers_length all (suc row) count)

all_length : (all : List Asker) (rows : List (List Element)) (s : Sentinel) (f : ColumnMap) (net : Network)
    → length (varying_makers all 0 (length rows) ++ fixed_makers s f net)
    ≡ length (map (fresh_row s) rows) + length (mass_rows_from f 0 net.nodes ++ constant_rows_from s f 0 net.nodes ++ exclusivity_rows f net.aggregates)
all_length all rows s f net =
    length-append (varying_makers all 0 (length rows)) (fixed_makers s f net)
    ∙ ap₂ (λ (a b : ℕ). a + b) (varying_makers_length all 0 (length rows) ∙ sym (length-map rows (fresh_row s))) (fixed_makers_length s f net)

pub makers_count : (s : Sentinel) (net : Network)
    → length (programme_of s net).makers ≡ length (programme_of s net).programme.varying + length (programme_of s net).programme.fixed
unfolding programme_of assemble
makers_count s net = all_length (askers (programme_of s net).shape) (joined net).rows s (column_map net) net

-- ---- a fixed row is one that its maker makes

-- a and b stand at one number of two lists
record Beside {A B : Type 0} (xs : List A) (ys : List B) (a : A) (b : B) : Type 0 where
  at : ℕ
  left : get_elem? xs at ≡ some a
  right : get_elem? ys at ≡ some b

beside_append : {A B : Type 0} (xs zs : List A) (ys us : List B) (a : A) (b : B) → length xs ≡ length ys → (i : ℕ) → get_elem? (xs ++ zs) i ≡ some a → get_elem? (ys ++ us) i ≡ some b
    → Beside xs ys a b ⊎ Beside zs us a b
beside_append [] zs [] us a b l i e f = inr (record { at = i; left = e; right = f })
beside_append [] zs (y ∷ ys) us a b l i e f = let z : 0 ≡ suc (length ys) = l in absurd (omega arith)
beside_append (x ∷ xs) zs [] us a b l i e f = let z : suc (length xs) ≡ 0 = l in absurd (omega arith)
beside_append (x ∷ xs) zs (y ∷ ys) us a b l zero e f = inl (record { at = 0; left = e; right = f })
beside_append (x ∷ xs) zs (y ∷ ys) us a b l (suc i) e f = later (beside_append xs zs ys us a b (let z : suc (length xs) ≡ suc (length ys) = l in omega arith) i e f)
  where
    later : Beside xs ys a b ⊎ Beside zs us a b → Beside (x ∷ xs) (y ∷ ys) a b ⊎ Beside zs us a b
    later (inl k) = inl (record { at = suc k.at; left = k.left; right = k.right })
    later (inr k) = inr k

-- the maker is number `number` of the list, and the row one of those that it makes
record MadeFrom {A : Type 0} (kind : ℕ) (rows_from : ℕ → List A → List Row) (n : ℕ) (xs : List A) (row : Row) (m : Maker) : Type 0 where
  of : m.kind ≡ kind
  number : ℕ
  index : m.index ≡ n + number
  maker : A
  found : get_elem? xs number ≡ some maker
  among : Memᴰ row (rows_from (n + number) (maker ∷ []))

made_is : (kind index : ℕ) (rows : List Row) → AllMem (λ (m : Maker). (m.kind ≡ kind) × (m.index ≡ index)) (made_by kind index rows)
unfolding made_by
made_is kind index rows = all_map (λ (m : Maker). (m.kind ≡ kind) × (m.index ≡ index)) (λ (row : Row). record { kind = kind; index = index; shared_by = 1 }) rows (λ row k. (refl, refl))

in_turn_made : {A : Type 0} (kind : ℕ) (rows_from : ℕ → List A → List Row) → InTurn rows_from → (n : ℕ) (xs : List A) (row : Row) (m : Maker)
    → Beside (rows_from n xs) (made_in_turn kind (λ (k : ℕ) (x : A). rows_from k (x ∷ [])) n xs) row m → MadeFrom kind rows_from n xs row m
unfolding made_in_turn
in_turn_made kind rows_from turn n [] row m k = not_found m k.right
in_turn_made {A} kind rows_from turn n (x ∷ xs) row m k =
    go (λ b. in_turn_made kind rows_from turn (suc n) xs row m b)
    (beside_append (rows_from n (x ∷ [])) (rows_from (suc n) xs) (made_by kind n (rows_from n (x ∷ []))) (made_in_turn kind (λ (j : ℕ) (y : A). rows_from j (y ∷ [])) (suc n) xs) row m
    (sym (made_length kind n (rows_from n (x ∷ [])))) k.at (ap (λ (rows : List Row). get_elem? rows k.at) (sym (turn.split n x xs)) ∙ k.left) k.right)
  where
    go : (Beside (rows_from (suc n) xs) (made_in_turn kind (λ (j : ℕ) (y : A). rows_from j (y ∷ [])) (suc n) xs) row m → MadeFrom kind rows_from (suc n) xs row m)
        → Beside (rows_from n (x ∷ [])) (made_by kind n (rows_from n (x ∷ []))) row m ⊎ Beside (rows_from (suc n) xs) (made_in_turn kind (λ (j : ℕ) (y : A). rows_from j (y ∷ [])) (suc n) xs) row m
        → MadeFrom kind rows_from n (x ∷ xs) row m
    go ih (inl b) =
        let is = made_is kind n (rows_from n (x ∷ [])) m (found_mem (made_by kind n (rows_from n (x ∷ []))) b.at m b.right) in
        record {
          of = is.0;
          number = 0;
          index = is.1 ∙ sym (add-zero n);
          maker = x;
          found = refl;
          among = subst (λ (j : ℕ). Memᴰ row (rows_from j (x ∷ []))) (sym (add-zero n)) (found_mem (rows_from n (x ∷ [])) b.at row b.left);
        }
    go ih (inr b) =
        let f = ih b in
        let same : suc n + f.number ≡ n + suc f.number = suc-add n f.number ∙ sym (add-suc n f.number) in
        record {
          of = f.of;
          number = suc f.number;
          index = f.index ∙ same;
          maker = f.maker;
          found = f.found;
          among = subst (λ (j : ℕ). Memᴰ row (rows_from j (f.maker ∷ []))) same f.among;
        }

module _ (s : Sentinel) (net : Network) where
  abbrev f : ColumnMap
  f = column_map net

  -- from number 0 on, so that the maker's number is its index
  numbered : {A : Type 0} (kind : ℕ) (rows_from : ℕ → List A → List Row) (xs : List A) (row : Row) (m : Maker) → MadeFrom kind rows_from 0 xs row m
      → (x : A) × (get_elem? xs m.index ≡ some x) × Memᴰ row (rows_from m.index (x ∷ []))
  numbered kind rows_from xs row m h =
      let same : m.index ≡ h.number = h.index ∙ zero-add h.number in (
        h.maker,
        ap (get_elem? xs) same ∙ h.found,
        subst (λ (j : ℕ). Memᴰ row (rows_from j (h.maker ∷ []))) (sym h.index) h.among,
      )

  fixed_beside : (row : Row) (m : Maker)
      → Beside (mass_rows_from f 0 net.nodes ++ constant_rows_from s f 0 net.nodes ++ exclusivity_rows f net.aggregates) (fixed_makers s f net) row m → FixedBy s net row m
  unfolding fixed_makers mass_makers constant_makers exclusivity_makers
  fixed_beside row m k =
      last
      (beside_append (mass_rows ++ constant_rows') (exclusivity_rows f net.aggregates) (mass_makers f 0 net.nodes ++ constant_makers s f 0 net.nodes) (exclusivity_makers f 0 net.aggregates)
      row m
      (length-append mass_rows constant_rows' ∙ ap₂ (λ (a b : ℕ). a + b) (sym mass_long) (sym constant_long) ∙ sym (length-append (mass_makers f 0 net.nodes) (constant_makers s f 0 net.nodes)))
      k.at k.left k.right)
    where
      mass_rows : List Row
      mass_rows = mass_rows_from f 0 net.nodes

      constant_rows' : List Row
      constant_rows' = constant_rows_from s f 0 net.nodes

      mass_long : length (mass_makers f 0 net.nodes) ≡ length mass_rows
      mass_long = in_turn_length by_mass (mass_rows_from f) (masses_in_turn f) 0 net.nodes

      constant_long : length (constant_makers s f 0 net.nodes) ≡ length constant_rows'
      constant_long = in_turn_length by_node (constant_rows_from s f) (constants_in_turn s f) 0 net.nodes

      first : Beside mass_rows (mass_makers f 0 net.nodes) row m ⊎ Beside constant_rows' (constant_makers s f 0 net.nodes) row m → FixedBy s net row m
      first (inl b) =
          let h = in_turn_made by_mass (mass_rows_from f) (masses_in_turn f) 0 net.nodes row m b in
          let n = numbered by_mass (mass_rows_from f) net.nodes row m h in
          FixedBy.mass n.0 h.of n.1 n.2
      first (inr b) =
          let h = in_turn_made by_node (constant_rows_from s f) (constants_in_turn s f) 0 net.nodes row m b in
          let n = numbered by_node (constant_rows_from s f) net.nodes row m h in
          FixedBy.constant n.0 h.of n.1 n.2

      last : Beside (mass_rows ++ constant_rows') (mass_makers f 0 net.nodes ++ constant_makers s f 0 net.nodes) row m
          ⊎ Beside (exclusivity_rows f net.aggregates) (exclusivity_makers f 0 net.aggregates) row m
          → FixedBy s net row m
      last (inl b) =
          first (beside_append mass_rows constant_rows' (mass_makers f 0 net.nodes) (constant_makers s f 0 net.nodes) row m (sym mass_long) b.at b.left b.right)
      last (inr b) =
          let rows_by : ℕ → List Aggregate → List Row = (λ (n : ℕ) (xs : List Aggregate). exclusivity_rows f xs) in
          let h = in_turn_made by_exclusivity rows_by (exclusivities_in_turn f) 0 net.aggregates row m b in
          let n = numbered by_exclusivity rows_by net.aggregates row m h in
          FixedBy.exclusivity n.0 h.of n.1 n.2

  pub fixed_by : (i : ℕ) (row : Row) (m : Maker) → get_elem? (programme_of s net).programme.fixed i ≡ some row
      → get_elem? (programme_of s net).makers (length (programme_of s net).programme.varying + i) ≡ some m → FixedBy s net row m
  unfolding programme_of assemble
  fixed_by i row m e k =
      let rows : List (List Element) = (joined net).rows in
      let varying : List Maker = varying_makers (askers (programme_of s net).shape) 0 (length rows) in
      let long : length (map (fresh_row s) rows) ≡ length varying = length-map rows (fresh_row s) ∙ sym (varying_makers_length (askers (programme_of s net).shape) 0 (length rows)) in
      fixed_beside row m
      (record { at = i; left = e; right = sym (found_after varying (fixed_makers s f net) i) ∙ ap (λ (n : ℕ). get_elem? (varying ++ fixed_makers s f net) (n + i)) (sym long) ∙ k })

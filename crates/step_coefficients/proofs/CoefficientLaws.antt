-- The element on a column of a row: its place, and the rows' elements one behind the other. Assumes nothing.
use mathlib.Core.Path.{◌≡◌, refl, sym, ap, ◌∙◌}
use Prim.Native.Nat.{ℕ, zero, suc, ◌+◌, ◌-◌, ◌<◌, ◌≤◌}
use native.Mathlib.Nat.{add-zero, zero-add, not-suc-le-zero}
use native.Mathlib.Omega.{arith}
use mathlib.Core.Bool.{true, ◌&&◌}
use mathlib.Core.List.{List, [], ◌∷◌, ◌++◌, map, flat_map}
use lib.ListN.{length, get_or, take, set, length-map, length-append, get_or-append}
use lib.Seq.{slice, set-append_left, get_or-append-add, get_or-take, get_or-drop, length-slice}
use lib.Dec.{T, leb, ltb, eqb, leb→le, eqb→eq}
use lib.Ieee.{Float}
use lib.Ieee.Fits.{and_l, and_r}
use borrow.Author.Tests.{eq-eqb, ne_eqb}
use Rattle.laws.proofs.Tests.{by_cases, of_true, to_true, to_false}
use Rattle.pywr.specs.Numbers.{zero64}
use Rattle.pywr.specs.Rows.{Element}
use Rattle.pywr.specs.Programme.{Row}
use Rattle.pywr.specs.Store.{Store, entries, columns_of_row, start_of}
use Rattle.pywr.specs.Misshapen.{columns_rise}
use Rattle.pywr.specs.Step.{adjust, change_coefficient, with_coefficient}
use Rattle.pywr.specs.Written.{columns_in, values_in}
use Rattle.pywr.proofs.RowsBack.{columns_length, values_length}
use Rattle.store_rows.specs.Starts.{StartsRise}
use Rattle.store_rows.proofs.Starts.{start_under}
use Rattle.step_coefficients.specs.RowCoefficients.{change_at}

-- ---- one row

-- rising columns are none under the least
rise_least : (count least : ℕ) (cs : List ℕ) → T (columns_rise count least cs) → (p : ℕ) → p < length cs → least ≤ get_or cs p 0
unfolding columns_rise
rise_least count least [] t p h = absurd (not-suc-le-zero h)
rise_least count least (c ∷ cs) t zero h = leb→le least c (and_l (leb least c) (ltb c count) (and_l (leb least c && ltb c count) (columns_rise count (c + 1) cs) t))
rise_least count least (c ∷ cs) t (suc p) h =
    let here = leb→le least c (and_l (leb least c) (ltb c count) (and_l (leb least c && ltb c count) (columns_rise count (c + 1) cs) t)) in
    let later = rise_least count (c + 1) cs (and_r (leb least c && ltb c count) (columns_rise count (c + 1) cs) t) p (let k : suc p < suc (length cs) = h in omega arith) in
    omega arith

module _ (c : ℕ) (change : Float → Float) where
  columns_stay : (es : List Element) → map (λ (e : Element). e.column) (change_coefficient c change es) ≡ map (λ (e : Element). e.column) es
  unfolding change_coefficient
  columns_stay [] = refl
  columns_stay (e ∷ es) =
      by_cases (eqb e.column c)
      (λ t. rw (to_true (eqb e.column c) t) (ap (λ (n : ℕ). n ∷ map (λ (d : Element). d.column) es) (sym (eqb→eq e.column c t))))
      (λ t. rw (to_false (eqb e.column c) t) (ap (λ (l : List ℕ). e.column ∷ l) (columns_stay es)))

  -- where the columns rise, the element on column c is the one at the place of c
  coefficient_changed : (count least : ℕ) (es : List Element) → T (columns_rise count least (map (λ (e : Element). e.column) es)) → (p : ℕ) → p < length es
      → get_or (map (λ (e : Element). e.column) es) p 0 ≡ c
      → map (λ (e : Element). e.value) (change_coefficient c change es) ≡ change_at (map (λ (e : Element). e.value) es) p change
  unfolding change_coefficient columns_rise
  coefficient_changed count least [] t p h q = absurd (not-suc-le-zero h)
  coefficient_changed count least (e ∷ es) t zero h q = rw (eq-eqb e.column c q)
  coefficient_changed count least (e ∷ es) t (suc p) h q =
      let cs : List ℕ = map (λ (d : Element). d.column) es in
      let rest : T (columns_rise count (e.column + 1) cs) = and_r (leb least e.column && ltb e.column count) (columns_rise count (e.column + 1) cs) t in
      let k : p < length es = (let j : suc p < suc (length es) = h in omega arith) in
      let over : e.column + 1 ≤ get_or cs p 0 = rise_least count (e.column + 1) cs rest p (let n = length-map es (λ (d : Element). d.column) in omega arith) in
      rw (ne_eqb e.column c (λ z. omega arith)) (ap (λ (l : List Float). e.value ∷ l) (coefficient_changed count (e.column + 1) es rest p k q))

  pub with_columns_lem : (row : Row) → columns_in (with_coefficient c change row) ≡ columns_in row
  unfolding columns_in with_coefficient
  with_columns_lem row = columns_stay row.elements

  with_coefficient_lem : (count : ℕ) (row : Row) → columns_rise count 0 (columns_in row) ≡ true → (p : ℕ) → p < length row.elements → get_or (columns_in row) p 0 ≡ c
      → values_in (with_coefficient c change row) ≡ change_at (values_in row) p change
  unfolding columns_in values_in with_coefficient
  with_coefficient_lem count row t p h q = coefficient_changed count 0 row.elements (of_true (columns_rise count 0 (map (λ (e : Element). e.column) row.elements)) t) p h q

-- ---- all rows

set_append_right : {A : Type 0} (xs ys : List A) (i : ℕ) (a : A) → set (xs ++ ys) (length xs + i) a ≡ xs ++ set ys i a
set_append_right [] ys i a = rw zero-add
set_append_right {A} (x ∷ xs) ys i a =
    let e : suc (length xs) + i ≡ suc (length xs + i) = omega arith in
    ap (λ (k : ℕ). set (x ∷ (xs ++ ys)) k a) e ∙ ap (λ (l : List A). x ∷ l) (set_append_right xs ys i a)

module _ (xs ys : List Float) (i : ℕ) (change : Float → Float) where
  change_append_left : i < length xs → change_at (xs ++ ys) i change ≡ change_at xs i change ++ ys
  change_append_left h =
      ap (λ (y : Float). set (xs ++ ys) i (change y)) (get_or-append xs ys zero64 i h) ∙ set-append_left xs ys i (change (get_or xs i zero64)) h

  change_append_right : change_at (xs ++ ys) (length xs + i) change ≡ xs ++ change_at ys i change
  change_append_right =
      ap (λ (y : Float). set (xs ++ ys) (length xs + i) (change y)) (get_or-append-add xs ys i zero64) ∙ set_append_right xs ys i (change (get_or ys i zero64))

slice_at : {A : Type 0} (l : List A) (from to p : ℕ) (d : A) → from ≤ p → p < to → get_or (slice from to l) (p - from) d ≡ get_or l p d
slice_at l from to p d le lt =
    let e : from + (p - from) ≡ p = omega arith in
    get_or-drop from (take to l) (p - from) d ∙ ap (λ (k : ℕ). get_or (take to l) k d) e ∙ get_or-take to l p d lt

module _ (s : Store) {total kept : ℕ} (starts : StartsRise s.row_starts total kept) (fits : kept ≤ length s.columns) where
  row_long : (r : ℕ) → r < total → length (columns_of_row s r) ≡ start_of s (r + 1) - start_of s r
  unfolding columns_of_row
  row_long r lt = length-slice (start_of s r) (start_of s (r + 1)) s.columns (omega (arith, start_under starts (r + 1) (omega arith)))

  pub starts_mono : (d a : ℕ) → a + d ≤ total → start_of s a ≤ start_of s (a + d)
  starts_mono zero a h = rw add-zero (omega arith)
  starts_mono (suc d) a h =
      let e : a + suc d ≡ a + d + 1 = omega arith in
      rw e (omega (arith, starts_mono d a (omega arith), starts.rise (a + d) (omega arith)))

  module _ (c count p : ℕ) (change : Float → Float) (on : get_or s.columns p 0 ≡ c) where
    column_there : (j : ℕ) → start_of s j ≤ p → p < start_of s (j + 1) → get_or (columns_of_row s j) (p - start_of s j) 0 ≡ c
    unfolding columns_of_row
    column_there j le lt = slice_at s.columns (start_of s j) (start_of s (j + 1)) p 0 le lt ∙ on

    -- in rows k, k + 1, .. the element at p is row r's on column c
    coefficient_from : (rows : List Row) (n k r : ℕ) → map columns_in rows ≡ entries (columns_of_row s) 1 k n → k + n ≤ total → r < n
        → start_of s (k + r) ≤ p → p < start_of s (k + r + 1) → columns_rise count 0 (columns_of_row s (k + r)) ≡ true
        → flat_map values_in (adjust (with_coefficient c change) r rows) ≡ change_at (flat_map values_in rows) (p - start_of s k) change
    unfolding entries adjust flat_map
    coefficient_from rows zero k r e h lt a b t = absurd (not-suc-le-zero lt)
    coefficient_from [] (suc n) k r e h lt a b t = let z : ◌≡◌ {A = ℕ} 0 1 = cc in absurd (omega arith)
    coefficient_from (row ∷ rows) (suc n) k zero e h lt a b t =
        let head : columns_in row ≡ columns_of_row s k = cc in
        let z : k + 0 ≡ k = add-zero k in
        let a' : start_of s k ≤ p = rw z at a in
        let b' : p < start_of s (k + 1) = rw z at b in
        let t' : columns_rise count 0 (columns_in row) ≡ true = rw head (rw z at t) in
        let many = row_long k (omega arith) in
        let nc : length (columns_in row) ≡ length (columns_of_row s k) = ap length head in
        let place : p - start_of s k < length row.elements = omega (arith, columns_length row) in
        let there : get_or (columns_in row) (p - start_of s k) 0 ≡ c = ap (λ (l : List ℕ). get_or l (p - start_of s k) 0) head ∙ column_there k a' b' in
        ap (λ (l : List Float). l ++ flat_map values_in rows) (with_coefficient_lem c change count row t' (p - start_of s k) place there)
        ∙ sym (change_append_left (values_in row) (flat_map values_in rows) (p - start_of s k) change (omega (arith, values_length row)))
    coefficient_from (row ∷ rows) (suc n) k (suc r) e h lt a b t =
        let head : columns_in row ≡ columns_of_row s k = cc in
        let tail : map columns_in rows ≡ entries (columns_of_row s) 1 (k + 1) n = cc in
        let j : k + suc r ≡ k + 1 + r = omega arith in
        let a' : start_of s (k + 1 + r) ≤ p = rw j at a in
        let b' : p < start_of s (k + 1 + r + 1) = rw j at b in
        let t' : columns_rise count 0 (columns_of_row s (k + 1 + r)) ≡ true = rw j at t in
        let many = row_long k (omega arith) in
        let nc : length (columns_in row) ≡ length (columns_of_row s k) = ap length head in
        let first = starts.rise k (omega arith) in
        let before = starts_mono r (k + 1) (omega arith) in
        let ih = coefficient_from rows n (k + 1) r tail (omega arith) (omega arith) a' b' t' in
        let d : p - start_of s k ≡ length (values_in row) + (p - start_of s (k + 1)) = omega (arith, columns_length row, values_length row) in
        ap (λ (l : List Float). values_in row ++ l) ih
        ∙ sym (change_append_right (values_in row) (flat_map values_in rows) (p - start_of s (k + 1)) change)
        ∙ ap (λ (q : ℕ). change_at (values_in row ++ flat_map values_in rows) q change) (sym d)

    pub coefficient_written : (rows : List Row) (n r : ℕ) → map columns_in rows ≡ entries (columns_of_row s) 1 0 n → n ≤ total → r < n
        → start_of s r ≤ p → p < start_of s (r + 1) → columns_rise count 0 (columns_of_row s r) ≡ true
        → change_at (flat_map values_in rows) p change ≡ flat_map values_in (adjust (with_coefficient c change) r rows)
    coefficient_written rows n r e h lt a b t =
        let z : 0 + r ≡ r = zero-add r in
        let f = starts.first in
        let q : p - start_of s 0 ≡ p = omega arith in
        sym (coefficient_from rows n 0 r e (omega arith) lt (rw z a) (rw z b) (rw z t) ∙ ap (λ (k : ℕ). change_at (flat_map values_in rows) k change) q)

  -- the rows' elements are as many as the starts say
  pub values_long : (rows : List Row) (n k : ℕ) → map columns_in rows ≡ entries (columns_of_row s) 1 k n → k + n ≤ total → length (flat_map values_in rows) ≡ start_of s (k + n) - start_of s k
  unfolding entries flat_map
  values_long [] zero k e h = let z : k + 0 ≡ k = add-zero k in rw z (omega arith)
  values_long [] (suc n) k e h = let z : ◌≡◌ {A = ℕ} 0 1 = cc in absurd (omega arith)
  values_long (row ∷ rows) zero k e h = let z : ◌≡◌ {A = ℕ} 0 1 = cc in absurd (omega arith)
  values_long (row ∷ rows) (suc n) k e h =
      let head : columns_in row ≡ columns_of_row s k = cc in
      let tail : map columns_in rows ≡ entries (columns_of_row s) 1 (k + 1) n = cc in
      let j : k + suc n ≡ k + 1 + n = omega arith in
      let many = row_long k (omega arith) in
      let nc : length (columns_in row) ≡ length (columns_of_row s k) = ap length head in
      let first = starts.rise k (omega arith) in
      let later = starts_mono n (k + 1) (omega arith) in
      let ih = values_long rows n (k + 1) tail (omega arith) in
      rw j (omega (arith, length-append (values_in row) (flat_map values_in rows), columns_length row, values_length row))

-- A held row read back from the work runs, two rows compared, and the search for the first equal row. Assumes nothing.
use mathlib.Core.Path.{◌≡◌, refl, sym, ap, ap₂, ◌∙◌, subst}
use Prim.Native.Nat.{ℕ, suc, ◌+◌, ◌-◌, ◌<◌, ◌≤◌}
use native.Mathlib.Nat.{add-zero}
use native.Mathlib.Omega.{arith}
use mathlib.Core.Bool.{Bool, true, false, ◌&&◌}
use mathlib.Core.List.{List, [], ◌∷◌, ◌++◌, flat_map}
use lib.ListN.{length, get_or, take, drop, length-append, length-drop, length-map, get_or-map, drop_of_length-le}
use lib.Seq.{split_at, get_or-take, get_or-drop, take_at, drop_at, drop-drop, length-take-le}
use lib.Dec.{eqb}
use lib.Ieee.{Float, nan, eq}
use borrow.Author.Tests.{eq-eqb, ne_eqb}
use Rattle.layout.specs.Layout.{numbers_length}
use Rattle.laws.proofs.Runs.{drop_next}
use Rattle.pywr.specs.Rows.{Element, element}
use Rattle.pywr.specs.Programme.{Row}
use Rattle.pywr.specs.Build.{element_count}
use Rattle.pywr.specs.Store.{elements_of}
use Rattle.pywr.specs.VariableRows.{same_row, position}
use Rattle.pywr.specs.Written.{starts_from, columns_in, values_in}
use Rattle.pywr.proofs.FitLaws.{elements_append}
use Rattle.pywr.proofs.RowsBack.{columns_length, values_length}
use Rattle.build_row.specs.RowBuilder.{gathered}
use Rattle.build_append.specs.LpBuilder.{element_lists, RowsHeld, Holding}
use Rattle.build_append.specs.declared.Filled.{Filled}
use Rattle.build_append.proofs.RowsHeldLaws.{held_few}
use Rattle.build_append.proofs.RowLaws.{part_take, flat_append, elements_back, gathered_length}

-- ---- a held row

-- row k stands from `at` on: its start, the next start, and its elements
record RowAt (words : List ℕ) (numbers : List Float) (k : ℕ) (row : List Element) : Type 0 where
  at : ℕ
  start : get_or words (4096 + k) 0 ≡ at
  next : get_or words (4096 + k + 1) 0 ≡ at + length row
  few : at + length row ≤ 4096
  elements : row ≡ gathered (drop at words) (drop (2048 + at) numbers) (length row)

start_of : (at : ℕ) (rest : List Row) → get_or (starts_from at rest) 0 0 ≡ at
unfolding starts_from
start_of at [] = refl
start_of at (r ∷ rs) = refl

start_behind : (at : ℕ) (before rest : List Row) → get_or (starts_from at (before ++ rest)) (length before) 0 ≡ at + element_count before
unfolding starts_from element_count
start_behind at [] rest = start_of at rest ∙ sym (add-zero at)
start_behind at (r ∷ rs) rest = start_behind (at + length r.elements) rs rest ∙ omega arith

start_next : (at : ℕ) (before rest : List Row) (row : Row) → get_or (starts_from at (before ++ (row ∷ rest))) (suc (length before)) 0 ≡ at + element_count before + length row.elements
unfolding starts_from element_count
start_next at [] rest row = start_of (at + length row.elements) rest ∙ omega arith
start_next at (r ∷ rs) rest row = start_next (at + length r.elements) rs rest row ∙ omega arith

flat_count : {A : Type 0} (f : Row → List A) → ((r : Row) → length (f r) ≡ length r.elements) → (rows : List Row) → length (flat_map f rows) ≡ element_count rows
unfolding flat_map element_count
flat_count f h [] = refl
flat_count f h (r ∷ rs) = length-append (f r) (flat_map f rs) ∙ ap₂ (λ (a b : ℕ). a + b) (h r) (flat_count f h rs)

-- a row's share of a run of elements
share : {A : Type 0} (f : Row → List A) → ((r : Row) → length (f r) ≡ length r.elements) → (before rest : List Row) (row : Row) (run : List A)
    → take (element_count (before ++ (row ∷ rest))) run ≡ flat_map f (before ++ (row ∷ rest)) → take (length row.elements) (drop (element_count before) run) ≡ f row
unfolding flat_map element_count
share {A} f h before rest row run e =
    let m : ℕ = length row.elements in
    let a : ℕ = element_count before in
    let k = elements_append before (row ∷ rest) in
    sym (part_take a m (element_count (before ++ (row ∷ rest))) run (omega arith))
    ∙ ap (λ (l : List A). take m (drop a l)) (e ∙ flat_append f before (row ∷ rest))
    ∙ ap (λ (l : List A). take m l) (drop_at (flat_map f before) (f row ++ flat_map f rest) a (flat_count f h before))
    ∙ take_at (f row) (flat_map f rest) m (h row)

split_row : (before rest : List Row) (row : Row) (words : List ℕ) (numbers : List Float) (f : Filled)
    → RowsHeld (before ++ (row ∷ rest)) words numbers f → RowAt words numbers (length before) row.elements
unfolding gathered element_count columns_in values_in
split_row before rest row words numbers f held =
    let rows : List Row = before ++ (row ∷ rest) in
    let k : ℕ = length before in
    let m : ℕ = length row.elements in
    let a : ℕ = element_count before in
    let lengths : length rows ≡ k + suc (length rest) = length-append before (row ∷ rest) in
    let few = held.few_elements in
    let counts = elements_append before (row ∷ rest) in
    let word : (i : ℕ) → i < length rows + 1 → get_or words (4096 + i) 0 ≡ get_or (starts_from 0 rows) i 0 = (λ i h. sym
    (get_or-take (length rows + 1) (drop 4096 words) i 0 h ∙ get_or-drop 4096 words i 0) ∙ ap (λ (l : List ℕ). get_or l i 0) held.starts) in
    let place : 4096 + k + 1 ≡ 4096 + suc k = omega arith in
    record {
      at = a;
      start = word k (omega arith) ∙ start_behind 0 before (row ∷ rest) ∙ omega arith;
      next = ap (λ (j : ℕ). get_or words j 0) place ∙ word (suc k) (omega arith) ∙ start_next 0 before rest row ∙ omega arith;
      few = omega arith;
      elements = sym (ap₂ elements_of (share columns_in columns_length before rest row words held.columns)
          (ap (take m) (sym (drop-drop a 2048 numbers)) ∙ share values_in values_length before rest row (drop 2048 numbers) held.elements) ∙ elements_back row.elements);
    }

row_at : (rows : List Row) (words : List ℕ) (numbers : List Float) (f : Filled) (k : ℕ) → RowsHeld rows words numbers f → k < f.rows
    → RowAt words numbers k (get_or (element_lists rows) k [])
row_at rows words numbers f k held h =
    let none : Row = record { lower = nan; upper = nan; elements = [] } in
    let lt : k < length rows = omega (arith, held.row_count) in
    let stands = split_row (take k rows) (drop (suc k) rows) (get_or rows k none) words numbers f (subst (λ (l : List Row). RowsHeld l words numbers f) (split_at rows k none lt) held) in
    subst (λ (es : List Element). RowAt words numbers k es) (sym (get_or-map (λ (r : Row). r.elements) rows k none))
    (subst (λ (j : ℕ). RowAt words numbers j (get_or rows k none).elements) (length-take-le k rows (omega arith)) stands)

-- ---- row k against the gathered row

not_and : (b : Bool) → (b && false) ≡ false
not_and true = refl
not_and false = refl

-- rows of different lengths differ
lengths_differ : (a b : List Element) → (length a ≡ length b → ⊥) → same_row a b ≡ false
unfolding same_row
lengths_differ [] [] h = absurd (h refl)
lengths_differ [] (y ∷ ys) h = refl
lengths_differ (x ∷ xs) [] h = refl
lengths_differ (x ∷ xs) (y ∷ ys) h =
    let both : Bool = eqb x.column y.column && eq x.value y.value in
    ap (λ (b : Bool). both && b) (lengths_differ xs ys (λ e. h (ap suc e))) ∙ not_and both

-- whether row k of the rows held equals the row
abbrev pub RowEquals : List ℕ → List Float → Filled → List Element → ℕ → Bool → Type 0
RowEquals words numbers f row k same = (rows : List Row) → RowsHeld rows words numbers f → same ≡ same_row (get_or (element_lists rows) k []) row

-- `at` and `next` were read as the starts of row k and of the next
module _ (words : List ℕ) (numbers : List Float) (f : Filled) (k at next : ℕ) (lt : k < f.rows) (ea : at ≡ get_or words (4096 + k) 0) (en : next ≡ get_or words (4096 + k + 1) 0) where
  pub starts_rise_lem : Holding words numbers f → at ≤ next
  starts_rise_lem h = let s = row_at h.rows words numbers f k h.held lt in omega (arith, s.start, s.next)

  pub row_fits : Holding words numbers f → next ≤ 4096
  row_fits h = let s = row_at h.rows words numbers f k h.held lt in omega (arith, s.next, s.few)

  module _ (columns : List ℕ) (n : ℕ) where
    abbrev row : List Element
    row = gathered columns (drop (2048 + f.elements) numbers) n

    pub length_differs : numbers_length ≤ length numbers → n ≤ 640 → n ≤ length columns → (next - at ≡ n → ⊥) → RowEquals words numbers f row k false
    length_differs long_numbers few long_columns d rows held =
        let s = row_at rows words numbers f k held lt in
        let behind : n ≤ length (drop (2048 + f.elements) numbers) = omega (arith, length-drop (2048 + f.elements) numbers, held_few rows words numbers f held) in
        let count : length row ≡ n = gathered_length columns (drop (2048 + f.elements) numbers) n long_columns behind in
        sym (lengths_differ (get_or (element_lists rows) k []) row (λ q. d (omega (arith, s.start, s.next))))

    pub length_same : next - at ≡ n → (same : Bool) → same ≡ same_row (gathered (drop at words) (drop (2048 + at) numbers) n) row → RowEquals words numbers f row k same
    length_same e same r rows held =
        let es : List Element = get_or (element_lists rows) k [] in
        let s = row_at rows words numbers f k held lt in
        let m : n ≡ length es = omega (arith, s.start, s.next) in
        r
        ∙ ap (λ (l : List Element). same_row l row)
        (ap₂ (λ (a j : ℕ). gathered (drop a words) (drop (2048 + a) numbers) j) (ea ∙ s.start) m ∙ sym s.elements)

-- ---- two rows compared

gathered_next : (columns : List ℕ) (elements : List Float) (i m : ℕ) → i < length columns → i < length elements
    → gathered (drop i columns) (drop i elements) (suc m) ≡ element (get_or columns i 0) (get_or elements i nan) ∷ gathered (drop (i + 1) columns) (drop (i + 1) elements) m
unfolding gathered elements_of
gathered_next columns elements i m hc he = rw (drop_next columns i 0 hc, drop_next elements i nan he)

-- whether the n elements from `at` on equal the gathered row from element i on
abbrev pub same_from : List ℕ → List ℕ → List Float → ℕ → ℕ → ℕ → ℕ → Bool
same_from words columns numbers n at from i =
    same_row (gathered (drop i (drop at words)) (drop i (drop (2048 + at) numbers)) (n - i)) (gathered (drop i columns) (drop i (drop (2048 + from) numbers)) (n - i))

module _ (words columns : List ℕ) (numbers : List Float) (n at from i : ℕ)
    (long : (at + n ≤ length words) × (2048 + at + n ≤ length numbers) × (n ≤ length columns) × (2048 + from + n ≤ length numbers)) where
  abbrev same : ℕ → Bool
  same j = same_from words columns numbers n at from j

  turn : i < n → same i ≡ ((eqb (get_or words (at + i) 0) (get_or columns i 0) && eq (get_or numbers (2048 + at + i) nan) (get_or numbers (2048 + from + i) nan)) && same (i + 1))
  unfolding same_row
  turn h =
      let left : n - i ≡ suc (n - (i + 1)) = omega arith in
      rw (
        left,
        gathered_next (drop at words) (drop (2048 + at) numbers) i (n - (i + 1)) (omega (arith, length-drop at words)) (omega (arith, length-drop (2048 + at) numbers)),
        gathered_next columns (drop (2048 + from) numbers) i (n - (i + 1)) (omega arith) (omega (arith, length-drop (2048 + from) numbers)),
        get_or-drop at words i 0,
        get_or-drop (2048 + at) numbers i nan,
        get_or-drop (2048 + from) numbers i nan,
      )

  pub columns_differ : i < n → (get_or words (at + i) 0 ≡ get_or columns i 0 → ⊥) → same i ≡ false
  columns_differ h d = turn h ∙ rw (ne_eqb (get_or words (at + i) 0) (get_or columns i 0) d)

  pub values_differ : i < n → get_or words (at + i) 0 ≡ get_or columns i 0 → eq (get_or numbers (2048 + at + i) nan) (get_or numbers (2048 + from + i) nan) ≡ false → same i ≡ false
  values_differ h e d = turn h ∙ rw (eq-eqb (get_or words (at + i) 0) (get_or columns i 0) e, d)

  pub same_next : i < n → get_or words (at + i) 0 ≡ get_or columns i 0 → eq (get_or numbers (2048 + at + i) nan) (get_or numbers (2048 + from + i) nan) ≡ true → same i ≡ same (i + 1)
  same_next h e s = turn h ∙ rw (eq-eqb (get_or words (at + i) 0) (get_or columns i 0) e, s)

  pub same_end : n ≤ i → same i ≡ true
  unfolding same_row gathered elements_of
  same_end h = let none : n - i ≡ 0 = omega arith in rw none

-- ---- the first equal row

-- none of the first k rows held equals the row
abbrev pub Passed : List ℕ → List Float → Filled → List Element → ℕ → Type 0
Passed words numbers f row k = (rows : List Row) → RowsHeld rows words numbers f → position row (element_lists rows) ≡ k + position row (drop k (element_lists rows))

module _ (words : List ℕ) (numbers : List Float) (f : Filled) (row : List Element) (k : ℕ) (passed : Passed words numbers f row k) where
  count : (rows : List Row) → RowsHeld rows words numbers f → length (element_lists rows) ≡ f.rows
  count rows held = length-map rows (λ (r : Row). r.elements) ∙ sym held.row_count

  pub found : (same : Bool) → RowEquals words numbers f row k same → same ≡ true → k < f.rows → (rows : List Row) → RowsHeld rows words numbers f → k ≡ position row (element_lists rows)
  unfolding position
  found same e t h rows held = sym (passed rows held ∙ rw (drop_next (element_lists rows) k [] (omega (arith, count rows held)), sym (e rows held) ∙ t) (add-zero k))

  pub passed_next : (same : Bool) → RowEquals words numbers f row k same → same ≡ false → k < f.rows → Passed words numbers f row (k + 1)
  unfolding position
  passed_next same e t h rows held =
      let p : ℕ = position row (drop (k + 1) (element_lists rows)) in
      let s : k + suc p ≡ k + 1 + p = omega arith in
      passed rows held ∙ rw (drop_next (element_lists rows) k [] (omega (arith, count rows held)), sym (e rows held) ∙ t) s

  pub none_equal : k ≡ f.rows → (rows : List Row) → RowsHeld rows words numbers f → f.rows ≡ position row (element_lists rows)
  unfolding position
  none_equal e rows held =
      let none : drop k (element_lists rows) ≡ [] = drop_of_length-le (element_lists rows) {i = k} (omega (arith, count rows held)) in
      sym e ∙ sym (passed rows held ∙ rw none (add-zero k))

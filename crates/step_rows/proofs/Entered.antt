-- The varying rows of a store as a step meets them: their elements are what stands at the front of the run. Assumes nothing.
use mathlib.Core.Path.{◌≡◌, refl, sym, ap, ap₂, ◌∙◌}
use Prim.Native.Nat.{ℕ, zero, suc, ◌+◌, ◌*◌, ◌-◌, ◌<◌, ◌≤◌}
use native.Mathlib.Nat.{add-zero, zero-add}
use native.Mathlib.Omega.{arith}
use mathlib.Core.List.{List, [], ◌∷◌, ◌++◌, map, flat_map}
use lib.ListN.{length, get_or, take, drop, take-append-drop}
use lib.Seq.{sets, sets-eq, slice, slice_empty, length-slice, length-take-le, take-add, drop_at, drop-append-le}
use lib.Ieee.{Float}
use Rattle.pywr.specs.declared.Interval.{Interval}
use Rattle.pywr.specs.Rows.{Element}
use Rattle.pywr.specs.Programme.{Row}
use Rattle.pywr.specs.Store.{Store, entries, elements_of, columns_of_row, row_entry, start_of, varying_count}
use Rattle.pywr.specs.Step.{with_bounds}
use Rattle.pywr.specs.Written.{columns_in, values_in}
use Rattle.store_shape.proofs.EntryLaws.{entries_map}
use Rattle.store_rows.specs.Starts.{StartsRise}
use Rattle.store_rows.proofs.Starts.{start_under}
use Rattle.step_row_bounds.specs.RowBounds.{BoundsWritten}
use Rattle.step_node_rows.specs.NodeConstraintBounds.{VaryingWritten, VaryingFit}
use Rattle.step_coefficients.proofs.CoefficientLaws.{starts_mono}

-- ---- lists

values_of : (cs : List ℕ) (xs : List Float) → length cs ≡ length xs → map (λ (e : Element). e.value) (elements_of cs xs) ≡ xs
unfolding elements_of
values_of [] [] e = refl
values_of [] (x ∷ xs) e = let z : 0 ≡ suc (length xs) = e in absurd (omega arith)
values_of (c ∷ cs) [] e = let z : suc (length cs) ≡ 0 = e in absurd (omega arith)
values_of (c ∷ cs) (x ∷ xs) e = ap (λ (l : List Float). x ∷ l) (values_of cs xs (let z : suc (length cs) ≡ suc (length xs) = e in omega arith))

columns_of : (cs : List ℕ) (xs : List Float) → length cs ≡ length xs → map (λ (e : Element). e.column) (elements_of cs xs) ≡ cs
unfolding elements_of
columns_of [] [] e = refl
columns_of [] (x ∷ xs) e = let z : 0 ≡ suc (length xs) = e in absurd (omega arith)
columns_of (c ∷ cs) [] e = let z : suc (length cs) ≡ 0 = e in absurd (omega arith)
columns_of (c ∷ cs) (x ∷ xs) e = ap (λ (l : List ℕ). c ∷ l) (columns_of cs xs (let z : suc (length cs) ≡ suc (length xs) = e in omega arith))

module _ {A : Type 0} where
  -- two parts of a list, one behind the other
  slice_seam : (l : List A) (a b c : ℕ) → a ≤ b → b ≤ c → c ≤ length l → slice a b l ++ slice b c l ≡ slice a c l
  slice_seam l a b c ab bc cl =
      let n : ℕ = c - b in
      let q : c ≡ b + n = omega arith in
      let whole : take c l ≡ take b l ++ take n (drop b l) = ap (λ (k : ℕ). take k l) q ∙ take-add b n l in
      let lb : length (take b l) ≡ b = length-take-le b l (omega arith) in
      let second : slice b c l ≡ take n (drop b l) = ap (drop b) whole ∙ drop_at (take b l) (take n (drop b l)) b lb in
      ap (λ (r : List A). slice a b l ++ r) second
      ∙ sym (ap (drop a) whole ∙ drop-append-le a (take b l) (take n (drop b l)) (omega arith))

  -- what is written is what stood there
  same_written : (l : List A) (m : ℕ) → m ≤ length l → l ≡ sets l 0 (take m l)
  same_written l m h =
      let n : length (take m l) ≡ m = length-take-le m l h in
      let k : 0 + length (take m l) ≡ m = omega arith in
      sym (sets-eq (take m l) l 0 (omega arith) ∙ ap (λ (j : ℕ). take m l ++ drop j l) k ∙ take-append-drop m l)

-- ---- rows

module _ (i : Interval) where
  values_bounded : (rows : List Row) → flat_map values_in (map (with_bounds i) rows) ≡ flat_map values_in rows
  unfolding flat_map with_bounds values_in
  values_bounded [] = refl
  values_bounded (x ∷ xs) = ap (λ (l : List Float). map (λ (e : Element). e.value) x.elements ++ l) (values_bounded xs)

  columns_bounded : (rows : List Row) → map columns_in (map (with_bounds i) rows) ≡ map columns_in rows
  unfolding with_bounds columns_in
  columns_bounded [] = refl
  columns_bounded (x ∷ xs) = ap (λ (l : List (List ℕ)). map (λ (e : Element). e.column) x.elements ∷ l) (columns_bounded xs)

module _ (s : Store) {total kept : ℕ} (starts : StartsRise s.row_starts total kept) (fits : kept ≤ length s.columns) (room : kept ≤ length s.elements) where
  module _ (r : ℕ) (lt : r < total) where
    same_many : length (slice (start_of s r) (start_of s (r + 1)) s.columns) ≡ length (slice (start_of s r) (start_of s (r + 1)) s.elements)
    same_many =
        let u = start_under starts (r + 1) (omega arith) in
        length-slice (start_of s r) (start_of s (r + 1)) s.columns (omega arith) ∙ sym (length-slice (start_of s r) (start_of s (r + 1)) s.elements (omega arith))

    row_values : values_in (row_entry s r) ≡ slice (start_of s r) (start_of s (r + 1)) s.elements
    unfolding row_entry values_in columns_of_row
    row_values = values_of (slice (start_of s r) (start_of s (r + 1)) s.columns) (slice (start_of s r) (start_of s (r + 1)) s.elements) same_many

    row_columns : columns_in (row_entry s r) ≡ columns_of_row s r
    unfolding row_entry columns_in columns_of_row
    row_columns = columns_of (slice (start_of s r) (start_of s (r + 1)) s.columns) (slice (start_of s r) (start_of s (r + 1)) s.elements) same_many

  values_from : (n k : ℕ) → k + n ≤ total → flat_map values_in (entries (row_entry s) 1 k n) ≡ slice (start_of s k) (start_of s (k + n)) s.elements
  unfolding entries flat_map
  values_from zero k h = let z : k + 0 ≡ k = add-zero k in rw z (sym (slice_empty (start_of s k) s.elements))
  values_from (suc n) k h =
      let j : k + 1 + n ≡ k + suc n = omega arith in
      let a = starts.rise k (omega arith) in
      let b : start_of s (k + 1) ≤ start_of s (k + 1 + n) = starts_mono s starts fits n (k + 1) (omega arith) in
      let u = start_under starts (k + 1 + n) (omega arith) in
      ap₂ (λ (x y : List Float). x ++ y) (row_values k (omega arith)) (values_from n (k + 1) (omega arith))
      ∙ slice_seam s.elements (start_of s k) (start_of s (k + 1)) (start_of s (k + 1 + n)) a b (omega arith)
      ∙ ap (λ (m : ℕ). slice (start_of s k) (start_of s m) s.elements) j

  columns_from : (n k : ℕ) → k + n ≤ total → map columns_in (entries (row_entry s) 1 k n) ≡ entries (columns_of_row s) 1 k n
  columns_from n k h = entries_map columns_in (row_entry s) (columns_of_row s) 1 k n (λ j lt. row_columns (k + 1 * j) (omega arith))

-- the runs after the reset hold the rows with the interval for bounds
pub entered : (s : Store) → VaryingFit s.columns s.row_starts s.shape → 4096 ≤ length s.elements → (i : Interval) (lower upper : List Float)
    → BoundsWritten (map (with_bounds i) (entries (row_entry s) 1 0 (varying_count s))) s.row_lower s.row_upper lower upper
    → VaryingWritten s (map (with_bounds i) (entries (row_entry s) 1 0 (varying_count s))) lower upper s.elements
entered s fit long i lower upper w =
    let h = fit.rows.starts in
    let n : ℕ = varying_count s in
    let rows : List Row = entries (row_entry s) 1 0 n in
    let kept = fit.rows.kept in
    let room = fit.rows.columns_long in
    let under = start_under h n (omega arith) in
    let fits : get_or s.shape 7 0 ≤ length s.columns = omega arith in
    let fits' : get_or s.shape 7 0 ≤ length s.elements = omega arith in
    let flat = values_from s h fits fits' n 0 (omega arith) in
    let flat' : flat_map values_in rows ≡ take (start_of s n) s.elements = rw (zero-add, h.first) at flat in
    record {
      bounds = w;
      factors = same_written s.elements (start_of s n) (omega arith) ∙ ap (sets s.elements 0) (sym (values_bounded i rows ∙ flat'));
      columns = columns_bounded i rows ∙ columns_from s h fits fits' n 0 (omega arith);
    }

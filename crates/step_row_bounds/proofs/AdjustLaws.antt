-- Rows at the front of their runs, and one of them adjusted. Assumes nothing.
use mathlib.Core.Path.{◌≡◌, refl, sym, ap, ◌∙◌}
use Prim.Native.Nat.{ℕ, zero, suc, ◌<◌, ◌≤◌}
use native.Mathlib.Nat.{zero-add}
use native.Mathlib.Omega.{arith}
use mathlib.Core.List.{List, [], ◌∷◌, ◌++◌, map, flat_map}
use lib.ListN.{length, get_or, set, drop, replicate, length-map, length-set, get_or-map, get_or-append}
use lib.Seq.{sets, sets-eq, set-append_left, length-sets}
use lib.Ieee.{Float}
use Rattle.laws.proofs.Runs.{get_d_any}
use Rattle.pywr.specs.declared.Interval.{Interval}
use Rattle.pywr.specs.Numbers.{zero64, lesser, greater}
use Rattle.pywr.specs.Interval.{tighten}
use Rattle.pywr.specs.Programme.{Row}
use Rattle.pywr.specs.Step.{adjust, with_bounds, apply_row_bounds}
use Rattle.pywr.specs.Written.{lower_of, upper_of}
use Rattle.step_row_bounds.specs.RowBounds.{BoundsWritten, RowSet, RowTightened}

-- ---- runs

module _ {A : Type 0} where
  -- what is written stands in front of the rest
  in_front : (xs l : List A) → length xs ≤ length l → sets l 0 xs ≡ xs ++ drop (length xs) l
  in_front xs l room = sets-eq xs l 0 (omega arith) ∙ rw zero-add

  set_written : (xs l : List A) (p : ℕ) (v : A) → p < length xs → length xs ≤ length l → set (sets l 0 xs) p v ≡ sets l 0 (set xs p v)
  set_written xs l p v h room =
      let same = length-set xs p v in
      rw (in_front xs l room, in_front (set xs p v) l (omega arith), same) (set-append_left xs (drop (length xs) l) p v h)

  get_written : (xs l : List A) (p : ℕ) (d : A) → p < length xs → length xs ≤ length l → get_or (sets l 0 xs) p d ≡ get_or xs p d
  get_written xs l p d h room = rw (in_front xs l room) (get_or-append xs (drop (length xs) l) d p h)

  -- a change of what was written
  pub change_written : (xs l : List A) (p : ℕ) (d : A) (change : A → A) → p < length xs → length xs ≤ length l
      → set (sets l 0 xs) p (change (get_or (sets l 0 xs) p d)) ≡ sets l 0 (set xs p (change (get_or xs p d)))
  change_written xs l p d change h room =
      ap (λ (y : A). set (sets l 0 xs) p (change y)) (get_written xs l p d h room) ∙ set_written xs l p (change (get_or xs p d)) h room

-- ---- one row adjusted

module _ (h : Row → Row) where
  pub adjust_length : (r : ℕ) (rows : List Row) → length (adjust h r rows) ≡ length rows
  unfolding adjust
  adjust_length r [] = refl
  adjust_length zero (x ∷ xs) = refl
  adjust_length (suc r) (x ∷ xs) = ap suc (adjust_length r xs)

  map_adjusted : {A : Type 0} (f : Row → A) (r : ℕ) (rows : List Row) (d : Row) → map f (adjust h r rows) ≡ set (map f rows) r (f (h (get_or rows r d)))
  unfolding adjust
  map_adjusted f r [] d = refl
  map_adjusted f zero (x ∷ xs) d = refl
  map_adjusted {A} f (suc r) (x ∷ xs) d = ap (λ (l : List A). f x ∷ l) (map_adjusted f r xs d)

  -- what no row's adjustment changes
  pub map_kept : {A : Type 0} (f : Row → A) → ((x : Row) → f (h x) ≡ f x) → (r : ℕ) (rows : List Row) → map f (adjust h r rows) ≡ map f rows
  unfolding adjust
  map_kept f e r [] = refl
  map_kept {A} f e zero (x ∷ xs) = ap (λ (a : A). a ∷ map f xs) (e x)
  map_kept {A} f e (suc r) (x ∷ xs) = ap (λ (l : List A). f x ∷ l) (map_kept f e r xs)

  pub flat_kept : {A : Type 0} (f : Row → List A) → ((x : Row) → f (h x) ≡ f x) → (r : ℕ) (rows : List Row) → flat_map f (adjust h r rows) ≡ flat_map f rows
  unfolding adjust flat_map
  flat_kept f e r [] = refl
  flat_kept {A} f e zero (x ∷ xs) = ap (λ (l : List A). l ++ flat_map f xs) (e x)
  flat_kept {A} f e (suc r) (x ∷ xs) = ap (λ (l : List A). f x ++ l) (flat_kept f e r xs)

-- ---- bounds

-- a row for what stands past the end
no_row : Row
no_row = record { lower = zero64; upper = zero64; elements = [] }

-- a bound changed in its run is the bound of the row changed
module _ (f : Row → Float) (h : Row → Row) (change : Float → Float) (e : (row : Row) → f (h row) ≡ change (f row)) where
  bound_changed : (rows : List Row) (l : List Float) (r : ℕ) → r < length rows → length rows ≤ length l
      → set (sets l 0 (map f rows)) r (change (get_or (sets l 0 (map f rows)) r zero64)) ≡ sets l 0 (map f (adjust h r rows))
  bound_changed rows l r lt room =
      let n = length-map rows f in
      let m : r < length (map f rows) = omega arith in
      let here : get_or (map f rows) r zero64 ≡ f (get_or rows r no_row) = get_d_any (map f rows) r zero64 (f no_row) m ∙ get_or-map f rows r no_row in
      change_written (map f rows) l r zero64 change m (omega arith)
      ∙ ap (λ (y : Float). sets l 0 (set (map f rows) r y)) (ap change here ∙ sym (e (get_or rows r no_row)))
      ∙ ap (sets l 0) (sym (map_adjusted h f r rows no_row))

lower_set : (i : Interval) (row : Row) → lower_of (with_bounds i row) ≡ i.lower
unfolding lower_of with_bounds
lower_set i row = refl

upper_set : (i : Interval) (row : Row) → upper_of (with_bounds i row) ≡ i.upper
unfolding upper_of with_bounds
upper_set i row = refl

lower_tightened : (by : Interval) (row : Row) → lower_of (apply_row_bounds by row) ≡ greater (lower_of row) by.lower
unfolding lower_of apply_row_bounds with_bounds tighten
lower_tightened by row = refl

upper_tightened : (by : Interval) (row : Row) → upper_of (apply_row_bounds by row) ≡ lesser (upper_of row) by.upper
unfolding upper_of apply_row_bounds with_bounds tighten
upper_tightened by row = refl

written_length : (l l' xs : List Float) → l' ≡ sets l 0 xs → length l' ≡ length l
written_length l l' xs e = ap length e ∙ length-sets l 0 xs

module _ (rows : List Row) (lower upper lower' upper' lower'' upper'' : List Float) where
  -- a row tightened in its runs is the row tightened
  pub tightened : (r : ℕ) (by : Interval) → r < length rows → length rows ≤ length lower' → length rows ≤ length upper'
      → BoundsWritten rows lower upper lower' upper' → RowTightened r by lower' upper' lower'' upper''
      → BoundsWritten (adjust (apply_row_bounds by) r rows) lower upper lower'' upper''
  tightened r by lt rl ru w t =
      let nl = written_length lower lower' (map lower_of rows) w.lowers in
      let nu = written_length upper upper' (map upper_of rows) w.uppers in
      record {
        lowers = t.lowers ∙ ap (λ (l : List Float). set l r (greater (get_or l r zero64) by.lower)) w.lowers
            ∙ bound_changed lower_of (apply_row_bounds by) (λ held. greater held by.lower) (lower_tightened by) rows lower r lt (omega arith);
        uppers = t.uppers ∙ ap (λ (l : List Float). set l r (lesser (get_or l r zero64) by.upper)) w.uppers
            ∙ bound_changed upper_of (apply_row_bounds by) (λ held. lesser held by.upper) (upper_tightened by) rows upper r lt (omega arith);
      }

  -- a row's bounds set in their runs are those of the row with the interval
  pub bounds_set : (r : ℕ) (i : Interval) → r < length rows → length rows ≤ length lower' → length rows ≤ length upper'
      → BoundsWritten rows lower upper lower' upper' → RowSet r i lower' upper' lower'' upper''
      → BoundsWritten (adjust (with_bounds i) r rows) lower upper lower'' upper''
  bounds_set r i lt rl ru w t =
      let nl = written_length lower lower' (map lower_of rows) w.lowers in
      let nu = written_length upper upper' (map upper_of rows) w.uppers in
      record {
        lowers = t.lowers ∙ ap (λ (l : List Float). set l r i.lower) w.lowers ∙ bound_changed lower_of (with_bounds i) (λ held. i.lower) (lower_set i) rows lower r lt (omega arith);
        uppers = t.uppers ∙ ap (λ (l : List Float). set l r i.upper) w.uppers ∙ bound_changed upper_of (with_bounds i) (λ held. i.upper) (upper_set i) rows upper r lt (omega arith);
      }

-- ---- rows reset to one interval

module _ (i : Interval) where
  lowers_reset : (rows : List Row) → map lower_of (map (with_bounds i) rows) ≡ replicate (length rows) i.lower
  unfolding lower_of with_bounds
  lowers_reset [] = refl
  lowers_reset (x ∷ xs) = ap (λ (l : List Float). i.lower ∷ l) (lowers_reset xs)

  uppers_reset : (rows : List Row) → map upper_of (map (with_bounds i) rows) ≡ replicate (length rows) i.upper
  unfolding upper_of with_bounds
  uppers_reset [] = refl
  uppers_reset (x ∷ xs) = ap (λ (l : List Float). i.upper ∷ l) (uppers_reset xs)

  pub reset : (rows : List Row) (n : ℕ) (lower upper lower' upper' : List Float) → length rows ≡ n
      → lower' ≡ sets lower 0 (replicate n i.lower) → upper' ≡ sets upper 0 (replicate n i.upper)
      → BoundsWritten (map (with_bounds i) rows) lower upper lower' upper'
  reset rows n lower upper lower' upper' e el eu =
      record {
        lowers = el ∙ ap (λ (k : ℕ). sets lower 0 (replicate k i.lower)) (sym e) ∙ ap (sets lower 0) (sym (lowers_reset rows));
        uppers = eu ∙ ap (λ (k : ℕ). sets upper 0 (replicate k i.upper)) (sym e) ∙ ap (sets upper 0) (sym (uppers_reset rows));
      }

-- Columns rise in every row exactly if no column falls but at the start of a row: the falls of the whole run are as many as those at the starts.
-- Assumes nothing.
use mathlib.Core.Path.{◌≡◌, refl, sym, ◌∙◌, ap, ap₂}
use Prim.Native.Nat.{ℕ, zero, suc, ◌+◌, ◌-◌, ◌≤◌, ◌<◌}
use native.Mathlib.Nat.{add-zero, zero-add, eq-or-lt_of_le, le_refl, sub-zero}
use native.Mathlib.Numerals.{add-one}
use native.Mathlib.Omega.{arith}
use mathlib.Core.Logic.{⊎_elim}
use mathlib.Core.Bool.{Bool, true, false, cond, ◌&&◌, and-false, and_assoc}
use mathlib.Core.List.{List}
use lib.ListN.{length, get_or}
use lib.Seq.{slice, slice_empty, slice-cons}
use lib.Dec.{ltb, eqb, leb-zero, eqb-suc-zero, eqb_refl}
use borrow.Author.Tests.{lt-ltb, le-ltb, ne_eqb}
use Rattle.laws.proofs.Tests.{to_true}
use Rattle.pywr.specs.Misshapen.{columns_rise, all_entries}
use Rattle.store_rows.specs.Falls.{fall, fall_at, sum_from, start_fall, row_fall}
use Rattle.store_rows.specs.Starts.{StartsRise}
use Rattle.store_rows.proofs.Starts.{start_under}
use Rattle.store_rows.proofs.Sums.{sum_append, all_append}

-- ---- sums that are 0

zero_sum : (m n : ℕ) → eqb (m + n) 0 ≡ (eqb m 0 && eqb n 0)
zero_sum zero n = rw (zero-add n)
zero_sum (suc m) n = let e : suc m + n ≡ suc (m + n) = omega arith in rw (e, eqb-suc-zero (m + n), eqb-suc-zero m)

same_sum : (m n : ℕ) → eqb (m + n) m ≡ eqb n 0
same_sum m zero = rw add-zero (to_true (eqb m m) (eqb_refl m))
same_sum m (suc n) = rw eqb-suc-zero (ne_eqb (m + suc n) m (λ e. omega arith))

swap : (a b c d : Bool) → (a && b && (c && d)) ≡ (a && c && (b && d))
swap true true c d = refl
swap true false true d = refl
swap true false false d = refl
swap false b c d = refl

module _ (count : ℕ) (columns : List ℕ) where
  abbrev under : ℕ → Bool
  under at = ltb (get_or columns at 0) count

  abbrev no_falls : ℕ → ℕ → Bool
  no_falls at n = all_entries under 1 at n && eqb (sum_from (fall_at columns) at n) 0

  -- ---- one row

  one_column_lem : (t u a : Bool) (n : ℕ) → (t && u && (a && eqb n 0)) ≡ (u && a && eqb (cond t 0 1 + n) 0)
  one_column_lem true u a n = rw (zero-add n) (sym (and_assoc u a (eqb n 0)))
  one_column_lem false u a n = let e : 1 + n ≡ suc n = omega arith in rw (e, eqb-suc-zero) (sym (and-false (u && a)))

  -- behind the column at b
  rise_behind : (m b e : ℕ) → suc b + m ≡ e → e ≤ length columns → columns_rise count (get_or columns b 0 + 1) (slice (suc b) e columns) ≡ no_falls (suc b) m
  unfolding columns_rise all_entries sum_from fall_at fall
  rise_behind zero b e q le = let p : e ≡ suc b = omega arith in rw (p, slice_empty)
  rise_behind (suc m) b e q le =
      rw (slice-cons (suc b) e columns 0 (omega arith) le, rise_behind m (suc b) e (omega arith) le, add-one (get_or columns b 0), add-one (suc b))
      (one_column_lem (ltb (get_or columns b 0) (get_or columns (suc b) 0)) (under (suc b)) (all_entries under 1 (suc (suc b)) m) (sum_from (fall_at columns) (suc (suc b)) m))

  -- the falls of a row that are not at its start
  abbrev pub inside : ℕ → ℕ → ℕ
  inside start end = sum_from (fall_at columns) (start + 1) (end - (start + 1))

  module _ (start end : ℕ) (le : start ≤ end) where
    row_rises_lem : end ≤ length columns → columns_rise count 0 (slice start end columns) ≡ (all_entries under 1 start (end - start) && eqb (inside start end) 0)
    unfolding columns_rise all_entries sum_from
    row_rises_lem fits =
        ⊎_elim
        (λ (q : start ≡ end).
        let z : end - end ≡ 0 = omega arith in
        let y : end - (end + 1) ≡ 0 = omega arith in
        rw (q, slice_empty, z, y))
        (λ (q : start < end).
        let m : ℕ = end - suc start in
        let p : end - start ≡ suc m = omega arith in
        let o : suc start + m ≡ end = omega arith in
        rw (slice-cons start end columns 0 q fits, rise_behind m start end o fits, p, leb-zero, add-one start)
        (sym (and_assoc (under start) (all_entries under 1 (suc start) m) (eqb (sum_from (fall_at columns) (suc start) m) 0))))
        (eq-or-lt_of_le le)

    row_falls : sum_from (fall_at columns) start (end - start) ≡ start_fall columns start end + inside start end
    unfolding sum_from start_fall
    row_falls =
        ⊎_elim
        (λ (q : start ≡ end).
        let z : end - end ≡ 0 = omega arith in
        let y : end - (end + 1) ≡ 0 = omega arith in
        rw (q, z, y, le-ltb end end (le_refl end)))
        (λ (q : start < end).
        let p : end - start ≡ suc (end - (start + 1)) = omega arith in
        rw (p, lt-ltb start end q))
        (eq-or-lt_of_le le)

  -- ---- all rows

  module _ {starts : List ℕ} {rows kept : ℕ} (h : StartsRise starts rows kept) (fits : kept ≤ length columns) where
    abbrev start : ℕ → ℕ
    start r = get_or starts r 0

    abbrev inside_row : ℕ → ℕ
    inside_row r = inside (start r) (start (r + 1))

    abbrev row_rises : ℕ → Bool
    row_rises r = columns_rise count 0 (slice (start r) (start (r + 1)) columns)

    past : (r : ℕ) → r ≡ rows → kept - start r ≡ 0
    past r e = rw e (omega (arith, h.last))

    module _ (r k : ℕ) (e : r + suc k ≡ rows) where
      here : start r ≤ start (r + 1)
      here = h.rise r (omega arith)

      next : start (r + 1) ≤ kept
      next = start_under h (r + 1) (omega arith)

      parts : kept - start r ≡ (start (r + 1) - start r) + (kept - start (r + 1))
      parts = omega (arith, here, next)

      seam : start r + (start (r + 1) - start r) ≡ start (r + 1)
      seam = omega (arith, here)

    rows_rise : (k r : ℕ) → r + k ≡ rows → all_entries row_rises 1 r k ≡ (all_entries under 1 (start r) (kept - start r) && eqb (sum_from inside_row r k) 0)
    unfolding all_entries sum_from
    rows_rise zero r e = rw (past r (omega arith))
    rows_rise (suc k) r e =
        let m : ℕ = start (r + 1) - start r in
        let n : ℕ = kept - start (r + 1) in
        let ih = rows_rise k (r + 1) (omega arith) in
        ap₂ (λ (a b : Bool). a && b) (row_rises_lem (start r) (start (r + 1)) (here r k e) (omega (arith, next r k e))) ih
        ∙ swap (all_entries under 1 (start r) m) (eqb (inside_row r) 0) (all_entries under 1 (start (r + 1)) n) (eqb (sum_from inside_row (r + 1) k) 0)
        ∙ ap₂ (λ (a b : Bool). a && b)
        (ap (λ (i : ℕ). all_entries under 1 (start r) m && all_entries under 1 i n) (sym (seam r k e)) ∙ sym (all_append under (start r) m n) ∙ ap (all_entries under 1 (start r)) (sym (parts r k e)))
        (sym (zero_sum (inside_row r) (sum_from inside_row (r + 1) k)))

    rows_fall : (k r : ℕ) → r + k ≡ rows → sum_from (fall_at columns) (start r) (kept - start r) ≡ sum_from (row_fall columns starts) r k + sum_from inside_row r k
    unfolding sum_from row_fall
    rows_fall zero r e = rw (past r (omega arith))
    rows_fall (suc k) r e =
        let m : ℕ = start (r + 1) - start r in
        let n : ℕ = kept - start (r + 1) in
        let ih = rows_fall k (r + 1) (omega arith) in
        let f = row_falls (start r) (start (r + 1)) (here r k e) in
        ap (sum_from (fall_at columns) (start r)) (parts r k e)
        ∙ sum_append (fall_at columns) (start r) m n
        ∙ rw (seam r k e) (omega (arith, f, ih))

    pub rising : all_entries row_rises 1 0 rows ≡ (all_entries under 1 0 kept && eqb (sum_from (fall_at columns) 0 kept) (sum_from (row_fall columns starts) 0 rows))
    rising =
        let a = rows_rise rows 0 (zero-add rows) in
        let b = rows_fall rows 0 (zero-add rows) in
        let j : ℕ = sum_from (row_fall columns starts) 0 rows in
        let i : ℕ = sum_from inside_row 0 rows in
        let b' : sum_from (fall_at columns) 0 kept ≡ j + i = rw (h.first, sub-zero) at b in
        let a' : all_entries row_rises 1 0 rows ≡ (all_entries under 1 0 kept && eqb i 0) = rw (h.first, sub-zero) at a in
        a' ∙ rw (b', same_sum j i)

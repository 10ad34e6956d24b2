-- The elements written row by row, each row's into the tail of the run from its start on. Assumes nothing.
use mathlib.Core.Path.{◌≡◌, sym, ◌∙◌, ap}
use Prim.Native.Nat.{ℕ, suc, zero, ◌+◌, ◌-◌, ◌<◌, ◌≤◌}
use native.Mathlib.Nat.{add-zero}
use native.Mathlib.Omega.{arith}
use mathlib.Core.List.{List, ◌++◌}
use lib.ListN.{length, get_or, take, drop}
use lib.Seq.{sets, take-add, drop-drop}
use lib.Ieee.{Float}
use borrow.Rule.Slice.PartMut.{mid_of, put_mid, mid_len, same_len_mid}
use Rattle.layout.specs.Layout.{numbers_length}
use Rattle.laws.specs.Part.{part}
use Rattle.laws.proofs.Sets.{length_part}
use Rattle.laws.proofs.Tails.{tail_written}
use Rattle.build_write.specs.declared.Sizes.{Sizes}
use Rattle.build_write.specs.Lp.{Few, RowStarts}
use Rattle.build_write.proofs.Filled.{sets_append}

module _ {A : Type 0} where
  -- a part written at the front, and the part behind it
  part_then : (old l : List A) (at n m : ℕ) → at + n ≤ length l → sets (sets old 0 (part at n l)) n (part (at + n) m l) ≡ sets old 0 (part at (n + m) l)
  part_then old l at n m h =
      let e : n ≡ 0 + length (part at n l) = omega (arith, length_part l at n h) in
      ap (λ (k : ℕ). sets (sets old 0 (part at n l)) k (part (at + n) m l)) e
      ∙ sym (sets_append old (part at n l) (part (at + n) m l) 0)
      ∙ ap (sets old 0) (sym (take-add n m (drop at l) ∙ ap (λ (k : List A). part at n l ++ take m k) (drop-drop n at l)))

-- the elements from `start` up to `end` stand in `numbers` from 2,048 on, and have room in the run from `start` on, or from any place before
pub record RowFits (numbers run : List Float) (start end : ℕ) : Type 0 where
  pub rises : 2048 + start ≤ 2048 + end
  pub held : 2048 + end ≤ length numbers
  pub within : start ≤ length run
  pub room : (a : ℕ) → a ≤ start → length (mid_of (2048 + start) (2048 + end - (2048 + start)) numbers) ≤ length (mid_of a (length run - a) run)

-- the first r rows are written
pub record Written (rows : ℕ) (words : List ℕ) (numbers old new : List Float) (r : ℕ) : Type 0 where
  pub few : r ≤ rows
  pub run : new ≡ sets old 0 (part 2048 (get_or words (4096 + r) 0) numbers)
  pub long : length new ≡ length old

module _ (z : Sizes) (words : List ℕ) (s : RowStarts z words) where
  -- row r + 1's start, as the code reads it
  next_start : (r : ℕ) → get_or words (4096 + (r + 1)) 0 ≡ get_or words (4096 + r + 1) 0
  next_start r = let place : 4096 + (r + 1) ≡ 4096 + r + 1 = omega arith in ap (λ (j : ℕ). get_or words j 0) place

  last_start : (r : ℕ) → r ≡ z.rows → get_or words (4096 + r) 0 ≡ z.elements
  last_start r e = ap (λ (j : ℕ). get_or words (4096 + j) 0) e ∙ s.last

  -- no row starts over the element count
  start_most : (k r : ℕ) → k + r ≡ z.rows → get_or words (4096 + r) 0 ≤ z.elements
  start_most zero r e = omega (arith, last_start r (omega arith))
  start_most (suc k) r e = omega (arith, next_start r, start_most k (r + 1) (omega arith), s.rise r (omega arith))

  -- the row whose start and end were read
  pub row_fits : (numbers old new : List Float) (r start end : ℕ) → Few z → numbers_length ≤ length numbers → 4096 ≤ length old → r < z.rows
      → start ≡ get_or words (4096 + r) 0 → end ≡ get_or words (4096 + r + 1) 0 → Written z.rows words numbers old new r → RowFits numbers new start end
  row_fits numbers old new r start end few long_numbers long_old lt es ee w =
      let rises : start ≤ end = omega (arith, s.rise r lt) in
      let most : end ≤ 4096 = omega (arith, next_start r, start_most (z.rows - (r + 1)) (r + 1) (omega arith), few.elements) in
      let long : 4096 ≤ length new = omega (arith, w.long) in
      record {
        rises = omega arith;
        held = omega arith;
        within = omega arith;
        room = λ a h. omega (arith, mid_len (2048 + start) (2048 + end) numbers (omega arith), mid_len a (length new) new (omega arith));
      }

  module _ (numbers old : List Float) where
    pub more : (new ys : List Float) (r start end : ℕ) → Few z → numbers_length ≤ length numbers → 4096 ≤ length old → r < z.rows
        → start ≡ get_or words (4096 + r) 0 → end ≡ get_or words (4096 + r + 1) 0
        → ys ≡ sets (mid_of start (length new - start) new) 0 (mid_of (2048 + start) (2048 + end - (2048 + start)) numbers)
        → length ys ≡ length (mid_of start (length new - start) new)
        → Written z.rows words numbers old new r → Written z.rows words numbers old (put_mid start (length new - start) new ys) (r + 1)
    more new ys r start end few long_numbers long_old lt es ee ey same w =
        let fits = row_fits numbers old new r start end few long_numbers long_old lt es ee w in
        let n : ℕ = 2048 + end - (2048 + start) in
        let row : List Float = part (2048 + start) n numbers in
        let sum : start + n ≡ end = omega (arith, fits.rises) in
        record {
          few = omega arith;
          run =
              tail_written start new 0 start ys row (add-zero start) ey
              ∙ ap (λ (l : List Float). sets l start row) (w.run ∙ ap (λ (k : ℕ). sets old 0 (part 2048 k numbers)) (sym es))
              ∙ part_then old numbers 2048 start n (omega (arith, fits.rises, fits.held))
              ∙ ap (λ (k : ℕ). sets old 0 (part 2048 k numbers)) (sum ∙ ee ∙ sym (next_start r));
          long = same_len_mid start (length new - start) new ys same ∙ w.long;
        }

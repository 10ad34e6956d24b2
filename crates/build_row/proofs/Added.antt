-- What add_element promises, from the place that the search found: the column stands there, or it is put there. Assumes nothing.
use Prim.Native.Nat.{ℕ, ◌+◌, ◌<◌, ◌≤◌}
use mathlib.Core.Path.{◌≡◌, refl, sym, ◌∙◌}
use mathlib.Core.Bool.{true}
use mathlib.Core.List.{List}
use native.Mathlib.Omega.{arith}
use lib.ListN.{length, get_or, take, set}
use lib.Seq.{length-take-le, get_or-take, take-set-lt}
use lib.Ieee.{Float, nan, binary64, add, of_bits}
use Rattle.pywr.specs.Numbers.{zero64}
use Rattle.pywr.specs.Misshapen.{columns_rise}
use Rattle.build_row.specs.RowBuilder.{gathered, Rising, Stands, Belongs, insert_at, ElementAdded}
use Rattle.build_row.proofs.Insert.{placed, length_placed, insert_front}
use Rattle.build_row.proofs.Rise.{rise_count, rise_placed}
use Rattle.build_row.proofs.Row.{row_placed, row_added}

-- the literal 0.0
zero_bits : of_bits binary64 0 ≡ zero64
unfolding zero64 of_bits
zero_bits = refl

module _ (columns : List ℕ) (n c p : ℕ) (long : length columns ≡ 640) (few : n ≤ 640) (small : c < 640) (rising : Rising columns n) where
  abbrev cs : List ℕ
  cs = take n columns

  count : length cs ≡ n
  count = length-take-le n columns (omega arith)

  still_rising : Belongs cs c p → columns_rise 640 0 (placed p c cs) ≡ true
  still_rising place = rise_placed 640 c 0 cs p (omega arith) small rising place.within place.under place.over

  -- a column that is not in the row leaves a place free
  pub place_free : Belongs cs c p → (p ≤ n) × (n < 640)
  place_free place =
      (omega (arith, place.within, count), omega (arith, rise_count 640 0 (placed p c cs) (omega arith) (still_rising place), length_placed p c cs place.within, count))

  module _ (elements : List Float) (x : Float) (room : 640 ≤ length elements) where
    abbrev xs : List Float
    xs = take n elements

    same_count : length cs ≡ length xs
    same_count = count ∙ sym (length-take-le n elements (omega arith))

    pub element_added : Stands cs c p → ElementAdded columns elements n c x columns (set elements p (add binary64 (get_or elements p nan) x)) n
    unfolding gathered
    element_added place =
        let h : p < n = omega (arith, place.within, count) in
        record {
          row =
              rw (take-set-lt n elements p (add binary64 (get_or elements p nan) x) h, ← get_or-take n elements p nan h)
              (row_added c x cs xs p same_count place.within place.under place.is);
          rising = rising;
          few = few;
        }

    pub element_inserted : Belongs cs c p → ElementAdded columns elements n c x (insert_at n p c columns) (insert_at n p (add binary64 (of_bits binary64 0) x) elements) (n + 1)
    unfolding gathered
    element_inserted place =
        let free = place_free place in
        let w = free.0 in
        let l = free.1 in
        let front = insert_front columns n p c w (omega arith) in
        record {
          row =
              rw (front, insert_front elements n p (add binary64 (of_bits binary64 0) x) w (omega arith), zero_bits)
              (row_placed c x cs xs p same_count place.within place.under place.over);
          rising = rw front (still_rising place);
          few = omega arith;
        }

-- A row whose elements were gathered in the lent part of the numbers, from the next row's elements on, becomes the last row. Assumes nothing.
use mathlib.Core.Path.{◌≡◌, sym, ap, ◌∙◌}
use Prim.Native.Nat.{ℕ, ◌+◌, ◌-◌, ◌≤◌}
use native.Mathlib.Omega.{arith}
use Rattle.std.specs.Prelude.{Result, Ok}
use mathlib.Core.List.{List, [], ◌∷◌}
use lib.ListN.{length, drop}
use lib.Ieee.{Float}
use borrow.Rule.Slice.PartMut.{mid_of, put_mid, mid_len, same_len_mid}
use Rattle.layout.specs.Layout.{numbers_length}
use Rattle.pywr.specs.Rows.{Element}
use Rattle.build_row.specs.RowBuilder.{gathered}
use Rattle.build_append.specs.LpBuilder.{Holding}
use Rattle.build_append.specs.declared.Filled.{Filled}
use Rattle.build_exclusive_sets.specs.declared.ProgrammeFull.{ProgrammeFull}
use Rattle.build_append.proofs.RowsHeldLaws.{held_few, held_lent, lent_written}
use Rattle.build_append.proofs.AddingRows.{Adds, adds_none}

-- there is room for a row of 640 elements
pub lent_room : (words : List ℕ) (numbers : List Float) (f : Filled) → Holding words numbers f → numbers_length ≤ length numbers
    → (2048 + f.elements ≤ length numbers) × (640 ≤ length (mid_of (2048 + f.elements) (length numbers - (2048 + f.elements)) numbers))
lent_room words numbers f h long =
    let few = held_few h.rows words numbers f h.held in
    (omega arith, omega (arith, mid_len (2048 + f.elements) (length numbers) numbers (omega arith)))

pub lent_long : (numbers ys : List Float) (a : ℕ) → length ys ≡ length (mid_of a (length numbers - a) numbers) → numbers_length ≤ length numbers
    → numbers_length ≤ length (put_mid a (length numbers - a) numbers ys)
lent_long numbers ys a e h = omega (arith, same_len_mid a (length numbers - a) numbers ys e)

module _ (words : List ℕ) (numbers ys : List Float) (f : Filled) (a : ℕ) (e : a ≡ 2048 + f.elements) (ha : a ≤ length numbers) where
  abbrev lent : List Float
  lent = put_mid a (length numbers - a) numbers ys

  -- nothing of it becomes a row
  pub lent_none : Adds [] words numbers f (Ok f) words lent
  lent_none rows h = adds_none words lent f rows (held_lent numbers ys a ha rows words f e h)

  pub lent_row : (columns : List ℕ) (n : ℕ) (lower upper lower' upper' : Float) (elements' : List Element) (r : Result Filled ProgrammeFull) (words' : List ℕ) (numbers' : List Float)
      → lower ≡ lower' → upper ≡ upper' → gathered columns ys n ≡ elements'
      → Adds (record { lower = lower; upper = upper; elements = gathered columns (drop (2048 + f.elements) lent) n } ∷ []) words lent f r words' numbers'
      → Adds (record { lower = lower'; upper = upper'; elements = elements' } ∷ []) words numbers f r words' numbers'
  lent_row columns n lower upper lower' upper' elements' r words' numbers' el eu ee added rows h =
      let q : gathered columns (drop (2048 + f.elements) lent) n ≡ elements' =
      ap (λ (b : ℕ). gathered columns (drop b lent) n) (sym e) ∙ ap (λ (l : List Float). gathered columns l n) (lent_written numbers ys a ha) ∙ ee in
      rw (q, el, eu) at (added rows (held_lent numbers ys a ha rows words f e h))

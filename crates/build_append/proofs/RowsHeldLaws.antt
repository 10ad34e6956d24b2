-- What the work runs hold: no rows yet, what stays where something else is written, and the ceilings. Assumes nothing.
use mathlib.Core.Path.{◌≡◌, refl, ◌∙◌}
use Prim.Native.Nat.{ℕ, ◌+◌, ◌-◌, ◌<◌, ◌≤◌}
use native.Mathlib.Omega.{arith}
use mathlib.Core.Bool.{Bool, true, false}
use mathlib.Core.List.{List, [], ◌∷◌, ◌++◌, flat_map}
use lib.ListN.{length, take, drop, set, length-append}
use lib.Seq.{take-set-le}
use lib.Dec.{leb}
use lib.Ieee.{Float}
use borrow.Author.Tests.{leb-true, le-leb}
use borrow.Rule.Slice.PartMut.{put_mid, take_put}
use Rattle.layout.specs.Layout.{shape_made_at}
use Rattle.laws.proofs.Sets.{part_same}
use Rattle.laws.proofs.Tails.{tail_back}
use Rattle.pywr.specs.Programme.{Row}
use Rattle.pywr.specs.Build.{element_count}
use Rattle.pywr.specs.Written.{starts_from}
use Rattle.pywr.proofs.FitLaws.{elements_append}
use Rattle.build_append.specs.LpBuilder.{RowsHeld, within_ceilings}
use Rattle.build_append.specs.declared.Filled.{Filled}
use Rattle.build_append.proofs.RowLaws.{part_agrees, both_true}

-- no rows: the first start is 0
pub held_none : (words : List ℕ) (numbers : List Float) → 4096 < length words → RowsHeld [] (set words 4096 0) numbers (record { rows = 0; elements = 0 })
unfolding element_count starts_from flat_map
held_none words numbers h =
    record {
      row_count = refl;
      elements_count = refl;
      few_rows = omega arith;
      few_elements = omega arith;
      columns = refl;
      starts = part_same words (0 ∷ []) 4096 1 refl (omega arith);
      lowers = refl;
      uppers = refl;
      elements = refl;
    }

pub held_few : (rows : List Row) (words : List ℕ) (numbers : List Float) (f : Filled) → RowsHeld rows words numbers f → (f.rows ≤ 1024) × (f.elements ≤ 4096)
held_few rows words numbers f h = (omega (arith, h.row_count, h.few_rows), omega (arith, h.elements_count, h.few_elements))

-- ---- what stays

-- the rows stand in the words before 5,121 and in the numbers before the next row's elements
pub held_agrees : (rows : List Row) (words words' : List ℕ) (numbers numbers' : List Float) (f : Filled) → RowsHeld rows words numbers f
    → take shape_made_at words' ≡ take shape_made_at words → take (2048 + f.elements) numbers' ≡ take (2048 + f.elements) numbers → RowsHeld rows words' numbers' f
held_agrees rows words words' numbers numbers' f h ew en =
    let end : ℕ = 2048 + f.elements in
    record {
      row_count = h.row_count;
      elements_count = h.elements_count;
      few_rows = h.few_rows;
      few_elements = h.few_elements;
      columns = part_agrees 0 (element_count rows) shape_made_at words words' (omega arith) ew ∙ h.columns;
      starts = part_agrees 4096 (length rows + 1) shape_made_at words words' (omega arith) ew ∙ h.starts;
      lowers = part_agrees 0 (length rows) end numbers numbers' (omega arith) en ∙ h.lowers;
      uppers = part_agrees 1024 (length rows) end numbers numbers' (omega arith) en ∙ h.uppers;
      elements = part_agrees 2048 (element_count rows) end numbers numbers' (omega arith) en ∙ h.elements;
    }

pub held_words : (rows : List Row) (words : List ℕ) (numbers : List Float) (f : Filled) (i v : ℕ) → shape_made_at ≤ i → RowsHeld rows words numbers f → RowsHeld rows (set words i v) numbers f
held_words rows words numbers f i v hi h = held_agrees rows words (set words i v) numbers numbers f h (take-set-le shape_made_at words i v hi) refl

-- the part of numbers from the next row's elements on was lent and written
module _ (numbers ys : List Float) (a : ℕ) (ha : a ≤ length numbers) where
  pub held_lent : (rows : List Row) (words : List ℕ) (f : Filled) → a ≡ 2048 + f.elements → RowsHeld rows words numbers f
      → RowsHeld rows words (put_mid a (length numbers - a) numbers ys) f
  held_lent rows words f e h =
      held_agrees rows words words numbers (put_mid a (length numbers - a) numbers ys) f h refl (rw (← e) (take_put a (length numbers - a) numbers ys ha))

  pub lent_written : drop a (put_mid a (length numbers - a) numbers ys) ≡ ys
  lent_written = tail_back a numbers ys ha

-- ---- the ceilings

within_true : (rows : List Row) → within_ceilings rows ≡ true → (length rows ≤ 1024) × (element_count rows ≤ 4096)
unfolding within_ceilings
within_true rows e = let t = both_true (leb (length rows) 1024) (leb (element_count rows) 4096) e in (leb-true (length rows) 1024 t.0, leb-true (element_count rows) 4096 t.1)

within : (rows : List Row) → length rows ≤ 1024 → element_count rows ≤ 4096 → within_ceilings rows ≡ true
unfolding within_ceilings
within rows hr he = rw (le-leb (length rows) 1024 hr, le-leb (element_count rows) 4096 he)

pub held_within : (rows : List Row) (words : List ℕ) (numbers : List Float) (f : Filled) → RowsHeld rows words numbers f → within_ceilings rows ≡ true
held_within rows words numbers f h = within rows h.few_rows h.few_elements

not_both : (b : Bool) → (b ≡ true → ⊥) → b ≡ false
not_both true h = absurd (h refl)
not_both false h = refl

pub over_rows : (rows : List Row) → 1024 < length rows → within_ceilings rows ≡ false
over_rows rows h = not_both (within_ceilings rows) (λ e. let t = within_true rows e in omega arith)

pub over_elements : (rows : List Row) → 4096 < element_count rows → within_ceilings rows ≡ false
over_elements rows h = not_both (within_ceilings rows) (λ e. let t = within_true rows e in omega arith)

-- rows over the ceilings stay over with more
pub over_more : (rows more : List Row) → within_ceilings rows ≡ false → within_ceilings (rows ++ more) ≡ false
over_more rows more h =
    not_both (within_ceilings (rows ++ more))
    (λ e.
    let t = within_true (rows ++ more) e in
    let k = within rows (omega (arith, length-append rows more)) (omega (arith, elements_append rows more)) in
    let z : ◌≡◌ {A = ℕ} 0 1 = cc in
    omega arith)

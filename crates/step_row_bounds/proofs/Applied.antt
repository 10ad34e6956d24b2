-- The loop that applies intervals to the rows of a table. Assumes nothing.
use mathlib.Core.Path.{◌≡◌, refl, ◌∙◌}
use Prim.Native.Nat.{ℕ, suc, ◌+◌, ◌*◌, ◌-◌, ◌<◌, ◌≤◌}
use native.Mathlib.Nat.{add-zero, add_assoc, mul-zero, mul-add, mul-one, mul-le-mul_left, sub-zero, sub-eq-zero_of_le}
use native.Mathlib.Omega.{arith}
use mathlib.Core.List.{List}
use lib.ListN.{length, get_or}
use lib.Ieee.{Float}
use Rattle.layout.specs.Layout.{shape_length}
use Rattle.pywr.specs.declared.Interval.{Interval}
use Rattle.pywr.specs.Programme.{Row}
use Rattle.pywr.specs.Store.{entries}
use Rattle.pywr.specs.Step.{adjust, apply_row_bounds, apply_intervals}
use Rattle.step_work.specs.WorkRun.{held_at, held_from}
use Rattle.step_row_bounds.specs.RowBounds.{BoundsWritten, RowTightened, RowTable}
use Rattle.step_row_bounds.proofs.AdjustLaws.{adjust_length, tightened}

module _ {shape : List ℕ} {table words count : ℕ} (t : RowTable shape table words count) where
  -- the entry at i, and the row that it names
  pub entry_within : (i : ℕ) → i < count → table + words * i + words ≤ shape_length
  entry_within i lt =
      let m : words * (i + 1) ≤ words * count = mul-le-mul_left words (omega arith) in
      let q : words * (i + 1) ≡ words * i + words = rw (mul-add, mul-one) in
      omega (arith, t.within)

  pub entry_row : (i : ℕ) → i < count → get_or shape (table + words * i) 0 < get_or shape 5 0
  entry_row i lt = t.rows i lt

module _ (shape : List ℕ) (work : List Float) (words : ℕ) where
  -- the rest of the table, and of the intervals
  abbrev pub applied : ℕ → ℕ → ℕ → List Row → List Row
  applied at first count rows = apply_intervals (entries (λ a. get_or shape a 0) words at count) (held_from work first count) rows

  -- what is left to apply to the rows that the runs hold now
  pub record Left (rows : List Row) (table first count : ℕ) (lower upper lower' upper' : List Float) (i : ℕ) : Type 0 where
    pub now : List Row
    pub many : length now ≡ length rows
    pub written : BoundsWritten now lower upper lower' upper'
    pub so_far : applied table first count rows ≡ applied (table + words * i) (first + i) (count - i) now

module _ (shape : List ℕ) (work : List Float) (words table first count : ℕ) (lower₀ upper₀ : List Float) where
  pub record Applied (lower' upper' : List Float) (i : ℕ) : Type 0 where
    pub rest : (rows : List Row) (lower upper : List Float) → length rows ≡ get_or shape 5 0 → BoundsWritten rows lower upper lower₀ upper₀
        → Left shape work words rows table first count lower upper lower' upper' i

  pub applied_none : Applied lower₀ upper₀ 0
  applied_none =
      record {
        rest = λ rows lower upper e w. record { now = rows; many = refl; written = w; so_far = rw (sub-zero, mul-zero, add-zero, add-zero) };
      }

  module _ {lower' upper' : List Float} {i : ℕ} (h : Applied lower' upper' i) where
    pub applied_more : (lower'' upper'' : List Float) (row : ℕ) (by : Interval) → i < count → row ≡ get_or shape (table + words * i) 0 → by ≡ held_at work (first + i)
        → row < get_or shape 5 0 → get_or shape 5 0 ≤ length lower' → get_or shape 5 0 ≤ length upper' → RowTightened row by lower' upper' lower'' upper'' → Applied lower'' upper'' (i + 1)
    unfolding entries held_from apply_intervals
    applied_more lower'' upper'' row by lt er eb under room_l room_u t =
        record {
          rest = λ rows lower upper e w.
              let l = h.rest rows lower upper e w in
              let n : List Row = l.now in
              let q : count - i ≡ suc (count - (i + 1)) = omega arith in
              let p : first + i + 1 ≡ first + (i + 1) = omega arith in
              let next : table + words * i + words ≡ table + words * (i + 1) = rw (mul-add, mul-one, add_assoc) in
              record {
                now = adjust (apply_row_bounds by) row n;
                many = adjust_length (apply_row_bounds by) row n ∙ l.many;
                written = tightened n lower upper lower' upper' lower'' upper'' row by (omega (arith, l.many, e)) (omega (arith, l.many, e)) (omega (arith, l.many, e)) l.written t;
                so_far = l.so_far ∙ rw (q, p, er, eb, next);
              };
        }

    pub applied_all : count ≤ i → (rows : List Row) (lower upper : List Float) → length rows ≡ get_or shape 5 0 → BoundsWritten rows lower upper lower₀ upper₀
        → BoundsWritten (applied shape work words table first count rows) lower upper lower' upper'
    unfolding entries held_from apply_intervals
    applied_all le rows lower upper e w =
        let l = h.rest rows lower upper e w in
        let z = sub-eq-zero_of_le le in
        let e : applied shape work words table first count rows ≡ l.now = l.so_far ∙ (let q : applied shape work words (table + words * i) (first + i) (count - i) l.now ≡ l.now = rw z in q) in
        rw e l.written

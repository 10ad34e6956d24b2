-- The loops over the node rows. Assumes nothing.
use mathlib.Core.Path.{◌≡◌, refl, ◌∙◌}
use Prim.Native.Nat.{ℕ, suc, ◌+◌, ◌*◌, ◌-◌, ◌<◌, ◌≤◌}
use native.Mathlib.Nat.{sub-zero, sub-eq-zero_of_le}
use native.Mathlib.Omega.{arith}
use mathlib.Core.List.{List}
use lib.Ieee.{Float}
use Rattle.layout.specs.Layout.{node_rows_at, node_row_width}
use Rattle.pywr.specs.Programme.{Row, NodeRow}
use Rattle.pywr.specs.Store.{Store, entries}
use Rattle.pywr.specs.Step.{over_node_rows}
use Rattle.step_node_rows.specs.NodeConstraintBounds.{VaryingWritten, node_row_applied, node_rows_applied, NodeRowDone, NodeRowsDone}

abbrev node_row_at : ℕ → ℕ
node_row_at i = node_rows_at + node_row_width * i

-- `change` is what a pass does to the row of a node row
module _ (s : Store) (change : Store → NodeRow → Row → Row) where
  -- the node row at `at`, and the rest
  rows_next : (at n : ℕ) (rows : List Row) → node_rows_applied s change at (suc n) rows ≡ node_rows_applied s change (at + node_row_width) n (node_row_applied s change at rows)
  unfolding entries over_node_rows
  rows_next at n rows = refl

  none_left : (at : ℕ) (rows : List Row) → node_rows_applied s change at 0 rows ≡ rows
  unfolding entries over_node_rows
  none_left at rows = refl

  module _ (count : ℕ) where
    -- the rows that the runs hold now, and what is left to apply to them
    pub record Left (rows : List Row) (lower upper elements : List Float) (i : ℕ) : Type 0 where
      pub now : List Row
      pub written : VaryingWritten s now lower upper elements
      pub so_far : node_rows_applied s change node_rows_at count rows ≡ node_rows_applied s change (node_row_at i) (count - i) now

    module _ (lower₀ upper₀ elements₀ : List Float) where
      -- the node rows passed are applied to the rows that the runs held at first
      abbrev pub Applied : List Float → List Float → List Float → ℕ → Type 0
      Applied lower upper elements i = (rows : List Row) → VaryingWritten s rows lower₀ upper₀ elements₀ → Left rows lower upper elements i

      pub applied_none : Applied lower₀ upper₀ elements₀ 0
      applied_none rows w = record { now = rows; written = w; so_far = rw sub-zero }

      module _ {lower upper elements : List Float} {i : ℕ} (h : Applied lower upper elements i) where
        pub applied_more : {lower' upper' elements' : List Float} → i < count → NodeRowDone s change (node_row_at i) lower upper elements lower' upper' elements' → Applied lower' upper' elements' (i + 1)
        applied_more lt f rows w =
            let l = h rows w in
            let q : count - i ≡ suc (count - (i + 1)) = omega arith in
            let next : node_row_at i + node_row_width ≡ node_row_at (i + 1) = omega arith in
            record {
              now = node_row_applied s change (node_row_at i) l.now;
              written = f l.now l.written;
              so_far = l.so_far ∙ rw (q, rows_next (node_row_at i) (count - (i + 1)) l.now, next);
            }

        pub applied_all : count ≤ i → NodeRowsDone s change count lower₀ upper₀ elements₀ lower upper elements
        applied_all le rows w =
            let l = h rows w in
            let e : node_rows_applied s change node_rows_at count rows ≡ l.now = l.so_far ∙ rw (sub-eq-zero_of_le le) (none_left (node_row_at i) l.now) in
            rw e l.written

-- One row of those that the runs of a store hold: its bounds or one element changed, and what each pass does to the row of a node row. Assumes nothing.
use mathlib.Core.Path.{◌≡◌, refl, sym, ap, ◌∙◌}
use Prim.Native.Nat.{ℕ, zero, suc, ◌+◌, ◌-◌, ◌<◌, ◌≤◌}
use native.Mathlib.Nat.{zero-add}
use native.Mathlib.Omega.{arith}
use mathlib.Core.List.{List, [], ◌∷◌, flat_map}
use lib.ListN.{length, length-map}
use lib.Seq.{sets, length-sets}
use lib.Ieee.{Float}
use borrow.Author.Tests.{ne_eqb}
use Rattle.layout.specs.Layout.{element_ceiling, node_row_node, node_row_row, node_row_type, node_row_set}
use Rattle.pywr.specs.declared.Sentinel.{Sentinel}
use Rattle.pywr.specs.declared.Interval.{Interval}
use Rattle.pywr.specs.Numbers.{zero64, high, lesser}
use Rattle.pywr.specs.Interval.{sentinels, zero_to_high}
use Rattle.pywr.specs.Programme.{Row, NodeRow}
use Rattle.pywr.specs.Store.{Store, row_type_of, node_row_entry, columns_of_row, node_count, varying_count, edge_column_count, set_count, sentinel_code, sentinel_of, start_of}
use Rattle.pywr.specs.Step.{adjust, with_bounds, apply_row_bounds, with_coefficient, interval_for, apply_interval, reset_binary_row, apply_coefficient}
use Rattle.pywr.specs.Written.{columns_in, values_in, lower_of, upper_of}
use Rattle.step_work.specs.WorkRun.{held_at}
use Rattle.step_work.proofs.WorkRunLaws.{held_at_lem}
use Rattle.store_shape.proofs.EntryLaws.{entries_length}
use Rattle.store_rows.proofs.Starts.{start_under}
use Rattle.step_row_bounds.specs.RowBounds.{BoundsWritten, RowSet, RowTightened}
use Rattle.step_row_bounds.proofs.AdjustLaws.{map_kept, flat_kept, tightened, bounds_set, change_written}
use Rattle.step_coefficients.specs.RowCoefficients.{change_at, CoefficientChanged}
use Rattle.step_coefficients.proofs.CoefficientLaws.{with_columns_lem, coefficient_written, values_long, starts_mono}
use Rattle.step_node_rows.specs.NodeConstraintBounds.{VaryingWritten, VaryingFit, held_for, bounds_change, reset_change, coefficient_change, coefficient_by_word, node_row_applied, NodeRowDone}

-- ---- one row

adjust_same : (r : ℕ) (rows : List Row) → adjust (λ row. row) r rows ≡ rows
unfolding adjust
adjust_same r [] = refl
adjust_same zero (x ∷ xs) = refl
adjust_same (suc r) (x ∷ xs) = ap (λ (l : List Row). x ∷ l) (adjust_same r xs)

adjust_twice : (f g : Row → Row) (r : ℕ) (rows : List Row) → adjust f r (adjust g r rows) ≡ adjust (λ row. f (g row)) r rows
unfolding adjust
adjust_twice f g r [] = refl
adjust_twice f g zero (x ∷ xs) = refl
adjust_twice f g (suc r) (x ∷ xs) = ap (λ (l : List Row). x ∷ l) (adjust_twice f g r xs)

pub bounds_columns : (by : Interval) (row : Row) → columns_in (apply_row_bounds by row) ≡ columns_in row
unfolding apply_row_bounds with_bounds columns_in
bounds_columns by row = refl

pub bounds_values : (by : Interval) (row : Row) → values_in (apply_row_bounds by row) ≡ values_in row
unfolding apply_row_bounds with_bounds values_in
bounds_values by row = refl

set_columns : (i : Interval) (row : Row) → columns_in (with_bounds i row) ≡ columns_in row
unfolding with_bounds columns_in
set_columns i row = refl

set_values : (i : Interval) (row : Row) → values_in (with_bounds i row) ≡ values_in row
unfolding with_bounds values_in
set_values i row = refl

coefficient_lower : (c : ℕ) (change : Float → Float) (row : Row) → lower_of (with_coefficient c change row) ≡ lower_of row
unfolding with_coefficient lower_of
coefficient_lower c change row = refl

coefficient_upper : (c : ℕ) (change : Float → Float) (row : Row) → upper_of (with_coefficient c change row) ≡ upper_of row
unfolding with_coefficient upper_of
coefficient_upper c change row = refl

module _ (s : Store) (rows : List Row) where
  pub rows_many : {lower upper elements : List Float} → VaryingWritten s rows lower upper elements → length rows ≡ varying_count s
  rows_many w = sym (length-map rows columns_in) ∙ ap length w.columns ∙ entries_length (columns_of_row s) 1 0 (varying_count s)

  module _ (lower upper elements : List Float) (w : VaryingWritten s rows lower upper elements) where
    -- other bounds, and the same elements
    bounds_applied : (h : Row → Row) → ((row : Row) → columns_in (h row) ≡ columns_in row) → ((row : Row) → values_in (h row) ≡ values_in row) → (lower' upper' : List Float) (r : ℕ)
        → BoundsWritten (adjust h r rows) s.row_lower s.row_upper lower' upper' → VaryingWritten s (adjust h r rows) lower' upper' elements
    bounds_applied h ec ev lower' upper' r b =
        record {
          bounds = b;
          factors = w.factors ∙ ap (sets s.elements 0) (sym (flat_kept h values_in ev r rows));
          columns = map_kept h columns_in ec r rows ∙ w.columns;
        }

    module _ (lower' upper' : List Float) (r : ℕ) (by : Interval) (lt : r < varying_count s) (rl : varying_count s ≤ length lower) (ru : varying_count s ≤ length upper) where
      tightened_applied : RowTightened r by lower upper lower' upper' → VaryingWritten s (adjust (apply_row_bounds by) r rows) lower' upper' elements
      tightened_applied t =
          let n = rows_many w in
          bounds_applied (apply_row_bounds by) (bounds_columns by) (bounds_values by) lower' upper' r
          (tightened rows s.row_lower s.row_upper lower upper lower' upper' r by (omega arith) (omega arith) (omega arith) w.bounds t)

      set_applied : RowSet r by lower upper lower' upper' → VaryingWritten s (adjust (with_bounds by) r rows) lower' upper' elements
      set_applied t =
          let n = rows_many w in
          bounds_applied (with_bounds by) (set_columns by) (set_values by) lower' upper' r
          (bounds_set rows s.row_lower s.row_upper lower upper lower' upper' r by (omega arith) (omega arith) (omega arith) w.bounds t)

    coefficient_applied : VaryingFit s.columns s.row_starts s.shape → element_ceiling ≤ length elements → (elements' : List Float) (r c : ℕ) (change : Float → Float) → r < varying_count s
        → CoefficientChanged s.columns s.row_starts r c change elements elements' → VaryingWritten s (adjust (with_coefficient c change) r rows) lower upper elements'
    unfolding columns_of_row
    coefficient_applied fit room elements' r c change lt k =
        let h = fit.rows.starts in
        let long-columns = fit.rows.columns_long in
        let kept = fit.rows.kept in
        let n : ℕ = varying_count s in
        let d : ℕ = n - (r + 1) in
        let q : r + 1 + d ≡ n = omega arith in
        let long = values_long s h (omega arith) rows n 0 w.columns (omega arith) in
        let long' : length (flat_map values_in rows) ≡ start_of s n - start_of s 0 = rw zero-add at long in
        let mono : start_of s (r + 1) ≤ start_of s n = rw q at (starts_mono s h (omega arith) d (r + 1) (omega arith)) in
        let same : length elements ≡ length s.elements = ap length w.factors ∙ length-sets s.elements 0 (flat_map values_in rows) in
        let place : k.place < length (flat_map values_in rows) = omega (arith, h.first, k.under) in
        record {
          bounds =
              record {
                lowers = w.bounds.lowers ∙ ap (sets s.row_lower 0) (sym (map_kept (with_coefficient c change) lower_of (coefficient_lower c change) r rows));
                uppers = w.bounds.uppers ∙ ap (sets s.row_upper 0) (sym (map_kept (with_coefficient c change) upper_of (coefficient_upper c change) r rows));
              };
          factors = k.stored
              ∙ ap (λ (l : List Float). change_at l k.place change) w.factors
              ∙ change_written (flat_map values_in rows) s.elements k.place zero64 change place (omega (arith, start_under h n (omega arith), same))
              ∙ ap (sets s.elements 0)
              (coefficient_written s h (omega arith) c (edge_column_count s + set_count s) k.place change k.on rows n r w.columns (omega arith) lt k.from k.under (fit.rise r lt));
          columns = map_kept (with_coefficient c change) columns_in (with_columns_lem c change) r rows ∙ w.columns;
        }

-- ---- a row by its type

row_bounds : (t : ℕ) (by : Interval) → t ≡ 0 → apply_interval (row_type_of t) by ≡ apply_row_bounds by
unfolding row_type_of apply_interval
row_bounds t by e = rw e

row_kept : (t : ℕ) (by : Interval) → (t ≡ 0 → ⊥) → apply_interval (row_type_of t) by ≡ (λ row. row)
unfolding row_type_of apply_interval
row_kept zero by n = absurd (n refl)
row_kept (suc zero) by n = refl
row_kept (suc (suc t)) by n = refl

reset_kept : (w : Sentinel) (t c : ℕ) → t ≡ 0 → reset_binary_row w (row_type_of t) c ≡ (λ row. row)
unfolding row_type_of reset_binary_row
reset_kept w t c e = rw e

reset_binary : (w : Sentinel) (t c : ℕ) → (t ≡ 0 → ⊥) → reset_binary_row w (row_type_of t) c ≡ (λ row. with_coefficient c (λ held. high w) (with_bounds (zero_to_high w) row))
unfolding row_type_of reset_binary_row
reset_binary w zero c n = absurd (n refl)
reset_binary w (suc zero) c n = refl
reset_binary w (suc (suc t)) c n = refl

coefficient_kept : (t c : ℕ) (by : Interval) → t ≡ 0 → apply_coefficient (row_type_of t) c by ≡ (λ row. row)
unfolding row_type_of apply_coefficient
coefficient_kept t c by e = rw e

coefficient_binary : (t c : ℕ) (by : Interval) → (t ≡ 0 → ⊥) → apply_coefficient (row_type_of t) c by ≡ with_coefficient c (λ held. lesser held (coefficient_by_word t by))
unfolding row_type_of apply_coefficient coefficient_by_word
coefficient_binary zero c by n = absurd (n refl)
coefficient_binary (suc zero) c by n = refl
coefficient_binary (suc (suc t)) c by n = rw (ne_eqb (suc (suc t)) 1 (λ e. omega arith))

-- ---- the row of a node row

module _ (s : Store) (at : ℕ) where
  -- what a change of a node row is to its row
  applied_as : (change : Store → NodeRow → Row → Row) (h : Row → Row) → change s (node_row_entry s at) ≡ h → (rows : List Row)
      → node_row_applied s change at rows ≡ adjust h (node_row_row s.shape at) rows
  unfolding node_row_entry
  applied_as change h e rows = ap (λ (g : Row → Row). adjust g (node_row_row s.shape at) rows) e

  unchanged : (change : Store → NodeRow → Row → Row) → change s (node_row_entry s at) ≡ (λ row. row) → {lower upper elements : List Float}
      → NodeRowDone s change at lower upper elements lower upper elements
  unchanged change e rows w = rw (applied_as change (λ row. row) e rows ∙ adjust_same (node_row_row s.shape at) rows) w

  held_for_lem : (work : List Float) → node_row_node s.shape at < node_count s → held_for s work (node_row_entry s at) ≡ held_at work (node_row_node s.shape at)
  unfolding node_row_entry interval_for
  held_for_lem work lt = held_at_lem work 0 (node_count s) (node_row_node s.shape at) (sentinels (sentinel_of (sentinel_code s))) lt ∙ ap (held_at work) (zero-add (node_row_node s.shape at))

  module _ (work : List Float) {lower upper elements : List Float} where
    pub bounds_kept : (node_row_type s.shape at ≡ 0 → ⊥) → NodeRowDone s (bounds_change work) at lower upper elements lower upper elements
    unfolding node_row_entry
    bounds_kept n = unchanged (bounds_change work) (row_kept (node_row_type s.shape at) (held_for s work (node_row_entry s at)) n)

    pub coefficients_kept : node_row_type s.shape at ≡ 0 → NodeRowDone s (coefficient_change work) at lower upper elements lower upper elements
    unfolding node_row_entry
    coefficients_kept e = unchanged (coefficient_change work) (coefficient_kept (node_row_type s.shape at) (edge_column_count s + node_row_set s.shape at) (held_for s work (node_row_entry s at)) e)

  pub binary_kept : {lower upper elements : List Float} → node_row_type s.shape at ≡ 0 → NodeRowDone s reset_change at lower upper elements lower upper elements
  unfolding node_row_entry
  binary_kept e = unchanged reset_change (reset_kept (sentinel_of (sentinel_code s)) (node_row_type s.shape at) (edge_column_count s + node_row_set s.shape at) e)

  module _ (r : ℕ) (q : r ≡ node_row_row s.shape at) (lt : node_row_row s.shape at < varying_count s) where
    pub binary_reset : {lower upper elements lower' upper' elements' : List Float} (c : ℕ) → c ≡ edge_column_count s + node_row_set s.shape at
        → VaryingFit s.columns s.row_starts s.shape → varying_count s ≤ length lower → varying_count s ≤ length upper → element_ceiling ≤ length elements
        → (node_row_type s.shape at ≡ 0 → ⊥) → RowSet r (zero_to_high (sentinel_of (sentinel_code s))) lower upper lower' upper'
        → CoefficientChanged s.columns s.row_starts r c (λ held. high (sentinel_of (sentinel_code s))) elements elements'
        → NodeRowDone s reset_change at lower upper elements lower' upper' elements'
    unfolding node_row_entry
    binary_reset {lower} {upper} {elements} {lower'} {upper'} {elements'} c on fit rl ru room n b k rows w =
        let x : Sentinel = sentinel_of (sentinel_code s) in
        let after : Row → Row = with_coefficient c (λ held. high x) in
        let bounded : Row → Row = with_bounds (zero_to_high x) in
        let same : reset_change s (node_row_entry s at) ≡ (λ row. after (bounded row)) = reset_binary x (node_row_type s.shape at) (edge_column_count s + node_row_set s.shape at) n ∙ (rw (← on)) in
        let w₁ = set_applied s rows lower upper elements w lower' upper' r (zero_to_high x) (omega arith) rl ru b in
        rw (applied_as reset_change (λ row. after (bounded row)) same rows, ← q, ← (adjust_twice after bounded r rows))
        (coefficient_applied s (adjust bounded r rows) lower' upper' elements w₁ fit room elements' r c (λ held. high x) (omega arith) k)

    module _ (work : List Float) (by : Interval) (held : by ≡ held_at work (node_row_node s.shape at)) (node : node_row_node s.shape at < node_count s) where
      pub bounds_tightened : {lower upper elements lower' upper' : List Float} → node_row_type s.shape at ≡ 0 → varying_count s ≤ length lower → varying_count s ≤ length upper
          → RowTightened r by lower upper lower' upper' → NodeRowDone s (bounds_change work) at lower upper elements lower' upper' elements
      unfolding node_row_entry
      bounds_tightened {lower} {upper} {elements} {lower'} {upper'} e rl ru t rows w =
          let same : bounds_change work s (node_row_entry s at) ≡ apply_row_bounds by =
          row_bounds (node_row_type s.shape at) (held_for s work (node_row_entry s at)) e ∙ ap apply_row_bounds (held_for_lem work node ∙ sym held) in
          rw (applied_as (bounds_change work) (apply_row_bounds by) same rows, ← q) (tightened_applied s rows lower upper elements w lower' upper' r by (omega arith) rl ru t)

      pub coefficient_lowered : {lower upper elements elements' : List Float} (c : ℕ) → c ≡ edge_column_count s + node_row_set s.shape at
          → (x : Float) → x ≡ coefficient_by_word (node_row_type s.shape at) by
          → VaryingFit s.columns s.row_starts s.shape → element_ceiling ≤ length elements → (node_row_type s.shape at ≡ 0 → ⊥)
          → CoefficientChanged s.columns s.row_starts r c (λ held. lesser held x) elements elements'
          → NodeRowDone s (coefficient_change work) at lower upper elements lower upper elements'
      unfolding node_row_entry
      coefficient_lowered {lower} {upper} {elements} {elements'} c on x ex fit room n k rows w =
          let same : coefficient_change work s (node_row_entry s at) ≡ with_coefficient c (λ held. lesser held x) =
          coefficient_binary (node_row_type s.shape at) (edge_column_count s + node_row_set s.shape at) (held_for s work (node_row_entry s at)) n
          ∙ (rw (held_for_lem work node ∙ sym held, ← ex, ← on)) in
          rw (applied_as (coefficient_change work) (with_coefficient c (λ held. lesser held x)) same rows, ← q)
          (coefficient_applied s rows lower upper elements w fit room elements' r c (λ held. lesser held x) (omega arith) k)

-- The parts of a step's writing of the rows, one after another. Assumes nothing.
use mathlib.Core.Path.{◌≡◌, refl, sym, ap, subst, ◌∙◌}
use Prim.Native.Nat.{ℕ, ◌≤◌}
use mathlib.Core.List.{List, [], ◌∷◌, map, flat_map}
use lib.ListN.{length, get_or}
use lib.Seq.{sets}
use lib.Ieee.{Float}
use Rattle.layout.specs.Layout.{aggregates_at, node_rows_at, virtual_storages_at, virtual_storages_held_at}
use Rattle.pywr.specs.declared.Interval.{Interval}
use Rattle.pywr.specs.Interval.{sentinels}
use Rattle.pywr.specs.Programme.{Row}
use Rattle.pywr.specs.StepIntervals.{Intervals}
use Rattle.pywr.specs.Store.{Store, entries, row_entry, virtual_storage_entry, word, varying_count, node_row_count, aggregate_count, virtual_storage_count, sentinel_of, sentinel_code, shape_of, programme_in}
use Rattle.pywr.specs.Step.{with_bounds, apply_row_bounds, apply_node_rows, apply_intervals, reset_binary_rows, apply_coefficients, row_of, step_rows}
use Rattle.pywr.specs.Written.{columns_in, values_in}
use Rattle.step_work.specs.WorkRun.{held_from}
use Rattle.store_shape.proofs.EntryLaws.{entries_length, entries_map}
use Rattle.step_row_bounds.specs.RowBounds.{BoundsWritten}
use Rattle.step_row_bounds.proofs.AdjustLaws.{map_kept, flat_kept}
use Rattle.step_node_rows.specs.NodeConstraintBounds.{over, with_shape, VaryingWritten, VaryingFit, bounds_change, node_rows_applied, NodeRowsDone}
use Rattle.step_node_rows.proofs.VaryingLaws.{rows_many, bounds_columns, bounds_values}
use Rattle.step_rows.specs.ConstraintBounds.{binary_rows_updated, stepped_rows, StepWritten, HasRuns, HeldIn}
use Rattle.step_rows.proofs.Entered.{entered}

-- ---- intervals change bounds alone

values_applied : (rs : List ℕ) (is : List Interval) (rows : List Row) → flat_map values_in (apply_intervals rs is rows) ≡ flat_map values_in rows
unfolding apply_intervals
values_applied [] is rows = refl
values_applied (r ∷ rs) [] rows = refl
values_applied (r ∷ rs) (i ∷ is) rows = values_applied rs is _ ∙ flat_kept (apply_row_bounds i) values_in (bounds_values i) r rows

columns_applied : (rs : List ℕ) (is : List Interval) (rows : List Row) → map columns_in (apply_intervals rs is rows) ≡ map columns_in rows
unfolding apply_intervals
columns_applied [] is rows = refl
columns_applied (r ∷ rs) [] rows = refl
columns_applied (r ∷ rs) (i ∷ is) rows = columns_applied rs is _ ∙ map_kept (apply_row_bounds i) columns_in (bounds_columns i) r rows

intervals_applied : (s : Store) (rs : List ℕ) (is : List Interval) (rows : List Row) {lower upper lower' upper' elements : List Float} → VaryingWritten s rows lower upper elements
    → BoundsWritten (apply_intervals rs is rows) s.row_lower s.row_upper lower' upper' → VaryingWritten s (apply_intervals rs is rows) lower' upper' elements
intervals_applied s rs is rows w b =
    record { bounds = b; factors = w.factors ∙ ap (sets s.elements 0) (sym (values_applied rs is rows)); columns = columns_applied rs is rows ∙ w.columns }

virtual_storage_rows_lem : (s : Store) (n at : ℕ) → map row_of (entries (virtual_storage_entry s) 6 at n) ≡ entries (word s) 6 at n
unfolding virtual_storage_entry row_of
virtual_storage_rows_lem s n at = entries_map row_of (virtual_storage_entry s) (word s) 6 at n (λ k lt. refl)

module _ (s : Store) (work : List Float) where
  abbrev reset : List Row
  reset = map (with_bounds (sentinels (sentinel_of (sentinel_code s)))) (entries (row_entry s) 1 0 (varying_count s))

  abbrev nodes_done : List Row
  nodes_done = node_rows_applied s (bounds_change work) node_rows_at (node_row_count s) reset

  abbrev aggregates_done : List Row
  aggregates_done = apply_intervals (entries (word s) 1 aggregates_at (aggregate_count s)) (held_from work 256 (aggregate_count s)) nodes_done

  abbrev virtual_storages_done : List Row
  virtual_storages_done = apply_intervals (entries (word s) 6 virtual_storages_at (virtual_storage_count s)) (held_from work virtual_storages_held_at (virtual_storage_count s)) aggregates_done

  rows_are : (i : Intervals) → HeldIn s work i → stepped_rows s i ≡ binary_rows_updated s work virtual_storages_done
  unfolding step_rows apply_node_rows reset_binary_rows apply_coefficients programme_in shape_of
  rows_are i h = rw (← h.nodes_are, ← h.aggregates_are, ← h.virtual_storages_are, virtual_storage_rows_lem s (virtual_storage_count s) virtual_storages_at)

  abbrev pub ResetDone : List Float → List Float → Type 0
  ResetDone lower upper =
      (rows : List Row) → length rows ≡ varying_count s → BoundsWritten (map (with_bounds (sentinels (sentinel_of (sentinel_code s)))) rows) s.row_lower s.row_upper lower upper

  abbrev pub NodesDone : List Float → List Float → List Float → List Float → Type 0
  NodesDone lower upper lower' upper' =
      (x : Store) (elements : List Float) → NodeRowsDone (with_shape x s.shape) (bounds_change work) (node_row_count s) lower upper elements lower' upper' elements

  -- a table's intervals applied, `n` of them
  abbrev pub TableDone : ℕ → ℕ → ℕ → ℕ → List Float → List Float → List Float → List Float → Type 0
  TableDone words at first n lower upper lower' upper' =
      (rows : List Row) (l u : List Float) → length rows ≡ varying_count s → BoundsWritten rows l u lower upper
      → BoundsWritten (apply_intervals (entries (word s) words at n) (held_from work first n) rows) l u lower' upper'

  abbrev pub BinaryDone : List Float → List Float → List Float → List Float → List Float → Type 0
  BinaryDone lower upper lower' upper' elements =
      (x : Store) (rows : List Row) → VaryingWritten (over x s.columns s.row_starts s.shape) rows lower upper s.elements
      → VaryingWritten (over x s.columns s.row_starts s.shape) (binary_rows_updated (over x s.columns s.row_starts s.shape) work rows) lower' upper' elements

  module _ (fit : VaryingFit s.columns s.row_starts s.shape) (long : 4096 ≤ length s.elements)
      (lower₁ upper₁ lower₂ upper₂ lower₃ upper₃ lower₄ upper₄ lower₅ upper₅ elements : List Float) (g v : ℕ) where
    stepped : ResetDone lower₁ upper₁ → NodesDone lower₁ upper₁ lower₂ upper₂
        → g ≡ aggregate_count s → TableDone 1 aggregates_at 256 g lower₂ upper₂ lower₃ upper₃
        → v ≡ virtual_storage_count s → TableDone 6 virtual_storages_at virtual_storages_held_at v lower₃ upper₃ lower₄ upper₄
        → BinaryDone lower₄ upper₄ lower₅ upper₅ elements
        → (i : Intervals) → HeldIn s work i → StepWritten s i lower₅ upper₅ elements
    stepped a b eg c ev d f i held =
        let rows : List Row = entries (row_entry s) 1 0 (varying_count s) in
        let w₁ = entered s fit long (sentinels (sentinel_of (sentinel_code s))) lower₁ upper₁ (a rows (entries_length (row_entry s) 1 0 (varying_count s))) in
        let w₂ : VaryingWritten s nodes_done lower₂ upper₂ s.elements = b s s.elements reset w₁ in
        let b₃ : BoundsWritten aggregates_done s.row_lower s.row_upper lower₃ upper₃ = rw eg at (c nodes_done s.row_lower s.row_upper (rows_many s nodes_done w₂) w₂.bounds) in
        let w₃ = intervals_applied s (entries (word s) 1 aggregates_at (aggregate_count s)) (held_from work 256 (aggregate_count s)) nodes_done w₂ b₃ in
        let b₄ : BoundsWritten virtual_storages_done s.row_lower s.row_upper lower₄ upper₄ = rw ev at (d aggregates_done s.row_lower s.row_upper (rows_many s aggregates_done w₃) b₃) in
        let w₄ = intervals_applied s (entries (word s) 6 virtual_storages_at (virtual_storage_count s)) (held_from work virtual_storages_held_at (virtual_storage_count s)) aggregates_done w₃ b₄ in
        let w₅ : VaryingWritten s (binary_rows_updated s work virtual_storages_done) lower₅ upper₅ elements = f s virtual_storages_done w₄ in
        let e = rows_are i held in
        record {
          lowers = rw e w₅.bounds.lowers;
          uppers = rw e w₅.bounds.uppers;
          factors = rw e w₅.factors;
        }

-- ---- any store that has the runs

module _ (lower upper elements : List Float) (columns row_starts shape : List ℕ) where
  -- s with these six runs
  abbrev pub with_runs : Store → Store
  with_runs s =
      record {
        col_lower = s.col_lower;
        col_upper = s.col_upper;
        col_obj_coef = s.col_obj_coef;
        row_lower = lower;
        row_upper = upper;
        elements = elements;
        columns = columns;
        row_starts = row_starts;
        shape = shape;
      }

  has_runs : (s : Store) → HasRuns s lower upper elements columns row_starts shape → s ≡ with_runs s
  has_runs s h =
      λ j.
      record {
        col_lower = s.col_lower;
        col_upper = s.col_upper;
        col_obj_coef = s.col_obj_coef;
        row_lower = h.row_lower_lem j;
        row_upper = h.row_upper_lem j;
        elements = h.elements_are j;
        columns = h.columns_are j;
        row_starts = h.row_starts_lem j;
        shape = h.shape_is j;
      }

  module _ (work : List Float) (fit : VaryingFit columns row_starts shape) (long : 4096 ≤ length elements) (s : Store)
      (lower₁ upper₁ lower₂ upper₂ lower₃ upper₃ lower₄ upper₄ lower₅ upper₅ elements' : List Float) (g v : ℕ) where
    pub step_written : ResetDone (with_runs s) work lower₁ upper₁ → NodesDone (with_runs s) work lower₁ upper₁ lower₂ upper₂
        → g ≡ get_or shape 9 0 → TableDone (with_runs s) work 1 aggregates_at 256 g lower₂ upper₂ lower₃ upper₃
        → v ≡ get_or shape 10 0 → TableDone (with_runs s) work 6 virtual_storages_at virtual_storages_held_at v lower₃ upper₃ lower₄ upper₄
        → BinaryDone (with_runs s) work lower₄ upper₄ lower₅ upper₅ elements'
        → (i : Intervals) → HasRuns s lower upper elements columns row_starts shape → HeldIn s work i → StepWritten s i lower₅ upper₅ elements'
    step_written a b eg c ev d f i has =
        subst (λ (x : Store). HeldIn x work i → StepWritten x i lower₅ upper₅ elements') (sym (has_runs s has))
        (stepped (with_runs s) work fit long lower₁ upper₁ lower₂ upper₂ lower₃ upper₃ lower₄ upper₄ lower₅ upper₅ elements' g v a b eg c ev d f i)

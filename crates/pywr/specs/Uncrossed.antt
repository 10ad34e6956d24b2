-- "for every step that has passed its earlier checks, a virtual storage's lower is never over its upper": so a step compares none, and 15 is retired.
-- Assumes nothing.
use Rattle.std.specs.Prelude.{◌≡◌, ℕ, List, cond, length, T, Float}
use Rattle.std.proofs.Math.Option.{Option, none, some}
use Rattle.std.proofs.Math.ListN.{get_elem?}
use Rattle.std.specs.Float.Ieee.{le}
use Rattle.pywr.specs.declared.Interval.{Interval}
use Rattle.pywr.specs.Result.{Result, value, ◌>>=◌, first_refused, refused_if}
use Rattle.pywr.specs.StepFile.{StepFile}
use Rattle.pywr.specs.StepIntervals.{Intervals, is_crossed}
use Rattle.pywr.specs.Step.{step_rows, stepped}
use Rattle.pywr.specs.Store.{Store, shape_of, programme_in}
use Rattle.pywr.specs.Calls.{step_read, step_intervals, step_ordered, step_answer}

-- lower not over upper. `le` is false of a NaN, so both are numbers
abbrev pub Uncrossed : Interval → Type 0
Uncrossed i = T (le i.lower i.upper)

-- the intervals that a step applies: the store's virtual storages have one each, active or not, and none of these is crossed
pub record VirtualStoragesUncrossed (store : Store) (f : StepFile) : Type 0 where
  pub applied : (stepped (shape_of store) f (programme_in store)).varying
      ≡ step_rows (programme_in store).sentinel (shape_of store) (step_intervals store f) (programme_in store).varying
  pub each : length (step_intervals store f).virtual_storages ≡ length (shape_of store).virtual_storages
  pub uncrossed : (number : ℕ) (i : Interval) → get_elem? (step_intervals store f).virtual_storages number ≡ some i → Uncrossed i

-- Of any store that passes 16 and 17, also one that no build made, with either sentinel, and any file that passes 12 and 13; 14 and 21 are not needed
abbrev pub ReadUncrossed : Type 0
ReadUncrossed = (store : Store) (file : List ℕ) (work : List Float) (f : StepFile) → step_read store file work ≡ value f → VirtualStoragesUncrossed store f

-- ---- dropping the check changes no answer

-- as before, 15 "the same for a virtual storage (its index)"
unfoldable pub crossed_virtual_storage : ℕ → Interval → Option ℕ
crossed_virtual_storage index interval = cond (is_crossed interval) (some 15) none

unfoldable pub virtual_storages_ordered : Intervals → Result Intervals
virtual_storages_ordered intervals = refused_if intervals (first_refused crossed_virtual_storage 0 intervals.virtual_storages)

-- document 01's "Step: 16, 17, file left to right, 14, 15.", with document 02's 21 beside 14
unfoldable pub step_answer_with_fifteen : Store → List ℕ → List Float → Result StepFile
step_answer_with_fifteen store file work = do
  f ← step_read store file work
  intervals ← step_ordered store f
  _ ← virtual_storages_ordered intervals
  value f

abbrev pub FifteenUnreached : Type 0
FifteenUnreached = (store : Store) (file : List ℕ) (work : List Float) → step_answer_with_fifteen store file work ≡ step_answer store file work

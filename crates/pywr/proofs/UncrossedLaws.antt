-- No virtual storage's lower is over its upper, of any store that passes 16 and 17 and any file that passes 12 and 13; so a step's answer is what it was
-- with the check for 15. Assumes nothing.
use mathlib.Core.Path.{◌≡◌, refl, ap, ◌∙◌}
use Prim.Native.Nat.{ℕ, suc}
use mathlib.Core.Bool.{Bool, false, cond}
use mathlib.Core.List.Memᴰ
use mathlib.Core.List.{List, [], ◌∷◌}
use mathlib.Core.Option.{Option, none, some}
use lib.ListN.{length}
use lib.Ieee.{Float, binary64}
use Rattle.laws.proofs.Tests.{to_false}
use Rattle.doubles.proofs.Order.{le_not_lt}
use Rattle.pywr.specs.declared.Interval.{Interval}
use Rattle.pywr.specs.Result.{value, Result, refused, ◌>>=◌, first_refused, refused_if}
use Rattle.pywr.specs.Programme.{Shape}
use Rattle.pywr.specs.StepFile.{StepFile}
use Rattle.pywr.specs.StepIntervals.{Intervals, is_crossed, has_binary_row, bad_interval, ordered}
use Rattle.pywr.specs.Step.{periods, stepped}
use Rattle.pywr.specs.Store.{Store, shape_of, programme_in}
use Rattle.pywr.specs.Calls.{step_read, step_intervals, step_ordered, step_answer}
use Rattle.pywr.specs.Uncrossed.{Uncrossed, VirtualStoragesUncrossed, ReadUncrossed, crossed_virtual_storage, virtual_storages_ordered, step_answer_with_fifteen, FifteenUnreached}
use Rattle.pywr.proofs.BoundLaws.{IsInterval}
use Rattle.pywr.proofs.RunLaws.{read_over_shape, accepted_read}
use Rattle.pywr.proofs.ListLaws.{AllMem, found_mem}
use Rattle.pywr.proofs.StepReadLaws.{step_sound, shape_periods_length, IntervalsOk, intervals_sound}

module _ (store : Store) (file : List ℕ) (work : List Float) (f : StepFile) (read : step_read store file work ≡ value f) where
  abbrev shape : Shape
  shape = shape_of store

  -- 12 and 13 passed, over the store's own shape and sentinel
  intervals_read : IntervalsOk (length shape.aggregates) (length shape.virtual_storages) (step_intervals store f)
  unfolding step_intervals
  intervals_read =
      intervals_sound (programme_in store).sentinel (periods shape) (length shape.aggregates) (length shape.virtual_storages) f (shape_periods_length shape)
      (step_sound shape.nodes (length shape.aggregates) (length shape.virtual_storages) file f (read_over_shape store file work f read))

  applies : VirtualStoragesUncrossed store f
  unfolding step_intervals stepped
  applies =
      record {
        applied = refl;
        each = intervals_read.virtual_storage_count;
        uncrossed = λ number i at. intervals_read.virtual_storages_uncrossed i (found_mem _ number i at);
      }

pub read_uncrossed : ReadUncrossed
read_uncrossed = applies

-- as the request says it: the step passed 16, 17, 12, 13, 14 and 21
pub accepted_uncrossed : (store : Store) (file : List ℕ) (work : List Float) (f : StepFile) → step_answer store file work ≡ value f → VirtualStoragesUncrossed store f
accepted_uncrossed store file work f e = applies store file work f (accepted_read store file work f e)

-- ---- the check that was dropped finds nothing

not_crossed : (i : Interval) → IsInterval i → Uncrossed i → is_crossed i ≡ false
unfolding is_crossed
not_crossed i n u = to_false (is_crossed i) (le_not_lt binary64 i.upper i.lower n.upper n.lower u)

none_crossed : (index : ℕ) (is : List Interval) → AllMem IsInterval is → AllMem Uncrossed is → first_refused crossed_virtual_storage index is ≡ none
unfolding first_refused crossed_virtual_storage
none_crossed index [] n u = refl
none_crossed index (i ∷ is) n u =
    let here = not_crossed i (n i (Memᴰ.head refl)) (u i (Memᴰ.head refl)) in
    let there = none_crossed (suc index) is (λ x m. n x (Memᴰ.tail m)) (λ x m. u x (Memᴰ.tail m)) in
    ap (λ (b : Bool). elim (cond {A = Option ℕ} b (some 15) none) [ none ↦ first_refused crossed_virtual_storage (suc index) is | some number ↦ some (number, index) ]) here ∙ there

-- where no virtual storage's is crossed, 15 is not said behind 14 and 21
same_order : (store : Store) (f : StepFile) → first_refused crossed_virtual_storage 0 (step_intervals store f).virtual_storages ≡ none
    → (step_ordered store f >>= λ a. virtual_storages_ordered a >>= λ _. value f) ≡ (step_ordered store f >>= λ _. value f)
unfolding step_ordered ordered virtual_storages_ordered refused_if ◌>>=◌
same_order store f e = go (first_refused (bad_interval (programme_in store).sentinel (has_binary_row (shape_of store).node_rows)) 0 i.nodes)
  where
    i : Intervals
    i = step_intervals store f

    go : (o : Option (ℕ × ℕ)) → (refused_if i o >>= λ a. refused_if a (first_refused crossed_virtual_storage 0 a.virtual_storages) >>= λ _. value f) ≡ (refused_if i o >>= λ _. value f)
    go none = ap (λ (q : Option (ℕ × ℕ)). refused_if i q >>= λ _. value f) e
    go (some found) = refl

-- "drop the check": every answer is that of document 01's order with 15
pub fifteen_unreached : FifteenUnreached
unfolding step_answer_with_fifteen step_answer ◌>>=◌
fifteen_unreached store file work = go (step_read store file work) refl
  where
    go : (r : Result StepFile) → step_read store file work ≡ r
        → (r >>= λ f. step_ordered store f >>= λ a. virtual_storages_ordered a >>= λ _. value f) ≡ (r >>= λ f. step_ordered store f >>= λ _. value f)
    go (refused number place) read = refl
    go (value f) read =
        let ok = intervals_read store file work f read in
        same_order store f (none_crossed 0 (step_intervals store f).virtual_storages ok.virtual_storages_are ok.virtual_storages_uncrossed)

-- Each call refuses with its own numbers, none of them 0; a build and a step with 16 exactly where a buffer is short. Assumes nothing.
use mathlib.Core.Path.{◌≡◌, sym, ap, ◌∙◌}
use Prim.Native.Nat.{ℕ}
use mathlib.Core.Bool.{Bool, true, false, cond, ◌||◌}
use mathlib.Core.List.{List}
use lib.ListN.{length}
use lib.Dec.{T, eqb}
use lib.Ieee.{Float}
use Rattle.laws.proofs.Tests.{or_l, or_r}
use Rattle.pywr.specs.declared.Sentinel.{Sentinel}
use Rattle.pywr.specs.Result.{value, Result, refused, ◌>>=◌, need}
use Rattle.pywr.specs.NetworkFile.{parse_network}
use Rattle.pywr.specs.Build.{build}
use Rattle.pywr.specs.StepFile.{StepFile, read_step}
use Rattle.pywr.specs.StepIntervals.{has_binary_row}
use Rattle.pywr.specs.Store.{Store, store_has_room, shape_of, programme_in}
use Rattle.pywr.specs.Misshapen.{well_shaped}
use Rattle.pywr.specs.Calls.{build_room, build_answer, step_room, step_read, step_intervals, step_ordered, step_answer, row_answer}
use Rattle.theorem_refusals.specs.RefusalNumbers.{Among, passed, of_network_file, of_programme, of_build, of_step_file, of_intervals, of_judged, of_step, of_row}
use Rattle.theorem_refusals.proofs.Among.{bind_among, need_among, more_among, number_among}
use Rattle.theorem_refusals.proofs.NetworkNumbers.{network_file_numbers}
use Rattle.theorem_refusals.proofs.StepNumbers.{step_file_numbers, interval_numbers}

-- ---- the build

programme_among : (s : Sentinel) (file : List ℕ) → Among of_programme (build s file)
unfolding build
programme_among s file = bind_among _ _ (more_among (parse_network file) (λ n t. or_l (of_network_file n) (eqb n 11) t) (network_file_numbers file)) (λ net. need_among _ 11 0 _ tt)

module _ (s : Sentinel) (file : List ℕ) (old : Store) (words : List ℕ) (numbers : List Float) where
  build_among : Among of_build (build_answer s file old words numbers)
  unfolding build_answer
  build_among =
      bind_among _ _ (need_among (build_room old words numbers) 16 0 old tt) (λ room. more_among (build s file) (λ n t. or_l (of_programme n) (eqb n 16) t) (programme_among s file))

  pub build_numbers_lem : (n p : ℕ) → build_answer s file old words numbers ≡ refused n p → T (of_build n)
  build_numbers_lem n p e = number_among (build_answer s file old words numbers) n p build_among e

  pub build_short : build_room old words numbers ≡ false → build_answer s file old words numbers ≡ refused 16 0
  unfolding build_answer need ◌>>=◌
  build_short e = ap (λ (b : Bool). cond b (value old) (refused 16 0) >>= λ room. build s file) e

  pub build_not_short : (p : ℕ) → build_room old words numbers ≡ true → build_answer s file old words numbers ≡ refused 16 p → ⊥
  unfolding build_answer need ◌>>=◌
  build_not_short p e k =
      number_among (build s file) 16 p (programme_among s file) (sym (ap (λ (b : Bool). cond b (value old) (refused 16 0) >>= λ room. build s file) e) ∙ k)

-- ---- the step

-- a step with room, in its two parts: 17 and the file, then the intervals
abbrev read_with : List ℕ → Store → Result StepFile
read_with file room =
    need (well_shaped room) 17 0 (shape_of room) >>= λ shaped. read_step shaped.nodes (length shaped.aggregates) (length shaped.virtual_storages) file

abbrev ordered_in : Store → StepFile → Result StepFile
ordered_in store f = step_ordered store f >>= λ _. value f

read_among : (file : List ℕ) (room : Store) → Among of_judged (read_with file room)
read_among file room =
    bind_among _ _ (need_among (well_shaped room) 17 0 (shape_of room) tt) (λ shaped.
    more_among _ (λ n t. or_r (eqb n 17) (of_step_file n || of_intervals n) (or_l (of_step_file n) (of_intervals n) t))
    (step_file_numbers shaped.nodes (length shaped.aggregates) (length shaped.virtual_storages) file))

ordered_among : (store : Store) (f : StepFile) → Among of_judged (ordered_in store f)
unfolding step_ordered
ordered_among store f =
    bind_among _ _
    (more_among _ (λ n t. or_r (eqb n 17) (of_step_file n || of_intervals n) (or_r (of_step_file n) (of_intervals n) t))
    (interval_numbers (programme_in store).sentinel (has_binary_row (shape_of store).node_rows) (step_intervals store f)))
    (λ i. passed)

module _ (store : Store) (file : List ℕ) (work : List Float) where
  step_among : Among of_step (step_answer store file work)
  unfolding step_answer step_read
  step_among =
      bind_among (need (step_room store work) 16 0 store >>= read_with file) (ordered_in store)
      (bind_among (need (step_room store work) 16 0 store) (read_with file) (need_among (step_room store work) 16 0 store tt)
      (λ room. more_among (read_with file room) (λ n t. or_l (of_judged n) (eqb n 16) t) (read_among file room)))
      (λ f. more_among (ordered_in store f) (λ n t. or_l (of_judged n) (eqb n 16) t) (ordered_among store f))

  pub step_numbers : (n p : ℕ) → step_answer store file work ≡ refused n p → T (of_step n)
  step_numbers n p e = number_among (step_answer store file work) n p step_among e

  -- the answer where the test for room has come out
  with_room : (b : Bool) → step_room store work ≡ b → step_answer store file work ≡ ((cond b (value store) (refused 16 0) >>= read_with file) >>= ordered_in store)
  unfolding step_answer step_read need
  with_room b e = ap (λ (q : Bool). (cond q (value store) (refused 16 0) >>= read_with file) >>= ordered_in store) e

  pub step_short : step_room store work ≡ false → step_answer store file work ≡ refused 16 0
  unfolding ◌>>=◌
  step_short e = with_room false e

  pub step_not_short : (p : ℕ) → step_room store work ≡ true → step_answer store file work ≡ refused 16 p → ⊥
  unfolding ◌>>=◌
  step_not_short p e k =
      number_among (read_with file store >>= ordered_in store) 16 p (bind_among (read_with file store) (ordered_in store) (read_among file store) (ordered_among store)) (sym (with_room true e) ∙ k)

-- ---- reading a row

row_among : (store : Store) (r : ℕ) → Among of_row (row_answer store r)
unfolding row_answer
row_among store r =
    bind_among _ _ (need_among (store_has_room store) 16 0 store tt) (λ room.
    bind_among _ _ (need_among (well_shaped room) 17 0 room tt) (λ shaped. need_among _ 18 r _ tt))

pub row_numbers : (store : Store) (r n p : ℕ) → row_answer store r ≡ refused n p → T (of_row n)
row_numbers store r n p e = number_among (row_answer store r) n p (row_among store r) e

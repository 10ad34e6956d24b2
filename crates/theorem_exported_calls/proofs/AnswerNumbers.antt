-- What the number that an exported call answers means: 0 exactly where the call is accepted, else one of its refusals' numbers, and then the store is
-- as it was, or the row's part empty. Assumes nothing.
use mathlib.Core.Path.{◌≡◌, refl, sym, ap, ◌∙◌, subst}
use Prim.Native.Nat.{ℕ}
use mathlib.Core.Bool.{Bool, true, false, ◌||◌}
use mathlib.Core.List.{List}
use lib.Dec.{T, eqb}
use lib.Ieee.{Float}
use borrow.Author.Tests.{ne_eqb}
use Rattle.pywr.specs.declared.Sentinel.{Sentinel}
use Rattle.pywr.specs.Result.{Result, value, refused}
use Rattle.pywr.specs.Answers.{answer_of, number_of, row_number_of}
use Rattle.pywr.specs.Programme.{Built}
use Rattle.pywr.specs.Store.{Store}
use Rattle.pywr.specs.Calls.{build_answer, store_of_build, build_store, step_answer, row_answer, span_of, is_accepted}
use Rattle.pywr.proofs.Companions.{refused_leaves_store}
use Rattle.theorem_refusals.specs.RefusalNumbers.{of_build, of_step, of_row}
use Rattle.theorem_refusals.proofs.CallNumbers.{build_numbers_lem, step_numbers, row_numbers}
use Rattle.pywr_c_answers.specs.Crossing.{BuildCrossed, StepCrossed, RowCrossed, part_length}

-- a result's number: 0 where it has a value, and else the refusal's, one of these
pub data Tells (numbers : ℕ → Bool) {A : Type 0} : Result A → ℕ → Type 0 where
  accepts : {x : A} → Tells numbers (value x) 0
  refuses : {number place : ℕ} → T (numbers number) → Tells numbers (refused number place) number

module _ {A : Type 0} {numbers : ℕ → Bool} where
  -- where 0 is none of the numbers, it says that the result has a value
  tells_accepted : {r : Result A} {n : ℕ} → (T (numbers 0) → ⊥) → Tells numbers r n → eqb n 0 ≡ is_accepted r
  unfolding is_accepted
  tells_accepted out accepts = refl
  tells_accepted out (refuses {number} t) = ne_eqb number 0 (λ e. out (subst (λ (m : ℕ). T (numbers m)) e t))

  tells_among : {r : Result A} {n : ℕ} → Tells numbers r n → T (eqb n 0 || numbers n)
  tells_among accepts = tt
  tells_among (refuses {number} t) = go (eqb number 0)
    where
      go : (b : Bool) → T (b || numbers number)
      go true = tt
      go false = t

tells : {A : Type 0} (numbers : ℕ → Bool) (r : Result A) → ((n p : ℕ) → r ≡ refused n p → T (numbers n)) → Tells numbers r (number_of (answer_of r))
unfolding number_of answer_of
tells numbers (value x) h = accepts
tells numbers (refused n p) h = refuses (h n p refl)

-- ---- the build

module _ {s : Sentinel} {file words words' : List ℕ} {old new : Store} {numbers numbers' : List Float} {n p : ℕ}
    (c : BuildCrossed s file old words numbers n p new words' numbers') where
  build_tells : Tells of_build (build_answer s file old words numbers) n
  build_tells =
      subst (λ (m : ℕ). Tells of_build (build_answer s file old words numbers) m) (sym (c.number ∙ ap number_of c.after.answer))
      (tells of_build (build_answer s file old words numbers) (build_numbers_lem s file old words numbers))

  pub build_zero : eqb n 0 ≡ is_accepted (build_answer s file old words numbers)
  build_zero = tells_accepted (λ t. t) build_tells

  pub build_number : T (eqb n 0 || of_build n)
  build_number = tells_among build_tells

  pub build_kept : eqb n 0 ≡ false → new ≡ old
  unfolding build_store is_accepted store_of_build
  build_kept e = c.after.store ∙ go (build_answer s file old words numbers) (sym build_zero ∙ e)
    where
      go : (r : Result Built) → is_accepted r ≡ false → store_of_build old r ≡ old
      go (value b) k = absurd (subst T k tt)
      go (refused m q) k = refl

-- ---- the step

module _ {file : List ℕ} {old new : Store} {work work' : List Float} {n p : ℕ} (c : StepCrossed file old work n p new work') where
  step_tells : Tells of_step (step_answer old file work) n
  step_tells =
      subst (λ (m : ℕ). Tells of_step (step_answer old file work) m) (sym (c.number ∙ ap number_of c.after.answer)) (tells of_step (step_answer old file work) (step_numbers old file work))

  pub step_zero : eqb n 0 ≡ is_accepted (step_answer old file work)
  step_zero = tells_accepted (λ t. t) step_tells

  pub step_number : T (eqb n 0 || of_step n)
  step_number = tells_among step_tells

  pub step_kept : eqb n 0 ≡ false → new ≡ old
  step_kept e = c.after.store ∙ refused_leaves_store old file work (sym step_zero ∙ e)

-- ---- reading a row

row_tells : (store : Store) (row : ℕ) → Tells of_row (row_answer store row) (row_number_of (span_of store row (row_answer store row)))
unfolding row_number_of span_of
row_tells store row = go (row_answer store row) (row_numbers store row)
  where
    go : (r : Result (List ℕ)) → ((n p : ℕ) → r ≡ refused n p → T (of_row n)) → Tells of_row r (row_number_of (span_of store row r))
    go (value part) h = accepts
    go (refused n p) h = refuses (h n p refl)

module _ {store : Store} {row n p start size : ℕ} (c : RowCrossed store row n p start size) where
  row_said : Tells of_row (row_answer store row) n
  row_said = subst (λ (m : ℕ). Tells of_row (row_answer store row) m) (sym (c.number ∙ ap row_number_of c.answered.answer)) (row_tells store row)

  pub row_zero : eqb n 0 ≡ is_accepted (row_answer store row)
  row_zero = tells_accepted (λ t. t) row_said

  pub row_number : T (eqb n 0 || of_row n)
  row_number = tells_among row_said

  -- "18 row not under the count, with an empty part"
  pub row_empty : eqb n 0 ≡ false → size ≡ 0
  unfolding is_accepted span_of part_length
  row_empty e = c.length ∙ ap part_length c.answered.answer ∙ go (row_answer store row) (sym row_zero ∙ e)
    where
      go : (r : Result (List ℕ)) → is_accepted r ≡ false → part_length (span_of store row r) ≡ 0
      go (value part) k = absurd (subst T k tt)
      go (refused m q) k = refl

-- What the calls of a C program answer: the number and the place of the answer, and of a row also where its part stands. Assumes nothing.
use Rattle.std.specs.Prelude.{◌≡◌, ℕ, ◌-◌, ◌≤◌, List, Bool, true, false, Float, Ok, Err}
use Rattle.pywr.specs.declared.Sentinel.{Sentinel}
use Rattle.pywr.specs.declared.Sentinel.TheVariants.{Infinity, Largest}
use Rattle.pywr.specs.Answer.{Answer, RowAnswer}
use Rattle.pywr.specs.Answers.{number_of, place_of, row_number_of, row_place_of}
use Rattle.pywr.specs.Store.{Store}
use Rattle.pywr.specs.Calls.{AfterBuild, AfterStep}
use Rattle.store.specs.Reading.{RowAnswered}

-- "the caller picks infinity or the largest finite double as high sentinel"
abbrev pub picked : Bool → Sentinel
picked true = Infinity
picked false = Largest

-- a part does not end before it starts
abbrev pub Rises : RowAnswer → Type 0
Rises (Ok (start, end)) = start ≤ end
Rises (Err refusal) = Unit {0}

-- where a row's part starts in the column list, and its length: 0 and 0 where it is refused
unfoldable pub part_start : RowAnswer → ℕ
part_start (Ok (start, end)) = start
part_start (Err refusal) = 0

unfoldable pub part_length : RowAnswer → ℕ
part_length (Ok (start, end)) = end - start
part_length (Err refusal) = 0

-- number n and place p are those of a build's answer
pub record BuildCrossed (s : Sentinel) (file : List ℕ) (old : Store) (words : List ℕ) (numbers : List Float) (n p : ℕ) (new : Store) (words' : List ℕ) (numbers' : List Float) : Type 0 where
  pub answer : Answer
  pub after : AfterBuild s file old words numbers answer new words' numbers'
  pub number : n ≡ number_of answer
  pub place : p ≡ place_of answer

-- number n and place p are those of a step's answer
pub record StepCrossed (file : List ℕ) (old : Store) (work : List Float) (n p : ℕ) (new : Store) (work' : List Float) : Type 0 where
  pub answer : Answer
  pub after : AfterStep file old work answer new work'
  pub number : n ≡ number_of answer
  pub place : p ≡ place_of answer

-- number n, place p and the part are those of the answer for a row
pub record RowCrossed (s : Store) (row n p start size : ℕ) : Type 0 where
  pub answer : RowAnswer
  pub answered : RowAnswered s row answer
  pub number : n ≡ row_number_of answer
  pub place : p ≡ row_place_of answer
  pub starts : start ≡ part_start answer
  pub length : size ≡ part_length answer

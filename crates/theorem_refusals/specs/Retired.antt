-- A retired number: "drop the check and leave the number unused" (15). Assumes nothing.
use Rattle.std.specs.Prelude.{◌≡◌, ℕ, List, Float}
use Rattle.pywr.specs.declared.Sentinel.{Sentinel}
use Rattle.pywr.specs.Result.{refused}
use Rattle.pywr.specs.Store.{Store}
use Rattle.pywr.specs.Calls.{build_answer, step_answer, row_answer}

abbrev pub retired : ℕ
retired = 15

-- no call refuses with the number, whatever files, stores and work areas it is lent
pub record NeverAnswered (number : ℕ) : Type 0 where
  pub build : (s : Sentinel) (file : List ℕ) (old : Store) (words : List ℕ) (numbers : List Float) (place : ℕ) → build_answer s file old words numbers ≡ refused number place → ⊥
  pub step : (store : Store) (file : List ℕ) (work : List Float) (place : ℕ) → step_answer store file work ≡ refused number place → ⊥
  pub row : (store : Store) (row place : ℕ) → row_answer store row ≡ refused number place → ⊥

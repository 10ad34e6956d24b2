-- A retired number, of the exported calls. Assumes nothing.
use Rattle.std.specs.Prelude.{ℕ, List, Float}
use Rattle.pywr.specs.declared.Sentinel.{Sentinel}
use Rattle.pywr.specs.Store.{Store}
use Rattle.pywr_c_answers.specs.Crossing.{BuildCrossed, StepCrossed, RowCrossed}

-- `pywr_build`, `pywr_step` and `pywr_row` never answer the number
pub record NeverNumbered (number : ℕ) : Type 0 where
  pub build : (s : Sentinel) (file : List ℕ) (old new : Store) (words words' : List ℕ) (numbers numbers' : List Float) (place : ℕ)
      → BuildCrossed s file old words numbers number place new words' numbers' → ⊥
  pub step : (file : List ℕ) (old new : Store) (work work' : List Float) (place : ℕ) → StepCrossed file old work number place new work' → ⊥
  pub row : (store : Store) (row place start size : ℕ) → RowCrossed store row number place start size → ⊥

-- A call's contract as its numbers cross. Assumes nothing.
use mathlib.Core.Path.{◌≡◌}
use Prim.Native.Nat.{ℕ}
use mathlib.Core.List.{List}
use lib.Ieee.{Float}
use Rattle.pywr.specs.declared.Sentinel.{Sentinel}
use Rattle.std.specs.Prelude.{Ok, Err}
use Rattle.pywr.specs.Answer.{Answer, RowAnswer}
use Rattle.pywr.specs.Answers.{number_of, place_of, row_number_of, row_place_of}
use Rattle.pywr.specs.Store.{Store}
use Rattle.pywr.specs.Calls.{AfterBuild, AfterStep}
use Rattle.store.specs.Reading.{Inside, RowAnswered}
use Rattle.pywr_c_answers.specs.Crossing.{Rises, BuildCrossed, StepCrossed, RowCrossed, part_start, part_length}

pub build_crossed : {t : Sentinel} (s : Sentinel) {file words words' : List ℕ} {old new : Store} {numbers numbers' : List Float} {n p : ℕ} (a : Answer)
    → t ≡ s → AfterBuild t file old words numbers a new words' numbers' → (n ≡ number_of a) × (p ≡ place_of a) → BuildCrossed s file old words numbers n p new words' numbers'
build_crossed s a e b c =
    record { answer = a; after = rw e at b; number = c.0; place = c.1 }

pub step_crossed : {file : List ℕ} {old new : Store} {work work' : List Float} {n p : ℕ} (a : Answer) → AfterStep file old work a new work' → (n ≡ number_of a)
    × (p ≡ place_of a) → StepCrossed file old work n p new work'
step_crossed a b c = record { answer = a; after = b; number = c.0; place = c.1 }

-- a part within the columns rises
pub inside_rises : (a : RowAnswer) (n : ℕ) → Inside a n → Rises a
inside_rises (Ok (start, end)) n h = h.0
inside_rises (Err refusal) n h = tt

pub row_crossed : {s : Store} {row n p start size : ℕ} (a : RowAnswer) → RowAnswered s row a
    → (n ≡ row_number_of a) × (p ≡ row_place_of a) × (start ≡ part_start a) × (size ≡ part_length a) → RowCrossed s row n p start size
row_crossed a b c = record { answer = a; answered = b; number = c.0; place = c.1; starts = c.2; length = c.3 }

-- A step's intervals as they were written into the work run. Assumes nothing.
use Rattle.std.specs.Prelude.{◌≡◌, ℕ, ◌+◌, ◌<◌, ◌≤◌, true, false, List, Float, Ok, Err}
use Rattle.std.proofs.Math.Option.{Option, none, some}
use Rattle.pywr.specs.declared.Interval.{Interval}
use Rattle.pywr.specs.Answer.{Answer}
use Rattle.pywr.specs.Result.{first_refused}
use Rattle.pywr.specs.StepIntervals.{is_crossed}
use Rattle.pywr.specs.Store.{entries}
use Rattle.step_work.specs.WorkRun.{held_at}

-- the intervals f 0, f 1, .. are held from `base` on, and what was held before `base` still is
pub record Written (f : ℕ → Interval) (base count : ℕ) (old new : List Float) : Type 0 where
  pub held : (k : ℕ) → k < count → held_at new (base + k) ≡ f k
  pub kept : (k : ℕ) → k < base → held_at new k ≡ held_at old k

-- the first n are written: all, or those before the first crossed one
pub record WrittenTo (f : ℕ → Interval) (base count : ℕ) (old : List Float) (n : ℕ) (new : List Float) : Type 0 where
  pub few : n ≤ count
  pub so_far : Written f base n old new
  pub ordered : (k : ℕ) → k < n → is_crossed (f k) ≡ false
  pub crossed : n < count → is_crossed (f n) ≡ true

-- accepted, or the refusal that was found
unfoldable pub found_answer : Option (ℕ × ℕ) → Answer
found_answer none = Ok tt
found_answer (some found) = Err (record { number = found.0; place = found.1 })

-- the answer is the first refusal that the test gives, and where there is none all are written
pub record Looked (test : ℕ → Interval → Option ℕ) (f : ℕ → Interval) (base count : ℕ) (old : List Float) (r : Answer) (new : List Float) : Type 0 where
  pub answer : r ≡ found_answer (first_refused test 0 (entries f 1 0 count))
  pub written : r ≡ Ok tt → Written f base count old new

-- What judging a step file promises: the answer of the step, and where it is accepted all that its writing needs. Assumes nothing.
use Rattle.std.specs.Prelude.{◌≡◌, ℕ, ◌≤◌, List, true, length, Float, Ok}
use Rattle.pywr.specs.Answer.{Answer}
use Rattle.pywr.specs.Result.{Result, value}
use Rattle.pywr.specs.Answers.{answer_of}
use Rattle.pywr.specs.StepFile.{StepFile, read_step}
use Rattle.pywr.specs.Store.{Store, node_count, aggregate_count, virtual_storage_count, shape_of}
use Rattle.pywr.specs.Misshapen.{well_shaped}
use Rattle.pywr.specs.Calls.{step_room, step_intervals, step_answer}
use Rattle.step_file.specs.Decoded.{file_length}
use Rattle.step_work.specs.WorkRun.{IntervalsHeld}
pub use Rattle.step_intervals.specs.Found.{decoded_by}

-- the file as the store's shape reads it, left to right; `decoded_by` is by the places of its numbers
abbrev pub read_on : Store → List ℕ → Result StepFile
read_on s file = read_step (shape_of s).nodes (length (shape_of s).aggregates) (length (shape_of s).virtual_storages) file

-- an accepted file: the store is well shaped, the file is long enough, and the work run holds its intervals
pub record Ready (s : Store) (file : List ℕ) (work : List Float) : Type 0 where
  pub shaped : well_shaped s ≡ true
  pub long : file_length (node_count s) (aggregate_count s) (virtual_storage_count s) ≤ length file
  pub held : IntervalsHeld (node_count s) (aggregate_count s) (virtual_storage_count s) work (step_intervals s (decoded_by s file))

pub record Judged (s : Store) (file : List ℕ) (r : Answer) (work : List Float) : Type 0 where
  pub answer : (lent : List Float) → step_room s lent ≡ true → r ≡ answer_of (step_answer s file lent)
  pub read : (lent : List Float) → step_room s lent ≡ true → r ≡ Ok tt → step_answer s file lent ≡ value (decoded_by s file)
  pub ready : r ≡ Ok tt → Ready s file work

-- What finding the intervals of a step promises: its answer, and the work run where it accepts. Assumes nothing.
use Rattle.std.specs.Prelude.{◌≡◌, ℕ, List, length, Float, Ok}
use Rattle.pywr.specs.Answer.{Answer}
use Rattle.pywr.specs.Answers.{answer_of}
use Rattle.pywr.specs.Calls.{step_intervals, step_ordered}
use Rattle.pywr.specs.StepFile.{StepFile}
use Rattle.pywr.specs.StepIntervals.{Intervals}
use Rattle.pywr.specs.Store.{Store, node_count, aggregate_count, virtual_storage_count, shape_of}
use Rattle.step_file.specs.Decoded.{decoded}
use Rattle.step_work.specs.WorkRun.{IntervalsHeld}

-- the file as the store's shape reads it, by the places of its numbers
abbrev pub decoded_by : Store → List ℕ → StepFile
decoded_by s file = decoded (shape_of s).nodes (length (shape_of s).aggregates) (length (shape_of s).virtual_storages) file

-- the intervals that it gives on the store
unfoldable pub intervals_in : Store → List ℕ → Intervals
intervals_in s file = step_intervals s (decoded_by s file)

pub record Found (s : Store) (file : List ℕ) (r : Answer) (work : List Float) : Type 0 where
  pub answer : r ≡ answer_of (step_ordered s (decoded_by s file))
  pub held : r ≡ Ok tt → IntervalsHeld (node_count s) (aggregate_count s) (virtual_storage_count s) work (intervals_in s file)

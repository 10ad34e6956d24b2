-- What a step file that was good in one walk tells: its records pass their checks, and the work run holds its intervals. Assumes nothing.
use Rattle.std.specs.Prelude.{◌≡◌, ℕ, ◌+◌, ◌*◌, ◌<◌, List, length, Float, Ok}
use Rattle.layout.specs.Layout.{nodes_in, node_rows_in, node_rows_at, node_row_width, node_row_node}
use Rattle.pywr.specs.declared.Interval.{Interval}
use Rattle.pywr.specs.declared.Sentinel.{Sentinel}
use Rattle.pywr.specs.Answer.{Answer}
use Rattle.pywr.specs.Answers.{answer_of}
use Rattle.pywr.specs.StepFile.{read_step}
use Rattle.pywr.specs.Store.{Store, shape_of}
use Rattle.step_record.specs.Check.{date_length}
use Rattle.step_file.specs.CheckStep.{check_nodes, check_records}
use Rattle.step_work.specs.Written.{Written, WrittenTo}
use Rattle.step_node_intervals.specs.NodeIntervals.{node_numbered}
use Rattle.step_node_intervals.specs.BinaryRows.{node_rows_of, binary_beyond, LeastOf}
use Rattle.step_intervals.specs.Found.{Found}

-- each node row names a node
abbrev pub NodesNamed : List ℕ → Type 0
NodesNamed shape = (k : ℕ) → k < node_rows_in shape → node_row_node shape (node_rows_at + node_row_width * k) < nodes_in shape

-- the nodes: every interval is written, and none is crossed
pub record NodesWalked (s : Sentinel) (days : Float) (shape file : List ℕ) (old new : List Float) : Type 0 where
  pub accepted : (store : Store) → store.shape ≡ shape → check_nodes file (shape_of store).nodes date_length ≡ Ok tt
  pub written : WrittenTo (node_numbered s days shape file) 0 (nodes_in shape) old (nodes_in shape) new

-- of the nodes none that 21 refuses
abbrev pub NoneBeyond : Sentinel → List ℕ → List Float → Type 0
NoneBeyond s shape work = LeastOf (binary_beyond s (node_rows_of shape (node_rows_in shape)) work) (nodes_in shape) (nodes_in shape)

-- the aggregates or the virtual storages: `count` records of one size from `at`, their intervals held from `base` on
pub record RecordsWalked (check : ℕ → Answer) (size at : ℕ) (f : ℕ → Interval) (base count : ℕ) (old new : List Float) : Type 0 where
  pub accepted : check_records check size count at ≡ Ok tt
  pub written : Written f base count old new

pub record FileWalked (s : Store) (file : List ℕ) (work : List Float) : Type 0 where
  pub read : answer_of (read_step (shape_of s).nodes (length (shape_of s).aggregates) (length (shape_of s).virtual_storages) file) ≡ Ok tt
  pub found : Found s file (Ok tt) work

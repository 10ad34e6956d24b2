-- A step file checked left to right, each record where it stands: accepted, or the first refusal. Assumes nothing.
use Rattle.std.specs.Prelude.{ℕ, zero, suc, ◌+◌, List, [], ◌∷◌, cond, length, leb, Ok, Err}
use Rattle.pywr.specs.declared.Reason.{Reason}
use Rattle.pywr.specs.Answer.{Answer}
use Rattle.pywr.specs.Answers.{refusal_at}
use Rattle.pywr.specs.Programme.{NodeShape}
use Rattle.step_record.specs.Check.{answer_then, check_date, check_node, check_aggregate, check_virtual_storage_step, date_length, node_step_length, aggregate_step_length, virtual_storage_step_length}
use Rattle.step_file.specs.Decoded.{aggregate_steps_at, virtual_storage_steps_at, file_length}

unfoldable pub check_nodes : List ℕ → List NodeShape → ℕ → Answer
check_nodes file [] at = Ok tt
check_nodes file (n ∷ ns) at = answer_then (check_node file n at) (check_nodes file ns (at + node_step_length))

-- `count` records of one size from `at`
unfoldable pub check_records : (ℕ → Answer) → ℕ → ℕ → ℕ → Answer
check_records check size zero at = Ok tt
check_records check size (suc count) at = answer_then (check at) (check_records check size count (at + size))

-- the first byte left over is the place
unfoldable pub check_end : List ℕ → ℕ → Answer
check_end file end = cond (leb (length file) end) (Ok tt) (Err (refusal_at Reason.WrongStepFile end))

-- n nodes with these shapes
unfoldable pub check_file : List ℕ → List NodeShape → ℕ → ℕ → ℕ → Answer
check_file file shapes n aggregates virtual_storages =
    answer_then (check_date file)
    (answer_then (check_nodes file shapes date_length)
    (answer_then (check_records (check_aggregate file) aggregate_step_length aggregates (aggregate_steps_at n))
    (answer_then (check_records (check_virtual_storage_step file) virtual_storage_step_length virtual_storages (virtual_storage_steps_at n aggregates))
    (check_end file (file_length n aggregates virtual_storages)))))

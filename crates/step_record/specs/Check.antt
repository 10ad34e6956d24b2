-- The marks, fields and records of a step file, each checked where it stands: accepted, or 12 or 13 with the record's place. Assumes nothing.
use Rattle.std.specs.Prelude.{ℕ, ◌+◌, List, Bool, true, cond, ◌&&◌, leb, Ok, Err}
use Rattle.pywr.specs.declared.Reason.{Reason}
use Rattle.pywr.specs.Answer.{Answer}
use Rattle.pywr.specs.Answers.{refusal_at}
use Rattle.pywr.specs.Bytes.{byte, le64, within, mark_is}
use Rattle.pywr.specs.Numbers.{is_flow, is_small, is_days}
use Rattle.pywr.specs.Programme.{NodeShape}
use Rattle.pywr.specs.StepFile.{days_in, is_storage}
use Rattle.step_record.specs.declared.Range.{Range}
use Rattle.step_record.specs.declared.Range.TheVariants.{Unread, Flow, Small, Days}

-- an `ST` record: its length, and where its fields stand in it
abbrev pub date_length : ℕ
date_length = 12

abbrev pub month_offset : ℕ
month_offset = 2

abbrev pub day_offset : ℕ
day_offset = 3

abbrev pub days_offset : ℕ
days_offset = 4

-- an `NB` record
abbrev pub node_step_length : ℕ
node_step_length = 34

abbrev pub node_cost_offset : ℕ
node_cost_offset = 2

abbrev pub node_min_offset : ℕ
node_min_offset = 10

abbrev pub node_max_offset : ℕ
node_max_offset = 18

abbrev pub node_volume_offset : ℕ
node_volume_offset = 26

-- a `GB` record
abbrev pub aggregate_step_length : ℕ
aggregate_step_length = 18

abbrev pub aggregate_lower_offset : ℕ
aggregate_lower_offset = 2

abbrev pub aggregate_upper_offset : ℕ
aggregate_upper_offset = 10

-- a `VB` record
abbrev pub virtual_storage_step_length : ℕ
virtual_storage_step_length = 26

abbrev pub virtual_min_offset : ℕ
virtual_min_offset = 2

abbrev pub virtual_max_offset : ℕ
virtual_max_offset = 10

abbrev pub virtual_volume_offset : ℕ
virtual_volume_offset = 18

-- a bit pattern within its range
unfoldable pub in_range : Range → ℕ → Bool
in_range Unread bits = true
in_range Flow bits = is_flow bits
in_range Small bits = is_small bits
in_range Days bits = is_days bits

-- a node's min and max, and its volume, by whether it is constant and whether it is a storage
unfoldable pub bound_range : Bool → Bool → Range
bound_range constant stores = cond constant Unread (cond stores Small Flow)

unfoldable pub volume_range : Bool → Range
volume_range stores = cond stores Small Unread

unfoldable pub check_mark : List ℕ → ℕ → ℕ → ℕ → Answer
check_mark file at a b = cond (within file at 2 && mark_is file at a b) (Ok tt) (Err (refusal_at Reason.WrongStepFile at))

unfoldable pub check_field : List ℕ → ℕ → ℕ → Range → Answer
check_field file place at range =
    cond (within file at 8) (cond (in_range range (le64 file at)) (Ok tt) (Err (refusal_at Reason.StepOutOfRange place))) (Err (refusal_at Reason.WrongStepFile place))

unfoldable pub check_byte : List ℕ → ℕ → ℕ → Answer
check_byte file at most =
    cond (within file at 1) (cond (leb 1 (byte file at) && leb (byte file at) most) (Ok tt) (Err (refusal_at Reason.StepOutOfRange 0))) (Err (refusal_at Reason.WrongStepFile 0))

-- the first refusal ends the reading
unfoldable pub answer_then : Answer → Answer → Answer
answer_then (Ok _) next = next
answer_then (Err refusal) next = Err refusal

unfoldable pub check_date : List ℕ → Answer
check_date file =
    answer_then (check_mark file 0 83 84)
    (answer_then (check_byte file month_offset 12) (answer_then (check_byte file day_offset (days_in (byte file month_offset))) (check_field file 0 days_offset Days)))

-- the fields of a record behind what was answered so far
unfoldable pub check_node : List ℕ → NodeShape → ℕ → Answer
check_node file n at =
    let cost = answer_then (check_mark file at 78 66) (check_field file at (at + node_cost_offset) Small) in
    let min = answer_then cost (check_field file at (at + node_min_offset) (bound_range n.constant (is_storage n))) in
    let max = answer_then min (check_field file at (at + node_max_offset) (bound_range n.constant (is_storage n))) in
    answer_then max (check_field file at (at + node_volume_offset) (volume_range (is_storage n)))

unfoldable pub check_aggregate : List ℕ → ℕ → Answer
check_aggregate file at =
    let lower = answer_then (check_mark file at 71 66) (check_field file at (at + aggregate_lower_offset) Flow) in
    answer_then lower (check_field file at (at + aggregate_upper_offset) Flow)

unfoldable pub check_virtual_storage_step : List ℕ → ℕ → Answer
check_virtual_storage_step file at =
    let min = answer_then (check_mark file at 86 66) (check_field file at (at + virtual_min_offset) Small) in
    let max = answer_then min (check_field file at (at + virtual_max_offset) Small) in
    answer_then max (check_field file at (at + virtual_volume_offset) Small)

-- One record of the network file, behind the records counted so far: its mark and where the next one starts, or the refusal.
-- Assumes nothing.
use Rattle.std.specs.Prelude.{ℕ, ◌+◌, ◌≤◌, ◌≡◌, List, Bool, true, Option, Some, None, Result, Ok, Err, cond, length, ltb}
use Rattle.layout.specs.Layout.{node_ceiling, edge_ceiling, aggregate_ceiling, virtual_storage_ceiling}
use Rattle.pywr.specs.declared.Reason.{Reason}
use Rattle.pywr.specs.declared.Refusal.{Refusal}
use Rattle.pywr.specs.Answers.{refusal_at}
use Rattle.pywr.specs.Bytes.{within, mark_is}
use Rattle.fields.specs.Field.{Checked, check_then}
use Rattle.network_node.specs.Node.{check_node}
use Rattle.network_edge.specs.Edge.{check_edge}
use Rattle.network_aggregate.specs.AggregatedNode.{check_aggregate}
use Rattle.network_virtual_storage.specs.VirtualStorage.{check_virtual_storage}
use Rattle.network_record.specs.declared.Mark.{Mark}
use Rattle.network_record.specs.declared.Record.{Record}
use Rattle.network_record.specs.declared.Counts.{Counts}

-- a record that passed, or the refusal
abbrev pub CheckedRecord : Type 0
CheckedRecord = Result Record Refusal

-- a mark's place among the four, in the order of the file
abbrev pub rank : Mark → ℕ
rank Mark.Node = 0
rank Mark.Edge = 1
rank Mark.Aggregate = 2
rank Mark.VirtualStorage = 3

-- a mark, where the bytes are one of the four
abbrev pub Found : Type 0
Found = Option Mark

-- the mark at `at`
unfoldable pub mark_at : List ℕ → ℕ → Found
mark_at file at =
    cond (mark_is file at 78 68) (Some Mark.Node)
    (cond (mark_is file at 69 68) (Some Mark.Edge)
    (cond (mark_is file at 65 71) (Some Mark.Aggregate)
    (cond (mark_is file at 86 83) (Some Mark.VirtualStorage) None)))

-- the counts with one record more, which ends at `end`
abbrev pub with_record : Counts → Mark → ℕ → Counts
with_record c Mark.Node end =
    record { nodes = c.nodes + 1; edges = c.edges; aggregates = c.aggregates; virtual_storages = c.virtual_storages; virtual_storages_at = end }
with_record c Mark.Edge end =
    record { nodes = c.nodes; edges = c.edges + 1; aggregates = c.aggregates; virtual_storages = c.virtual_storages; virtual_storages_at = end }
with_record c Mark.Aggregate end =
    record { nodes = c.nodes; edges = c.edges; aggregates = c.aggregates + 1; virtual_storages = c.virtual_storages; virtual_storages_at = end }
with_record c Mark.VirtualStorage end =
    record { nodes = c.nodes; edges = c.edges; aggregates = c.aggregates; virtual_storages = c.virtual_storages + 1; virtual_storages_at = c.virtual_storages_at }

-- fewer than the ceiling so far
abbrev pub has_room : Counts → Mark → Bool
has_room c Mark.Node = ltb c.nodes node_ceiling
has_room c Mark.Edge = ltb c.edges edge_ceiling
has_room c Mark.Aggregate = ltb c.aggregates aggregate_ceiling
has_room c Mark.VirtualStorage = ltb c.virtual_storages virtual_storage_ceiling

-- the record with this mark, by its check
abbrev pub record_of : Mark → Checked → CheckedRecord
record_of mark body = check_then body (λ x. Ok (record { mark = mark; end = x }))

module _ (file : List ℕ) (at : ℕ) (c : Counts) where
  -- the check of a record by its mark
  abbrev pub check_body : Mark → Checked
  check_body Mark.Node = check_node file at
  check_body Mark.Edge = check_edge file c.nodes c.edges at
  check_body Mark.Aggregate = check_aggregate file c.nodes at
  check_body Mark.VirtualStorage = check_virtual_storage file c.nodes at

  -- a record in order: 6 where it is one too many, else its check
  unfoldable pub check_marked : Mark → Checked
  check_marked mark = cond (has_room c mark) (check_body mark) (Err (refusal_at Reason.TooManyRecords at))

  -- 2 where the mark is unknown or out of order; `stage` is the mark of the record before
  abbrev pub check_found : Mark → Found → CheckedRecord
  check_found stage None = Err (refusal_at Reason.WrongMark at)
  check_found stage (Some mark) = cond (ltb (rank mark) (rank stage)) (Err (refusal_at Reason.WrongMark at)) (record_of mark (check_marked mark))

  -- the record at `at`: its mark (1, 2), 6, its check
  unfoldable pub check_record : Mark → CheckedRecord
  check_record stage = cond (within file at 2) (check_found stage (mark_at file at)) (Err (refusal_at Reason.FileEnds at))

  -- what holds of a record that passed: it is in order and not one too many, and it ends within the file
  abbrev pub RecordPassed : Mark → CheckedRecord → Type 0
  RecordPassed stage (Ok r) = (rank stage ≤ rank r.mark) × (has_room c r.mark ≡ true) × (check_body r.mark ≡ Ok r.end) × (r.end ≤ length file)
  RecordPassed stage (Err refusal) = Unit {0}

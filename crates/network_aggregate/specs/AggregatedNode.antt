-- An `AG` record by its bytes: what it holds, where it ends, and its check, which answers where the next record starts or the refusal.
-- Assumes nothing.
use Rattle.std.specs.Prelude.{ℕ, ◌+◌, ◌*◌, List, eqb, Ok}
use Rattle.layout.specs.Layout.{aggregate_set_ceiling, set_size_ceiling}
use Rattle.pywr.specs.Bytes.{byte, le16, le32}
use Rattle.pywr.specs.Network.{Aggregate}
use Rattle.fields.specs.Field.{Checked, byte_field, node_field, active_field, check_then}
use Rattle.fields.specs.Records.{records_at, records_end, check_each}

-- where its fields and its sets stand in it
abbrev pub exclusive_offset : ℕ
exclusive_offset = 2

abbrev pub set_count_offset : ℕ
set_count_offset = 3

abbrev pub min_active_offset : ℕ
min_active_offset = 4

abbrev pub max_active_offset : ℕ
max_active_offset = 8

abbrev pub sets_offset : ℕ
sets_offset = 12

-- a set: its size, then its nodes, node k at `member_place`
abbrev pub members_offset : ℕ
members_offset = 1

abbrev pub member_length : ℕ
member_length = 2

abbrev pub member_place : ℕ → ℕ → ℕ
member_place at k = at + members_offset + member_length * k

module _ (file : List ℕ) where
  abbrev pub aggregate_set_at : ℕ → List ℕ
  aggregate_set_at at = records_at (le16 file) (λ at. at + member_length) (byte file at) (at + members_offset)

  abbrev pub set_end : ℕ → ℕ
  set_end at = member_place at (byte file at)

  abbrev pub aggregate_at : ℕ → Aggregate
  aggregate_at at =
      record {
        exclusive = eqb (byte file (at + exclusive_offset)) 1;
        min_active = le32 file (at + min_active_offset);
        max_active = le32 file (at + max_active_offset);
        sets = records_at aggregate_set_at set_end (byte file (at + set_count_offset)) (at + sets_offset);
      }

  abbrev pub aggregate_end : ℕ → ℕ
  aggregate_end at = records_end set_end (byte file (at + set_count_offset)) (at + sets_offset)

module _ (file : List ℕ) (place nodes : ℕ) where
  -- a node of a set
  unfoldable pub check_member : ℕ → Checked
  check_member at = check_then (node_field file place at nodes) (λ n. Ok (at + member_length))

  -- a set: its size 1..16 and its nodes
  unfoldable pub check_set : ℕ → Checked
  check_set at = check_then (byte_field file place at 1 set_size_ceiling) (λ size. check_each check_member size (at + members_offset))

-- the record at `at`, its mark apart
unfoldable pub check_aggregate : List ℕ → ℕ → ℕ → Checked
check_aggregate file nodes at =
    check_then (byte_field file at (at + exclusive_offset) 0 1) (λ kind.
    check_then (byte_field file at (at + set_count_offset) 1 aggregate_set_ceiling) (λ sets.
    check_then (active_field file at (at + min_active_offset) kind 0) (λ least.
    check_then (active_field file at (at + max_active_offset) kind least) (λ most.
    check_each (check_set file at nodes) sets (at + sets_offset)))))

-- A `VS` record by its bytes: what it holds, where it ends, and its check, which answers where the next record starts or the refusal.
-- Assumes nothing.
use Rattle.std.specs.Prelude.{ℕ, ◌+◌, ◌*◌, List, eqb, Ok}
use Rattle.layout.specs.Layout.{part_ceiling}
use Rattle.pywr.specs.Bytes.{byte, le16, le64}
use Rattle.pywr.specs.Numbers.{of_pattern}
use Rattle.pywr.specs.Network.{Part, Period, VirtualStorage}
use Rattle.pywr.specs.NetworkFile.{least_date, most_date}
use Rattle.fields.specs.Field.{Checked, byte_field, node_field, check_factor, check_then}
use Rattle.fields.specs.Records.{records_at, check_each}

-- where its fields and its parts stand in it
abbrev pub period_offset : ℕ
period_offset = 2

abbrev pub start_month_offset : ℕ
start_month_offset = 3

abbrev pub start_day_offset : ℕ
start_day_offset = 4

abbrev pub end_month_offset : ℕ
end_month_offset = 5

abbrev pub end_day_offset : ℕ
end_day_offset = 6

abbrev pub part_count_offset : ℕ
part_count_offset = 7

abbrev pub parts_offset : ℕ
parts_offset = 8

-- a part: a node, then its factor; part k stands at `part_place`
abbrev pub storage_part_length : ℕ
storage_part_length = 10

abbrev pub factor_offset : ℕ
factor_offset = 2

abbrev pub part_place : ℕ → ℕ → ℕ
part_place at k = at + parts_offset + storage_part_length * k

module _ (file : List ℕ) where
  abbrev pub part_at : ℕ → Part
  part_at at = record { node = le16 file at; factor = of_pattern (le64 file (at + factor_offset)) }

  abbrev pub period_at : ℕ → Period
  period_at at =
      record {
        always = eqb (byte file (at + period_offset)) 0;
        start_month = byte file (at + start_month_offset);
        start_day = byte file (at + start_day_offset);
        end_month = byte file (at + end_month_offset);
        end_day = byte file (at + end_day_offset);
      }

  abbrev pub virtual_storage_at : ℕ → VirtualStorage
  virtual_storage_at at =
      record { period = period_at at; parts = records_at part_at (λ at. at + storage_part_length) (byte file (at + part_count_offset)) (at + parts_offset) }

  abbrev pub virtual_storage_end : ℕ → ℕ
  virtual_storage_end at = part_place at (byte file (at + part_count_offset))

-- a part: a node and its factor
unfoldable pub check_part : List ℕ → ℕ → ℕ → ℕ → Checked
check_part file place nodes at =
    check_then (node_field file place at nodes) (λ n. check_then (check_factor file place (at + factor_offset)) (λ next. Ok (at + storage_part_length)))

-- start month, start day, end month, end day of the record at `at`
unfoldable pub check_dates : List ℕ → ℕ → ℕ → Checked
check_dates file at period =
    check_then (byte_field file at (at + start_month_offset) (least_date period) (most_date period 12)) (λ m.
    check_then (byte_field file at (at + start_day_offset) (least_date period) (most_date period 31)) (λ d.
    check_then (byte_field file at (at + end_month_offset) (least_date period) (most_date period 12)) (λ m.
    check_then (byte_field file at (at + end_day_offset) (least_date period) (most_date period 31)) (λ d.
    Ok (at + part_count_offset)))))

-- the record at `at`, its mark apart
unfoldable pub check_virtual_storage : List ℕ → ℕ → ℕ → Checked
check_virtual_storage file nodes at =
    check_then (byte_field file at (at + period_offset) 0 1) (λ period.
    check_then (check_dates file at period) (λ next.
    check_then (byte_field file at (at + part_count_offset) 1 part_ceiling) (λ n.
    check_each (check_part file at nodes) n (at + parts_offset))))

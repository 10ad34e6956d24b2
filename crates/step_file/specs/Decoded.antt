-- The numbers of a step file by their places: what `read_step` answers, where it answers a value. Assumes nothing.
use Rattle.std.specs.Prelude.{ℕ, ◌+◌, ◌*◌, List, [], ◌∷◌, length, Float}
use Rattle.pywr.specs.declared.Interval.{Interval}
use Rattle.pywr.specs.declared.NodeBounds.{NodeBounds}
use Rattle.pywr.specs.Bytes.{byte, le64}
use Rattle.pywr.specs.Numbers.{of_pattern}
use Rattle.pywr.specs.Programme.{NodeShape}
use Rattle.pywr.specs.Interval.{virtual_bounds}
use Rattle.pywr.specs.Store.{entries}
use Rattle.pywr.specs.StepFile.{NodeStep, StepFile, bounds_read}
use Rattle.step_record.specs.Check.{date_length, month_offset, day_offset, days_offset, node_step_length, node_cost_offset}
use Rattle.step_record.specs.Check.{node_min_offset, node_max_offset, node_volume_offset, aggregate_step_length, aggregate_lower_offset, aggregate_upper_offset}
use Rattle.step_record.specs.Check.{virtual_storage_step_length, virtual_min_offset, virtual_max_offset, virtual_volume_offset}

-- the double at a place
abbrev pub f64_at : List ℕ → ℕ → Float
f64_at file at = of_pattern (le64 file at)

-- `NB`, `GB`, `VB` at a place
unfoldable pub node_step_at : List ℕ → NodeShape → ℕ → NodeStep
node_step_at file n at =
    record {
      cost = f64_at file (at + node_cost_offset);
      bounds = bounds_read n (le64 file (at + node_min_offset)) (le64 file (at + node_max_offset)) (le64 file (at + node_volume_offset));
    }

unfoldable pub node_steps_at : List ℕ → List NodeShape → ℕ → List NodeStep
node_steps_at file [] at = []
node_steps_at file (n ∷ ns) at = node_step_at file n at ∷ node_steps_at file ns (at + node_step_length)

unfoldable pub aggregate_step_at : List ℕ → ℕ → Interval
aggregate_step_at file at = record { lower = f64_at file (at + aggregate_lower_offset); upper = f64_at file (at + aggregate_upper_offset) }

unfoldable pub virtual_storage_step_at : List ℕ → ℕ → NodeBounds
virtual_storage_step_at file at =
    virtual_bounds (f64_at file (at + virtual_min_offset)) (f64_at file (at + virtual_max_offset)) (f64_at file (at + virtual_volume_offset))

-- where the `NB` record of node k stands
abbrev pub node_step_place : ℕ → ℕ
node_step_place k = date_length + node_step_length * k

-- where the `GB` and the `VB` records start, where each stands, and the file's length
abbrev pub aggregate_steps_at : ℕ → ℕ
aggregate_steps_at nodes = node_step_place nodes

abbrev pub aggregate_step_place : ℕ → ℕ → ℕ
aggregate_step_place nodes k = aggregate_steps_at nodes + aggregate_step_length * k

abbrev pub virtual_storage_steps_at : ℕ → ℕ → ℕ
virtual_storage_steps_at nodes aggregates = aggregate_step_place nodes aggregates

abbrev pub virtual_storage_step_place : ℕ → ℕ → ℕ → ℕ
virtual_storage_step_place nodes aggregates k = virtual_storage_steps_at nodes aggregates + virtual_storage_step_length * k

abbrev pub file_length : ℕ → ℕ → ℕ → ℕ
file_length nodes aggregates virtual_storages = virtual_storage_step_place nodes aggregates virtual_storages

unfoldable pub decoded : List NodeShape → ℕ → ℕ → List ℕ → StepFile
decoded shapes aggregates virtual_storages file =
    record {
      month = byte file month_offset;
      day = byte file day_offset;
      days = f64_at file days_offset;
      nodes = node_steps_at file shapes date_length;
      aggregates = entries (aggregate_step_at file) aggregate_step_length (aggregate_steps_at (length shapes)) aggregates;
      virtual_storages = entries (virtual_storage_step_at file) virtual_storage_step_length (virtual_storage_steps_at (length shapes) aggregates) virtual_storages;
    }

-- The tables walked one after the other: the file reads well, and its intervals are found. Assumes nothing.
use mathlib.Core.Path.{◌≡◌, refl, ◌∙◌}
use native.Mathlib.Omega.{arith}
use Prim.Native.Nat.{ℕ, ◌≤◌}
use mathlib.Core.List.{List}
use lib.ListN.{length}
use lib.Ieee.{Float}
use borrow.Author.Tests.{le-leb}
use Rattle.layout.specs.Layout.{node_ceiling, aggregate_ceiling, sentinel_in, nodes_in, aggregates_in, virtual_storages_in, aggregates_held_at, virtual_storages_held_at}
use Rattle.std.specs.Prelude.{Ok}
use Rattle.pywr.specs.declared.Sentinel.{Sentinel}
use Rattle.pywr.specs.Answers.{answer_of}
use Rattle.pywr.specs.StepFile.{read_step}
use Rattle.pywr.specs.Store.{Store, sentinel_of, shape_of}
use Rattle.step_record.specs.Check.{answer_then, check_date, check_aggregate, check_virtual_storage_step, days_offset, aggregate_step_length, virtual_storage_step_length}
use Rattle.step_file.specs.CheckStep.{check_end, check_file}
use Rattle.step_file.specs.Decoded.{f64_at, aggregate_steps_at, virtual_storage_steps_at, file_length}
use Rattle.step_file.proofs.LoopLaws.{step_answer_lem}
use Rattle.step_node_intervals.proofs.BadIntervalLaws.{none_bad}
use Rattle.step_aggregate_intervals.specs.AggregateIntervals.{aggregate_numbered}
use Rattle.step_virtual_storage_intervals.specs.VirtualStorageIntervals.{virtual_storage_numbered}
use Rattle.step_intervals.proofs.FoundLaws.{all_found}
use Rattle.step_walk.specs.WalkedFile.{NodesWalked, NoneBeyond, RecordsWalked, FileWalked}

module _ (s : Store) (shape file : List ℕ) (e : s.shape ≡ shape) (long : length file ≡ file_length (nodes_in shape) (aggregates_in shape) (virtual_storages_in shape))
    (date : check_date file ≡ Ok tt) (days : Float) (of-days : days ≡ f64_at file days_offset) (sentinel : Sentinel) (kept : sentinel ≡ sentinel_of (sentinel_in shape))
    (w₀ w₁ w₂ w₃ : List Float) (nodes : NodesWalked sentinel days shape file w₀ w₁) (none : NoneBeyond sentinel shape w₁)
    (aggregates : RecordsWalked (check_aggregate file) aggregate_step_length (aggregate_steps_at (nodes_in shape)) (aggregate_numbered shape file) aggregates_held_at (aggregates_in shape) w₁ w₂)
    (storages : RecordsWalked (check_virtual_storage_step file) virtual_storage_step_length (virtual_storage_steps_at (nodes_in shape) (aggregates_in shape))
    (virtual_storage_numbered sentinel days shape file) virtual_storages_held_at (virtual_storages_in shape) w₂ w₃) where
  reads_well : answer_of (read_step (shape_of s).nodes (length (shape_of s).aggregates) (length (shape_of s).virtual_storages) file) ≡ Ok tt
  unfolding check_file answer_then check_end
  reads_well =
      step_answer_lem s file shape (nodes_in shape) (aggregates_in shape) (virtual_storages_in shape) e refl refl refl
      ∙ rw (date, nodes.accepted s e, aggregates.accepted, storages.accepted, le-leb (length file) (file_length (nodes_in shape) (aggregates_in shape) (virtual_storages_in shape)) (omega arith))

  pub file_walked : nodes_in shape ≤ node_ceiling → aggregates_in shape ≤ aggregate_ceiling → FileWalked s file w₃
  file_walked few_nodes few_aggregates_lem =
      record {
        read = reads_well;
        found = all_found s shape file e days of-days sentinel kept w₀ w₁ (Ok tt) (none_bad _ _ _ _ _ _ _ _ nodes.written none (omega arith) (omega arith))
            few_nodes few_aggregates_lem refl w₂ w₃ aggregates.written storages.written;
      }

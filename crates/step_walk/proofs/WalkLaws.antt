-- The loops of the walk: a turn, and the end where every record was good. Assumes nothing.
use mathlib.Core.Path.{◌≡◌, refl, sym, ◌∙◌}
use Prim.Native.Nat.{ℕ, ◌+◌, ◌*◌, ◌<◌, ◌≤◌}
use native.Mathlib.Nat.{sub-zero, zero-add}
use native.Mathlib.Omega.{arith}
use mathlib.Core.List.{List}
use mathlib.Core.Bool.{true, false}
use lib.ListN.{length}
use lib.Ieee.{Float}
use Rattle.layout.specs.Layout.{step_work_length, uppers_at, nodes_at, node_width, node_kind, node_flag, virtual_storages_at, virtual_storage_width, nodes_in, aggregates_in}
use Rattle.laws.proofs.Tests.{of_true}
use Rattle.std.specs.Prelude.{Option, Some, Ok, Err}
use Rattle.std.specs.Result.{is_err}
use Rattle.pywr.specs.Answer.{Answer}
use Rattle.pywr.specs.declared.Interval.{Interval}
use Rattle.pywr.specs.declared.Sentinel.{Sentinel}
use Rattle.pywr.specs.Bytes.{byte}
use Rattle.pywr.specs.StepIntervals.{is_crossed}
use Rattle.pywr.specs.Store.{node_entry}
use Rattle.store_shape.proofs.Entries.{of_shape}
use Rattle.step_record.specs.Check.{month_offset, day_offset}
use Rattle.step_file.specs.Decoded.{node_step_place, virtual_storage_step_place}
use Rattle.step_file.proofs.LoopLaws.{NodesLeft, nodes_more, nodes_done_lem, nodes_of, RecordsLeft, records_first, records_more, records_done}
use Rattle.step_virtual_interval.specs.VirtualInterval.{virtual_interval_at}
use Rattle.step_work.proofs.WrittenLaws.{put, Writing, writing_none, writing_more, writing_all, Passed, passed_none, passed_more, passed_all}
use Rattle.step_node_intervals.specs.NodeIntervals.{node_numbered}
use Rattle.step_virtual_storage_intervals.specs.VirtualStorageIntervals.{virtual_storage_numbered}
use Rattle.step_walk_record.specs.WalkedRecord.{NodeWalked, VirtualStorageWalked}
use Rattle.step_walk.specs.WalkedFile.{NodesWalked, RecordsWalked}

-- a walk that stopped tells nothing
pub stopped : {X : Type 0} → false ≡ true → X
stopped e = absurd (of_true false e)

-- a check that did not fail passed
pub passed_check : (r : Answer) → is_err r ≡ false → r ≡ Ok tt
passed_check (Ok _) e = refl
passed_check (Err refusal) e = absurd (let z : ◌≡◌ {A = ℕ} 0 1 = cc in omega arith)

-- ---- records of one size

module _ (check : ℕ → Answer) (size from : ℕ) (f : ℕ → Interval) (base count : ℕ) where
  -- i records passed
  pub record Walking (w₀ w : List Float) (i : ℕ) : Type 0 where
    pub left : RecordsLeft check size count from i
    pub writing : Writing f base count w₀ w i

  pub walking_none : (w : List Float) → Walking w w 0
  walking_none w = record { left = records_first check size count from; writing = writing_none f base count w }

module _ {check : ℕ → Answer} {size from : ℕ} {f : ℕ → Interval} {base count : ℕ} {w₀ w : List Float} {i : ℕ} (h : Walking check size from f base count w₀ w i) where
  pub walking_more : (k : ℕ) (x : Interval) → k ≡ base + i → base + count ≤ uppers_at → step_work_length ≤ length w₀ → i < count → check (from + size * i) ≡ Ok tt → x ≡ f i
      → Walking check size from f base count w₀ (put w k x) (i + 1)
  walking_more k x q room enough lt accepted is =
      record {
        left = records_more check size count from i h.left lt accepted;
        writing = writing_more k x q room enough lt is h.writing;
      }

  pub walking_all : count ≤ i → RecordsWalked check size from f base count w₀ w
  walking_all le = record { accepted = sym (records_done check size count from i h.left le); written = writing_all le h.writing }

-- a virtual storage's interval on the step's date
module _ {shape file : List ℕ} {at month day : ℕ} {days : Float} {s : Sentinel} {r : Option Interval} where
  pub virtual_storage_numbered_lem : (i : ℕ) (x : Interval) → VirtualStorageWalked shape file (virtual_storages_at + virtual_storage_width * i) at month day days s r → r ≡ Some x
      → month ≡ byte file month_offset → day ≡ byte file day_offset → at ≡ virtual_storage_step_place (nodes_in shape) (aggregates_in shape) i → x ≡ virtual_storage_numbered s days shape file i
  unfolding virtual_storage_numbered virtual_interval_at
  virtual_storage_numbered_lem i x walked good m d place = walked.interval x good ∙ rw (m, d, place)

-- ---- the nodes

module _ (s : Sentinel) (days : Float) (shape file : List ℕ) (count : ℕ) where
  -- i nodes passed
  pub record WalkingNodes (w₀ w : List Float) (i : ℕ) : Type 0 where
    pub left : NodesLeft file (node_entry (of_shape shape)) count i
    pub passed : Passed (node_numbered s days shape file) 0 count w₀ w i

  pub walking_nodes_none : (w : List Float) → WalkingNodes w w 0
  walking_nodes_none w = record { left = rw sub-zero; passed = passed_none (node_numbered s days shape file) 0 count w }

module _ {s : Sentinel} {days : Float} {shape file : List ℕ} {count : ℕ} {w₀ w : List Float} {i : ℕ} (h : WalkingNodes s days shape file count w₀ w i) where
  pub walking_nodes_more : (r : Option Interval) (x : Interval)
      → NodeWalked file (node_step_place i) (node_kind shape (nodes_at + node_width * i)) (node_flag shape (nodes_at + node_width * i)) days s r → r ≡ Some x
      → count ≤ uppers_at → step_work_length ≤ length w₀ → i < count → WalkingNodes s days shape file count w₀ (put w i x) (i + 1)
  unfolding node_entry node_numbered
  walking_nodes_more r x walked good room enough lt =
      record {
        left = nodes_more file (node_entry (of_shape shape)) count i h.left lt (walked.accepted x good);
        passed = passed_more x (is_crossed x) lt (walked.interval x good) refl h.passed i (sym (zero-add i)) (omega arith) enough (walked.ordered x good);
      }

  pub walking_nodes_all : count ≡ nodes_in shape → count ≤ i → NodesWalked s days shape file w₀ w
  walking_nodes_all q le =
      record {
        accepted = λ store e. rw (nodes_of store shape e, ← q) (sym (nodes_done_lem file (node_entry (of_shape shape)) count i h.left le));
        written = rw (← q) (passed_all le h.passed);
      }

-- Three loops one after the other find the intervals of a step, or the first refusal. Assumes nothing.
use mathlib.Core.Path.{◌≡◌, refl, sym, ap, ◌∙◌}
use Prim.Native.Nat.{ℕ, ◌+◌, ◌*◌, ◌<◌, ◌≤◌}
use native.Mathlib.Omega.{arith}
use mathlib.Core.List.{List}
use mathlib.Core.Option.{Option, none, some}
use lib.ListN.{get_or}
use lib.Ieee.{Float}
use Rattle.layout.specs.Layout.{node_rows_in, virtual_storages_held_at}
use Rattle.std.specs.Prelude.{Ok, Err}
use Rattle.pywr.specs.declared.Refusal.{Refusal}
use Rattle.pywr.specs.Answer.{Answer}
use Rattle.pywr.specs.declared.Interval.{Interval}
use Rattle.pywr.specs.declared.Sentinel.{Sentinel}
use Rattle.pywr.specs.Answers.{answer_of}
use Rattle.pywr.specs.Calls.{step_ordered}
use Rattle.pywr.specs.Result.{first_refused, refused_if}
use Rattle.pywr.specs.StepIntervals.{Intervals, has_binary_row, bad_interval, ordered}
use Rattle.pywr.specs.Store.{Store, word, node_count, node_row_count, aggregate_count, virtual_storage_count, sentinel_of, entries, node_row_entry, shape_of, programme_in}
use Rattle.step_file.specs.Decoded.{f64_at}
use Rattle.step_work.specs.WorkRun.{held_at, held_from, IntervalsHeld}
use Rattle.step_work.specs.Written.{Written, found_answer, Looked}
use Rattle.step_node_intervals.specs.NodeIntervals.{node_numbered}
use Rattle.step_node_intervals.specs.BinaryRows.{node_row_at, node_rows_of}
use Rattle.step_virtual_storage_intervals.specs.VirtualStorageIntervals.{virtual_storage_numbered}
use Rattle.step_aggregate_intervals.specs.AggregateIntervals.{aggregate_numbered}
use Rattle.step_intervals.specs.Found.{decoded_by, intervals_in, Found}
use Rattle.store_shape.proofs.EntryLaws.{entries_same}
use Rattle.step_intervals.proofs.IntervalLaws.{nodes_are, aggregates_are, virtual_storages_are}

answers : (o : Option (ℕ × ℕ)) (i : Intervals) → found_answer o ≡ answer_of (refused_if i o)
unfolding found_answer refused_if answer_of
answers none i = refl
answers (some found) i = refl

-- held from a base as f numbers them
holds : (work : List Float) (f : ℕ → Interval) (base count : ℕ) → ((k : ℕ) → k < count → held_at work (base + k) ≡ f k) → held_from work base count ≡ entries f 1 0 count
unfolding held_from
holds work f base count h =
    entries_same (held_at work) f 1 1 base 0 count
    (λ k lt. ap (λ (n : ℕ). held_at work (base + n)) (let e : 1 * k ≡ k = omega arith in e) ∙ h k lt ∙ ap f (let e : k ≡ 0 + 1 * k = omega arith in e))

module _ (s : Store) (shape file : List ℕ) (e : s.shape ≡ shape) (days : Float) (of-days : days ≡ f64_at file 4) (sentinel : Sentinel) (kept : sentinel ≡ sentinel_of (get_or shape 0 0))
    (w₀ w₁ : List Float) (r₁ : Answer)
    (one : Looked (bad_interval sentinel (has_binary_row (node_rows_of shape (node_rows_in shape)))) (node_numbered sentinel days shape file) 0 (get_or shape 1 0) w₀ r₁ w₁) where
  -- 14 and 21 of the store's nodes
  abbrev bad : ℕ → Interval → Option ℕ
  bad = bad_interval (sentinel_of (word s 0)) (has_binary_row (node_rows_of s.shape (node_row_count s)))

  nodes_looked : Looked bad (node_numbered (sentinel_of (word s 0)) (f64_at file 4) s.shape file) 0 (node_count s) w₀ r₁ w₁
  nodes_looked = rw (of-days, kept, ← e) at one

  -- the nodes alone are asked
  nodes_answer : r₁ ≡ answer_of (step_ordered s (decoded_by s file))
  unfolding step_ordered ordered intervals_in shape_of programme_in node_row_at node_row_entry
  nodes_answer = rw (nodes_are s file) nodes_looked.answer ∙ answers (first_refused bad 0 (intervals_in s file).nodes) (intervals_in s file)

  pub nodes_refuse : (refusal : Refusal) → r₁ ≡ Err refusal → Found s file (Err refusal) w₁
  nodes_refuse refusal is =
      record {
        answer = sym is ∙ nodes_answer;
        held = λ a. absurd (let z : ◌≡◌ {A = ℕ} 0 1 = cc in omega arith);
      }

  module _ (few_nodes : get_or shape 1 0 ≤ 256) (few_aggregates_lem : get_or shape 9 0 ≤ 64) (accepted : r₁ ≡ Ok tt)
      (w₂ w₃ : List Float) (two : Written (aggregate_numbered shape file) 256 (get_or shape 9 0) w₁ w₂)
      (three : Written (virtual_storage_numbered sentinel days shape file) virtual_storages_held_at (get_or shape 10 0) w₂ w₃) where
    virtual_storages_written : Written (virtual_storage_numbered (sentinel_of (word s 0)) (f64_at file 4) s.shape file) virtual_storages_held_at (virtual_storage_count s) w₂ w₃
    virtual_storages_written = rw (of-days, kept, ← e) at three

    aggregates_written : Written (aggregate_numbered s.shape file) 256 (aggregate_count s) w₁ w₂
    aggregates_written = rw (← e) at two

    all_held : IntervalsHeld (node_count s) (aggregate_count s) (virtual_storage_count s) w₃ (intervals_in s file)
    all_held =
        let v = virtual_storages_written in
        let n = nodes_looked.written accepted in
        record {
          nodes_are = holds w₃ (node_numbered (sentinel_of (word s 0)) (f64_at file 4) s.shape file) 0 (node_count s)
              (λ k lt. v.kept (0 + k) (omega (arith, ap (λ (l : List ℕ). get_or l 1 0) e)) ∙ aggregates_written.kept (0 + k) (omega (arith, ap (λ (l : List ℕ). get_or l 1 0) e)) ∙ n.held k lt)
              ∙ sym (nodes_are s file);
          aggregates_are = holds w₃ (aggregate_numbered s.shape file) 256 (aggregate_count s)
              (λ k lt. v.kept (256 + k) (omega (arith, ap (λ (l : List ℕ). get_or l 9 0) e)) ∙ aggregates_written.held k lt)
              ∙ sym (aggregates_are s file);
          virtual_storages_are = holds w₃ (virtual_storage_numbered (sentinel_of (word s 0)) (f64_at file 4) s.shape file) virtual_storages_held_at
              (virtual_storage_count s) v.held ∙ sym (virtual_storages_are s file);
        }

    pub all_found : Found s file (Ok tt) w₃
    all_found = record { answer = sym accepted ∙ nodes_answer; held = λ a. all_held }

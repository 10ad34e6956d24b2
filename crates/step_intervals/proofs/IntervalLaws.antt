-- The intervals that a file gives on a store, by place. Assumes nothing.
use mathlib.Core.Path.{◌≡◌, refl, ap, ap₂, ◌∙◌}
use Prim.Native.Nat.{ℕ, zero, suc, ◌+◌, ◌*◌}
use native.Mathlib.Omega.{arith}
use mathlib.Core.List.{List, [], ◌∷◌, map}
use Rattle.layout.specs.Layout.{aggregates_at, virtual_storages_at}
use Rattle.pywr.specs.declared.Sentinel.{Sentinel}
use Rattle.pywr.specs.declared.Interval.{Interval}
use Rattle.pywr.specs.Calls.{step_intervals}
use Rattle.pywr.specs.Period.{is_active, virtual_interval}
use Rattle.pywr.specs.Step.{period_of, periods}
use Rattle.pywr.specs.StepFile.{StepFile}
use Rattle.pywr.specs.StepIntervals.{node_interval, node_intervals, virtual_storage_intervals, intervals}
use Rattle.pywr.specs.Store.{Store, word, node_count, aggregate_count, virtual_storage_count, sentinel_of, entries, node_entry, virtual_storage_entry, shape_of, programme_in}
use Rattle.step_file.specs.Decoded.{f64_at, node_step_at, node_steps_at, aggregate_step_at, virtual_storage_step_at, aggregate_steps_at, virtual_storage_steps_at, decoded}
use Rattle.step_node_intervals.specs.NodeIntervals.{node_numbered}
use Rattle.step_period.specs.PeriodAt.{period_at}
use Rattle.step_virtual_interval.specs.VirtualInterval.{virtual_interval_at}
use Rattle.step_virtual_storage_intervals.specs.VirtualStorageIntervals.{virtual_storage_numbered}
use Rattle.step_aggregate_intervals.specs.AggregateIntervals.{aggregate_numbered}
use Rattle.step_intervals.specs.Found.{intervals_in}
use Rattle.store_shape.proofs.EntryLaws.{first_entry, next_entry, entries_length, entries_same}

-- a list made from two places that go on side by side
module _ (make : ℕ → ℕ → ℕ → List Interval) (one : ℕ → ℕ → Interval) (p q : ℕ)
    (ends : (place at : ℕ) → make zero place at ≡ []) (goes : (n place at : ℕ) → make (suc n) place at ≡ one place at ∷ make n (place + p) (at + q)) where
  listed : (f : ℕ → Interval) (n place at j : ℕ) → ((k : ℕ) → one (place + p * k) (at + q * k) ≡ f (j + k)) → make n place at ≡ entries f 1 j n
  unfolding entries
  listed f zero place at j h = ends place at
  listed f (suc n) place at j h =
      goes n place at
      ∙ ap₂ (λ (x : Interval) (xs : List Interval). x ∷ xs)
      (ap₂ one (first_entry p place) (first_entry q at) ∙ h 0 ∙ ap f (let e : j + 0 ≡ j = omega arith in e))
      (listed f n (place + p) (at + q) (j + 1) (λ k. ap₂ one (next_entry p place k) (next_entry q at k) ∙ h (suc k) ∙ ap f (let e : j + suc k ≡ j + 1 + k = omega arith in e)))

module _ (s : Store) (file : List ℕ) where
  pub nodes_are : (intervals_in s file).nodes ≡ entries (node_numbered (sentinel_of (word s 0)) (f64_at file 4) s.shape file) 1 0 (node_count s)
  unfolding intervals_in step_intervals intervals decoded shape_of programme_in node_numbered node_entry node_intervals node_steps_at entries
  nodes_are =
      listed (λ (n place at : ℕ). node_intervals (sentinel_of (word s 0)) (f64_at file 4) (node_steps_at file (entries (node_entry s) 2 place n) at))
      (λ (place at : ℕ). node_interval (sentinel_of (word s 0)) (f64_at file 4) (node_step_at file (node_entry s place) at).bounds) 2 34 (λ place at. refl) (λ n place at. refl)
      (node_numbered (sentinel_of (word s 0)) (f64_at file 4) s.shape file) (node_count s) 11 12 0
      (λ k. ap (node_numbered (sentinel_of (word s 0)) (f64_at file 4) s.shape file) (let e : k ≡ 0 + k = omega arith in e))

  pub aggregates_are : (intervals_in s file).aggregates ≡ entries (aggregate_numbered s.shape file) 1 0 (aggregate_count s)
  unfolding intervals_in step_intervals intervals decoded shape_of aggregate_numbered
  aggregates_are =
      rw (entries_length (node_entry s) 2 11 (node_count s), entries_length (word s) 1 aggregates_at (aggregate_count s))
      (entries_same (aggregate_step_at file) (aggregate_numbered s.shape file) 18 1 (aggregate_steps_at (node_count s)) 0 (aggregate_count s)
      (λ k lt. ap (aggregate_numbered s.shape file) (let e : k ≡ 0 + 1 * k = omega arith in e)))

  virtual_storage_list : (t : Sentinel) (f : StepFile) (g : ℕ → Interval) (n at : ℕ)
      → ((k : ℕ) → virtual_interval t f.days (is_active (virtual_storage_entry s (virtual_storages_at + 6 * k)).period f.month f.day) (virtual_storage_step_at file (at + 26 * k)) ≡ g (0 + k))
      → virtual_storage_intervals t f (map period_of (entries (virtual_storage_entry s) 6 virtual_storages_at n)) (entries (virtual_storage_step_at file) 26 at n) ≡ entries g 1 0 n
  unfolding virtual_storage_intervals entries period_of
  virtual_storage_list t f g n at h =
      listed (λ (n place at : ℕ). virtual_storage_intervals t f (map period_of (entries (virtual_storage_entry s) 6 place n)) (entries (virtual_storage_step_at file) 26 at n))
      (λ (place at : ℕ). virtual_interval t f.days (is_active (virtual_storage_entry s place).period f.month f.day) (virtual_storage_step_at file at)) 6 26 (λ place at. refl) (λ n place at. refl)
      g n virtual_storages_at at 0 h

  pub virtual_storages_are : (intervals_in s file).virtual_storages ≡ entries (virtual_storage_numbered (sentinel_of (word s 0)) (f64_at file 4) s.shape file) 1 0 (virtual_storage_count s)
  unfolding intervals_in step_intervals intervals decoded shape_of programme_in periods virtual_storage_entry period_at virtual_interval_at virtual_storage_numbered
  virtual_storages_are =
      rw (
        entries_length (node_entry s) 2 11 (node_count s),
        entries_length (word s) 1 aggregates_at (aggregate_count s),
        entries_length (virtual_storage_entry s) 6
            virtual_storages_at (virtual_storage_count s),
      )
      (virtual_storage_list (sentinel_of (word s 0)) _ (virtual_storage_numbered (sentinel_of (word s 0)) (f64_at file 4) s.shape file) (virtual_storage_count s)
      (virtual_storage_steps_at (node_count s) (aggregate_count s))
      (λ k. ap (virtual_storage_numbered (sentinel_of (word s 0)) (f64_at file 4) s.shape file) (let e : k ≡ 0 + k = omega arith in e)))

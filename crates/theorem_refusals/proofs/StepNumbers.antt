-- The step file is refused with 12 and 13 alone, and its intervals with 14 and 21. Assumes nothing.
use mathlib.Core.Path.{◌≡◌, subst}
use Prim.Native.Nat.{ℕ, zero, suc, ◌+◌}
use native.Mathlib.Omega.{arith}
use mathlib.Core.Bool.{Bool, true, false, cond, ◌&&◌, ◌||◌}
use mathlib.Core.List.{List, [], ◌∷◌, ◌++◌}
use mathlib.Core.Option.{Option, none, some}
use lib.Dec.{T}
use Rattle.pywr.specs.declared.Interval.{Interval}
use Rattle.pywr.specs.declared.NodeBounds.{NodeBounds}
use Rattle.pywr.specs.declared.Sentinel.{Sentinel}
use Rattle.pywr.specs.Programme.{NodeShape}
use Rattle.pywr.specs.StepFile.{NodeStep, expect_mark, read_date, read_node_step, read_node_steps, read_aggregate_step, read_aggregate_steps, read_virtual_storage_step, read_virtual_storage_steps, read_step}
use Rattle.pywr.specs.StepIntervals.{Intervals, is_crossed, is_beyond, bad_interval, ordered}
use Rattle.theorem_refusals.specs.RefusalNumbers.{Among, passed, of_step_file, of_intervals}
use Rattle.theorem_refusals.proofs.Among.{bind_among, need_among, first_among, checked_among, u8_among, bits_among}

mark_among : (file : List ℕ) (at a b : ℕ) → Among of_step_file (expect_mark file at a b)
unfolding expect_mark
mark_among file at a b = need_among _ 12 at at tt

step_node : (file : List ℕ) (n : NodeShape) (place : ℕ) → Among of_step_file (read_node_step file n place)
unfolding read_node_step
step_node file n place =
    bind_among _ _ (mark_among file place 78 66) (λ at.
    bind_among _ _ (checked_among 13 at _ _ tt (bits_among file at 12 tt (at + 2))) (λ a.
    bind_among _ _ (checked_among 13 at _ _ tt (bits_among file at 12 tt (at + 10))) (λ b.
    bind_among _ _ (checked_among 13 at _ _ tt (bits_among file at 12 tt (at + 18))) (λ c.
    bind_among _ _ (checked_among 13 at _ _ tt (bits_among file at 12 tt (at + 26))) (λ d. passed)))))

step_nodes : (file : List ℕ) (ns : List NodeShape) (so_far : List NodeStep) (at : ℕ) → Among of_step_file (read_node_steps file ns so_far at)
unfolding read_node_steps
step_nodes file [] so_far at = passed
step_nodes file (n ∷ ns) so_far at = bind_among _ _ (step_node file n at) (λ s. step_nodes file ns (so_far ++ (s ∷ [])) (at + 34))

step_aggregate : (file : List ℕ) (place : ℕ) → Among of_step_file (read_aggregate_step file place)
unfolding read_aggregate_step
step_aggregate file place =
    bind_among _ _ (mark_among file place 71 66) (λ at.
    bind_among _ _ (checked_among 13 at _ _ tt (bits_among file at 12 tt (at + 2))) (λ a.
    bind_among _ _ (checked_among 13 at _ _ tt (bits_among file at 12 tt (at + 10))) (λ b. passed)))

step_aggregates : (file : List ℕ) (count : ℕ) (so_far : List Interval) (at : ℕ) → Among of_step_file (read_aggregate_steps file count so_far at)
unfolding read_aggregate_steps
step_aggregates file zero so_far at = passed
step_aggregates file (suc count) so_far at = bind_among _ _ (step_aggregate file at) (λ s. step_aggregates file count (so_far ++ (s ∷ [])) (at + 18))

step_store_lem : (file : List ℕ) (place : ℕ) → Among of_step_file (read_virtual_storage_step file place)
unfolding read_virtual_storage_step
step_store_lem file place =
    bind_among _ _ (mark_among file place 86 66) (λ at.
    bind_among _ _ (checked_among 13 at _ _ tt (bits_among file at 12 tt (at + 2))) (λ a.
    bind_among _ _ (checked_among 13 at _ _ tt (bits_among file at 12 tt (at + 10))) (λ b.
    bind_among _ _ (checked_among 13 at _ _ tt (bits_among file at 12 tt (at + 18))) (λ c. passed))))

step_virtual_storages : (file : List ℕ) (count : ℕ) (so_far : List NodeBounds) (at : ℕ) → Among of_step_file (read_virtual_storage_steps file count so_far at)
unfolding read_virtual_storage_steps
step_virtual_storages file zero so_far at = passed
step_virtual_storages file (suc count) so_far at = bind_among _ _ (step_store_lem file at) (λ s. step_virtual_storages file count (so_far ++ (s ∷ [])) (at + 26))

date_among : (file : List ℕ) → Among of_step_file (read_date file)
unfolding read_date
date_among file =
    bind_among _ _ (mark_among file 0 83 84) (λ at.
    bind_among _ _ (checked_among 13 at _ _ tt (u8_among file at 12 tt (at + 2))) (λ a.
    bind_among _ _ (checked_among 13 at _ _ tt (u8_among file at 12 tt (at + 3))) (λ b.
    bind_among _ _ (checked_among 13 at _ _ tt (bits_among file at 12 tt (at + 4))) (λ c. passed))))

pub step_file_numbers : (shapes : List NodeShape) (aggregates virtual_storages : ℕ) (file : List ℕ) → Among of_step_file (read_step shapes aggregates virtual_storages file)
unfolding read_step
step_file_numbers shapes aggregates virtual_storages file =
    bind_among _ _ (date_among file) (λ d.
    bind_among _ _ (step_nodes file shapes [] d.next) (λ n.
    bind_among _ _ (step_aggregates file aggregates [] n.next) (λ g.
    bind_among _ _ (step_virtual_storages file virtual_storages [] g.next) (λ v. need_among _ 12 v.next _ tt))))

bad_number : (s : Sentinel) (varying_exclusive : ℕ → Bool) (node : ℕ) (x : Interval) (n : ℕ) → bad_interval s varying_exclusive node x ≡ some n → T (of_intervals n)
unfolding bad_interval
bad_number s varying_exclusive node x n e = go (is_crossed x) (varying_exclusive node && (is_beyond s x.lower || is_beyond s x.upper)) e
  where
    go : (b c : Bool) → cond {A = Option ℕ} b (some 14) (cond {A = Option ℕ} c (some 21) none) ≡ some n → T (of_intervals n)
    go true c k = let same : 14 ≡ n = cc in subst (λ (m : ℕ). T (of_intervals m)) same tt
    go false true k = let same : 21 ≡ n = cc in subst (λ (m : ℕ). T (of_intervals m)) same tt
    go false false k = let z : ◌≡◌ {A = ℕ} 0 1 = cc in absurd (omega arith)

pub interval_numbers : (s : Sentinel) (varying_exclusive : ℕ → Bool) (i : Intervals) → Among of_intervals (ordered s varying_exclusive i)
unfolding ordered
interval_numbers s varying_exclusive i = first_among (bad_interval s varying_exclusive) (bad_number s varying_exclusive) 0 i.nodes i

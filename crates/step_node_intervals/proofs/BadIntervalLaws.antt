-- 14 and 21 by node: the intervals up to the first crossed one are written, and the least of these nodes that 21 refuses is known. Assumes nothing.
use mathlib.Core.Path.{◌≡◌, sym, ap, ◌∙◌}
use Prim.Native.Nat.{ℕ, ◌<◌, ◌≤◌}
use native.Mathlib.Nat.{zero-add}
use native.Mathlib.Omega.{arith}
use mathlib.Core.List.{List}
use mathlib.Core.Option.{Option, none}
use lib.Ieee.{Float}
use Rattle.std.specs.Prelude.{Ok, Err}
use Rattle.pywr.specs.declared.Reason.{Reason}
use Rattle.pywr.specs.Answers.{refusal_at}
use Rattle.pywr.specs.declared.Interval.{Interval}
use Rattle.pywr.specs.declared.Sentinel.{Sentinel}
use Rattle.pywr.specs.Programme.{NodeRow}
use Rattle.pywr.specs.StepIntervals.{has_binary_row, bad_interval}
use Rattle.step_work.specs.WorkRun.{held_at}
use Rattle.step_work.specs.Written.{Written, WrittenTo, Looked}
use Rattle.step_work.proofs.WrittenLaws.{looked_refused, looked_all}
use Rattle.step_node_intervals.specs.BinaryRows.{binary_beyond, LeastOf}

module _ (s : Sentinel) (node_rows : List NodeRow) (f : ℕ → Interval) (count : ℕ) (w₀ w : List Float) (n first : ℕ)
    (written : WrittenTo f 0 count w₀ n w) (least : LeastOf (binary_beyond s node_rows w) n first) where
  abbrev test : ℕ → Interval → Option ℕ
  test = bad_interval s (has_binary_row node_rows)

  is_held : (k : ℕ) → k < n → held_at w k ≡ f k
  is_held k lt = ap (held_at w) (sym (zero-add k)) ∙ written.so_far.held k lt

  before : (k : ℕ) → k < first → test k (f k) ≡ none
  unfolding bad_interval
  before k lt =
      let l : k < n = omega (arith, least.few) in
      rw (written.ordered k l, ← (is_held k l), least.before k lt)

  -- 21, of a node before every crossed one
  pub beyond_refused : first < n → Looked test f 0 count w₀ (Err (refusal_at Reason.BoundAtSentinel first)) w
  unfolding bad_interval
  beyond_refused lt =
      looked_refused test f 0 count w₀ w 21 first (omega (arith, written.few)) before (rw (written.ordered first lt, ← (is_held first lt), least.holds lt))

  module _ (all : n ≤ first) where
    pub crossed_refused : n < count → Looked test f 0 count w₀ (Err (refusal_at Reason.CrossedBounds n)) w
    unfolding bad_interval
    crossed_refused lt = looked_refused test f 0 count w₀ w 14 n lt (λ k less. before k (omega arith)) (rw (written.crossed lt))

    pub none_bad : count ≤ n → Looked test f 0 count w₀ (Ok tt) w
    none_bad le =
        let e : n ≡ count = omega (arith, written.few) in
        let all-written : Written f 0 count w₀ w = rw e at written.so_far in
        looked_all test f 0 count w₀ w (λ k less. before k (omega arith)) all-written

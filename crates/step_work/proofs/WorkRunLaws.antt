-- The intervals of a work run by number. Assumes nothing.
use mathlib.Core.Path.{◌≡◌, ap, ◌∙◌}
use Prim.Native.Nat.{ℕ, ◌+◌, ◌<◌}
use native.Mathlib.Nat.{one-mul}
use mathlib.Core.List.{List}
use lib.ListN.{get_or}
use lib.Ieee.{Float}
use Rattle.pywr.specs.declared.Interval.{Interval}
use Rattle.store_shape.proofs.EntryLaws.{entries_at}
use Rattle.step_work.specs.WorkRun.{held_at, held_from}

pub held_at_lem : (work : List Float) (base count k : ℕ) (d : Interval) → k < count → get_or (held_from work base count) k d ≡ held_at work (base + k)
unfolding held_from
held_at_lem work base count k d lt = entries_at (held_at work) 1 base count k d lt ∙ ap (λ (n : ℕ). held_at work (base + n)) (one-mul k)

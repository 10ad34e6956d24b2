-- The intervals of a step as its work run holds them: the lower of an interval at k, its upper at uppers_at + k.
-- Assumes nothing.
use Rattle.std.specs.Prelude.{◌≡◌, ℕ, ◌+◌, List, get_or, Float}
use Rattle.layout.specs.Layout.{aggregates_held_at, virtual_storages_held_at, uppers_at}
use Rattle.pywr.specs.declared.Interval.{Interval}
use Rattle.pywr.specs.Numbers.{zero64}
use Rattle.pywr.specs.StepIntervals.{Intervals}
use Rattle.pywr.specs.Store.{entries}

unfoldable pub held_at : List Float → ℕ → Interval
held_at work k = record { lower = get_or work k zero64; upper = get_or work (uppers_at + k) zero64 }

-- `count` intervals from k on
unfoldable pub held_from : List Float → ℕ → ℕ → List Interval
held_from work k count = entries (held_at work) 1 k count

-- the run holds these intervals, as many as the store has nodes, aggregates and virtual storages
pub record IntervalsHeld (nodes aggregates virtual_storages : ℕ) (work : List Float) (i : Intervals) : Type 0 where
  pub nodes_are : held_from work 0 nodes ≡ i.nodes
  pub aggregates_are : held_from work aggregates_held_at aggregates ≡ i.aggregates
  pub virtual_storages_are : held_from work virtual_storages_held_at virtual_storages ≡ i.virtual_storages

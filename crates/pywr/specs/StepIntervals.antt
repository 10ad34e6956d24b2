-- The intervals that a step file gives, and 14 and 21. Assumes nothing.
use Rattle.std.specs.Prelude.{ℕ, List, [], ◌∷◌, Bool, true, false, cond, ◌&&◌, ◌||◌, eqb, Float}
use Rattle.std.proofs.Math.Option.{Option, none, some}
use Rattle.std.specs.Float.Ieee.{lt, le}
use Rattle.pywr.specs.declared.Sentinel.{Sentinel}
use Rattle.pywr.specs.declared.Interval.{Interval}
use Rattle.pywr.specs.declared.NodeBounds.{NodeBounds}
use Rattle.pywr.specs.Result.{Result, first_refused, refused_if}
use Rattle.pywr.specs.Numbers.{high, low}
use Rattle.pywr.specs.Network.{Period}
use Rattle.pywr.specs.Programme.{RowType, continuous, binary_upper, binary_lower, NodeRow}
use Rattle.pywr.specs.Interval.{sentinels, interval_of}
use Rattle.pywr.specs.Period.{is_active, virtual_interval}
use Rattle.pywr.specs.StepFile.{NodeStep, StepFile}

-- a varying node's interval; a constant node's is applied by no step, and stands as both sentinels
unfoldable pub node_interval : Sentinel → Float → Option NodeBounds → Interval
node_interval s days none = sentinels s
node_interval s days (some bounds) = interval_of days bounds

unfoldable pub node_intervals : Sentinel → Float → List NodeStep → List Interval
node_intervals s days [] = []
node_intervals s days (node ∷ nodes) = node_interval s days node.bounds ∷ node_intervals s days nodes

-- each virtual storage's on the step's date
unfoldable pub virtual_storage_intervals : Sentinel → StepFile → List Period → List NodeBounds → List Interval
virtual_storage_intervals s file [] bounds = []
virtual_storage_intervals s file (period ∷ periods) [] = []
virtual_storage_intervals s file (period ∷ periods) (own ∷ bounds) =
    virtual_interval s file.days (is_active period file.month file.day) own ∷ virtual_storage_intervals s file periods bounds

-- the intervals that a step applies: of the nodes, the aggregates and the virtual storages
pub record Intervals : Type 0 where
  pub nodes : List Interval
  pub aggregates : List Interval
  pub virtual_storages : List Interval

unfoldable pub intervals : Sentinel → List Period → StepFile → Intervals
intervals s periods file =
    record {
      nodes = node_intervals s file.days file.nodes;
      aggregates = file.aggregates;
      virtual_storages = virtual_storage_intervals s file periods file.virtual_storages;
    }

-- lower over upper
unfoldable pub is_crossed : Interval → Bool
is_crossed interval = lt interval.upper interval.lower

-- document 02, L3: "a bound at or beyond either sentinel"
unfoldable pub is_beyond : Sentinel → Float → Bool
is_beyond s bound = le bound (low s) || le (high s) bound

unfoldable pub is_binary : RowType → Bool
is_binary continuous = false
is_binary binary_upper = true
is_binary binary_lower = true

-- "such a node", as the store tells it: a binary row is a varying exclusive node's. Of a built store this is `is_varying_exclusive` (`binary_rows_tell`)
unfoldable pub has_binary_row : List NodeRow → ℕ → Bool
has_binary_row [] node = false
has_binary_row (n ∷ ns) node = (eqb n.node node && is_binary n.row_type) || has_binary_row ns node

-- 14 "varying node's lower over upper (node)", then 21 of a varying exclusive node: "a bound at or beyond either sentinel on such a node"
unfoldable pub bad_interval : Sentinel → (ℕ → Bool) → ℕ → Interval → Option ℕ
bad_interval s varying_exclusive node interval =
    cond (is_crossed interval) (some 14)
    (cond (varying_exclusive node && (is_beyond s interval.lower || is_beyond s interval.upper)) (some 21) none)

-- "after 14 in the same pass, giving the node": by node, 14 and then 21. "Aggregate intervals aren't compared lower to upper."
-- Nor are virtual storages': "drop the check and leave the number unused" (15; see Uncrossed)
unfoldable pub ordered : Sentinel → (ℕ → Bool) → Intervals → Result Intervals
ordered s varying_exclusive intervals = refused_if intervals (first_refused (bad_interval s varying_exclusive) 0 intervals.nodes)

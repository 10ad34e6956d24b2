-- The node rows of a shape run, and the least node that 21 refuses by the intervals of the work run. Assumes nothing.
use Rattle.std.specs.Prelude.{◌≡◌, ℕ, ◌<◌, ◌≤◌, Bool, true, false, cond, ◌&&◌, ◌||◌, List, ltb, Float}
use Rattle.layout.specs.Layout.{node_rows_at, node_row_width, node_row_node, node_row_row, node_row_type, node_row_set}
use Rattle.pywr.specs.declared.Sentinel.{Sentinel}
use Rattle.pywr.specs.Programme.{NodeRow}
use Rattle.pywr.specs.StepIntervals.{is_beyond, is_binary, has_binary_row}
use Rattle.pywr.specs.Store.{row_type_of, entries}
use Rattle.step_work.specs.WorkRun.{held_at}

-- the node row at `at`
unfoldable pub node_row_at : List ℕ → ℕ → NodeRow
node_row_at shape at =
    record {
      node = node_row_node shape at;
      row = node_row_row shape at;
      row_type = row_type_of (node_row_type shape at);
      set = node_row_set shape at;
    }

-- the first `count` of the table
abbrev pub node_rows_of : List ℕ → ℕ → List NodeRow
node_rows_of shape count = entries (node_row_at shape) node_row_width node_rows_at count

-- a node's held interval has a bound at or beyond a sentinel
abbrev pub beyond_at : Sentinel → List Float → ℕ → Bool
beyond_at s work node = is_beyond s (held_at work node).lower || is_beyond s (held_at work node).upper

-- and a binary row of these names the node
abbrev pub binary_beyond : Sentinel → List NodeRow → List Float → ℕ → Bool
binary_beyond s node_rows work node = has_binary_row node_rows node && beyond_at s work node

-- the node of one row where it is under `first` and such a node, else `first`
unfoldable pub lesser_beyond : Sentinel → List Float → NodeRow → ℕ → ℕ
lesser_beyond s work n first = cond (ltb n.node first && (is_binary n.row_type && beyond_at s work n.node)) n.node first

-- the least number under n for which p holds, or n
pub record LeastOf (p : ℕ → Bool) (n least : ℕ) : Type 0 where
  pub few : least ≤ n
  pub holds : least < n → p least ≡ true
  pub before : (k : ℕ) → k < least → p k ≡ false

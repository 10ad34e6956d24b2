-- What document 02, L3 promises of the binary rows, those of varying exclusive nodes, over any list of steps. Assumes nothing.
use Rattle.std.specs.Prelude.{◌≡◌, ℕ, ◌+◌, true, T, Float}
use mathlib.Core.List.{List, Memᴰ}
use Rattle.std.proofs.Math.Option.{none, some}
use Rattle.std.proofs.Math.ListN.{get_elem?}
use Rattle.std.specs.Float.Ieee.{le, neg}
use Rattle.pywr.specs.declared.Sentinel.{Sentinel}
use Rattle.pywr.specs.declared.Interval.{Interval}
use Rattle.pywr.specs.Result.{value}
use Rattle.pywr.specs.Numbers.{zero64, high}
use Rattle.pywr.specs.Network.{Network}
use Rattle.pywr.specs.NetworkFile.{parse_network}
use Rattle.pywr.specs.Rows.{element}
use Rattle.pywr.specs.Programme.{Row, RowType, continuous, binary_upper, binary_lower, NodeRow}
use Rattle.pywr.specs.StepFile.{StepFile}
use Rattle.pywr.specs.StepIntervals.{intervals, is_binary}
use Rattle.pywr.specs.Step.{interval_for}
use Rattle.pywr.specs.Store.{Store, shape_of, programme_in}
use Rattle.pywr.specs.Calls.{build_answer, build_store, is_accepted}
use Rattle.pywr.specs.Correspondence.{Call, store_after, reports, last_accepted, periods_of, read_by}

-- a binary row of a store
abbrev pub Binary : Store → NodeRow → Type 0
Binary store n = Memᴰ n (shape_of store).node_rows × T (is_binary n.row_type)

-- a node row's row, and its bounds
pub record ZeroToHigh (s : Sentinel) (store : Store) (n : NodeRow) : Type 0 where
  pub row : Row
  pub found : get_elem? (programme_in store).varying n.row ≡ some row
  pub lower : row.lower ≡ zero64
  pub upper : row.upper ≡ high s

-- "these rows stay at lower 0, upper high sentinel, after every step": after an accepted build and any list of steps, refused ones too
abbrev pub BinaryBounds : Type 0
BinaryBounds =
    (network_file : List ℕ) (s : Sentinel) (old : Store) (words : List ℕ) (numbers : List Float) (net : Network)
    → parse_network network_file ≡ value net
    → is_accepted (build_answer s network_file old words numbers) ≡ true
    → (calls : List Call) (n : NodeRow)
    → Binary (store_after (build_store s network_file old words numbers) calls) n
    → ZeroToHigh s (store_after (build_store s network_file old words numbers) calls) n

-- "the integer column's coefficient becomes the upper bound, or minus the lower, uncapped"; a continuous row has none and is not asked
unfoldable pub coefficient_of : RowType → Interval → Float
coefficient_of continuous interval = interval.upper
coefficient_of binary_upper interval = interval.upper
coefficient_of binary_lower interval = neg interval.lower

-- the element on a binary row's integer column: one of the coefficients that the row's node rows have in the step, and at most each of these
pub record SmallestStands (store : Store) (coefficient : NodeRow → Float) (n : NodeRow) : Type 0 where
  pub row : Row
  pub found : get_elem? (programme_in store).varying n.row ≡ some row
  pub least : Float
  pub stands : Memᴰ (element ((shape_of store).edge_columns + n.set) least) row.elements
  pub one : (m : NodeRow) × Binary store m × (m.row ≡ n.row) × (least ≡ coefficient m)
  pub each : (m : NodeRow) → Binary store m → m.row ≡ n.row → T (le least (coefficient m))

-- "on a shared row the smallest of that step's coefficients stands": those of the last accepted step, and of no other
abbrev pub BinaryCoefficients : Type 0
BinaryCoefficients =
    (network_file : List ℕ) (s : Sentinel) (old : Store) (words : List ℕ) (numbers : List Float) (net : Network)
    → parse_network network_file ≡ value net
    → is_accepted (build_answer s network_file old words numbers) ≡ true
    → (calls : List Call) (file : List ℕ) (f : StepFile)
    → last_accepted none (reports (build_store s network_file old words numbers) calls) ≡ some file
    → read_by net file ≡ value f
    → (n : NodeRow)
    → Binary (store_after (build_store s network_file old words numbers) calls) n
    → SmallestStands (store_after (build_store s network_file old words numbers) calls)
    (λ m. coefficient_of m.row_type (interval_for s (intervals s (periods_of net) f).nodes m)) n

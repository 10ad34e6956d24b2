-- The step file: read left to right to the step's numbers, or to refusal 12 or 13.
-- It is read over the shape of a network: its nodes' kinds and flags, how many aggregates, and the virtual storages' periods. Assumes nothing.
use Rattle.std.specs.Prelude.{ℕ, zero, suc, ◌+◌, List, [], ◌∷◌, ◌++◌, Bool, cond, not, ◌&&◌, ◌||◌, length, leb, eqb, Float}
use Rattle.std.proofs.Math.Option.{Option, none, some}
use Rattle.pywr.specs.declared.Interval.{Interval}
use Rattle.pywr.specs.declared.NodeBounds.{NodeBounds}
use Rattle.pywr.specs.declared.NodeBounds.TheVariants.{Flow}
use Rattle.pywr.specs.Result.{value, Result, ◌>>=◌, need}
use Rattle.pywr.specs.Bytes.{within, mark_is, u8, bits64, checked}
use Rattle.pywr.specs.Numbers.{is_flow, is_small, is_days, of_pattern}
use Rattle.pywr.specs.Network.{storage}
use Rattle.pywr.specs.NetworkFile.{Read}
use Rattle.pywr.specs.Programme.{NodeShape}
use Rattle.pywr.specs.Interval.{storage_bounds, virtual_bounds}

-- "A constant node's min and max and another kind's volume aren't read": a constant node has no bounds here
pub record NodeStep : Type 0 where
  pub cost : Float
  pub bounds : Option NodeBounds

pub record StepFile : Type 0 where
  pub month : ℕ
  pub day : ℕ
  pub days : Float
  pub nodes : List NodeStep
  pub aggregates : List Interval
  pub virtual_storages : List NodeBounds

-- 12 "step file short, wrongly marked": the mark of the record at `at`
unfoldable pub expect_mark : List ℕ → ℕ → ℕ → ℕ → Result ℕ
expect_mark file at first second = need (within file at 2 && mark_is file at first second) 12 at at

-- "The step's date is a calendar date; 02-29 always exists."
unfoldable pub days_in : ℕ → ℕ
days_in month = cond (eqb month 2) 29 (cond (eqb month 4 || eqb month 6 || eqb month 9 || eqb month 11) 30 31)

-- `ST`: month u8, day u8, days f64
unfoldable pub read_date : List ℕ → Result (Read StepFile)
read_date file = do
  at ← expect_mark file 0 83 84
  month ← checked 13 at (λ m. leb 1 m && leb m 12) (u8 file at 12 (at + 2))
  day ← checked 13 at (λ d. leb 1 d && leb d (days_in month)) (u8 file at 12 (at + 3))
  days ← checked 13 at is_days (bits64 file at 12 (at + 4))
  value (record { item = record { month = month; day = day; days = of_pattern days; nodes = []; aggregates = []; virtual_storages = [] }; next = at + 12 })

abbrev pub is_storage : NodeShape → Bool
is_storage node = eqb node.kind storage

-- "Storage's min and max are volumes. A constant node's min and max and another kind's volume aren't read."
unfoldable pub bound_fits : NodeShape → ℕ → Bool
bound_fits node bits = node.constant || cond (is_storage node) (is_small bits) (is_flow bits)

unfoldable pub volume_fits : NodeShape → ℕ → Bool
volume_fits node bits = not (is_storage node) || is_small bits

-- the bounds of three fields: none of a constant node, volumes of a storage, flows of any other
unfoldable pub bounds_read : NodeShape → ℕ → ℕ → ℕ → Option NodeBounds
bounds_read node min max now =
    cond node.constant none
    (cond (is_storage node) (some (storage_bounds (of_pattern min) (of_pattern max) (of_pattern now))) (some (Flow (of_pattern min) (of_pattern max))))

-- "per node `NB` cost, min, max, volume f64"
unfoldable pub read_node_step : List ℕ → NodeShape → ℕ → Result NodeStep
read_node_step file node place = do
  at ← expect_mark file place 78 66
  cost ← checked 13 at is_small (bits64 file at 12 (at + 2))
  min ← checked 13 at (bound_fits node) (bits64 file at 12 (at + 10))
  max ← checked 13 at (bound_fits node) (bits64 file at 12 (at + 18))
  now ← checked 13 at (volume_fits node) (bits64 file at 12 (at + 26))
  value (record { cost = of_pattern cost; bounds = bounds_read node min max now })

-- the records of the nodes that are left, after those read so far
unfoldable pub read_node_steps : List ℕ → List NodeShape → List NodeStep → ℕ → Result (Read (List NodeStep))
read_node_steps file [] so_far at = value (record { item = so_far; next = at })
read_node_steps file (node ∷ nodes) so_far at = do
  step ← read_node_step file node at
  read_node_steps file nodes (so_far ++ (step ∷ [])) (at + 34)

-- "per aggregate `GB` lower, upper"
unfoldable pub read_aggregate_step : List ℕ → ℕ → Result Interval
read_aggregate_step file place = do
  at ← expect_mark file place 71 66
  lower ← checked 13 at is_flow (bits64 file at 12 (at + 2))
  upper ← checked 13 at is_flow (bits64 file at 12 (at + 10))
  value (record { lower = of_pattern lower; upper = of_pattern upper })

unfoldable pub read_aggregate_steps : List ℕ → ℕ → List Interval → ℕ → Result (Read (List Interval))
read_aggregate_steps file zero so_far at = value (record { item = so_far; next = at })
read_aggregate_steps file (suc count) so_far at = do
  step ← read_aggregate_step file at
  read_aggregate_steps file count (so_far ++ (step ∷ [])) (at + 18)

-- "per virtual storage `VB` min, max, volume"
unfoldable pub read_virtual_storage_step : List ℕ → ℕ → Result NodeBounds
read_virtual_storage_step file place = do
  at ← expect_mark file place 86 66
  min ← checked 13 at is_small (bits64 file at 12 (at + 2))
  max ← checked 13 at is_small (bits64 file at 12 (at + 10))
  now ← checked 13 at is_small (bits64 file at 12 (at + 18))
  value (virtual_bounds (of_pattern min) (of_pattern max) (of_pattern now))

unfoldable pub read_virtual_storage_steps : List ℕ → ℕ → List NodeBounds → ℕ → Result (Read (List NodeBounds))
read_virtual_storage_steps file zero so_far at = value (record { item = so_far; next = at })
read_virtual_storage_steps file (suc count) so_far at = do
  step ← read_virtual_storage_step file at
  read_virtual_storage_steps file count (so_far ++ (step ∷ [])) (at + 26)

-- the file left to right, and 12 "with bytes left over (then the first such byte)"
unfoldable pub read_step : List NodeShape → ℕ → ℕ → List ℕ → Result StepFile
read_step shapes aggregates virtual_storages file = do
  date ← read_date file
  nodes ← read_node_steps file shapes [] date.next
  groups ← read_aggregate_steps file aggregates [] nodes.next
  stores ← read_virtual_storage_steps file virtual_storages [] groups.next
  need (leb (length file) stores.next) 12 stores.next
      (record {
        month = date.item.month;
        day = date.item.day;
        days = date.item.days;
        nodes = nodes.item;
        aggregates = groups.item;
        virtual_storages = stores.item;
      })

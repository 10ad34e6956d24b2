-- Pumps with daily limits of docs/DEMAND-3.md: which plans both sides take when one of two may run, what stands on a shared row, a storage that may be shut
-- off, and 21. Assumes nothing.
use mathlib.Core.Path.{◌≡◌, refl}
use Prim.Native.Nat.{ℕ, ◌*◌}
use mathlib.Core.List.{List, [], ◌∷◌, ◌++◌, map}
use mathlib.Core.Bool.{Bool, true, false}
use lib.ListN.{get_or}
use lib.IntN.{pos}
use lib.Ieee.{Float, fin, inf, neg}
use Rattle.pywr.specs.Result.{value, Result, refused}
use Rattle.pywr.specs.Numbers.{double, zero64}
use Rattle.pywr.specs.Network.{input, output, storage}
use Rattle.pywr.specs.Rows.{element}
use Rattle.pywr.specs.Programme.{Row}
use Rattle.pywr.specs.StepFile.{StepFile}
use Rattle.pywr.specs.Store.{programme_in}
use Rattle.pywr.specs.Calls.{step_answer}
use Rattle.pywr.specs.Plans.{Plan, units_in_one}
use Rattle.pywr.specs.Correspondence.{store_after}
use Rattle.pywr.specs.FileBytes.{varying, constant, edge, exclusive, date, node_step, aggregate_step}
use Rattle.pywr.specs.Compute.{computing}
use Rattle.pywr.specs.Cases.{blank, work, whole, times, minus_whole}
use Rattle.theorem_example.proofs.Sides.{built, call, allowed, admitted}

-- ---- two pumps of which one may run

-- pumps 0 and 1, each alone in a set, to output 2
pumps : List ℕ
pumps = varying input ++ varying input ++ constant output zero64 (double 100) ++ edge 0 2 ++ edge 1 2 ++ exclusive 0 1 ((0 ∷ []) ∷ (1 ∷ []) ∷ [])

-- a day's limits of either pump
limits : Float → Float → Float → Float → List ℕ
limits least most least' most' =
    date 6 1 (double 1) ++ node_step zero64 least most zero64 ++ node_step zero64 least' most' zero64 ++ node_step zero64 zero64 zero64 zero64 ++ aggregate_step zero64 (double 100)

-- 0 to 10, and 2 to 20
june : List ℕ
june = limits zero64 (double 10) (double 2) (double 20)

-- what either pump carries, and which set is on: the set that lists pump n alone
plan : ℕ → ℕ → Bool → Bool → Plan
plan x y one two = record { amount = λ e. get_or (x ∷ y ∷ []) e 0 * units_in_one; on = λ s. elim s [ [] ↦ false | n ∷ ns ↦ get_or (one ∷ two ∷ []) n false ] }

-- the first at its upper; the second at its lower; both on; both carry and one is on; one carries that is off; the second on, under its lower; none
plans : List Plan
plans =
    plan 10 0 true false
    ∷ plan 0 2 false true
    ∷ plan 5 5 true true
    ∷ plan 5 5 true false
    ∷ plan 5 0 false false
    ∷ plan 0 1 false true
    ∷ plan 0 0 false false
    ∷ []

taken : List Bool
taken = true ∷ true ∷ false ∷ false ∷ false ∷ false ∷ true ∷ []

-- the binary rows of either pump, and the aggregate's
june_rows : List Row
june_rows =
    record { lower = zero64; upper = inf false; elements = element 0 (minus_whole 1) ∷ element 2 (times 5 1) ∷ [] }
    ∷ record { lower = zero64; upper = inf false; elements = element 0 (whole 1) ∷ element 2 (fin true 0 (pos 0)) ∷ [] }
    ∷ record { lower = zero64; upper = inf false; elements = element 1 (minus_whole 1) ∷ element 3 (times 5 2) ∷ [] }
    ∷ record { lower = zero64; upper = inf false; elements = element 1 (whole 1) ∷ element 3 (neg (times 1 1)) ∷ [] }
    ∷ record { lower = zero64; upper = times 25 2; elements = element 0 (whole 1) ∷ element 1 (whole 1) ∷ [] }
    ∷ []

rows_after : List ℕ → List (List ℕ) → List Row
rows_after network files = (programme_in (store_after (built network) (map call files))).varying

refusal : Result StepFile → ℕ × ℕ
refusal (value f) = (0, 0)
refusal (refused number place) = (number, place)

refused_with : List ℕ → List ℕ → ℕ × ℕ
refused_with network file = refusal (step_answer (built network) file work)

-- ---- a shared row: the inputs of docs/DIFFERENCES.md

-- input 0 to output 1, both varying
pair : List ℕ
pair = varying input ++ varying output ++ edge 0 1

-- the input alone in a set
pump : List ℕ
pump = pair ++ exclusive 0 1 ((0 ∷ []) ∷ [])

-- both in one set: their upper rows are one row, and their lower rows
line : List ℕ
line = pair ++ exclusive 0 1 ((0 ∷ 1 ∷ []) ∷ [])

pair_limits : Float → Float → Float → Float → List ℕ
pair_limits least most least' most' = date 6 1 (double 1) ++ node_step zero64 least most zero64 ++ node_step zero64 least' most' zero64 ++ aggregate_step zero64 (double 9)

line_limits : ℕ → ℕ → ℕ → ℕ → List ℕ
line_limits least most least' most' = pair_limits (double least) (double most) (double least') (double most')

-- upper and lower on the edge's column and the set's
binary_rows : Float → Float → List Row
binary_rows most least =
    record { lower = zero64; upper = inf false; elements = element 0 (minus_whole 1) ∷ element 1 most ∷ [] }
    ∷ record { lower = zero64; upper = inf false; elements = element 0 (whole 1) ∷ element 1 least ∷ [] }
    ∷ []

-- and the aggregate's
line_rows : Float → Float → Float → List Row
line_rows most least aggregate = binary_rows most least ++ (record { lower = zero64; upper = aggregate; elements = element 0 (times 1 1) ∷ [] } ∷ [])

-- ---- a storage in an exclusive set

-- storage 0 with inflow and outflow
lake : List ℕ
lake = varying storage ++ constant input zero64 (double 100) ++ constant output zero64 (double 100) ++ edge 1 0 ++ edge 0 2 ++ exclusive 0 1 ((0 ∷ []) ∷ [])

-- volume 30, range 10 to 100, 2 days: −10 to 35
lake_step : List ℕ
lake_step =
    date 6 1 (double 2)
    ++ node_step zero64 (double 10) (double 100) (double 30)
    ++ node_step zero64 zero64 zero64 zero64
    ++ node_step zero64 zero64 zero64 zero64
    ++ aggregate_step (neg (double 50)) (double 50)

-- drawn down by 10 and by 11, filled by 35 and by 36; shut off, nothing, 5 through it, and 5 out of it
lake_plans : List Plan
lake_plans = plan 0 10 true true ∷ plan 0 11 true true ∷ plan 35 0 true true ∷ plan 36 0 true true ∷ plan 0 0 false false ∷ plan 5 5 false false ∷ plan 0 5 false false ∷ []

lake_taken : List Bool
lake_taken = true ∷ false ∷ true ∷ false ∷ true ∷ true ∷ false ∷ []

-- ---- what each shows

pub record Pumps : Type 0 where
  rows : rows_after pumps (june ∷ []) ≡ june_rows
  network_says : allowed pumps (june ∷ []) plans ≡ taken
  programme_says : admitted pumps (june ∷ []) plans ≡ taken

pub pumps_exclude : Pumps
unfolding computing blank work built call allowed admitted pumps limits june plan plans taken june_rows rows_after
pumps_exclude = record { rows = refl; network_says = refl; programme_says = refl }

-- by node 14, then 21: node 0's 21 before node 1's 14, of one node 14 first, and either sentinel
pub record Beyond : Type 0 where
  alone : refused_with pump (pair_limits zero64 (inf false) zero64 (double 1)) ≡ (21, 0)
  beyond_first : refused_with pumps (limits zero64 (inf false) (double 3) (double 2)) ≡ (21, 0)
  crossed_first : refused_with pumps (limits zero64 (double 1) (inf false) (double 2)) ≡ (14, 1)
  beyond_low : refused_with pumps (limits zero64 (double 1) (inf true) (double 2)) ≡ (21, 1)

pub refused_beyond : Beyond
unfolding computing blank work built pumps limits refusal refused_with pair pump pair_limits
refused_beyond = record { alone = refl; beyond_first = refl; crossed_first = refl; beyond_low = refl }

-- "the smallest of that step's coefficients": of 1 to 3 and 0 to 5, 3 and −1, in either order; the next step's are 7 and −0. A fresh build has 1 and −1
pub record Shared : Type 0 where
  alone : rows_after pump (pair_limits (double 1) (double 5) zero64 (double 1) ∷ [])
      ≡ binary_rows (whole 5) (minus_whole 1)
      ++ (record { lower = zero64; upper = whole 1; elements = element 0 (whole 1) ∷ [] } ∷ [])
  fresh : rows_after line [] ≡ line_rows (whole 1) (minus_whole 1) (inf false)
  smallest : rows_after line (line_limits 1 3 0 5 ∷ []) ≡ line_rows (whole 3) (minus_whole 1) (whole 9)
  in_turn : rows_after line (line_limits 0 5 1 3 ∷ []) ≡ line_rows (whole 3) (minus_whole 1) (whole 9)
  anew : rows_after line (line_limits 1 3 0 5 ∷ line_limits 0 7 0 9 ∷ []) ≡ line_rows (whole 7) (fin true 0 (pos 0)) (whole 9)

pub smallest_stands : Shared
unfolding computing blank work built call rows_after pair pump line pair_limits line_limits binary_rows line_rows
smallest_stands = record { alone = refl; fresh = refl; smallest = refl; in_turn = refl; anew = refl }

pub record Lake : Type 0 where
  network_says : allowed lake (lake_step ∷ []) lake_plans ≡ lake_taken
  programme_says : admitted lake (lake_step ∷ []) lake_plans ≡ lake_taken

pub lake_shut : Lake
unfolding computing blank work built call allowed admitted plan lake lake_step lake_plans lake_taken
lake_shut = record { network_says = refl; programme_says = refl }

-- The worked example of docs/DEMAND-3.md: both sides' numbers under two steps, and after a refused one, by computing the definitions.
-- Assumes nothing.
use mathlib.Core.Path.{◌≡◌, refl}
use Prim.Native.Nat.{ℕ, suc, ◌*◌}
use mathlib.Core.List.{List, [], ◌∷◌, ◌++◌, map}
use mathlib.Core.Bool.{Bool, true, false}
use lib.ListN.{get_or}
use lib.IntN.{ℤ, pos, neg_ℤ, negsuc}
use lib.Ieee.{Float, fin, inf, neg}
use Rattle.pywr.specs.declared.Sentinel.TheVariants.{Infinity}
use Rattle.pywr.specs.declared.Interval.{Interval}
use Rattle.pywr.specs.Result.{value, Result, refused}
use Rattle.pywr.specs.Numbers.{double, zero64}
use Rattle.pywr.specs.Network.{input, output, link, storage, Node, Network}
use Rattle.pywr.specs.NetworkFile.{parse_network}
use Rattle.pywr.specs.Rows.{element}
use Rattle.pywr.specs.Programme.{Column, Row, Programme}
use Rattle.pywr.specs.StepFile.{StepFile}
use Rattle.pywr.specs.StepIntervals.{intervals}
use Rattle.pywr.specs.Store.{programme_in}
use Rattle.pywr.specs.Calls.{step_answer}
use Rattle.pywr.specs.Plans.{Plan, units_in_one}
use Rattle.pywr.specs.Allows.{node_amount, own_interval}
use Rattle.pywr.specs.Correspondence.{store_after, periods_of, read_by, factors_in1024ths}
use Rattle.pywr.specs.FileBytes.{varying, constant, edge, date, node_step}
use Rattle.pywr.specs.Compute.{computing}
use Rattle.pywr.specs.Cases.{blank, work, whole, times, minus_whole}
use Rattle.theorem_example.proofs.Sides.{of_network, built, call, allowed, admitted}

-- ---- the files

-- nodes 0 intake, 1 main, 2 reservoir, 3 town, which takes 0 to 30
network : List ℕ
network = varying input ++ varying link ++ varying storage ++ constant output zero64 (double 30) ++ edge 0 1 ++ edge 1 2 ++ edge 2 3

-- two days of June: the intake's bounds and the reservoir's volume change, costs are 1, 3, 0.5 and −10
step : ℕ → Float → Float → ℕ → List ℕ
step day least most volume =
    date 6 day (double 2)
    ++ node_step (double 1) least most zero64
    ++ node_step (double 3) zero64 (double 40) zero64
    ++ node_step (fin false 1 (negsuc 0)) (double 10) (double 100) (double volume)
    ++ node_step (neg (double 10)) zero64 zero64 zero64

-- 48.5 and 20 are the licence of either step
first : List ℕ
first = step 1 zero64 (fin false 97 (negsuc 0)) 30

second : List ℕ
second = step 3 zero64 (double 20) 40

-- the second with 25 for the intake's least
crossed : List ℕ
crossed = step 3 (double 25) (double 20) 40

-- ---- the network's side

numbered : {A B : Type 0} → (ℕ → A → B) → ℕ → List A → List B
numbered get n [] = []
numbered get n (x ∷ xs) = get n x ∷ numbered get (suc n) xs

of_step : Network → Result StepFile → List Interval
of_step net (value f) = numbered (own_interval Infinity (intervals Infinity (periods_of net) f)) 0 net.nodes
of_step net (refused number place) = []

-- each node's interval and amount
intervals_under : List ℕ → List Interval
intervals_under file = of_network (λ net. of_step net (read_by net file)) [] (parse_network network)

amounts_of : Plan → List ℤ
amounts_of p = of_network (λ net. numbered (λ n (x : Node). node_amount net p n) 0 net.nodes) [] (parse_network network)

plan : ℕ → ℕ → ℕ → Plan
plan a b c = record { amount = λ e. get_or (a ∷ b ∷ c ∷ []) e 0 * units_in_one; on = λ s. false }

plan_a : Plan
plan_a = plan 25 25 28

plan_b : Plan
plan_b = plan 18 18 30

-- 1 of 25 stays in the main
plan_c : Plan
plan_c = plan 25 24 28

-- ---- both sides after a list of steps

-- the programme's costs and rows, and what either side says of the three plans
pub record Outcome : Type 0 where
  costs : List Float
  rows : List Row
  allowed : List Bool
  admitted : List Bool

outcome : List (List ℕ) → Outcome
outcome files =
    let p : Programme = programme_in (store_after (built network) (map call files)) in
    record {
      costs = map (λ (c : Column). c.cost) p.columns;
      rows = p.varying ++ p.fixed;
      allowed = allowed network files (plan_a ∷ plan_b ∷ plan_c ∷ []);
      admitted = admitted network files (plan_a ∷ plan_b ∷ plan_c ∷ []);
    }

refusal : Result StepFile → ℕ × ℕ
refusal (value f) = (0, 0)
refusal (refused number place) = (number, place)

-- row 0 of intake and main, row 1 of the reservoir, row 2 of the town
rows_with : Float → Float → Float → Float → List Row
rows_with least most low high =
    record { lower = least; upper = most; elements = element 0 (whole 1) ∷ [] }
    ∷ record { lower = low; upper = high; elements = element 0 (whole 1) ∷ element 1 (minus_whole 1) ∷ [] }
    ∷ record { lower = zero64; upper = times 15 1; elements = element 1 (whole 1) ∷ [] }
    ∷ []

-- 4.5 and −10.5
step_costs_are : List Float
step_costs_are = fin false 9 (negsuc 0) ∷ fin true 21 (negsuc 0) ∷ []

interval : Float → Float → Interval
interval lower upper = record { lower = lower; upper = upper }

pub record Example : Type 0 where
  -- the premise of `Correspondence`
  factors : of_network factors_in1024ths false (parse_network network) ≡ true
  -- 48.5, 40, −10 to 35 and 30; then 20, 40, −15 to 30 and 30
  first_intervals : intervals_under first ≡ interval zero64 (fin false 97 (negsuc 0)) ∷ interval zero64 (times 5 3) ∷ interval (fin true 5 (pos 1)) (whole 35) ∷ interval zero64 (times 15 1) ∷ []
  second_intervals : intervals_under second ≡ interval zero64 (times 5 2) ∷ interval zero64 (times 5 3) ∷ interval (minus_whole 15) (times 15 1) ∷ interval zero64 (times 15 1) ∷ []
  amounts_a : amounts_of plan_a ≡ pos (25 * units_in_one) ∷ pos (25 * units_in_one) ∷ neg_ℤ (pos (3 * units_in_one)) ∷ pos (28 * units_in_one) ∷ []
  amounts_b : amounts_of plan_b ≡ pos (18 * units_in_one) ∷ pos (18 * units_in_one) ∷ neg_ℤ (pos (12 * units_in_one)) ∷ pos (30 * units_in_one) ∷ []
  amounts_c : amounts_of plan_c ≡ pos (25 * units_in_one) ∷ pos (24 * units_in_one) ∷ neg_ℤ (pos (4 * units_in_one)) ∷ pos (28 * units_in_one) ∷ []
  fresh : outcome [] ≡ record { costs = zero64 ∷ zero64 ∷ []; rows = rows_with zero64 (inf false) zero64 (inf false); allowed = false ∷ false ∷ false ∷ []; admitted = false ∷ false ∷ false ∷ [] }
  after_first : outcome (first ∷ [])
      ≡ record { costs = step_costs_are; rows = rows_with zero64 (times 5 3) (fin true 5 (pos 1)) (whole 35); allowed = true ∷ false ∷ false ∷ []; admitted = true ∷ false ∷ false ∷ [] }
  after_second : outcome (first ∷ second ∷ [])
      ≡ record { costs = step_costs_are; rows = rows_with zero64 (times 5 2) (minus_whole 15) (times 15 1); allowed = false ∷ true ∷ false ∷ []; admitted = false ∷ true ∷ false ∷ [] }
  -- 14 at node 0, and all else as after the first
  refused14 : refusal (step_answer (built network) crossed work) ≡ (14, 0)
  after_crossed : outcome (first ∷ crossed ∷ [])
      ≡ record { costs = step_costs_are; rows = rows_with zero64 (times 5 3) (fin true 5 (pos 1)) (whole 35); allowed = true ∷ false ∷ false ∷ []; admitted = true ∷ false ∷ false ∷ [] }

pub example : Example
unfolding computing blank work of_network built call allowed admitted network step first second crossed numbered of_step intervals_under amounts_of plan plan_a plan_b plan_c
    outcome refusal rows_with step_costs_are interval
example =
    record {
      factors = refl;
      first_intervals = refl;
      second_intervals = refl;
      amounts_a = refl;
      amounts_b = refl;
      amounts_c = refl;
      fresh = refl;
      after_first = refl;
      after_second = refl;
      refused14 = refl;
      after_crossed = refl;
    }

-- Factors of virtual storages: which keep demand 3's premise, 64 parts on one column at the limit, and demand 3 failing without either half of it. Assumes nothing.
use mathlib.Core.Path.{◌≡◌, refl}
use Prim.Native.Nat.{ℕ, ◌*◌, ◌/◌, ◌%◌, ◌^◌}
use mathlib.Core.List.{List, [], ◌∷◌, ◌++◌, map}
use mathlib.Core.Bool.{Bool, true, false}
use lib.Dec.{leb, eqb}
use lib.ListN.{replicate}
use lib.IntN.{ℤ, pos, neg_ℤ, negsuc, nat_abs}
use lib.Ieee.{Float, fin, neg}
use Rattle.pywr.specs.Numbers.{double, zero64}
use Rattle.pywr.specs.Network.{input, output, Part, VirtualStorage, Network}
use Rattle.pywr.specs.NetworkFile.{parse_network}
use Rattle.pywr.specs.Rows.{Element, element, column_map, virtual_storage_row}
use Rattle.pywr.specs.Plans.{exact, Plan, units_in_one, units_in1024th, all_from}
use Rattle.pywr.specs.Correspondence.{factor_limit, is_multiple_to_limit, CorrespondenceWhere}
use Rattle.pywr.specs.ExactElements.{factor_sum}
use Rattle.pywr.specs.FileBytes.{varying, edge, virtual_storage_of, date, node_step, virtual_storage_step}
use Rattle.pywr.specs.Compute.{computing}
use Rattle.pywr.specs.Cases.{blank, work}
use Rattle.theorem_example.proofs.Sides.{of_network, built, call, Differ, refutes}

-- ---- one factor

part : Float → Part
part factor = record { node = 0; factor = factor }

three_quarters : Float
three_quarters = fin false 3 (negsuc 1)

million : Float
million = double 1000000

-- 1/1024 under and over a million
under_million : Float
under_million = fin false 1023999999 (negsuc 9)

over_million : Float
over_million = fin false 1024000001 (negsuc 9)

-- 1,000,000,000,000 less 1/1024, which a network file may have (refusal 3)
under_trillion : Float
under_trillion = fin false 1023999999999999 (negsuc 9)

-- the nearest doubles of 0.1, 0.2 and 0.3
tenth : Float
tenth = fin false 3602879701896397 (negsuc 54)

fifth : Float
fifth = fin false 3602879701896397 (negsuc 53)

three_tenths : Float
three_tenths = fin false 5404319552844595 (negsuc 53)

-- ---- a licence whose parts all name the one input: its row has one column

network : List Part → List ℕ
network parts = varying input ++ varying output ++ edge 0 1 ++ virtual_storage_of (replicate 5 0) parts

row_of_first : List VirtualStorage → Network → List Element
row_of_first [] net = []
row_of_first (v ∷ vs) net = virtual_storage_row (column_map net) v

-- the licence's row, and the exact sum of its parts on column 0
elements_of : List Part → List Element
elements_of parts = of_network (λ net. row_of_first net.virtual_storages net) [] (parse_network (network parts))

sum_of : List Part → ℤ
sum_of parts = of_network (λ net. factor_sum (column_map net) 0 parts) (pos 0) (parse_network (network parts))

-- one day: the licence has this volume left, of 1,000,000,000,000
step : Float → List ℕ
step volume =
    date 6 1 (double 1)
    ++ node_step zero64 zero64 million zero64
    ++ node_step zero64 zero64 million zero64
    ++ virtual_storage_step zero64 (double 1000000000000) volume

plan : ℕ → Plan
plan amount = record { amount = λ edge. amount; on = λ set. false }

-- ---- premises that are too wide

-- any fraction up to the limit
limited : Network → Bool
limited net =
    all_from (λ (number : ℕ) (v : VirtualStorage). all_from (λ (index : ℕ) (p : Part). leb (nat_abs (exact p.factor)) factor_limit) 0 v.parts) 0 net.virtual_storages

-- multiples of 1/1024 without the limit
unlimited : Network → Bool
unlimited net =
    all_from (λ (number : ℕ) (v : VirtualStorage). all_from (λ (index : ℕ) (p : Part). eqb (nat_abs (exact p.factor) % units_in1024th) 0) 0 v.parts) 0 net.virtual_storages

-- 0.1, 0.2 and 0.3 in turn, and the other way round
rising : List Part
rising = part tenth ∷ part fifth ∷ part three_tenths ∷ []

falling : List Part
falling = part three_tenths ∷ part fifth ∷ part tenth ∷ []

thirteen : List Part
thirteen = replicate 13 (part under_trillion)

pub record FactorExample : Type 0 where
  -- 3/4, 1/1024, −1,000,000 and −0.0 keep the premise; 1/2048, a million and 1/1024, and 0.1 do not; of the first four −1,000,000 and −0.0 are whole
  multiples : map (is_multiple_to_limit units_in1024th)
      (map part (three_quarters ∷ fin false 1 (negsuc 9) ∷ neg million ∷ neg zero64 ∷ fin false 1 (negsuc 10) ∷ over_million ∷ tenth ∷ []))
      ≡ true ∷ true ∷ true ∷ true ∷ false ∷ false ∷ false ∷ []
  wholes : map (is_multiple_to_limit units_in_one) (map part (three_quarters ∷ fin false 1 (negsuc 9) ∷ neg million ∷ neg zero64 ∷ [])) ≡ false ∷ false ∷ true ∷ true ∷ []
  -- 64 parts at the limit: 64,000,000; each 1/1024 under it: 63,999,999.9375; 63 at the limit and one of 1/1024: 63,000,000.0009765625
  largest : elements_of (replicate 64 (part million)) ≡ element 0 (neg (double 64000000)) ∷ []
  largest_sum : sum_of (replicate 64 (part million)) ≡ neg_ℤ (pos (64000000 * units_in_one))
  largest_parts : elements_of (replicate 64 (part under_million)) ≡ element 0 (fin true 1023999999 (negsuc 3)) ∷ []
  largest_parts_sum : sum_of (replicate 64 (part under_million)) ≡ neg_ℤ (pos (65535999936 * units_in1024th))
  finest : elements_of (replicate 63 (part million) ++ part (fin false 1 (negsuc 9)) ∷ []) ≡ element 0 (fin true 64512000001 (negsuc 9)) ∷ []
  finest_sum : sum_of (replicate 63 (part million) ++ part (fin false 1 (negsuc 9)) ∷ []) ≡ neg_ℤ (pos (64512000001 * units_in1024th))
  -- without the premise the element is not the exact sum: −0.6000000000000001 and −0.6 of the same three, and 13 parts that are off by 5/1024
  rising_element : elements_of rising ≡ element 0 (fin true 1351079888211149 (negsuc 50)) ∷ []
  falling_element : elements_of falling ≡ element 0 (fin true 5404319552844595 (negsuc 52)) ∷ []
  three_sums : map sum_of (rising ∷ falling ∷ []) ≡ neg_ℤ (pos (21617278211378381 * 2 ^ 1019)) ∷ neg_ℤ (pos (21617278211378381 * 2 ^ 1019)) ∷ []
  thirteen_element : elements_of thirteen ≡ element 0 (fin true 1663999999999999 (negsuc 6)) ∷ []
  thirteen_sum : sum_of thirteen ≡ neg_ℤ (pos (13311999999999987 * units_in1024th))

pub factor_example : FactorExample
unfolding computing of_network part three_quarters million under_million over_million under_trillion tenth fifth three_tenths network row_of_first elements_of sum_of
    rising falling thirteen
factor_example =
    record {
      multiples = refl;
      wholes = refl;
      largest = refl;
      largest_sum = refl;
      largest_parts = refl;
      largest_parts_sum = refl;
      finest = refl;
      finest_sum = refl;
      rising_element = refl;
      falling_element = refl;
      three_sums = refl;
      thirteen_element = refl;
      thirteen_sum = refl;
    }

-- ---- the premise is needed

-- 3.6 left, and 6 taken at 0.1, 0.2 and 0.3: the network allows it, the programme does not admit it
rising_differs : Differ limited (network rising) (step (fin false 8106479329266893 (negsuc 50))) (plan (6 * units_in_one)) true
unfolding computing blank work built call part million tenth fifth three_tenths network step plan limited rising
rising_differs = record { net = _; parsed = refl; accepted = refl; kept = refl; step_accepted = refl; allows = refl; admits = refl }

-- 0.6 left, and 1 taken at 0.3, 0.2 and 0.1: the programme admits what the network does not allow
falling_differs : Differ limited (network falling) (step (fin false 5404319552844595 (negsuc 52))) (plan units_in_one) false
unfolding computing blank work built call part million tenth fifth three_tenths network step plan limited falling
falling_differs = record { net = _; parsed = refl; accepted = refl; kept = refl; step_accepted = refl; allows = refl; admits = refl }

-- 812,500,000,000 less 3/4096 left, and 1/16 taken thirteen times at 1,000,000,000,000 less 1/1024
thirteen_differs : Differ unlimited (network thirteen) (step (fin false 3327999999999997 (negsuc 11))) (plan (units_in_one / 16)) true
unfolding computing blank work built call part million under_trillion network step plan unlimited thirteen
thirteen_differs = record { net = _; parsed = refl; accepted = refl; kept = refl; step_accepted = refl; allows = refl; admits = refl }

pub record PremiseNeeded : Type 0 where
  -- an allowed plan is not admitted, and one that is not allowed is
  plan_lost : Differ limited (network rising) (step (fin false 8106479329266893 (negsuc 50))) (plan (6 * units_in_one)) true
  plan_let_in : Differ limited (network falling) (step (fin false 5404319552844595 (negsuc 52))) (plan units_in_one) false
  -- so neither half of the premise can be left out
  multiples_needed : CorrespondenceWhere limited → ⊥
  limit_needed : CorrespondenceWhere unlimited → ⊥

pub premise_needed : PremiseNeeded
premise_needed = record { plan_lost = rising_differs; plan_let_in = falling_differs; multiples_needed = refutes rising_differs; limit_needed = refutes thirteen_differs }

-- The licence of docs/DEMAND-3.md that counts a returned litre as three quarters: its row, and both sides' answers to plans on its bound and beside it.
-- Assumes nothing.
use mathlib.Core.Path.{◌≡◌, refl}
use Prim.Native.Nat.{ℕ, ◌+◌, ◌*◌}
use mathlib.Core.List.{List, [], ◌∷◌, ◌++◌, map}
use mathlib.Core.Bool.{true, false}
use lib.ListN.{get_or, replicate}
use lib.IntN.{ℤ, pos, neg_ℤ, negsuc}
use lib.Ieee.{fin, inf, neg}
use Rattle.pywr.specs.Numbers.{double, zero64, one64}
use Rattle.pywr.specs.Network.{input, output, link, Part}
use Rattle.pywr.specs.NetworkFile.{parse_network}
use Rattle.pywr.specs.Rows.{element, column_map}
use Rattle.pywr.specs.Programme.{Row}
use Rattle.pywr.specs.Store.{programme_in}
use Rattle.pywr.specs.Plans.{Plan, units_in_one, units_in1024th}
use Rattle.pywr.specs.Allows.{parts_sum}
use Rattle.pywr.specs.Correspondence.{store_after, factors_in1024ths, factors_whole}
use Rattle.pywr.specs.ExactElements.{factor_sum}
use Rattle.pywr.specs.FileBytes.{constant, edge, virtual_storage_of, date, node_step, virtual_storage_step}
use Rattle.pywr.specs.Compute.{computing}
use Rattle.pywr.specs.Cases.{blank, work, times, minus_whole}
use Rattle.theorem_example.proofs.Sides.{of_network, built, call, allowed, admitted}

-- ---- the files: examples/returns.network and examples/returns.step

-- a litre taken counts one, a litre returned minus three quarters
licence : List Part
licence = record { node = 0; factor = one64 } ∷ record { node = 2; factor = fin true 3 (negsuc 1) } ∷ []

-- nodes 0 river intake, 1 paper mill, 2 return to the river, 3 water in the product
network : List ℕ
network =
    constant input zero64 (double 120)
    ++ constant link zero64 (double 120)
    ++ constant output zero64 (inf false)
    ++ constant output zero64 (double 30)
    ++ edge 0 1
    ++ edge 1 2
    ++ edge 1 3
    ++ virtual_storage_of (replicate 5 0) licence

-- one day; 40 left of a licence of 100
step : List ℕ
step =
    date 6 1 (double 1)
    ++ node_step one64 zero64 zero64 zero64
    ++ node_step zero64 zero64 zero64 zero64
    ++ node_step zero64 zero64 zero64 zero64
    ++ node_step (neg (double 10)) zero64 zero64 zero64
    ++ virtual_storage_step zero64 (double 100) (double 40)

-- ---- plans: taken, returned and kept

plan : ℕ → ℕ → ℕ → Plan
plan taken returned kept = record { amount = λ e. get_or (taken ∷ returned ∷ kept ∷ []) e 0; on = λ s. false }

in_megalitres : ℕ → ℕ → ℕ → Plan
in_megalitres taken returned kept = plan (taken * units_in_one) (returned * units_in_one) (kept * units_in_one)

-- on the bound; 1 less returned; 1 more returned; 2^-1074 more taken and kept
plans : List Plan
plans = in_megalitres 100 80 20 ∷ in_megalitres 100 79 21 ∷ in_megalitres 100 81 19 ∷ plan (100 * units_in_one + 1) (80 * units_in_one) (20 * units_in_one + 1) ∷ []

-- the licence's amount under a plan: minus what it counts
licence_amount : Plan → ℤ
licence_amount p = of_network (λ net. parts_sum net p licence) (pos 0) (parse_network network)

-- the exact sum of the parts on a column
sum_on : ℕ → ℤ
sum_on column = of_network (λ net. factor_sum (column_map net) column licence) (pos 0) (parse_network network)

licence_rows : List Row
licence_rows = (programme_in (store_after (built network) (call step ∷ []))).varying

pub record ReturnExample : Type 0 where
  -- the premise of demand 3; that the factors be whole would not hold
  factors : of_network factors_in1024ths false (parse_network network) ≡ true
  not_whole : of_network factors_whole true (parse_network network) ≡ false
  -- −1 on what is taken and 0.75 on what is returned, from −40 to 60
  row : licence_rows ≡ record { lower = fin true 5 (pos 3); upper = times 15 2; elements = element 0 (minus_whole 1) ∷ element 1 (fin false 3 (negsuc 1)) ∷ [] } ∷ []
  sums : map sum_on (0 ∷ 1 ∷ 2 ∷ []) ≡ neg_ℤ (pos units_in_one) ∷ pos (768 * units_in1024th) ∷ pos 0 ∷ []
  -- −40, −40.75, −39.25, and −40 less the smallest amount
  amounts : map licence_amount plans
      ≡ neg_ℤ (pos (40 * units_in_one * units_in_one))
      ∷ neg_ℤ (pos (41728 * units_in1024th * units_in_one))
      ∷ neg_ℤ (pos (40192 * units_in1024th * units_in_one))
      ∷ neg_ℤ (pos (40 * units_in_one * units_in_one + units_in_one))
      ∷ []
  network_says : allowed network (step ∷ []) plans ≡ true ∷ false ∷ true ∷ false ∷ []
  programme_says : admitted network (step ∷ []) plans ≡ true ∷ false ∷ true ∷ false ∷ []

pub return_example : ReturnExample
unfolding computing blank work of_network built call allowed admitted licence network step plan in_megalitres plans licence_amount sum_on licence_rows
return_example =
    record {
      factors = refl;
      not_whole = refl;
      row = refl;
      sums = refl;
      amounts = refl;
      network_says = refl;
      programme_says = refl;
    }

-- The coefficients that a step gives a varying exclusive node, by computing the definitions. Assumes nothing.
use mathlib.Core.Path.{◌≡◌, refl}
use Prim.Native.Nat.{ℕ}
use mathlib.Core.List.{List, [], ◌∷◌, ◌++◌}
use mathlib.Core.Bool.{false}
use lib.ListN.{replicate}
use lib.Ieee.{inf}
use Rattle.layout.specs.Layout.{numbers_length, words_length}
use Rattle.pywr.specs.declared.Sentinel.TheVariants.{Infinity}
use Rattle.pywr.specs.Numbers.{double, zero64}
use Rattle.pywr.specs.Network.{input, output}
use Rattle.pywr.specs.Rows.{element}
use Rattle.pywr.specs.Programme.{Row}
use Rattle.pywr.specs.Store.{programme_in}
use Rattle.pywr.specs.Calls.{build_store, step_store}
use Rattle.pywr.specs.FileBytes.{varying, constant, edge, exclusive, date, node_step, aggregate_step}
use Rattle.pywr.specs.Compute.{computing}
use Rattle.pywr.specs.Cases.{blank, work, whole, times, minus_whole}

-- a pump alone in a set, to an output: column 0 is the edge's, column 1 the set's
pump : List ℕ
pump = varying input ++ constant output zero64 (double 5) ++ edge 0 1 ++ exclusive 0 1 ((0 ∷ []) ∷ [])

-- the pump from 3 to 2,000,000, the aggregate from 0 to 9
pump_step : List ℕ
pump_step = date 6 1 (double 1) ++ node_step zero64 (double 3) (double 2000000) zero64 ++ node_step zero64 zero64 zero64 zero64 ++ aggregate_step zero64 (double 9)

pub pump_rows : List Row
pump_rows = (programme_in (step_store (build_store Infinity pump blank (replicate words_length 0) (replicate numbers_length zero64)) pump_step work)).varying

-- "lower 0, upper high sentinel"; "the integer column's coefficient becomes the upper bound, or minus the lower, uncapped"
pub uncapped : pump_rows
    ≡ record { lower = zero64; upper = inf false; elements = element 0 (minus_whole 1) ∷ element 1 (times 15625 7) ∷ [] }
    ∷ record { lower = zero64; upper = inf false; elements = element 0 (whole 1) ∷ element 1 (minus_whole 3) ∷ [] }
    ∷ record { lower = zero64; upper = whole 9; elements = element 0 (whole 1) ∷ [] }
    ∷ []
unfolding computing blank work pump pump_step pump_rows
uncapped = refl

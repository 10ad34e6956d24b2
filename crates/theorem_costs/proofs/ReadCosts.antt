-- A step file's costs by the numbers of their nodes, and as exact amounts. Assumes nothing.
use mathlib.Core.Path.{◌≡◌, refl, ap, ◌∙◌}
use Prim.Native.Nat.{ℕ, zero, suc, zero-le}
use native.Mathlib.Nat.{le_trans, le_of_eq}
use mathlib.Core.Bool.{Bool}
use mathlib.Core.List.Memᴰ
use mathlib.Core.List.{List, [], ◌∷◌, map}
use lib.ListN.{length}
use lib.IntN.{nat_abs}
use lib.Dec.{T}
use lib.Ieee.{Float, binary64, fits}
use lib.Ieee.Fits.{and_l, and_r}
use lib.Ieee.Scale.{finite}
use Rattle.doubles.specs.Units.{sign, mag}
use Rattle.doubles.proofs.Units.{abs_signed}
use Rattle.doubles.proofs.Sums.{zero_grain, zero_mag}
use Rattle.pywr.specs.Result.{value}
use Rattle.pywr.specs.Numbers.{zero64}
use Rattle.pywr.specs.Network.{Network}
use Rattle.pywr.specs.Build.{node_shape}
use Rattle.pywr.specs.StepFile.{NodeStep, StepFile}
use Rattle.pywr.specs.Costs.{cost_at}
use Rattle.pywr.specs.Plans.{exact, all_from}
use Rattle.pywr.specs.Correspondence.{read_by}
use Rattle.pywr.proofs.ExactLaws.{exact_rank}
use Rattle.pywr.proofs.ListLaws.{AllMem, all_none, all_cons}
use Rattle.pywr.proofs.CostReadLaws.{UpTo, most, OfCost, step_costs_lem}

pub costs_read : (net : Network) (file : List ℕ) (f : StepFile) → read_by net file ≡ value f → AllMem (OfCost (UpTo most)) f.nodes
unfolding read_by
costs_read net file f e = step_costs_lem (map node_shape net.nodes) (length net.aggregates) (length net.virtual_storages) file f e

-- what holds of 0.0 and of every node's cost holds of the cost of every number
pub costs_all : (P : Float → Type 0) (steps : List NodeStep) → P zero64 → AllMem (OfCost P) steps → (n : ℕ) → P (cost_at steps n)
unfolding cost_at
costs_all P [] z all n = z
costs_all P (x ∷ xs) z all zero = all x (Memᴰ.head refl)
costs_all P (x ∷ xs) z all (suc n) = costs_all P xs z (λ y m. all y (Memᴰ.tail m)) n

pub from_all : (test : NodeStep → Bool) (i : ℕ) (xs : List NodeStep) → T (all_from (λ (n : ℕ) (x : NodeStep). test x) i xs)
    → AllMem (λ (x : NodeStep). T (test x)) xs
unfolding all_from
from_all test i [] t = all_none (λ (x : NodeStep). T (test x))
from_all test i (x ∷ xs) t =
    all_cons (λ (y : NodeStep). T (test y)) x xs (and_l (test x) (all_from (λ (n : ℕ) (y : NodeStep). test y) (suc i) xs) t)
    (from_all test (suc i) xs (and_r (test x) (all_from (λ (n : ℕ) (y : NodeStep). test y) (suc i) xs) t))

-- ---- exact amounts

pub zero_up_to : (m : ℕ) → UpTo m zero64
unfolding zero64
zero_up_to m = record { fit = (zero_grain binary64 0).fit; is_finite = tt; most = le_trans (le_of_eq (zero_mag binary64)) zero-le }

pub abs_mag : (x : Float) → T (fits binary64 x) → T (finite x) → nat_abs (exact x) ≡ mag binary64 x
abs_mag x p n = ap nat_abs (exact_rank x p n) ∙ abs_signed (sign x) (mag binary64 x)

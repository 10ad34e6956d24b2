-- The costs of a step file that was read are finite doubles of at most 1e12 in magnitude. Assumes nothing.
use mathlib.Core.Path.{◌≡◌, refl, ap, ap₂, ◌∙◌, subst}
use Prim.Native.Nat.{ℕ, ◌+◌, ◌*◌, ◌^◌, ◌≤◌}
use mathlib.Core.Bool.{Bool, true, false, ◌&&◌}
use mathlib.Core.List.{List, [], ◌∷◌, ◌++◌}
use lib.IntN.{ℤ, pos, neg_ℤ}
use lib.Signed.{le_z}
use lib.Dec.{T}
use lib.Ieee.{Float, binary64, neg, fits, le, of_bits}
use lib.Ieee.Fits.{and_l, and_r, neg-fits}
use lib.Ieee.Scale.{finite}
use Rattle.doubles.specs.Units.{sign, mag, signed, rank, number}
use Rattle.doubles.proofs.Integers.{ints, neg_plus, neg_less}
use Rattle.doubles.proofs.Units.{le_is, neg_rank, neg_finite, finite_number}
use Rattle.pywr.specs.Result.{value}
use Rattle.pywr.specs.Numbers.{trillion, is_flow, is_small, of_pattern}
use Rattle.pywr.specs.NetworkFile.{Read}
use Rattle.pywr.specs.Programme.{NodeShape}
use Rattle.pywr.specs.StepFile.{NodeStep, StepFile, read_node_step, read_node_steps, read_step}
use Rattle.pywr.proofs.NumberLaws.{FiniteFit, trillion_finite, small_is}
use Rattle.pywr.proofs.ListLaws.{AllMem, all_none, all_snoc}
use Rattle.pywr.proofs.RunLaws.{bind_then, bind_value, need_value}
use Rattle.pywr.proofs.ReadLaws.{same_value, checked_value}

-- a finite double of at most m in magnitude
pub record UpTo (m : ℕ) (x : Float) : Type 0 where
  pub fit : T (fits binary64 x)
  pub is_finite : T (finite x)
  pub most : mag binary64 x ≤ m * 2 ^ 1074

abbrev pub most : ℕ
most = 1000000000000

trillion_mag : mag binary64 trillion ≡ most * 2 ^ 1074
unfolding trillion of_bits mag
trillion_mag = refl

trillion_fits : T (fits binary64 trillion)
unfolding trillion of_bits fits
trillion_fits = tt

trillion_sign : sign trillion ≡ false
unfolding trillion of_bits
trillion_sign = refl

trillion_rank : rank binary64 trillion ≡ pos (most * 2 ^ 1074)
trillion_rank = ap₂ (λ (s : Bool) (k : ℕ). signed s k) trillion_sign trillion_mag

between_mag : (s : Bool) (a b : ℕ) → T (le_z (signed s a) (pos b)) → T (le_z (neg_ℤ (pos b)) (signed s a)) → a ≤ b
between_mag false a b h k = omega ints
between_mag true a b h k = omega (ints, neg_plus (pos a), neg_less (pos a), neg_plus (pos b), neg_less (pos b))

pub small_cost_lem : (bits : ℕ) → T (is_small bits) → UpTo most (of_pattern bits)
unfolding is_small of_pattern
small_cost_lem bits t =
    let x : Float = of_bits binary64 bits in
    let f : FiniteFit x = (unfold is_small of_pattern in small_is bits t) in
    let h : T (le (neg trillion) x && le x trillion) = and_r (is_flow bits) (le (neg trillion) x && le x trillion) t in
    let n : T (number x) = finite_number x f.finite in
    let m : T (number trillion) = finite_number trillion trillion_finite in
    let over : T (le_z (rank binary64 x) (rank binary64 trillion)) =
    subst T (le_is binary64 x trillion f.fit trillion_fits n m) (and_r (le (neg trillion) x) (le x trillion) h) in
    let under : T (le_z (rank binary64 (neg trillion)) (rank binary64 x)) =
    subst T
    (le_is binary64 (neg trillion) x (neg-fits binary64 trillion trillion_fits) f.fit
    (finite_number (neg trillion) (rw (neg_finite trillion) trillion_finite)) n)
    (and_l (le (neg trillion) x) (le x trillion) h) in
    record {
      fit = f.fit;
      is_finite = f.finite;
      most =
          between_mag (sign x) (mag binary64 x) (most * 2 ^ 1074)
          (subst (λ (z : ℤ). T (le_z (rank binary64 x) z)) trillion_rank over)
          (subst (λ (z : ℤ). T (le_z z (rank binary64 x))) (neg_rank binary64 trillion m ∙ ap neg_ℤ trillion_rank) under);
    }

-- ---- the costs of a step file

abbrev pub OfCost : (Float → Type 0) → NodeStep → Type 0
OfCost P x = P x.cost

read_cost : (file : List ℕ) (n : NodeShape) (place : ℕ) (r : NodeStep) → read_node_step file n place ≡ value r → UpTo most r.cost
unfolding read_node_step
read_cost file n place r e =
    bind_then _ _ r e (λ a a-is e. bind_then _ _ r e (λ b b-is e. bind_then _ _ r e (λ c c-is e. bind_then _ _ r e (λ d d-is e. bind_then _ _ r e (λ g g-is e.
    subst (λ (q : NodeStep). UpTo most q.cost) (same_value _ r e) (small_cost_lem b (checked_value 13 a is_small _ b b-is)))))))

read_costs : (file : List ℕ) (ns : List NodeShape) (so_far : List NodeStep) (at : ℕ) (r : Read (List NodeStep)) → read_node_steps file ns so_far at ≡ value r
    → AllMem (OfCost (UpTo most)) so_far → AllMem (OfCost (UpTo most)) r.item
unfolding read_node_steps
read_costs file [] so_far at r e h = subst (λ (q : Read (List NodeStep)). AllMem (OfCost (UpTo most)) q.item) (same_value _ r e) h
read_costs file (n ∷ ns) so_far at r e h =
    let a = bind_value _ _ r e in
    read_costs file ns (so_far ++ (a.0 ∷ [])) (at + 34) r a.2 (all_snoc (OfCost (UpTo most)) so_far a.0 h (read_cost file n at a.0 a.1))

-- every node's cost of a step file that was read
pub step_costs_lem : (shapes : List NodeShape) (aggregates storages : ℕ) (file : List ℕ) (f : StepFile) → read_step shapes aggregates storages file ≡ value f
    → AllMem (OfCost (UpTo most)) f.nodes
unfolding read_step
step_costs_lem shapes aggregates storages file f e =
    bind_then _ _ f e (λ a a-is e. bind_then _ _ f e (λ b b-is e. bind_then _ _ f e (λ c c-is e. bind_then _ _ f e (λ d d-is e.
    subst (λ (q : StepFile). AllMem (OfCost (UpTo most)) q.nodes) (need_value _ 12 d.next _ f e)
    (read_costs file shapes [] a.next b b-is (all_none (OfCost (UpTo most))))))))

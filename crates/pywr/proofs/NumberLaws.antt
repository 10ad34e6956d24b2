-- The doubles of a step: patterns that pass their test are bounds, and so are the intervals made of them. Assumes nothing.
use mathlib.Core.Path.{subst}
use Prim.Native.Nat.{ℕ}
use mathlib.Core.Bool.{Bool, true, false, not, ◌&&◌}
use lib.Dec.{T}
use lib.Ieee.{Float, binary64, fits, of_bits, round, sub, neg, le}
use lib.Ieee.Bits.{nan_bits_is, of_bits-fits}
use lib.Ieee.Fits.{and_l, and_r}
use lib.Ieee.Scale.{finite}
use lib.Ieee.Positive.{positive}
use Rattle.doubles.proofs.Order.{neg_num, between_finite}
use Rattle.doubles.proofs.Rounding.{round_num}
use Rattle.doubles.proofs.Monotone.{sub_num, div_num, raised_num, raised_in_order, positive_between}
use Rattle.pywr.specs.declared.Sentinel.{Sentinel}
use Rattle.pywr.specs.declared.Sentinel.TheVariants.{Infinity, Largest}
use Rattle.pywr.specs.declared.NodeBounds.TheVariants.{Flow, Volume}
use Rattle.pywr.specs.Numbers.{double, zero64, trillion, least_days, most_days, high, low, greater, is_flow, is_small, is_days, of_pattern}
use Rattle.pywr.specs.Interval.{sentinels, interval_of, storage_bounds, virtual_bounds}
use Rattle.pywr.specs.Period.{virtual_interval}
use Rattle.pywr.specs.Uncrossed.{Uncrossed}
use Rattle.pywr.proofs.ExactLaws.{number_of}
use Rattle.pywr.proofs.BoundLaws.{IsBound, IsInterval}
use Rattle.pywr.proofs.VaryingLaws.{sentinels_interval}

-- ---- a flow's pattern

pub flow_bound : (bits : ℕ) → T (is_flow bits) → IsBound (of_pattern bits)
unfolding is_flow of_pattern
flow_bound bits t = (of_bits-fits binary64 bits, number_of (of_bits binary64 bits) (subst (λ (b : Bool). T (not b)) (nan_bits_is binary64 bits) t))

-- ---- a cost, volume or factor

pub record FiniteFit (x : Float) : Type 0 where
  pub finite : T (finite x)
  pub fit : T (fits binary64 x)

pub trillion_finite : T (finite trillion)
unfolding trillion of_bits
trillion_finite = tt

pub small_is : (bits : ℕ) → T (is_small bits) → FiniteFit (of_pattern bits)
unfolding is_small of_pattern
small_is bits t =
    let x : Float = of_bits binary64 bits in
    let h : T (le (neg trillion) x && le x trillion) = and_r (is_flow bits) (le (neg trillion) x && le x trillion) t in
    record { finite = between_finite trillion x trillion_finite (and_l (le (neg trillion) x) (le x trillion) h) (and_r (le (neg trillion) x) (le x trillion) h); fit = of_bits-fits binary64 bits }

-- ---- a step's days: a double above 0.0

abbrev pub Divisor : Float → Type 0
Divisor x = T (fits binary64 x) × T (positive x)

least_positive : T (positive least_days)
unfolding least_days round
least_positive = tt

least_bound : IsBound least_days
unfolding least_days
least_bound = round_num binary64 false 1 1024

most_finite : T (finite most_days)
unfolding most_days double round
most_finite = tt

pub days_is : (bits : ℕ) → T (is_days bits) → Divisor (of_pattern bits)
unfolding is_days of_pattern
days_is bits t =
    let x : Float = of_bits binary64 bits in
    let b : IsBound x = (unfold of_pattern in flow_bound bits (and_l (is_flow bits) (le least_days x && le x most_days) t)) in
    let h : T (le least_days x && le x most_days) = and_r (is_flow bits) (le least_days x && le x most_days) t in
    (b.0, positive_between binary64 least_days x most_days least_bound b least_positive most_finite (and_l (le least_days x) (le x most_days) h) (and_r (le least_days x) (le x most_days) h))

-- ---- intervals

volume_interval : (days a m : Float) → Divisor days → IsBound a → IsBound m → IsInterval (interval_of days (Volume a m))
unfolding interval_of
volume_interval days a m d p q = record { lower = div_num binary64 (neg a) days (neg_num binary64 a p) d.0 d.1; upper = div_num binary64 m days q d.0 d.1 }

less_bound : (x y : Float) → FiniteFit x → FiniteFit y → IsBound (sub binary64 x y)
less_bound x y p q = sub_num binary64 x y p.fit q.fit p.finite q.finite

pub storage_interval_lem : (days least most now : Float) → Divisor days → FiniteFit least → FiniteFit most → FiniteFit now → IsInterval (interval_of days (storage_bounds least most now))
unfolding storage_bounds
storage_interval_lem days least most now d l m n = volume_interval days (sub binary64 now least) (sub binary64 most now) d (less_bound now least n l) (less_bound most now m n)

raised_bound : (x : Float) → IsBound x → IsBound (greater x zero64)
unfolding greater zero64
raised_bound x b = raised_num binary64 x b

negated_bound : (x : Float) → IsBound x → IsBound (neg x)
negated_bound x b = neg_num binary64 x b

-- of doubles, in whatever order they are subtracted, negated and raised
pub virtual_interval_lem : (w : Sentinel) (days least most now : Float) (active : Bool) → Divisor days → FiniteFit least → FiniteFit most → FiniteFit now
    → IsInterval (virtual_interval w days active (virtual_bounds least most now))
unfolding virtual_interval virtual_bounds
virtual_interval_lem w days least most now true d l m n = volume_interval days _ _ d (search (raised_bound, negated_bound, less_bound)) (search (raised_bound, negated_bound, less_bound))
virtual_interval_lem w days least most now false d l m n = sentinels_interval w

pub flow_interval : (days least most : Float) → IsBound least → IsBound most → IsInterval (interval_of days (Flow least most))
unfolding interval_of
flow_interval days least most bl bm = record { lower = bl; upper = bm }

-- ---- a virtual storage's interval is never crossed: both volumes are raised to 0.0, and the days are above it

sentinels_uncrossed : (w : Sentinel) → Uncrossed (sentinels w)
unfolding sentinels high low le neg of_bits
sentinels_uncrossed Infinity = tt
sentinels_uncrossed Largest = tt

pub virtual_uncrossed : (w : Sentinel) (days least most now : Float) (active : Bool) → Divisor days → FiniteFit least → FiniteFit most → FiniteFit now
    → Uncrossed (virtual_interval w days active (virtual_bounds least most now))
unfolding virtual_interval virtual_bounds interval_of greater zero64
virtual_uncrossed w days least most now true d l m n =
    raised_in_order binary64 (sub binary64 now least) (sub binary64 most now) days (less_bound now least n l) (less_bound most now m n) d.0 d.1
virtual_uncrossed w days least most now false d l m n = sentinels_uncrossed w

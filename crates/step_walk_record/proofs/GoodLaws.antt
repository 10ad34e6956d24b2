-- What a good answer tells of the tests that led to it. Assumes nothing.
use Rattle.std.specs.Prelude.{Option, Some, None}
use Prim.Native.Nat.{ℕ}
use mathlib.Core.Path.{◌≡◌, refl, sym, subst}
use mathlib.Core.Bool.{Bool, true, false, not, cond, ◌&&◌}
use native.Mathlib.Omega.{arith}
use lib.Dec.{T}
use lib.Ieee.{binary64, lt, neg, of_bits, nan_bits}
use Rattle.pywr.specs.declared.Interval.{Interval}
use Rattle.pywr.specs.declared.Sentinel.{Sentinel}
use Rattle.pywr.specs.declared.Sentinel.TheVariants.{Infinity, Largest}
use Rattle.pywr.specs.Numbers.{high, low, is_flow, is_small}
use Rattle.pywr.specs.Interval.{sentinels}
use Rattle.pywr.specs.StepIntervals.{is_crossed}
use Rattle.fields.proofs.Nan.{small_flow}
use Rattle.step_walk_record.specs.Fields.{are_flows, are_volumes, uncrossed}

pub never_good : {A : Type 0} (x : Interval) → None ≡ Some x → A
never_good x e = absurd (let z : ◌≡◌ {A = ℕ} 0 1 = cc in omega arith)

pub good_tested : (b : Bool) (w : Option Interval) (x : Interval) → cond b w None ≡ Some x → (b ≡ true) × (w ≡ Some x)
good_tested true w x e = (refl, e)
good_tested false w x e = never_good x e

pub good_same : (x y : Interval) → Some x ≡ Some y → x ≡ y
good_same x y e = cc

pub both : (a b : Bool) → (a && b) ≡ true → (a ≡ true) × (b ≡ true)
both true b e = (refl, e)
both false b e = absurd (let z : ◌≡◌ {A = ℕ} 0 1 = cc in omega arith)

good_uncrossed : (b : Bool) (x y : Interval) → cond b None (Some x) ≡ Some y → (b ≡ false) × (x ≡ y)
good_uncrossed true x y e = never_good y e
good_uncrossed false x y e = (refl, good_same x y e)

pub uncrossed_good : (x y : Interval) → uncrossed x ≡ Some y → (is_crossed x ≡ false) × (x ≡ y)
unfolding uncrossed
uncrossed_good x y e = good_uncrossed (is_crossed x) x y e

pub sentinels_uncrossed : (s : Sentinel) → is_crossed (sentinels s) ≡ false
unfolding is_crossed sentinels low high neg lt of_bits
sentinels_uncrossed Infinity = refl
sentinels_uncrossed Largest = refl

pub not-true : (b : Bool) → not b ≡ true → b ≡ false
not-true true e = absurd (let z : ◌≡◌ {A = ℕ} 0 1 = cc in omega arith)
not-true false e = refl

pub not-false : (b : Bool) → not b ≡ false → b ≡ true
not-false true e = refl
not-false false e = absurd (let z : ◌≡◌ {A = ℕ} 0 1 = cc in omega arith)

-- a pattern that is tested is an argument of `from_bits`
pub flow_bits : (bits : ℕ) → is_flow bits ≡ true → T (not (nan_bits binary64 bits))
unfolding is_flow
flow_bits bits e = subst T (sym e) tt

pub small_bits : (bits : ℕ) → is_small bits ≡ true → T (not (nan_bits binary64 bits))
small_bits bits e = flow_bits bits (small_flow bits e)

pub record FlowsFit (x y : ℕ) : Type 0 where
  pub lower : is_flow x ≡ true
  pub upper : is_flow y ≡ true

pub flows_fit : (lower upper : ℕ) → are_flows lower upper ≡ true → FlowsFit lower upper
unfolding are_flows
flows_fit lower upper e = let t = both (is_flow lower) (is_flow upper) e in record { lower = t.0; upper = t.1 }

pub record VolumesFit (x y z : ℕ) : Type 0 where
  pub min : is_small x ≡ true
  pub max : is_small y ≡ true
  pub volume : is_small z ≡ true

pub volumes_fit : (min max volume : ℕ) → are_volumes min max volume ≡ true → VolumesFit min max volume
unfolding are_volumes
volumes_fit min max volume e =
    let t = both (is_small min) (is_small max && is_small volume) e in
    let u = both (is_small max) (is_small volume) t.1 in
    record { min = t.0; max = u.0; volume = u.1 }

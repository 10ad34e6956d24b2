-- NaN by the bit pattern: without its sign it is over that of infinity. Assumes nothing.
use Rattle.std.proofs.Common.{◌≡◌, ℕ, ◌%◌, ◌<◌, ◌≤◌, Bool, true, false, leb, ◌&&◌, refl, ◌∙◌, arith, le-leb, le-ltb, lt-ltb, leb→le}
use lib.Dec.{nleb→lt}
use borrow.Author.Tests.{lt-leb}
use Rattle.laws.proofs.Tests.{by_cases}
use lib.Ieee.{binary64, nan_bits}
use lib.Ieee.Bits.{nan_bits_above}
use Rattle.pywr.specs.Numbers.{is_flow, is_small}

pub is_nan : (b : ℕ) → 9218868437227405312 < b % 9223372036854775808 → nan_bits binary64 b ≡ true
is_nan b h = nan_bits_above binary64 b ∙ lt-ltb _ _ h

pub no_nan : (b : ℕ) → b % 9223372036854775808 ≤ 9218868437227405312 → nan_bits binary64 b ≡ false
no_nan b h = nan_bits_above binary64 b ∙ le-ltb _ _ h

pub flow_pattern : (b : ℕ) → leb (b % 9223372036854775808) 9218868437227405312 ≡ is_flow b
unfolding is_flow
flow_pattern b =
    by_cases (leb (b % 9223372036854775808) 9218868437227405312)
    (λ t. let h : b % 9223372036854775808 ≤ 9218868437227405312 = leb→le _ _ t in rw (le-leb _ _ h, no_nan b h))
    (λ t. let h : 9218868437227405312 < b % 9223372036854775808 = nleb→lt _ _ t in rw (lt-leb _ _ h, is_nan b h))

and_first : (a b : Bool) → (a && b) ≡ true → a ≡ true
and_first true b e = refl
and_first false b e = absurd (let z : ◌≡◌ {A = ℕ} 0 1 = cc in omega arith)

-- a cost, volume or factor is no NaN
pub small_flow : (b : ℕ) → is_small b ≡ true → is_flow b ≡ true
unfolding is_small
small_flow b e = and_first (is_flow b) _ e

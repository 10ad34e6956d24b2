-- A cost, volume or factor by the bit pattern: without its sign it is at most that of 1e12. Assumes nothing.
use Rattle.std.proofs.Common.{◌≡◌, ℕ, ◌+◌, ◌*◌, ◌/◌, ◌%◌, ◌<◌, ◌≤◌, false, leb, sym, refl, ap, ◌∙◌, mod-lt, mod-eq_of_lt, arith, leb→le}
use native.Mathlib.Nat.{mod-add-div, add-mul-mod_self_left}
use lib.Dec.{nleb→lt}
use lib.Ieee.{binary64, of_bits, fits}
use borrow.Author.Tests.{lt-leb}
use Rattle.laws.proofs.Tests.{tests, same_test, by_cases}
use Rattle.doubles.specs.Units.{sign, Num}
use Rattle.doubles.proofs.Patterns.{pattern_order, within_mag}
use Rattle.pywr.specs.Numbers.{trillion, is_flow, is_small, of_pattern}
use Rattle.pywr.proofs.NumberLaws.{flow_bound}
use Rattle.fields.proofs.Nan.{is_nan, no_nan}

trillion_num : Num binary64 trillion
unfolding trillion of_bits fits
trillion_num = (tt, tt)

trillion_sign : sign trillion ≡ false
unfolding trillion of_bits
trillion_sign = refl

flow_num : (bits : ℕ) → bits % 9223372036854775808 ≤ 9218868437227405312 → Num binary64 (of_bits binary64 bits)
unfolding is_flow of_pattern
flow_num bits h = flow_bound bits (rw (no_nan bits h) tt)

pub small_pattern : (bits : ℕ) → leb (bits % 9223372036854775808) 4786511204640096256 ≡ is_small bits
unfolding is_small is_flow trillion
small_pattern bits =
    by_cases (leb (bits % 9223372036854775808) 9218868437227405312)
    (λ t.
    let h : bits % 9223372036854775808 ≤ 9218868437227405312 = leb→le _ _ t in
    rw (no_nan bits h)
    (sym
    (within_mag binary64 (of_bits binary64 bits) trillion (flow_num bits h) trillion_num trillion_sign
    ∙ pattern_order binary64 bits 4786511204640096256 h (omega arith))))
    (λ t.
    let h : 9218868437227405312 < bits % 9223372036854775808 = nleb→lt _ _ t in
    rw (lt-leb (bits % 9223372036854775808) 4786511204640096256 (omega arith), is_nan bits h))

-- twice a pattern has lost its sign
doubled : (bits : ℕ) → (bits + bits) % 18446744073709551616 ≡ bits % 9223372036854775808 + bits % 9223372036854775808
doubled bits =
    let r : ℕ = bits % 9223372036854775808 in
    let q : ℕ = bits / 9223372036854775808 in
    let e : bits + bits ≡ r + r + 18446744073709551616 * q = omega (arith, mod-add-div bits 9223372036854775808) in
    ap (λ (n : ℕ). n % 18446744073709551616) e ∙ add-mul-mod_self_left (r + r) 18446744073709551616 q
    ∙ mod-eq_of_lt (omega (arith, mod-lt bits {m = 9223372036854775808} (omega arith)))

pub doubled_pattern : (bits : ℕ) → leb ((bits + bits) % 18446744073709551616) 9573022409280192512 ≡ leb (bits % 9223372036854775808) 4786511204640096256
doubled_pattern bits = same_test _ _ ((λ t. omega (tests, doubled bits)), (λ t. omega (tests, doubled bits)))

-- Texts put one behind the other, decimal digits, and the bits of a double. Assumes nothing.
use mathlib.Core.Path.{◌≡◌, refl, sym, ◌∙◌, ap, subst}
use mathlib.Core.Bool.{Bool, true, false, not}
use mathlib.Core.List.{List, [], ◌∷◌, ◌++◌, append_assoc}
use Prim.Native.Nat.{ℕ, zero, suc, ◌+◌, ◌-◌, ◌*◌, ◌/◌, ◌%◌, ◌^◌, ◌<◌, ◌≤◌}
use native.Mathlib.Numerals.{add-one}
use native.Mathlib.Nat.{pow-suc, mod-eq_of_lt, le-div_iff_mul-le, div-lt_iff_lt-mul, one-le-pow}
use native.Mathlib.Omega.{arith}
use borrow.Author.Tests.{lt-ltb, le-ltb, eq-eqb}
use lib.Dec.{T, lit<}
use lib.ListN.{length, take, length-append}
use lib.Ieee as Ieee
use lib.Ieee.{Float, nan, inf, fin, binary64, to_bits}
use Rattle.io.specs.Digits.{hex_digit_ascii, last_digits, IsDigitCount}
use Rattle.text.specs.Text.{Put, DecimalPut, sixteen_digits}
use Rattle.listing_fields.specs.Fields.{PutWithin, decimal_within, decimal}

-- ---- one text behind another

pub put_then : {a b out out₁ out₂ : List ℕ} {at r₁ r₂ : ℕ} → Put a out at out₁ r₁ → Put b out₁ r₁ out₂ r₂ → Put (a ++ b) out at out₂ r₂
put_then {a} {b} {out} {out₁} {out₂} {at} {r₁} {r₂} p q =
    record {
      next = omega (arith, p.next, q.next, length-append a b);
      written = q.written ∙ ap (λ (l : List ℕ). l ++ b) p.written ∙ append_assoc (take at out) a b;
    }

-- ---- digits

length_digits : (b k n : ℕ) → length (last_digits b k n) ≡ k
length_digits b zero n = refl
length_digits b (suc k) n =
    length-append (last_digits b k (n / b)) (hex_digit_ascii (n % b) ∷ []) ∙ ap (λ (j : ℕ). j + 1) (length_digits b k (n / b)) ∙ add-one k

-- the fewest digits that hold a number, one by one
fewest_decimal : (k places n : ℕ) → places ≤ k → IsDigitCount 10 1 n places → last_digits 10 places n ≡ decimal_within k n
unfolding decimal_within
fewest_decimal k zero n h f = absurd (omega (arith, f.0))
fewest_decimal zero (suc p) n h f = absurd (omega arith)
fewest_decimal (suc k) (suc zero) n h f =
    let small : n < 10 = f.1 in
    rw (mod-eq_of_lt small, lt-ltb n 10 small)
fewest_decimal (suc k) (suc (suc p)) n h f =
    let e : suc (suc p) - 1 ≡ suc p = omega arith in
    let over : 10 ^ suc p ≤ n = subst (λ (j : ℕ). 10 ^ j ≤ n) e (f.2 (omega arith)) in
    let power = pow-suc 10 p in
    let least = one-le-pow p 10 (lit< tt) in
    let more : 10 ≤ n = omega arith in
    let under : n / 10 < 10 ^ suc p = (div-lt_iff_lt-mul {x = n} {y = 10 ^ suc p} (lit< {m = 0} {n = 10} tt)).1 (rw (pow-suc 10 (suc p)) at f.1) in
    let back : suc p - 1 ≡ p = omega arith in
    let above : 10 ^ p ≤ n / 10 = (le-div_iff_mul-le {x = 10 ^ p} {y = n} (lit< {m = 0} {n = 10} tt)).1 (omega arith) in
    rw (le-ltb n 10 more, fewest_decimal k (suc p) (n / 10) (omega arith) (omega arith, under, λ _. subst (λ (j : ℕ). 10 ^ j ≤ n / 10) (sym back) above))

pub put_decimal : {n at r : ℕ} {out out' : List ℕ} → DecimalPut n out at out' r → PutWithin 20 (decimal n) out at out' r
unfolding decimal
put_decimal {n} {at} {r} {out} {out'} d =
    record {
      put = subst (λ (t : List ℕ). Put t out at out' r) (fewest_decimal 20 d.places n d.few d.fewest) d.put;
      end = omega (arith, d.few, d.put.next, length_digits 10 d.places n);
    }

pub put_sixteen : (n m : ℕ) {at r : ℕ} {out out' : List ℕ} → n ≡ m → Put (sixteen_digits n) out at out' r → PutWithin 16 (sixteen_digits m) out at out' r
unfolding sixteen_digits
put_sixteen n m {at} {r} {out} {out'} e p =
    record { put = subst (λ (j : ℕ). Put (last_digits 16 16 j) out at out' r) e p; end = omega (arith, p.next, length_digits 16 16 n) }

-- ---- doubles

pub nan_pattern : (x : Float) → true ≡ Ieee.is_nan x → 0x7ff8000000000000 ≡ to_bits binary64 x
unfolding Ieee.is_nan to_bits
nan_pattern nan e = refl
nan_pattern (inf s) e = absurd (cc)
nan_pattern (fin s m k) e = absurd (cc)

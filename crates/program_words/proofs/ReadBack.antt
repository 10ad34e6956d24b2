-- A number under 1,000,000 in decimal digits, with zeros in front or without, is read as that number. Assumes nothing.
use Prim.Native.Nat.{ℕ, zero, suc, ◌+◌, ◌-◌, ◌*◌, ◌/◌, ◌%◌, ◌^◌, ◌<◌, ◌≤◌}
use mathlib.Core.Path.{◌≡◌, ◌∙◌, ap}
use mathlib.Core.Bool.{Bool, true, false, cond}
use mathlib.Core.List.{List, [], ◌∷◌, ◌++◌}
use native.Mathlib.Nat.{pow-suc, div-lt_iff_lt-mul}
use native.Mathlib.Omega.{arith}
use borrow.Author.Tests.{lt-ltb, le-ltb}
use lib.Dec.{lit<, ltb}
use lib.ListN.{length-append}
use Rattle.io.specs.Digits.{hex_digit_ascii, last_digits}
use Rattle.std.specs.Prelude.{Option, None, Some}
use Rattle.program_words.specs.Words.{number_from, number_in}
use Rattle.program_words.proofs.WordLaws.{begins}

is_value : Option ℕ → ℕ
is_value (Some n) = 1
is_value None = 0

value_of : Option ℕ → ℕ
value_of (Some n) = n
value_of None = 0

no_value : {X : Type 0} {w : ℕ} → None ≡ Some w → X
unfolding is_value
no_value e = let z = ap is_value e in absurd (omega arith)

-- a byte that was taken is taken too where another answer follows
taken : (w : ℕ) (under over large : Bool) (r r' answer : Option ℕ) → (r ≡ Some w → r' ≡ answer) → cond under None (cond over None (cond large None r)) ≡ Some w
    → cond under None (cond over None (cond large None r')) ≡ answer
taken w true over large r r' answer h e = no_value e
taken w false true large r r' answer h e = no_value e
taken w false false true r r' answer h e = no_value e
taken w false false false r r' answer h e = h e

-- a byte more behind a number
byte_more : (xs : List ℕ) (v w b : ℕ) → number_from v xs ≡ Some w → number_from v (xs ++ (b ∷ [])) ≡ number_from w (b ∷ [])
unfolding number_from value_of
byte_more [] v w b e = let same : v ≡ w = ap value_of e in ap (λ (n : ℕ). number_from n (b ∷ [])) same
byte_more (x ∷ xs) v w b e =
    taken w (ltb x 48) (ltb 57 x) (ltb 99999 v) (number_from (10 * v + (x - 48)) xs) (number_from (10 * v + (x - 48)) (xs ++ (b ∷ []))) (number_from w (b ∷ []))
    (byte_more xs (10 * v + (x - 48)) w b) e

digit_more : (w d : ℕ) → w ≤ 99999 → d < 10 → number_from w (hex_digit_ascii d ∷ []) ≡ Some (10 * w + d)
unfolding number_from
digit_more w d few h =
    let least : 48 ≤ 48 + d = omega arith in
    let most : 48 + d ≤ 57 = omega arith in
    let value : 10 * w + (48 + d - 48) ≡ 10 * w + d = omega arith in
    rw (lt-ltb d 10 h, le-ltb (48 + d) 48 least, le-ltb 57 (48 + d) most, le-ltb 99999 w few) (ap Some value)

from_digits : (k n : ℕ) → n < 10 ^ k → n < 1000000 → number_from 0 (last_digits 10 k n) ≡ Some n
unfolding number_from
from_digits zero n h few = let e : 0 ≡ n = omega arith in ap Some e
from_digits (suc k) n h few =
    let under : n / 10 < 10 ^ k = (div-lt_iff_lt-mul {x = n} {y = 10 ^ k} (lit< {m = 0} {n = 10} tt)).1 (rw (pow-suc 10 k) at h) in
    let first = from_digits k (n / 10) under (omega arith) in
    let sum : 10 * (n / 10) + n % 10 ≡ n = omega arith in
    byte_more (last_digits 10 k (n / 10)) 0 (n / 10) (hex_digit_ascii (n % 10)) first ∙ digit_more (n / 10) (n % 10) (omega arith) (omega arith) ∙ ap Some sum

pub read_back : (k n : ℕ) → n < 10 ^ suc k → n < 1000000 → number_in (last_digits 10 (suc k) n) ≡ Some n
read_back k n h few =
    let long = length-append (last_digits 10 k (n / 10)) (hex_digit_ascii (n % 10) ∷ []) in
    begins (last_digits 10 (suc k) n) (λ e. absurd (omega arith)) ∙ from_digits (suc k) n h few

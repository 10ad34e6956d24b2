-- The fields of a listing's lines, as bytes. Document 01, "The lister": "Doubles are 16 hexadecimal digits of their bits, the rest decimal." Assumes nothing.
use Rattle.std.specs.Prelude.{ℕ, zero, suc, ◌/◌, ◌%◌, ◌+◌, ◌≤◌, List, [], ◌∷◌, ◌++◌, cond, ltb, Float}
use Rattle.std.specs.Float.{binary64}
use Rattle.std.specs.Float.Ieee.{to_bits}
use Rattle.io.specs.Digits.{hex_digit_ascii}
use Rattle.text.specs.Text.{Put, sixteen_digits}

-- the digits of a number, at most so many, with no zero in front
unfoldable pub decimal_within : ℕ → ℕ → List ℕ
decimal_within zero n = []
decimal_within (suc k) n = cond (ltb n 10) (hex_digit_ascii n ∷ []) (decimal_within k (n / 10) ++ (hex_digit_ascii (n % 10) ∷ []))

-- a number of 64 bits has at most twenty
unfoldable pub decimal : ℕ → List ℕ
decimal n = decimal_within 20 n

-- a field: a blank, and a number, a double or a letter.
unfoldable pub number_field : ℕ → List ℕ
number_field n = 32 ∷ decimal n

unfoldable pub double_field : Float → List ℕ
double_field x = 32 ∷ sixteen_digits (to_bits binary64 x)

unfoldable pub letter_field : ℕ → List ℕ
letter_field letter = 32 ∷ letter ∷ []

unfoldable pub bounds_fields : Float → Float → List ℕ
bounds_fields lower upper = double_field lower ++ double_field upper

-- a line's letter and first number
unfoldable pub head_fields : ℕ → ℕ → List ℕ
head_fields letter n = letter ∷ number_field n

-- a text of at most `most` bytes was put
pub record PutWithin (most : ℕ) (text out : List ℕ) (at : ℕ) (out' : List ℕ) (r : ℕ) : Type 0 where
  pub put : Put text out at out' r
  pub end : r ≤ at + most

-- What a word asks for: help, an option, or a decimal number. Assumes nothing.
use Rattle.std.specs.Prelude.{ℕ, ◌+◌, ◌-◌, ◌*◌, ◌≡◌, ◌⊎◌, Bool, cond, ◌&&◌, List, [], ◌∷◌, length, get_or, leb, ltb, eqb, Option, None, Some}

-- "--help" or "-h"
abbrev pub AsksHelp : List ℕ → Type 0
AsksHelp word = (word ≡ 45 ∷ 45 ∷ 104 ∷ 101 ∷ 108 ∷ 112 ∷ []) ⊎ (word ≡ 45 ∷ 104 ∷ [])

-- two bytes or more, the first of them "-"
unfoldable pub is_option : List ℕ → Bool
is_option word = leb 2 (length word) && eqb (get_or word 0 0) 45

-- a decimal number has one digit or more and nothing else, and is at most 999,999: the number whose digits so far have this value, and whose other digits are these
unfoldable pub number_from : ℕ → List ℕ → Option ℕ
number_from value [] = Some value
number_from value (b ∷ rest) =
    cond (ltb b 48) None (cond (ltb 57 b) None (cond (ltb 99999 value) None (number_from (10 * value + (b - 48)) rest)))

unfoldable pub number_in : List ℕ → Option ℕ
number_in [] = None
number_in (b ∷ rest) = number_from 0 (b ∷ rest)

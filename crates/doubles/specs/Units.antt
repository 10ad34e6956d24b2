-- A double as a whole number of its format's smallest values: `rank`. An infinity counts as 2 ^ (low + emax + 1), which is above every finite value that
-- fits, so that the order of doubles is that of their ranks. Assumes nothing.
use Rattle.std.specs.Prelude.{ℕ, suc, ◌+◌, ◌-◌, ◌*◌, ◌^◌, Bool, true, false, not, ◌&&◌, ℤ, pos, negsuc, neg_ℤ, T, eqb, Float}
use Rattle.std.specs.Float.{nan, inf, fin, Format}
use Rattle.std.specs.Float.Ieee.{low, fits}
use Rattle.std.specs.Float.Ieee.Scale.{overflow}

abbrev pub sign : Float → Bool
sign nan = false
sign (inf s) = s
sign (fin s m e) = s

-- 2 ^ e is 2 ^ shift e units, for an e that fits
abbrev pub shift : Format → ℤ → ℕ
shift f (pos k) = k + low f
shift f (negsuc k) = low f - suc k

unfoldable pub mag : Format → Float → ℕ
mag f nan = 0
mag f (inf s) = overflow f
mag f (fin s m e) = m * 2 ^ shift f e

abbrev pub signed : Bool → ℕ → ℤ
signed false n = pos n
signed true n = neg_ℤ (pos n)

abbrev pub rank : Format → Float → ℤ
rank f x = signed (sign x) (mag f x)

abbrev pub number : Float → Bool
number nan = false
number (inf s) = true
number (fin s m e) = true

-- a value of the format that is no NaN
abbrev pub Num : Format → Float → Type 0
Num f x = T (fits f x) × T (number x)

-- 0.0, and what is not -0.0
abbrev pub zero+ : Float
zero+ = fin false 0 (pos 0)

abbrev pub not_minus_zero : Format → Float → Bool
not_minus_zero f x = not (sign x && eqb (mag f x) 0)

-- 1.0 and -1.0
abbrev pub one_of : Bool → Float
one_of t = fin t 1 (pos 0)

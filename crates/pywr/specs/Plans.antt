-- Plans, and when an exact amount meets a bound. Assumes nothing.
-- Every sum and comparison is one of whole numbers, of one of two units that are never mixed: an amount's, and that of a product of two amounts.
use Rattle.std.specs.Prelude.{ℕ, suc, ◌*◌, ◌/◌, ◌^◌, List, [], ◌∷◌, Bool, true, false, ◌&&◌, ◌||◌, ℤ, pos, neg_ℤ, ◌*ℤ◌, Float}
use Rattle.std.specs.Int.Signed.{le_z}
use Rattle.std.specs.Float.{nan, inf, fin}
use Rattle.std.specs.Float.Ieee.{up, down, le}
use Rattle.pywr.specs.declared.Sentinel.{Sentinel}
use Rattle.pywr.specs.declared.Interval.{Interval}
use Rattle.pywr.specs.Numbers.{high, low}

-- an amount of at least 0, in units of 2 ^ -1074, the smallest double: every finite double is a whole number of these
abbrev pub Amount : Type 0
Amount = ℕ

-- an amount that may be negative, in the same units
abbrev pub SignedAmount : Type 0
SignedAmount = ℤ

-- an amount times an amount, in units of 2 ^ -2148: in these every row's sum is compared with its bounds
abbrev pub Product : Type 0
Product = ℤ

abbrev pub product : SignedAmount → SignedAmount → Product
product a b = a *ℤ b

-- 1.0 as an amount, and 1/1024
unfoldable pub units_in_one : Amount
units_in_one = 2 ^ 1074

unfoldable pub units_in1024th : Amount
units_in1024th = 2 ^ 1064

-- an amount as a product: it times 1.0
unfoldable pub times_one : SignedAmount → Product
times_one amount = product amount (pos units_in_one)

-- "edge amounts are at least 0": a plan gives each edge an amount and each exclusive set on or off. An edge goes by its number, and a set by
-- itself: "sets equal as ordered lists are one set"
pub record Plan : Type 0 where
  pub amount : ℕ → Amount
  pub on : List ℕ → Bool

unfoldable pub signed : Bool → Amount → SignedAmount
signed true amount = neg_ℤ (pos amount)
signed false amount = pos amount

-- a finite double, m * 2 ^ e or its negation, as an amount. An infinity and NaN count 0, since some number must stand there: bounds are asked first
-- whether they are finite (`lower_met`, `upper_met`), and after an accepted build and any list of steps no element, factor or coefficient is infinite
-- (`finite_elements`; 3, 10 and 21; docs/DEMAND-3.md, "What both sides share")
unfoldable pub exact : Float → SignedAmount
exact nan = pos 0
exact (inf negative) = pos 0
exact (fin negative m e) = signed negative (m * up e * units_in_one / down e)

unfoldable pub is_finite : Float → Bool
is_finite nan = false
is_finite (inf negative) = false
is_finite (fin negative m e) = true

-- "A lower bound at or under the low sentinel, or an upper at or over the high, binds nothing; lower +infinity or upper −infinity is met by none."
unfoldable pub lower_met : Sentinel → Float → Product → Bool
lower_met s bound sum = le bound (low s) || (is_finite bound && le_z (times_one (exact bound)) sum)

unfoldable pub upper_met : Sentinel → Float → Product → Bool
upper_met s bound sum = le (high s) bound || (is_finite bound && le_z sum (times_one (exact bound)))

-- the sum is in the interval
unfoldable pub meets : Sentinel → Interval → Product → Bool
meets s interval sum = lower_met s interval.lower sum && upper_met s interval.upper sum

-- every record of a list passes the test, which is also given its number; the first has this one
unfoldable pub all_from : {A : Type 0} → (ℕ → A → Bool) → ℕ → List A → Bool
all_from test number [] = true
all_from test number (x ∷ xs) = test number x && all_from test (suc number) xs

-- The doubles that document 01 names, the lesser and the greater of two, and what a field of a file may hold. Assumes nothing.
use Rattle.std.specs.Prelude.{ℕ, Bool, false, cond, not, ◌&&◌, Float, pos}
use Rattle.std.specs.Float.{inf, fin, binary64}
use Rattle.std.specs.Float.Ieee.{round, neg, lt, le, of_bits, nan_bits}
use Rattle.pywr.specs.declared.Sentinel.{Sentinel}
use Rattle.pywr.specs.declared.Sentinel.TheVariants.{Infinity, Largest}

-- the double of a whole number, exact up to 2 ^ 53
unfoldable pub double : ℕ → Float
double n = round binary64 false n 1

unfoldable pub zero64 : Float
zero64 = fin false 0 (pos 0)

unfoldable pub one64 : Float
one64 = fin false 1 (pos 0)

unfoldable pub two64 : Float
two64 = fin false 1 (pos 1)

-- 1e6, and "1e-6 means its nearest double throughout"
unfoldable pub million : Float
million = double 1000000

unfoldable pub millionth : Float
millionth = round binary64 false 1 1000000

-- "Costs, volumes and factors: magnitude at most 1e12."
unfoldable pub trillion : Float
trillion = of_bits binary64 0x426d1a94a2000000

-- 1/1024 and 366, the ends of a step's days
unfoldable pub least_days : Float
least_days = round binary64 false 1 1024

unfoldable pub most_days : Float
most_days = double 366

-- "the caller picks infinity or the largest finite double as high sentinel ..; low is its negation"
unfoldable pub high : Sentinel → Float
high Infinity = inf false
high Largest = of_bits binary64 0x7fefffffffffffff

unfoldable pub low : Sentinel → Float
low s = neg (high s)

-- the lesser and the greater of two, the one already held where they are equal
unfoldable pub lesser : Float → Float → Float
lesser held x = cond (lt x held) x held

unfoldable pub greater : Float → Float → Float
greater held x = cond (lt held x) x held

-- a field's bit pattern: "Flow bounds: anything but NaN."
unfoldable pub is_flow : ℕ → Bool
is_flow bits = not (nan_bits binary64 bits)

-- a cost, volume or factor
unfoldable pub is_small : ℕ → Bool
is_small bits = is_flow bits && (le (neg trillion) (of_bits binary64 bits) && le (of_bits binary64 bits) trillion)

-- "days f64 in 1/1024..366"
unfoldable pub is_days : ℕ → Bool
is_days bits = is_flow bits && (le least_days (of_bits binary64 bits) && le (of_bits binary64 bits) most_days)

-- the double of a field's bit pattern
unfoldable pub of_pattern : ℕ → Float
of_pattern bits = of_bits binary64 bits

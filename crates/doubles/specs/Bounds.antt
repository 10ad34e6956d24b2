-- Bounds: the larger and the smaller of two, and what it is for an exact amount to meet a lower or an upper bound under a high sentinel. Assumes nothing.
use Rattle.std.specs.Prelude.{ℕ, Bool, ◌&&◌, ◌||◌, cond, ℤ, pos, ◌*ℤ◌, Float}
use Rattle.std.specs.Int.Signed.{le_z}
use Rattle.std.specs.Float.{Format}
use Rattle.std.specs.Float.Ieee.{neg, lt, le}
use Rattle.std.specs.Float.Ieee.Scale.{finite}
use Rattle.doubles.specs.Units.{rank, zero+}

-- the one already held where they are equal
abbrev pub larger : Float → Float → Float
larger held new = cond (lt held new) new held

abbrev pub smaller : Float → Float → Float
smaller held new = cond (lt new held) new held

-- The amount is a parts, of which p make a unit. A lower bound at or under the low sentinel, or an upper at or over the high, binds nothing;
-- no amount meets an infinite bound that binds
abbrev pub meets_lower : Format → ℕ → Float → ℤ → Float → Bool
meets_lower f p high a l = le l (neg high) || (finite l && le_z (pos p *ℤ rank f l) a)

abbrev pub meets_upper : Format → ℕ → Float → ℤ → Float → Bool
meets_upper f p high a u = le high u || (finite u && le_z a (pos p *ℤ rank f u))

-- raised to 0.0 at least
abbrev pub raised : Float → Float
raised d = larger d zero+

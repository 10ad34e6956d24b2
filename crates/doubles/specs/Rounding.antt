-- Rounding in units: `snap` is the magnitude of a rounded fraction, `Representable` says which numbers of units a format has, and a sum of two by signs and magnitudes.
-- Assumes nothing.
use Rattle.std.specs.Prelude.{◌≡◌, ℕ, ◌+◌, ◌-◌, ◌*◌, ◌^◌, ◌<◌, Bool, false, ◌&&◌, cond, T, ltb, Float}
use Rattle.std.specs.Bool.{beq}
use Rattle.std.specs.Float.{Format}
use Rattle.std.specs.Float.Ieee.{prec, round, fits}
use Rattle.std.specs.Float.Ieee.Scale.{finite, overflow}
use Rattle.doubles.specs.Units.{sign, mag}

-- a / c rounded, in units; an infinity's magnitude where it overflows
unfoldable pub snap : Format → ℕ → ℕ → ℕ
snap f a c = mag f (round f false a c)

-- w units are a value of the format: few digits, and below the infinities
pub record Representable (f : Format) (w : ℕ) : Type 0 where
  pub q : ℕ
  pub j : ℕ
  pub few : q < 2 ^ prec f
  pub is : w ≡ q * 2 ^ j
  pub under : w < overflow f

-- x is the finite value of w units with the sign s
pub record Rounds (f : Format) (s : Bool) (w : ℕ) (x : Float) : Type 0 where
  pub fit : T (fits f x)
  pub is_finite : T (finite x)
  pub sign_is : sign x ≡ s
  pub mag_given : mag f x ≡ w

-- the exact sum of ±a and ±b: its sign, and its magnitude. A sum that is 0 is -0 only where both are negative
abbrev pub add_sign : Bool → ℕ → Bool → ℕ → Bool
add_sign s a t b = cond (beq s t) s (cond (ltb a b) t (s && ltb b a))

abbrev pub add_mag : Bool → ℕ → Bool → ℕ → ℕ
add_mag s a t b = cond (beq s t) (a + b) (cond (ltb a b) (b - a) (a - b))

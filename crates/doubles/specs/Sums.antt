-- Values on a grid, and runs of them. `Grain f g x`: x is finite and a multiple of 2 ^ g units. With g = low f that is a whole number, with g = low f - 10
-- a multiple of 1 / 1024. Assumes nothing.
use Rattle.std.specs.Prelude.{◌≡◌, List, [], ◌∷◌, ℕ, suc, ◌+◌, ◌*◌, ◌^◌, ◌≤◌, ◌<◌, ℤ, pos, ◌+ℤ◌, T, Float}
use Rattle.std.specs.Float.{Format}
use Rattle.std.specs.Float.Ieee.{prec, emax, low, add, fits}
use Rattle.std.specs.Float.Ieee.Scale.{finite}
use Rattle.doubles.specs.Units.{mag, rank}

pub record Grain (f : Format) (g : ℕ) (x : Float) : Type 0 where
  pub fit : T (fits f x)
  pub is_finite : T (finite x)
  pub count : ℕ
  pub is : mag f x ≡ count * 2 ^ g

-- 2 ^ prec grains are no infinity
abbrev pub Room : Format → ℕ → Type 0
Room f g = prec f + g < low f + suc (emax f)

-- a grained value of rank z and at most n units
pub record Summed (f : Format) (g : ℕ) (z : ℤ) (n : ℕ) (x : Float) : Type 0 where
  pub grain : Grain f g x
  pub total : rank f x ≡ z
  pub within : mag f x ≤ n

abbrev pub Each : (Float → Type 0) → List Float → Type 0
Each P [] = Unit {0}
Each P (x ∷ xs) = P x × Each P xs

-- a run folded from the left
abbrev pub run : (Float → Float → Float) → Float → List Float → Float
run op acc [] = acc
run op acc (x ∷ xs) = run op (op acc x) xs

abbrev pub add_all : Format → Float → List Float → Float
add_all f acc xs = run (add f) acc xs

abbrev pub ranks : Format → List Float → ℤ
ranks f [] = pos 0
ranks f (x ∷ xs) = rank f x +ℤ ranks f xs

abbrev pub mags : Format → List Float → ℕ
mags f [] = 0
mags f (x ∷ xs) = mag f x + mags f xs

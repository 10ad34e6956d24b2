-- How far a rounded result lies from the exact one. Assumes nothing.
use Rattle.std.specs.Prelude.{ℕ, ◌+◌, ◌*◌, ◌^◌, ◌≤◌, ℤ, ◌+ℤ◌, T, Float}
use Rattle.std.specs.Float.{Format}
use Rattle.std.specs.Float.Ieee.Scale.{finite}
use Rattle.doubles.specs.Integers.{plus, less}
use Rattle.doubles.specs.Units.{mag, rank}

-- 2 |z - w| ≤ d
pub record Off (z w : ℤ) (d : ℕ) : Type 0 where
  pub over : 2 * (plus z + less w) ≤ 2 * (plus w + less z) + d
  pub under : 2 * (plus w + less z) ≤ 2 * (plus z + less w) + d

-- r is x + y rounded, where the doubles stand 2 ^ j units apart at most
pub record Added (f : Format) (j : ℕ) (x y r : Float) : Type 0 where
  pub off : Off (rank f r) (rank f x +ℤ rank f y) (2 ^ j)
  pub within : 2 * mag f r ≤ 2 * (mag f x + mag f y) + 2 ^ j
  pub is_finite : T (finite r)

-- x is finite and off z by at most d / 2 units
pub record Near (f : Format) (z : ℤ) (d : ℕ) (x : Float) : Type 0 where
  pub off : Off (rank f x) z d
  pub is_finite : T (finite x)

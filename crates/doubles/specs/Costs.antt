-- A node's part of an edge's cost, an edge's cost and a column's, with what each is off by. Assumes nothing.
use Rattle.std.specs.Prelude.{◌≡◌, List, [], ◌∷◌, ℕ, ◌+◌, ◌*◌, ◌^◌, ◌≤◌, false, ℤ, pos, ◌+ℤ◌, T, Float}
use Rattle.std.specs.Float.{fin, Format, binary64}
use Rattle.std.specs.Float.Ieee.{fits}
use Rattle.std.specs.Float.Ieee.Scale.{finite}
use Rattle.doubles.specs.Units.{sign, mag, rank}
use Rattle.doubles.specs.Errors.{Off}

-- 2.0
abbrev pub two : Float
two = fin false 1 (pos 1)

-- h is half of x, to within half a unit
pub record Halved (f : Format) (x h : Float) : Type 0 where
  pub is_finite : T (finite h)
  pub sign_is : sign h ≡ sign x
  pub over : 2 * mag f h ≤ mag f x + 1
  pub under : mag f x ≤ 2 * mag f h + 1

-- r in half units
abbrev pub twice : Float → ℤ
twice r = rank binary64 r +ℤ rank binary64 r

-- x is the part whose exact value is e half units
pub record Part (x : Float) (e : ℤ) : Type 0 where
  pub fit : T (fits binary64 x)
  pub is_finite : T (finite x)
  pub within : mag binary64 x ≤ 1000 * 2 ^ 1074
  pub off : Off (twice x) e 2

abbrev pub edge_off : ℕ
edge_off = 2 * 2 ^ 1032 + 4

pub record EdgeCost (r : Float) (e : ℤ) : Type 0 where
  pub fit : T (fits binary64 r)
  pub is_finite : T (finite r)
  pub within : mag binary64 r ≤ 2001 * 2 ^ 1074
  pub off : Off (twice r) e edge_off

-- the edges of a column: their exact costs together, and that each edge's cost is near its own
module _ {A : Type 0} (exact : A → ℤ) where
  abbrev pub total : List A → ℤ
  total [] = pos 0
  total (x ∷ xs) = exact x +ℤ total xs

module _ {A : Type 0} (cost : A → Float) (exact : A → ℤ) where
  abbrev pub All : List A → Type 0
  All [] = Unit {0}
  All (x ∷ xs) = EdgeCost (cost x) (exact x) × All xs

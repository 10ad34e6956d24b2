-- Doubles that are k / 1000 rounded once. Assumes nothing.
use Rattle.std.specs.Prelude.{◌≡◌, ℕ, ◌≤◌, Bool, false, pos, T, Float}
use Rattle.std.specs.Float.{fin, binary64}
use Rattle.std.specs.Float.Ieee.{round, eq}

abbrev pub thousandths : Bool → ℕ → Float
thousandths s k = round binary64 s k 1000

-- the largest k that is looked for: ten digits
abbrev pub most : ℕ
most = 9999999999

-- 1000.0 and 2 ^ 52
abbrev pub thousand : Float
thousand = fin false 125 (pos 3)

abbrev pub shifter : Float
shifter = fin false 1 (pos 52)

-- what a search answers: a k that gives x, the only one; or that there is none
pub record Thousandth (x : Float) (r : ℕ) : Type 0 where
  pub found : r ≤ most → T (eq (thousandths false r) x)
  pub only : (k : ℕ) → k ≤ most → T (eq (thousandths false k) x) → k ≡ r

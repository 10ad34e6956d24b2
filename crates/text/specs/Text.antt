-- Text put into a buffer at a place: what stands before the place stays, and the text stands behind it. Assumes nothing.
use Rattle.std.specs.Prelude.{◌≡◌, ℕ, ◌+◌, ◌≤◌, List, ◌++◌, length, take}
use Rattle.io.specs.Digits.{last_digits, IsDigitCount}

pub record Put (text out : List ℕ) (at : ℕ) (out' : List ℕ) (r : ℕ) : Type 0 where
  pub next : r ≡ at + length text
  pub written : take r out' ≡ take at out ++ text

-- a number in its fewest decimal digits, at most twenty
pub record DecimalPut (n : ℕ) (out : List ℕ) (at : ℕ) (out' : List ℕ) (r : ℕ) : Type 0 where
  pub places : ℕ
  pub few : places ≤ 20
  pub fewest : IsDigitCount 10 1 n places
  pub put : Put (last_digits 10 places n) out at out' r

unfoldable pub sixteen_digits : ℕ → List ℕ
sixteen_digits n = last_digits 16 16 n

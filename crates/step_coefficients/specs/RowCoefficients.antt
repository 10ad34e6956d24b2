-- What changing a coefficient promises. Assumes nothing.
use Rattle.std.specs.Prelude.{◌≡◌, ℕ, ◌+◌, ◌<◌, ◌≤◌, List, get_or, set, Float}
use Rattle.pywr.specs.Numbers.{zero64}

-- a run with one of its numbers changed
abbrev pub change_at : List Float → ℕ → (Float → Float) → List Float
change_at l place change = set l place (change (get_or l place zero64))

-- one element of a row is changed: the one on a column
pub record CoefficientChanged (columns row_starts : List ℕ) (row column : ℕ) (change : Float → Float) (elements elements' : List Float) : Type 0 where
  pub place : ℕ
  pub from : get_or row_starts row 0 ≤ place
  pub under : place < get_or row_starts (row + 1) 0
  pub on : get_or columns place 0 ≡ column
  pub stored : elements' ≡ change_at elements place change

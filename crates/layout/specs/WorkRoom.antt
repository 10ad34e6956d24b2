-- The room that a build needs in its two work runs. Assumes nothing.
use Rattle.std.specs.Prelude.{ℕ, ◌≤◌, List, length, Float}
use Rattle.layout.specs.Layout.{words_length, numbers_length}

pub record WorkRoom (words : List ℕ) (numbers : List Float) : Type 0 where
  pub words_room : words_length ≤ length words
  pub numbers_room : numbers_length ≤ length numbers

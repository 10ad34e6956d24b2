-- A part of a run. Assumes nothing.
use Rattle.std.specs.Prelude.{ℕ, List, take, drop}

-- the n elements from place `at` on
abbrev pub part : {A : Type 0} → ℕ → ℕ → List A → List A
part at n l = take n (drop at l)

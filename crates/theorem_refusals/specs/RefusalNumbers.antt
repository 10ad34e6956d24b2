-- The numbers with which each call refuses, as document 01 orders them. Assumes nothing.
use Rattle.std.specs.Prelude.{ℕ, Bool, ◌&&◌, ◌||◌, T, leb, eqb}
use Rattle.pywr.specs.Result.{value, Result, refused}

abbrev pub from_to : ℕ → ℕ → ℕ → Bool
from_to least most n = leb least n && leb n most

-- an edge's own: "where 5 stood, in the order 5, 19, 20" (document 02, L1)
abbrev pub of_edge : ℕ → Bool
of_edge n = eqb n 5 || from_to 19 20 n

-- "Order, build: 16; per record its mark (1, 2), 6, then fields left to right (1, then 3 or 4), then 5; 7; 8 by node; then by node 9, 10; 11."
-- the file's without an edge's own, and with them
abbrev pub of_others : ℕ → Bool
of_others n = from_to 1 4 n || from_to 6 10 n

abbrev pub of_network_file : ℕ → Bool
of_network_file n = of_others n || of_edge n

-- of a build with room, and of a build
abbrev pub of_programme : ℕ → Bool
of_programme n = of_network_file n || eqb n 11

abbrev pub of_build : ℕ → Bool
of_build n = of_programme n || eqb n 16

-- "Step: 16, 17, file left to right, 14": the file's are 12 and 13; 21 is "after 14 in the same pass" (document 02, L3)
abbrev pub of_step_file : ℕ → Bool
of_step_file = from_to 12 13

abbrev pub of_intervals : ℕ → Bool
of_intervals n = eqb n 14 || eqb n 21

-- of a step with room, and of a step
abbrev pub of_judged : ℕ → Bool
of_judged n = eqb n 17 || (of_step_file n || of_intervals n)

abbrev pub of_step : ℕ → Bool
of_step n = of_judged n || eqb n 16

-- "Reading a row: 16, 17, 18, each with an empty part."
abbrev pub of_row : ℕ → Bool
of_row = from_to 16 18

-- a result that has a value, or is refused with a number among these
pub data Among (numbers : ℕ → Bool) {A : Type 0} : Result A → Type 0 where
  passed : {x : A} → Among numbers (value x)
  told : {number place : ℕ} → T (numbers number) → Among numbers (refused number place)

-- What the calls answer: the types Answer and RowAnswer of src/. Assumes nothing.
use Rattle.std.specs.Prelude.{ℕ, Result}
use Rattle.pywr.specs.declared.Refusal.{Refusal}

-- a build's and a step's answer
abbrev pub Answer : Type 0
Answer = Result (Unit {0}) Refusal

-- the answer to reading a row: where its columns start and end
abbrev pub RowAnswer : Type 0
RowAnswer = Result (ℕ × ℕ) Refusal

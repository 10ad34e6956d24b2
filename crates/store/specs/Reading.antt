-- What reading a store promises: the lengths of its runs, and a row's part within the columns. Assumes nothing.
use Rattle.std.specs.Prelude.{◌≡◌, ℕ, ◌≤◌, List, length, Ok, Err}
use Rattle.pywr.specs.Answer.{RowAnswer}
use Rattle.pywr.specs.Store.{Store}
use Rattle.pywr.specs.Answers.{row_number_of, row_place_of}
use Rattle.pywr.specs.Calls.{row_answer, row_part, span_of}

-- the nine runs of s have these lengths
pub record Lengths (s : Store) (a b c d e f g h i : ℕ) : Type 0 where
  pub col_lower : length s.col_lower ≡ a
  pub col_upper : length s.col_upper ≡ b
  pub col_obj_coef : length s.col_obj_coef ≡ c
  pub row_lower : length s.row_lower ≡ d
  pub row_upper : length s.row_upper ≡ e
  pub elements : length s.elements ≡ f
  pub columns : length s.columns ≡ g
  pub row_starts : length s.row_starts ≡ h
  pub shape : length s.shape ≡ i

-- a part that is answered lies within a run of n
abbrev pub Inside : RowAnswer → ℕ → Type 0
Inside (Ok part) n = (part.0 ≤ part.1) × (part.1 ≤ n)
Inside (Err refusal) n = Unit {0}

-- what the answer for a row promises: the definition, and a part within the columns
pub record RowAnswered (s : Store) (row : ℕ) (r : RowAnswer) : Type 0 where
  pub answer : r ≡ span_of s row (row_answer s row)
  pub inside : Inside r (length s.columns)

-- what reading a row promises: its columns, and the answer's number and place
pub record RowRead (s : Store) (row : ℕ) (part : List ℕ) (n p : ℕ) : Type 0 where
  pub columns : part ≡ row_part s row
  pub number : n ≡ row_number_of (span_of s row (row_answer s row))
  pub place : p ≡ row_place_of (span_of s row (row_answer s row))

-- The store of a program, whose runs it holds as one value, and what its calls leave there. The work runs are zero before each call.
-- Assumes nothing.
use Rattle.std.specs.Prelude.{◌≡◌, ℕ, List, replicate, Float, Ok, Err}
use Rattle.layout.specs.Layout.{words_length, numbers_length, step_work_length}
use Rattle.pywr.specs.declared.Sentinel.{Sentinel}
use Rattle.pywr.specs.Answer.{Answer}
use Rattle.pywr.specs.Answers.{answer_of}
use Rattle.pywr.specs.Numbers.{zero64}
use Rattle.pywr.specs.Store.{Store, row_count}
use Rattle.pywr.specs.Calls.{build_answer, build_store, step_answer, step_store}
use Rattle.listing_lines.specs.Lines.{refusal_line}
use Rattle.listing.specs.Listing.{programme_text}
use Rattle.listing_makers.specs.Makers.{makers_text, maker_text}
use Rattle.program_store.specs.declared.Runs.{Runs}

abbrev pub store_of : Runs → Store
store_of r =
    record {
      col_lower = r.col_lower;
      col_upper = r.col_upper;
      col_obj_coef = r.col_obj_coef;
      row_lower = r.row_lower;
      row_upper = r.row_upper;
      elements = r.elements;
      columns = r.columns;
      row_starts = r.row_starts;
      shape = r.shape;
    }

abbrev pub words : List ℕ
words = replicate words_length 0

abbrev pub numbers : List Float
numbers = replicate numbers_length zero64

abbrev pub work : List Float
work = replicate step_work_length zero64

-- what a build answers and leaves in the store
pub record Built (s : Sentinel) (file : List ℕ) (old : Store) (r : Answer) (new : Store) : Type 0 where
  pub answer : r ≡ answer_of (build_answer s file old words numbers)
  pub store : new ≡ build_store s file old words numbers

-- what a step answers and leaves in the store
pub record Stepped (file : List ℕ) (old : Store) (r : Answer) (new : Store) : Type 0 where
  pub answer : r ≡ answer_of (step_answer old file work)
  pub store : new ≡ step_store old file work

-- what is listed after a call: the programme, or the line of the refusal
abbrev pub answer_text : Answer → Store → List ℕ
answer_text (Ok _) s = programme_text s
answer_text (Err r) s = refusal_line r.number r.place

-- what is said of the rows' makers after a call: of all rows, or the line of the refusal
abbrev pub makers_answer_text : Answer → Store → List ℕ
makers_answer_text (Ok _) s = makers_text s (row_count s)
makers_answer_text (Err r) s = refusal_line r.number r.place

-- and of one row
abbrev pub maker_answer_text : Answer → Store → ℕ → List ℕ
maker_answer_text (Ok _) s row = maker_text s row
maker_answer_text (Err r) s row = refusal_line r.number r.place

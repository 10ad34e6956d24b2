-- The answers of the public calls in document 01's terms: no refusal, or a refusal's number and place. Assumes nothing.
use Rattle.std.specs.Prelude.{ℕ, Ok, Err}
use Rattle.pywr.specs.declared.Reason.{Reason}
use Rattle.pywr.specs.declared.Refusal.{Refusal}
use Rattle.pywr.specs.Answer.{Answer, RowAnswer}
use Rattle.pywr.specs.Result.{Result, value, refused}

-- document 01's number of a reason
abbrev pub number_of_reason : Reason → ℕ
number_of_reason Reason.FileEnds = 1
number_of_reason Reason.WrongMark = 2
number_of_reason Reason.OutOfRange = 3
number_of_reason Reason.NoSuchNode = 4
number_of_reason Reason.WrongEnd = 5
number_of_reason Reason.TooManyRecords = 6
number_of_reason Reason.NoEdges = 7
number_of_reason Reason.UnconnectedLink = 8
number_of_reason Reason.CrossedConstant = 9
number_of_reason Reason.UnboundedConstant = 10
number_of_reason Reason.OverCeilings = 11
number_of_reason Reason.WrongStepFile = 12
number_of_reason Reason.StepOutOfRange = 13
number_of_reason Reason.CrossedBounds = 14
number_of_reason Reason.ShortBuffer = 16
number_of_reason Reason.MisshapenStore = 17
number_of_reason Reason.NoSuchRow = 18
number_of_reason Reason.EdgeToItself = 19
number_of_reason Reason.RepeatedEdge = 20
number_of_reason Reason.BoundAtSentinel = 21

abbrev pub refusal_at : Reason → ℕ → Refusal
refusal_at reason place = record { number = number_of_reason reason; place = place }

-- "A step is accepted if it answers no refusal.": the answer of a build or a step to its result
unfoldable pub answer_of : {A : Type 0} → Result A → Answer
answer_of (value x) = Ok tt
answer_of (refused number place) = Err (record { number = number; place = place })

-- "A refusal is its number and a place": 0 and 0 where there is none
unfoldable pub number_of : Answer → ℕ
number_of (Ok _) = 0
number_of (Err refusal) = refusal.number

unfoldable pub place_of : Answer → ℕ
place_of (Ok _) = 0
place_of (Err refusal) = refusal.place

-- the same of reading a row
unfoldable pub row_number_of : RowAnswer → ℕ
row_number_of (Ok _) = 0
row_number_of (Err refusal) = refusal.number

unfoldable pub row_place_of : RowAnswer → ℕ
row_place_of (Ok _) = 0
row_place_of (Err refusal) = refusal.place

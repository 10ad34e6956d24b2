-- The public calls as functions of their inputs: the answer, and what the store and the work area hold after. Assumes nothing.
use Rattle.std.specs.Prelude.{◌≡◌, ℕ, ◌+◌, List, [], Bool, true, false, cond, ◌&&◌, length, replicate, leb, ltb, Float, Ok, Err}
use Rattle.layout.specs.Layout.{words_length, numbers_length, step_work_length}
use Rattle.pywr.specs.declared.Sentinel.{Sentinel}
use Rattle.pywr.specs.Answer.{Answer, RowAnswer}
use Rattle.pywr.specs.Answers.{answer_of}
use Rattle.pywr.specs.Result.{value, Result, refused, ◌>>=◌, need}
use Rattle.pywr.specs.Numbers.{zero64}
use Rattle.pywr.specs.Programme.{Built}
use Rattle.pywr.specs.Build.{build}
use Rattle.pywr.specs.StepFile.{StepFile, read_step}
use Rattle.pywr.specs.StepIntervals.{intervals, Intervals, has_binary_row, ordered}
use Rattle.pywr.specs.Step.{periods, stepped}
use Rattle.pywr.specs.Store.{Store, store_has_room, row_count, shape_of, start_of, columns_of_row, programme_in}
use Rattle.pywr.specs.Misshapen.{well_shaped}
use Rattle.pywr.specs.Written.{built_store, stepped_store}

-- Demand 1: a work area is lent to the build and to the step. Each of its runs is all zero over its whole length after the call, and as it was where a buffer is short (then 16 is answered, and only then)
unfoldable pub cleared : {A : Type 0} → Bool → A → List A → List A
cleared room zero run = cond room (replicate (length run) zero) run

-- ---- build

-- The build's work area is a run of u16 and a run of f64: the elements' columns, the row starts and the shape run's words;
-- the lower and upper bounds of the rows, the elements, and as many more as a row may have for the row that is being gathered
abbrev pub words_needed : ℕ
words_needed = words_length

abbrev pub numbers_needed : ℕ
numbers_needed = numbers_length

-- no buffer is short
unfoldable pub build_room : Store → List ℕ → List Float → Bool
build_room old words numbers = store_has_room old && leb words_needed (length words) && leb numbers_needed (length numbers)

-- "Order, build: 16; .. 11"
unfoldable pub build_answer : Sentinel → List ℕ → Store → List ℕ → List Float → Result Built
build_answer s file old words numbers = do
  room ← need (build_room old words numbers) 16 0 old
  build s file

unfoldable pub store_of_build : Store → Result Built → Store
store_of_build old (value b) = built_store old b
store_of_build old (refused number place) = old

-- Demand 1: an accepted build writes the programme, and a refused one nothing
unfoldable pub build_store : Sentinel → List ℕ → Store → List ℕ → List Float → Store
build_store s file old words numbers = store_of_build old (build_answer s file old words numbers)

unfoldable pub build_words : Store → List ℕ → List Float → List ℕ
build_words old words numbers = cleared (build_room old words numbers) 0 words

unfoldable pub build_numbers : Store → List ℕ → List Float → List Float
build_numbers old words numbers = cleared (build_room old words numbers) zero64 numbers

-- what a build promises: its answer, the store and the work area after it
pub record AfterBuild (s : Sentinel) (file : List ℕ) (old : Store) (words : List ℕ) (numbers : List Float) (r : Answer) (new : Store) (words' : List ℕ) (numbers' : List Float) : Type 0 where
  pub answer : r ≡ answer_of (build_answer s file old words numbers)
  pub store : new ≡ build_store s file old words numbers
  pub words_left : words' ≡ build_words old words numbers
  pub numbers_left : numbers' ≡ build_numbers old words numbers

-- ---- step

-- the work area is lent as a run of f64: the lower and the upper of each interval of a node, an aggregate or a virtual storage
abbrev pub work_needed : ℕ
work_needed = step_work_length

unfoldable pub step_room : Store → List Float → Bool
step_room store work = store_has_room store && leb work_needed (length work)

-- the numbers of a file that is neither short nor wrong: 16, 17, then the file left to right
unfoldable pub step_read : Store → List ℕ → List Float → Result StepFile
step_read store file work = do
  room ← need (step_room store work) 16 0 store
  shaped ← need (well_shaped room) 17 0 (shape_of room)
  read_step shaped.nodes (length shaped.aggregates) (length shaped.virtual_storages) file

unfoldable pub step_intervals : Store → StepFile → Intervals
step_intervals store f = intervals (programme_in store).sentinel (periods (shape_of store)) f

-- 14 and 21, of the nodes as the store tells them
unfoldable pub step_ordered : Store → StepFile → Result Intervals
step_ordered store f = ordered (programme_in store).sentinel (has_binary_row (shape_of store).node_rows) (step_intervals store f)

-- "Step: 16, 17, file left to right, 14", and 21 with 14
unfoldable pub step_answer : Store → List ℕ → List Float → Result StepFile
step_answer store file work = do
  f ← step_read store file work
  _ ← step_ordered store f
  value f

unfoldable pub store_of_step : Store → Result StepFile → Store
store_of_step store (value f) = stepped_store store (stepped (shape_of store) f (programme_in store))
store_of_step store (refused number place) = store

-- "a refused step changes nothing"
unfoldable pub step_store : Store → List ℕ → List Float → Store
step_store store file work = store_of_step store (step_answer store file work)

unfoldable pub step_work : Store → List Float → List Float
step_work store work = cleared (step_room store work) zero64 work

-- what a step promises: its answer, the store and the work area after it
pub record AfterStep (file : List ℕ) (old : Store) (work : List Float) (r : Answer) (new : Store) (work' : List Float) : Type 0 where
  pub answer : r ≡ answer_of (step_answer old file work)
  pub store : new ≡ step_store old file work
  pub work_left : work' ≡ step_work old work

unfoldable pub is_accepted : {A : Type 0} → Result A → Bool
is_accepted (value x) = true
is_accepted (refused number place) = false

-- ---- reading a row: 16, 17, 18 "row not under the count, with an empty part"

unfoldable pub row_answer : Store → ℕ → Result (List ℕ)
row_answer store r = do
  room ← need (store_has_room store) 16 0 store
  shaped ← need (well_shaped room) 17 0 room
  need (ltb r (row_count shaped)) 18 r (columns_of_row shaped r)

unfoldable pub part_of : Result (List ℕ) → List ℕ
part_of (value part) = part
part_of (refused number place) = []

unfoldable pub row_part : Store → ℕ → List ℕ
row_part store r = part_of (row_answer store r)

-- where the part stands in the column list
unfoldable pub span_of : Store → ℕ → Result (List ℕ) → RowAnswer
span_of store r (value part) = Ok (start_of store r, start_of store (r + 1))
span_of store r (refused number place) = Err (record { number = number; place = place })

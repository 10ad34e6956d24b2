-- Virtual storages in their range and out of it, active and not: their intervals under a step that is accepted, of a store that a build left with either
-- sentinel and of one that no build leaves. Assumes nothing.
use mathlib.Core.Path.{◌≡◌, refl}
use Prim.Native.Nat.{ℕ, ◌+◌, ◌*◌}
use mathlib.Core.List.{List, [], ◌∷◌, ◌++◌}
use mathlib.Core.Bool.{true, false}
use lib.ListN.{replicate, set}
use lib.IntN.{pos}
use lib.Ieee.{fin, inf, neg}
use Rattle.layout.specs.Layout.{words_length, numbers_length, virtual_storages_at, virtual_storage_width}
use Rattle.pywr.specs.declared.Sentinel.{Sentinel}
use Rattle.pywr.specs.declared.Sentinel.TheVariants.{Infinity, Largest}
use Rattle.pywr.specs.declared.Interval.{Interval}
use Rattle.pywr.specs.Result.{value, Result, refused}
use Rattle.pywr.specs.Numbers.{double, zero64, one64, high, low}
use Rattle.pywr.specs.Network.{input, output}
use Rattle.pywr.specs.StepFile.{StepFile}
use Rattle.pywr.specs.Store.{Store}
use Rattle.pywr.specs.Calls.{build_store, step_read, step_intervals, step_answer, is_accepted}
use Rattle.pywr.specs.FileBytes.{varying, edge, virtual_storage, date, node_step, virtual_storage_step}
use Rattle.pywr.specs.Compute.{computing}
use Rattle.pywr.specs.Cases.{blank, work, whole, times, interval}

-- ---- the files

always : List ℕ
always = replicate 5 0

-- storages 0 to 3 are always active, 4 from 11-01 to 02-15
network : List ℕ
network =
    varying input
    ++ varying output
    ++ edge 0 1
    ++ virtual_storage always 0 one64
    ++ virtual_storage always 0 one64
    ++ virtual_storage always 0 one64
    ++ virtual_storage always 0 one64
    ++ virtual_storage (1 ∷ 11 ∷ 1 ∷ 2 ∷ 15 ∷ []) 0 one64

-- two days from 06-01. Ranges of 10 to 100 with 30, 130 and 4 held, one of 100 to 10 with 50, and 10 to 100 with 30
file : List ℕ
file =
    date 6 1 (double 2)
    ++ node_step zero64 zero64 (double 40) zero64
    ++ node_step zero64 zero64 (double 40) zero64
    ++ virtual_storage_step (double 10) (double 100) (double 30)
    ++ virtual_storage_step (double 10) (double 100) (double 130)
    ++ virtual_storage_step (double 10) (double 100) (double 4)
    ++ virtual_storage_step (double 100) (double 10) (double 50)
    ++ virtual_storage_step (double 10) (double 100) (double 30)

-- ---- the stores

built : Sentinel → Store
built s = build_store s network blank (replicate words_length 0) (replicate numbers_length zero64)

-- storage 1 has a period from 0-0 to 0-0, which 17 does not ask about
unbuilt : Store
unbuilt =
    let b : Store = built Infinity in
    record {
      col_lower = b.col_lower;
      col_upper = b.col_upper;
      col_obj_coef = b.col_obj_coef;
      row_lower = b.row_lower;
      row_upper = b.row_upper;
      elements = b.elements;
      columns = b.columns;
      row_starts = b.row_starts;
      shape = set b.shape (virtual_storages_at + virtual_storage_width * 1 + 1) 1;
    }

-- the virtual storages' intervals
of_read : Store → Result StepFile → List Interval
of_read store (value f) = (step_intervals store f).virtual_storages
of_read store (refused number place) = []

intervals_on : Store → List Interval
intervals_on store = of_read store (step_read store file work)

pub record UncrossedExample : Type 0 where
  accepted : is_accepted (step_answer (built Infinity) file work) ≡ true
  -- −20/2 to 70/2; −120/2 to 0; −0 to 96/2; −0 to 0; inactive
  infinite : intervals_on (built Infinity)
      ≡ interval (fin true 5 (pos 1)) (whole 35)
      ∷ interval (fin true 15 (pos 2)) zero64
      ∷ interval (neg zero64) (times 3 4)
      ∷ interval (neg zero64) zero64
      ∷ interval (inf true) (inf false)
      ∷ []
  largest : intervals_on (built Largest)
      ≡ interval (fin true 5 (pos 1)) (whole 35)
      ∷ interval (fin true 15 (pos 2)) zero64
      ∷ interval (neg zero64) (times 3 4)
      ∷ interval (neg zero64) zero64
      ∷ interval (low Largest) (high Largest)
      ∷ []
  unbuilt_accepted : is_accepted (step_answer unbuilt file work) ≡ true
  unbuilt_intervals : intervals_on unbuilt
      ≡ interval (fin true 5 (pos 1)) (whole 35)
      ∷ interval (inf true) (inf false)
      ∷ interval (neg zero64) (times 3 4)
      ∷ interval (neg zero64) zero64
      ∷ interval (inf true) (inf false)
      ∷ []

pub uncrossed_example : UncrossedExample
unfolding computing blank work interval always network file built unbuilt of_read intervals_on
uncrossed_example = record { accepted = refl; infinite = refl; largest = refl; unbuilt_accepted = refl; unbuilt_intervals = refl }

-- "A refusal leaves the stored programme byte-identical", and a work run keeps its length. Assumes nothing.
use mathlib.Core.Path.{◌≡◌, refl, ap}
use Prim.Native.Nat.{ℕ}
use mathlib.Core.Bool.{Bool, true, false}
use mathlib.Core.List.{List}
use lib.ListN.{length, length-replicate}
use lib.Ieee.{Float}
use Rattle.pywr.specs.declared.Sentinel.{Sentinel}
use Rattle.pywr.specs.Result.{refused}
use Rattle.pywr.specs.Store.{Store}
use Rattle.pywr.specs.Calls.{cleared, build_answer, store_of_build, build_store, step_answer, store_of_step, step_store}

pub build_refused : (s : Sentinel) (file : List ℕ) (old : Store) (words : List ℕ) (numbers : List Float) (n p : ℕ)
    → build_answer s file old words numbers ≡ refused n p → build_store s file old words numbers ≡ old
unfolding build_store store_of_build
build_refused s file old words numbers n p e = ap (store_of_build old) e

pub step_refused : (store : Store) (file : List ℕ) (work : List Float) (n p : ℕ) → step_answer store file work ≡ refused n p → step_store store file work ≡ store
unfolding step_store store_of_step
step_refused store file work n p e = ap (store_of_step store) e

-- a work run keeps its length
pub cleared_length : {A : Type 0} (room : Bool) (nil : A) (run : List A) → length (cleared room nil run) ≡ length run
unfolding cleared
cleared_length true nil run = length-replicate (length run) nil
cleared_length false nil run = refl

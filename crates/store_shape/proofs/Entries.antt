-- A loop that tests the entries of a table one after another and looks at all of them. Assumes nothing.
use mathlib.Core.Path.{◌≡◌, refl, sym, ◌∙◌}
use Prim.Native.Nat.{ℕ, suc, ◌+◌, ◌*◌, ◌-◌, ◌≤◌, ◌<◌}
use native.Mathlib.Nat.{add-zero, add_assoc, mul-zero, mul-add, mul-one, sub-zero, sub-eq-zero_of_le}
use native.Mathlib.Omega.{arith}
use mathlib.Core.Bool.{Bool, true, false, ◌&&◌, and-true}
use mathlib.Core.List.{List, []}
use Rattle.pywr.specs.Store.{Store}
use Rattle.pywr.specs.Misshapen.{all_entries}
pub use Rattle.pywr.proofs.EntryLaws.{entry_passes}

-- a store of which only the shape run is read
abbrev pub of_shape : List ℕ → Store
of_shape shape = record { col_lower = []; col_upper = []; col_obj_coef = []; row_lower = []; row_upper = []; elements = []; columns = []; row_starts = []; shape = shape }

module _ (test : ℕ → Bool) (words first count : ℕ) where
  -- i entries were tested, and `good` says whether all of them passed
  pub record Tested (good : Bool) (i : ℕ) : Type 0 where
    pub so_far : all_entries test words first count ≡ (good && all_entries test words (first + words * i) (count - i))

  pub tested_none : Tested true 0
  tested_none = record { so_far = rw (mul-zero, add-zero, sub-zero) }

module _ {test : ℕ → Bool} {words first count : ℕ} {good : Bool} {i : ℕ} (h : Tested test words first count good i) where
  pub tested_more : i < count → Tested test words first count (good && test (first + words * i)) (i + 1)
  unfolding all_entries
  tested_more lt = record { so_far = h.so_far ∙ next good }
    where
      next : (b : Bool) → (b && all_entries test words (first + words * i) (count - i)) ≡ (b && test (first + words * i) && all_entries test words (first + words * (i + 1)) (count - (i + 1)))
      next true =
          let e : count - i ≡ suc (count - (i + 1)) = omega arith in
          let place : first + words * i + words ≡ first + words * (i + 1) = rw (mul-add, mul-one, add_assoc) in
          rw (e, place)
      next false = refl

  pub tested_all : count ≤ i → good ≡ all_entries test words first count
  unfolding all_entries
  tested_all le = sym (h.so_far ∙ rw (sub-eq-zero_of_le le) (and-true good))

-- the same where a turn ends the loop at the first entry that fails
module _ {test : ℕ → Bool} {words first count i : ℕ} (h : Tested test words first count true i) (lt : i < count) where
  pub tested_pass : test (first + words * i) ≡ true → Tested test words first count true (i + 1)
  tested_pass e = rw e at (tested_more h lt)

  pub tested_fail : test (first + words * i) ≡ false → false ≡ all_entries test words first count
  tested_fail e = sym ((tested_more h lt).so_far ∙ rw e)

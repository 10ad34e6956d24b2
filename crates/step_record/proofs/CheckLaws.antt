-- What a check that passed tells. Assumes nothing.
use mathlib.Core.Path.{◌≡◌, refl}
use Prim.Native.Nat.{ℕ, ◌+◌, ◌≤◌}
use mathlib.Core.Bool.{Bool, true, false, cond}
use mathlib.Core.List.{List}
use native.Mathlib.Omega.{arith}
use lib.ListN.{length}
use lib.Ieee.{binary64, round, of_bits}
use borrow.Author.Tests.{leb-true}
use Rattle.std.specs.Prelude.{Ok, Err}
use Rattle.pywr.specs.declared.Refusal.{Refusal}
use Rattle.pywr.specs.Answer.{Answer}
use Rattle.pywr.specs.Bytes.{within}
use Rattle.pywr.specs.Numbers.{least_days, most_days, double}
use Rattle.pywr.specs.Programme.{NodeShape}
use Rattle.step_record.specs.declared.Range.{Range}
use Rattle.step_record.specs.declared.Range.TheVariants.{Flow, Small, Days}
use Rattle.step_record.specs.Check.{check_mark, check_field, check_byte, answer_then, check_date, check_node, check_aggregate, check_virtual_storage_step}

-- the ends of a step's days by their bits
pub least_days_lem : least_days ≡ of_bits binary64 0x3f50000000000000
unfolding least_days round of_bits
least_days_lem = refl

pub most_days_lem : most_days ≡ of_bits binary64 0x4076e00000000000
unfolding most_days double round of_bits
most_days_lem = refl

-- a test that refuses was passed
pub test_passed : (b : Bool) (r : Answer) (refusal : Refusal) → cond b r (Err refusal) ≡ Ok tt → (b ≡ true) × (r ≡ Ok tt)
test_passed true r refusal e = (refl, e)
test_passed false r refusal e = absurd (let z : ◌≡◌ {A = ℕ} 0 1 = cc in omega arith)

pub then_passed : (a b : Answer) → answer_then a b ≡ Ok tt → (a ≡ Ok tt) × (b ≡ Ok tt)
unfolding answer_then
then_passed (Ok _) b e = (refl, e)
then_passed (Err refusal) b e = absurd (let z : ◌≡◌ {A = ℕ} 0 1 = cc in omega arith)

pub byte_within : (file : List ℕ) (at most : ℕ) → check_byte file at most ≡ Ok tt → at + 1 ≤ length file
unfolding check_byte
byte_within file at most e = leb-true _ _ (test_passed (within file at 1) _ _ e).0

field_within : (file : List ℕ) (place at : ℕ) (range : Range) → check_field file place at range ≡ Ok tt → at + 8 ≤ length file
unfolding check_field
field_within file place at range e = leb-true _ _ (test_passed (within file at 8) _ _ e).0

-- a record that passed lies within the file
module _ (file : List ℕ) where
  pub date_within : check_date file ≡ Ok tt → 12 ≤ length file
  unfolding check_date
  date_within e =
      let a = then_passed (check_mark file 0 83 84) _ e in
      let b = then_passed (check_byte file 2 12) _ a.1 in
      let c = then_passed (check_byte file 3 _) _ b.1 in
      field_within file 0 4 Days c.1

  pub node_within : (n : NodeShape) (at : ℕ) → check_node file n at ≡ Ok tt → at + 34 ≤ length file
  unfolding check_node
  node_within n at e = let h = field_within file at (at + 26) _ (then_passed _ _ e).1 in omega arith

  pub aggregate_within : (at : ℕ) → check_aggregate file at ≡ Ok tt → at + 18 ≤ length file
  unfolding check_aggregate
  aggregate_within at e = let h = field_within file at (at + 10) Flow (then_passed _ _ e).1 in omega arith

  pub virtual_storage_within : (at : ℕ) → check_virtual_storage_step file at ≡ Ok tt → at + 26 ≤ length file
  unfolding check_virtual_storage_step
  virtual_storage_within at e = let h = field_within file at (at + 18) Small (then_passed _ _ e).1 in omega arith

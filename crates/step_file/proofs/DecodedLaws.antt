-- A step file that is accepted: its numbers stand at their places, and it is as long as its records. Assumes nothing.
use mathlib.Core.Path.{◌≡◌, sym, ap, ◌∙◌}
use Prim.Native.Nat.{ℕ, zero, suc, ◌+◌, ◌*◌, ◌≤◌}
use native.Mathlib.Omega.{arith}
use mathlib.Core.List.{List, [], ◌∷◌}
use lib.ListN.{length}
use lib.Dec.{leb}
use borrow.Author.Tests.{leb-true}
use Rattle.std.specs.Prelude.{Ok}
use Rattle.pywr.specs.Answer.{Answer}
use Rattle.pywr.specs.Answers.{answer_of}
use Rattle.pywr.specs.Result.{value}
use Rattle.pywr.specs.Programme.{NodeShape}
use Rattle.pywr.specs.StepFile.{read_step}
use Rattle.step_record.specs.Check.{check_date, check_node, check_aggregate, check_virtual_storage_step}
use Rattle.step_record.proofs.CheckLaws.{test_passed, then_passed, node_within, aggregate_within, virtual_storage_within, date_within}
use Rattle.step_file.specs.Decoded.{aggregate_steps_at, virtual_storage_steps_at, file_length, decoded}
use Rattle.step_file.specs.CheckStep.{check_nodes, check_records, check_end, check_file}
use Rattle.step_file.proofs.ReaderLaws.{as_result, answer_back, step_law}

-- ---- the records that passed lie within the file

nodes_within : (file : List ℕ) (ns : List NodeShape) (at : ℕ) → at ≤ length file → check_nodes file ns at ≡ Ok tt → at + 34 * length ns ≤ length file
unfolding check_nodes
nodes_within file [] at h e = omega arith
nodes_within file (n ∷ ns) at h e =
    let t = then_passed (check_node file n at) (check_nodes file ns (at + 34)) e in
    let q : at + 34 + 34 * length ns ≤ length file = nodes_within file ns (at + 34) (node_within file n at t.0) t.1 in
    let g : at + 34 * suc (length ns) ≤ length file = omega arith in g

records_within : (file : List ℕ) (check : ℕ → Answer) (size : ℕ) → ((at : ℕ) → check at ≡ Ok tt → at + size ≤ length file)
    → (count at : ℕ) → at ≤ length file → check_records check size count at ≡ Ok tt → at + size * count ≤ length file
unfolding check_records
records_within file check size one zero at h e = omega arith
records_within file check size one (suc count) at h e =
    let t = then_passed (check at) (check_records check size count (at + size)) e in
    let q : at + size + size * count ≤ length file = records_within file check size one count (at + size) (one at t.0) t.1 in
    let g : at + size * suc count ≤ length file = omega arith in g

checked_length : (shapes : List NodeShape) (aggregates virtual_storages : ℕ) (file : List ℕ) → check_file file shapes (length shapes) aggregates virtual_storages ≡ Ok tt
    → length file ≡ file_length (length shapes) aggregates virtual_storages
unfolding check_file check_end
checked_length shapes aggregates virtual_storages file e =
    let n : ℕ = length shapes in
    let a = then_passed (check_date file) _ e in
    let b = then_passed (check_nodes file shapes 12) _ a.1 in
    let c = then_passed (check_records (check_aggregate file) 18 aggregates (aggregate_steps_at n)) _ b.1 in
    let d = then_passed (check_records (check_virtual_storage_step file) 26 virtual_storages (virtual_storage_steps_at n aggregates)) _ c.1 in
    let most : length file ≤ file_length n aggregates virtual_storages = leb-true _ _ (test_passed (leb (length file) (file_length n aggregates virtual_storages)) _ _ d.1).0 in
    let nodes : aggregate_steps_at n ≤ length file = nodes_within file shapes 12 (date_within file a.0) b.0 in
    let groups : virtual_storage_steps_at n aggregates ≤ length file = records_within file (check_aggregate file) 18 (aggregate_within file) aggregates (aggregate_steps_at n) nodes c.0 in
    let stores : file_length n aggregates virtual_storages ≤ length file = records_within file (check_virtual_storage_step file) 26 (virtual_storage_within file)
    virtual_storages (virtual_storage_steps_at n aggregates) groups d.0 in
    omega arith

module _ (shapes : List NodeShape) (aggregates virtual_storages : ℕ) (file : List ℕ) (e : answer_of (read_step shapes aggregates virtual_storages file) ≡ Ok tt) where
  accepted_check : check_file file shapes (length shapes) aggregates virtual_storages ≡ Ok tt
  accepted_check = sym (ap answer_of (step_law shapes aggregates virtual_storages file) ∙ answer_back _ _) ∙ e

  pub accepted_decoded : read_step shapes aggregates virtual_storages file ≡ value (decoded shapes aggregates virtual_storages file)
  unfolding as_result
  accepted_decoded = step_law shapes aggregates virtual_storages file ∙ ap (as_result (decoded shapes aggregates virtual_storages file)) accepted_check

  pub accepted_length : length file ≡ file_length (length shapes) aggregates virtual_storages
  accepted_length = checked_length shapes aggregates virtual_storages file accepted_check

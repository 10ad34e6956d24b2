-- The reader of a step file is its check with the numbers read by their places. Assumes nothing.
use mathlib.Core.Path.{◌≡◌, refl, sym, ap₂, ◌∙◌}
use Prim.Native.Nat.{ℕ, zero, suc, ◌+◌, ◌*◌}
use native.Mathlib.Omega.{arith}
use mathlib.Core.Bool.{Bool, true, false, cond, not, ◌&&◌, ◌||◌}
use mathlib.Core.List.{List, [], ◌∷◌, ◌++◌, append-nil, append_assoc}
use lib.ListN.{length}
use lib.Dec.{leb}
use Rattle.std.specs.Prelude.{Ok, Err}
use Rattle.pywr.specs.Answer.{Answer}
use Rattle.pywr.specs.declared.Interval.{Interval}
use Rattle.pywr.specs.declared.NodeBounds.{NodeBounds}
use Rattle.pywr.specs.Answers.{answer_of}
use Rattle.pywr.specs.Result.{value, Result, refused, ◌>>=◌, need}
use Rattle.pywr.specs.Bytes.{byte, le64, u8, bits64, checked}
use Rattle.pywr.specs.Numbers.{is_flow, is_small}
use Rattle.pywr.specs.NetworkFile.{Read}
use Rattle.pywr.specs.Programme.{NodeShape}
use Rattle.pywr.specs.Store.{entries}
use Rattle.pywr.specs.StepFile.{NodeStep, StepFile, expect_mark, read_date, is_storage, bound_fits, volume_fits}
use Rattle.pywr.specs.StepFile.{read_node_step, read_node_steps, read_aggregate_step, read_aggregate_steps, read_virtual_storage_step, read_virtual_storage_steps, read_step}
use Rattle.step_record.specs.declared.Range.{Range}
use Rattle.step_record.specs.declared.Range.TheVariants.{Flow, Small, Days}
use Rattle.step_record.specs.Check.{in_range, bound_range, volume_range, check_mark, check_field, check_byte, answer_then, check_date, check_node, check_aggregate, check_virtual_storage_step}
use Rattle.step_file.specs.Decoded.{f64_at, node_step_at, node_steps_at, aggregate_step_at, virtual_storage_step_at, aggregate_steps_at, virtual_storage_steps_at, decoded}
use Rattle.step_file.specs.CheckStep.{check_nodes, check_records, check_end, check_file}

-- what is read where the check passes
unfoldable pub as_result : {A : Type 0} → A → Answer → Result A
as_result x (Ok _) = value x
as_result x (Err refusal) = refused refusal.number refusal.place

pub answer_back : {A : Type 0} (x : A) (a : Answer) → answer_of (as_result x a) ≡ a
unfolding answer_of as_result
answer_back x (Ok _) = refl
answer_back x (Err refusal) = refl

then_then : (a b c : Answer) → answer_then (answer_then a b) c ≡ answer_then a (answer_then b c)
unfolding answer_then
then_then (Ok _) b c = refl
then_then (Err refusal) b c = refl

-- a read and what follows it
module _ {A B : Type 0} (m : Result A) (k : A → Result B) (x : A) (y : B) where
  then_law : (a b : Answer) → m ≡ as_result x a → k x ≡ as_result y b → (m >>= k) ≡ as_result y (answer_then a b)
  unfolding ◌>>=◌ answer_then as_result
  then_law (Ok _) b e f = rw e f
  then_law (Err refusal) b e f = rw e

  last_law : (a : Answer) → m ≡ as_result x a → k x ≡ value y → (m >>= k) ≡ as_result y a
  unfolding ◌>>=◌ as_result
  last_law (Ok _) e f = rw e f
  last_law (Err refusal) e f = rw e

need_law : {A : Type 0} (ok : Bool) (number place : ℕ) (x : A) → need ok number place x ≡ as_result x (cond ok (Ok tt) (Err (record { number = number; place = place })))
unfolding need as_result
need_law true number place x = refl
need_law false number place x = refl

checked_law : (b t : Bool) (ok : ℕ → Bool) (x number place short : ℕ) → ok x ≡ t
    → checked number place ok (need b short place x) ≡ as_result x (cond b (cond t (Ok tt) (Err (record { number = number; place = place }))) (Err (record { number = short; place = place })))
unfolding checked need ◌>>=◌ as_result
checked_law true true ok x number place short e = rw e
checked_law true false ok x number place short e = rw e
checked_law false t ok x number place short e = refl

-- ---- marks and fields

module _ (file : List ℕ) where
  mark_law : (at a b : ℕ) → expect_mark file at a b ≡ as_result at (check_mark file at a b)
  unfolding expect_mark check_mark
  mark_law at a b = need_law _ 12 at at

  byte_law : (at most : ℕ) → checked 13 0 (λ x. leb 1 x && leb x most) (u8 file 0 12 at) ≡ as_result (byte file at) (check_byte file at most)
  unfolding u8 check_byte
  byte_law at most = checked_law _ _ (λ x. leb 1 x && leb x most) (byte file at) 13 0 12 refl

  field_law : (place at : ℕ) (range : Range) (ok : ℕ → Bool) → ok (le64 file at) ≡ in_range range (le64 file at)
      → checked 13 place ok (bits64 file place 12 at) ≡ as_result (le64 file at) (check_field file place at range)
  unfolding bits64 check_field
  field_law place at range ok e = checked_law _ _ ok (le64 file at) 13 place 12 e

  small_law : (place at : ℕ) → checked 13 place is_small (bits64 file place 12 at) ≡ as_result (le64 file at) (check_field file place at Small)
  unfolding in_range
  small_law place at = field_law place at Small is_small refl

  flow_law : (place at : ℕ) → checked 13 place is_flow (bits64 file place 12 at) ≡ as_result (le64 file at) (check_field file place at Flow)
  unfolding in_range
  flow_law place at = field_law place at Flow is_flow refl

bound_range_lem : (constant stores : Bool) (bits : ℕ) → (constant || cond stores (is_small bits) (is_flow bits)) ≡ in_range (bound_range constant stores) bits
unfolding in_range bound_range
bound_range_lem true stores bits = refl
bound_range_lem false true bits = refl
bound_range_lem false false bits = refl

volume_range_lem : (stores : Bool) (bits : ℕ) → (not stores || is_small bits) ≡ in_range (volume_range stores) bits
unfolding in_range volume_range
volume_range_lem true bits = refl
volume_range_lem false bits = refl

-- ---- records

module _ (file : List ℕ) where
  abbrev date_read : Read StepFile
  date_read = record { item = record { month = byte file 2; day = byte file 3; days = f64_at file 4; nodes = []; aggregates = []; virtual_storages = [] }; next = 12 }

  date_law : read_date file ≡ as_result date_read (check_date file)
  unfolding read_date check_date in_range
  date_law =
      then_law _ _ 0 date_read _ _ (mark_law file 0 83 84)
      (then_law _ _ (byte file 2) date_read _ _ (byte_law file 2 12)
      (then_law _ _ (byte file 3) date_read _ _ (byte_law file 3 _) (last_law _ _ (le64 file 4) date_read _ (field_law file 0 4 Days _ refl) refl)))

  node_law : (n : NodeShape) (at : ℕ) → read_node_step file n at ≡ as_result (node_step_at file n at) (check_node file n at)
  unfolding read_node_step check_node node_step_at bound_fits volume_fits
  node_law n at =
      let x : NodeStep = node_step_at file n at in
      simp then_then
      (then_law _ _ at x _ _ (mark_law file at 78 66)
      (then_law _ _ (le64 file (at + 2)) x _ _ (small_law file at (at + 2))
      (then_law _ _ (le64 file (at + 10)) x _ _ (field_law file at (at + 10) _ _ (bound_range_lem n.constant (is_storage n) _))
      (then_law _ _ (le64 file (at + 18)) x _ _ (field_law file at (at + 18) _ _ (bound_range_lem n.constant (is_storage n) _))
      (last_law _ _ (le64 file (at + 26)) x _ (field_law file at (at + 26) _ _ (volume_range_lem (is_storage n) _)) refl)))))

  aggregate_law : (at : ℕ) → read_aggregate_step file at ≡ as_result (aggregate_step_at file at) (check_aggregate file at)
  unfolding read_aggregate_step check_aggregate aggregate_step_at
  aggregate_law at =
      let x : Interval = aggregate_step_at file at in
      simp then_then
      (then_law _ _ at x _ _ (mark_law file at 71 66)
      (then_law _ _ (le64 file (at + 2)) x _ _ (flow_law file at (at + 2)) (last_law _ _ (le64 file (at + 10)) x _ (flow_law file at (at + 10)) refl)))

  virtual_storage_law : (at : ℕ) → read_virtual_storage_step file at ≡ as_result (virtual_storage_step_at file at) (check_virtual_storage_step file at)
  unfolding read_virtual_storage_step check_virtual_storage_step virtual_storage_step_at
  virtual_storage_law at =
      let x : NodeBounds = virtual_storage_step_at file at in
      simp then_then
      (then_law _ _ at x _ _ (mark_law file at 86 66)
      (then_law _ _ (le64 file (at + 2)) x _ _ (small_law file at (at + 2))
      (then_law _ _ (le64 file (at + 10)) x _ _ (small_law file at (at + 10)) (last_law _ _ (le64 file (at + 18)) x _ (small_law file at (at + 18)) refl))))

-- ---- the three loops

abbrev read_up_to : {A : Type 0} → List A → ℕ → Read (List A)
read_up_to items at = record { item = items; next = at }

none_law : {A : Type 0} (size : ℕ) (so_far : List A) (at : ℕ) → value (read_up_to so_far at) ≡ as_result (read_up_to (so_far ++ []) (at + size * 0)) (Ok tt)
unfolding as_result
none_law {A} size so_far at =
    let q : at ≡ at + size * 0 = omega arith in
    ap₂ (λ (l : List A) (k : ℕ). value (read_up_to l k)) (sym (append-nil so_far)) q

nodes_law : (file : List ℕ) (ns : List NodeShape) (so_far : List NodeStep) (at : ℕ)
    → read_node_steps file ns so_far at ≡ as_result (read_up_to (so_far ++ node_steps_at file ns at) (at + 34 * length ns)) (check_nodes file ns at)
unfolding read_node_steps check_nodes node_steps_at
nodes_law file [] so_far at = none_law 34 so_far at
nodes_law file (n ∷ ns) so_far at =
    let x : NodeStep = node_step_at file n at in
    let rest : List NodeStep = node_steps_at file ns (at + 34) in
    let q : at + 34 + 34 * length ns ≡ at + 34 * suc (length ns) = omega arith in
    then_law _ _ x _ _ _ (node_law file n at)
    (nodes_law file ns (so_far ++ (x ∷ [])) (at + 34)
    ∙ ap₂ (λ (l : List NodeStep) (k : ℕ). as_result (read_up_to l k) (check_nodes file ns (at + 34))) (append_assoc so_far (x ∷ []) rest) q)

-- records of one size, by a reader that goes from record to record
module _ {A : Type 0} (read : ℕ → Result A) (entry : ℕ → A) (check : ℕ → Answer) (size : ℕ) (reads : ℕ → List A → ℕ → Result (Read (List A)))
    (none : (so_far : List A) (at : ℕ) → reads zero so_far at ≡ value (read_up_to so_far at))
    (more : (count : ℕ) (so_far : List A) (at : ℕ) → reads (suc count) so_far at ≡ (read at >>= λ step. reads count (so_far ++ (step ∷ [])) (at + size)))
    (one : (at : ℕ) → read at ≡ as_result (entry at) (check at)) where
  records_law : (count : ℕ) (so_far : List A) (at : ℕ) → reads count so_far at ≡ as_result (read_up_to (so_far ++ entries entry size at count) (at + size * count)) (check_records check size count at)
  unfolding check_records entries
  records_law zero so_far at = none so_far at ∙ none_law size so_far at
  records_law (suc count) so_far at =
      let rest : List A = entries entry size (at + size) count in
      let q : at + size + size * count ≡ at + size * suc count = omega arith in
      more count so_far at
      ∙ then_law _ _ (entry at) _ _ _ (one at)
      (records_law count (so_far ++ (entry at ∷ [])) (at + size)
      ∙ ap₂ (λ (l : List A) (k : ℕ). as_result (read_up_to l k) (check_records check size count (at + size))) (append_assoc so_far (entry at ∷ []) rest) q)

module _ (file : List ℕ) where
  aggregates_law : (count at : ℕ) → read_aggregate_steps file count [] at ≡ as_result (read_up_to (entries (aggregate_step_at file) 18 at count) (at + 18 * count))
      (check_records (check_aggregate file) 18 count at)
  unfolding read_aggregate_steps
  aggregates_law count at = records_law (read_aggregate_step file) (aggregate_step_at file) (check_aggregate file) 18 (read_aggregate_steps file) (λ so_far at. refl)
      (λ count so_far at. refl) (aggregate_law file) count [] at

  virtual_storages_law : (count at : ℕ) → read_virtual_storage_steps file count [] at ≡ as_result
      (read_up_to (entries (virtual_storage_step_at file) 26 at count) (at + 26 * count)) (check_records (check_virtual_storage_step file) 26 count at)
  unfolding read_virtual_storage_steps
  virtual_storages_law count at = records_law (read_virtual_storage_step file) (virtual_storage_step_at file) (check_virtual_storage_step file) 26
      (read_virtual_storage_steps file) (λ so_far at. refl) (λ count so_far at. refl) (virtual_storage_law file) count [] at

-- ---- the whole file

pub step_law : (shapes : List NodeShape) (aggregates virtual_storages : ℕ) (file : List ℕ)
    → read_step shapes aggregates virtual_storages file ≡ as_result (decoded shapes aggregates virtual_storages file) (check_file file shapes (length shapes) aggregates virtual_storages)
unfolding read_step check_file check_end decoded
step_law shapes aggregates virtual_storages file =
    let x : StepFile = decoded shapes aggregates virtual_storages file in
    then_law _ _ (date_read file) x _ _ (date_law file)
    (then_law _ _ (read_up_to (node_steps_at file shapes 12) (aggregate_steps_at (length shapes))) x _ _ (nodes_law file shapes [] 12)
    (then_law _ _ _ x _ _ (aggregates_law file aggregates (aggregate_steps_at (length shapes)))
    (then_law _ _ _ x _ _ (virtual_storages_law file virtual_storages (virtual_storage_steps_at (length shapes) aggregates)) (need_law _ 12 _ x))))

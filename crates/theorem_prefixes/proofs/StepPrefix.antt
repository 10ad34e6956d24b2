-- The first 10,701 bytes of a step file decide the step's answer on any store, and a file that is accepted has at most 10,700. Assumes nothing.
use mathlib.Core.Path.{◌≡◌, refl, ap, subst}
use Prim.Native.Nat.{ℕ, zero, suc, ◌+◌, ◌*◌, ◌<◌, ◌≤◌}
use native.Mathlib.Omega.{arith}
use mathlib.Core.Bool.{true}
use mathlib.Core.List.{List, [], ◌∷◌, ◌++◌}
use lib.ListN.{length}
use lib.Ieee.{Float}
use borrow.Author.Tests.{lt-leb}
use Rattle.laws.proofs.Tests.{to_true}
use Rattle.pywr.specs.declared.Interval.{Interval}
use Rattle.pywr.specs.declared.NodeBounds.{NodeBounds}
use Rattle.pywr.specs.Answers.{answer_of}
use Rattle.pywr.specs.Result.{value, Result, refused, need}
use Rattle.pywr.specs.Bytes.{bits64}
use Rattle.pywr.specs.NetworkFile.{Read}
use Rattle.pywr.specs.Programme.{NodeShape, Shape}
use Rattle.pywr.specs.StepFile.{NodeStep, StepFile, expect_mark, read_date, read_node_step, read_node_steps, read_aggregate_step, read_aggregate_steps, read_virtual_storage_step, read_virtual_storage_steps, read_step}
use Rattle.pywr.specs.Store.{Store, word, node_entry, virtual_storage_entry, node_count, aggregate_count, virtual_storage_count, nodes_at, aggregates_at, virtual_storages_at, shape_of}
use Rattle.pywr.specs.Misshapen.{well_shaped}
use Rattle.pywr.specs.Calls.{step_read, step_answer, step_store, is_accepted}
use Rattle.pywr.proofs.RunLaws.{bind_then, need_value}
use Rattle.pywr.proofs.ReadLaws.{need_test}
use Rattle.store_shape.proofs.EntryLaws.{entries_length}
use Rattle.store.proofs.Passed.{shaped}
use Rattle.step_file.specs.Decoded.{file_length}
use Rattle.step_file.proofs.DecodedLaws.{accepted_length}
use Rattle.theorem_prefixes.specs.Prefix.{longest_step, step_prefix, StepAnswerByPrefix, StepStoreByPrefix, AfterStepByPrefix, AcceptedStepLength}
use Rattle.theorem_prefixes.proofs.SameBytes.{bind_both, ends, Same, by_prefix, within_same, mark_same, u8_same, bits64_same}

-- ---- where the records end

module _ (file : List ℕ) where
  mark_place : (place a b at : ℕ) → expect_mark file place a b ≡ value at → place ≡ at
  unfolding expect_mark
  mark_place place a b at e = need_value _ 12 place place at e

  date_end : (r : Read StepFile) → read_date file ≡ value r → r.next ≡ 12
  unfolding read_date
  date_end r e =
      bind_then _ _ r e (λ at at_is e. bind_then _ _ r e (λ month _ e. bind_then _ _ r e (λ day _ e. bind_then _ _ r e (λ days _ e.
      let p = mark_place 0 83 84 at at_is in
      let k = ends _ r e in
      omega arith))))

  nodes_end : (ns : List NodeShape) (so_far : List NodeStep) (at : ℕ) (r : Read (List NodeStep)) → read_node_steps file ns so_far at ≡ value r → r.next ≡ at + 34 * length ns
  unfolding read_node_steps
  nodes_end [] so_far at r e = let k = ends _ r e in omega arith
  nodes_end (n ∷ ns) so_far at r e = bind_then _ _ r e (λ x _ e. let k = nodes_end ns (so_far ++ (x ∷ [])) (at + 34) r e in omega arith)

  aggregates_end : (count : ℕ) (so_far : List Interval) (at : ℕ) (r : Read (List Interval)) → read_aggregate_steps file count so_far at ≡ value r → r.next ≡ at + 18 * count
  unfolding read_aggregate_steps
  aggregates_end zero so_far at r e = let k = ends _ r e in omega arith
  aggregates_end (suc count) so_far at r e = bind_then _ _ r e (λ x _ e. let k = aggregates_end count (so_far ++ (x ∷ [])) (at + 18) r e in omega arith)

  virtual_storages_end : (count : ℕ) (so_far : List NodeBounds) (at : ℕ) (r : Read (List NodeBounds)) → read_virtual_storage_steps file count so_far at ≡ value r → r.next ≡ at + 26 * count
  unfolding read_virtual_storage_steps
  virtual_storages_end zero so_far at r e = let k = ends _ r e in omega arith
  virtual_storages_end (suc count) so_far at r e = bind_then _ _ r e (λ x _ e. let k = virtual_storages_end count (so_far ++ (x ∷ [])) (at + 26) r e in omega arith)

-- ---- two files with the same first bytes

module _ (n : ℕ) (f g : List ℕ) (h : Same n f g) where
  expect_same : (at a b : ℕ) → at + 2 ≤ n → expect_mark f at a b ≡ expect_mark g at a b
  unfolding expect_mark
  expect_same at a b le = rw (within_same h at 2 le, mark_same h at a b le)

  bits_same : (at k : ℕ) → at + k + 8 ≤ n → bits64 f at 12 (at + k) ≡ bits64 g at 12 (at + k)
  bits_same at k le = bits64_same h at 12 (at + k) le

  date_same : 12 ≤ n → read_date f ≡ read_date g
  unfolding read_date
  date_same le =
      bind_both (expect_same 0 83 84 (omega arith)) (λ at at_is.
      let p = mark_place f 0 83 84 at at_is in
      rw (u8_same h at 12 (at + 2) (omega arith), u8_same h at 12 (at + 3) (omega arith), bits_same at 4 (omega arith)))

  node_same : (x : NodeShape) (place : ℕ) → place + 34 ≤ n → read_node_step f x place ≡ read_node_step g x place
  unfolding read_node_step
  node_same x place le =
      bind_both (expect_same place 78 66 (omega arith)) (λ at at_is.
      let p = mark_place f place 78 66 at at_is in
      rw (bits_same at 2 (omega arith), bits_same at 10 (omega arith), bits_same at 18 (omega arith), bits_same at 26 (omega arith)))

  nodes_same : (ns : List NodeShape) (so_far : List NodeStep) (at : ℕ) → at + 34 * length ns ≤ n → read_node_steps f ns so_far at ≡ read_node_steps g ns so_far at
  unfolding read_node_steps
  nodes_same [] so_far at le = refl
  nodes_same (x ∷ ns) so_far at le = bind_both (node_same x at (omega arith)) (λ s _. nodes_same ns (so_far ++ (s ∷ [])) (at + 34) (omega arith))

  aggregate_same : (place : ℕ) → place + 18 ≤ n → read_aggregate_step f place ≡ read_aggregate_step g place
  unfolding read_aggregate_step
  aggregate_same place le =
      bind_both (expect_same place 71 66 (omega arith)) (λ at at_is.
      let p = mark_place f place 71 66 at at_is in
      rw (bits_same at 2 (omega arith), bits_same at 10 (omega arith)))

  aggregates_same : (count : ℕ) (so_far : List Interval) (at : ℕ) → at + 18 * count ≤ n → read_aggregate_steps f count so_far at ≡ read_aggregate_steps g count so_far at
  unfolding read_aggregate_steps
  aggregates_same zero so_far at le = refl
  aggregates_same (suc count) so_far at le = bind_both (aggregate_same at (omega arith)) (λ s _. aggregates_same count (so_far ++ (s ∷ [])) (at + 18) (omega arith))

  virtual_storage_same : (place : ℕ) → place + 26 ≤ n → read_virtual_storage_step f place ≡ read_virtual_storage_step g place
  unfolding read_virtual_storage_step
  virtual_storage_same place le =
      bind_both (expect_same place 86 66 (omega arith)) (λ at at_is.
      let p = mark_place f place 86 66 at at_is in
      rw (bits_same at 2 (omega arith), bits_same at 10 (omega arith), bits_same at 18 (omega arith)))

  virtual_storages_same : (count : ℕ) (so_far : List NodeBounds) (at : ℕ) → at + 26 * count ≤ n → read_virtual_storage_steps f count so_far at ≡ read_virtual_storage_steps g count so_far at
  unfolding read_virtual_storage_steps
  virtual_storages_same zero so_far at le = refl
  virtual_storages_same (suc count) so_far at le = bind_both (virtual_storage_same at (omega arith)) (λ s _. virtual_storages_same count (so_far ++ (s ∷ [])) (at + 26) (omega arith))

  -- a byte behind the last record is left over in both
  step_same : (shapes : List NodeShape) (aggregates virtual_storages : ℕ) → file_length (length shapes) aggregates virtual_storages < n
      → read_step shapes aggregates virtual_storages f ≡ read_step shapes aggregates virtual_storages g
  unfolding read_step
  step_same shapes aggregates virtual_storages lt =
      bind_both (date_same (omega arith)) (λ date date-is.
      let a = date_end f date date-is in
      bind_both (nodes_same shapes [] date.next (omega arith)) (λ nodes nodes-is.
      let b = nodes_end f shapes [] date.next nodes nodes-is in
      bind_both (aggregates_same aggregates [] nodes.next (omega arith)) (λ groups aggregates-is.
      let c = aggregates_end f aggregates [] nodes.next groups aggregates-is in
      bind_both (virtual_storages_same virtual_storages [] groups.next (omega arith)) (λ stores virtual-storages-is.
      let d = virtual_storages_end f virtual_storages [] groups.next stores virtual-storages-is in
      rw (lt-leb (length f) stores.next (omega (arith, h.long)), lt-leb (length g) stores.next (omega (arith, h.long')))))))

-- ---- the step, on any store

shape_fits : (s : Store) → well_shaped s ≡ true → file_length (length (shape_of s).nodes) (length (shape_of s).aggregates) (length (shape_of s).virtual_storages) ≤ longest_step
unfolding shape_of
shape_fits s e =
    let c = (shaped s e).counts in
    let n = entries_length (node_entry s) 2 nodes_at (node_count s) in
    let a = entries_length (word s) 1 aggregates_at (aggregate_count s) in
    let v = entries_length (virtual_storage_entry s) 6 virtual_storages_at (virtual_storage_count s) in
    omega (arith, n, a, v, c.nodes, c.aggregates, c.virtual_storages)

-- the shape that a step file is read over
fits : (s : Store) (shape : Shape) → need (well_shaped s) 17 0 (shape_of s) ≡ value shape
    → file_length (length shape.nodes) (length shape.aggregates) (length shape.virtual_storages) ≤ longest_step
fits s shape e =
    subst (λ (p : Shape). file_length (length p.nodes) (length p.aggregates) (length p.virtual_storages) ≤ longest_step) (need_value _ 17 0 (shape_of s) shape e)
    (shape_fits s (to_true (well_shaped s) (need_test (well_shaped s) 17 0 (shape_of s) shape e)))

read_same : (store : Store) (work : List Float) (f g : List ℕ) → Same step_prefix f g → step_read store f work ≡ step_read store g work
unfolding step_read
read_same store work f g h =
    bind_both refl (λ room _. bind_both refl (λ shape Shape-is.
    let l = fits room shape Shape-is in
    step_same step_prefix f g h shape.nodes (length shape.aggregates) (length shape.virtual_storages) (omega arith)))

pub step_answer_by_prefix : StepAnswerByPrefix
unfolding step_answer
step_answer_by_prefix store file work m h =
    bind_both (by_prefix (λ f. step_read store f work) step_prefix (read_same store work) m file h) (λ f _. refl)

pub step_store_by_prefix : StepStoreByPrefix
unfolding step_store
step_store_by_prefix store file work m h = rw (step_answer_by_prefix store file work m h)

pub after_step_by_prefix : AfterStepByPrefix
after_step_by_prefix file old work r new work' m h a =
    record {
      answer = rw (step_answer_by_prefix old file work m h) at a.answer;
      store = rw (step_store_by_prefix old file work m h) at a.store;
      work_left = a.work_left;
    }

-- ---- a file that is accepted

pub accepted_step_length : AcceptedStepLength
unfolding step_answer step_read is_accepted answer_of
accepted_step_length store file work e = go (step_answer store file work) refl e
  where
    go : (b : Result StepFile) → step_answer store file work ≡ b → is_accepted b ≡ true → length file ≤ longest_step
    go (value b) q t =
        bind_then _ _ b q (λ f f-is _. bind_then _ _ f f-is (λ room _ e. bind_then _ _ f e (λ shape Shape-is e.
        let l = fits room shape Shape-is in
        let k = accepted_length shape.nodes (length shape.aggregates) (length shape.virtual_storages) file (ap answer_of e) in
        omega arith)))
    go (refused n p) q t = absurd (let z : ◌≡◌ {A = ℕ} 0 1 = cc in omega arith)

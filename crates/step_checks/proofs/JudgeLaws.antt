-- Judging a step file: 17, then 12 and 13, then 14 and 21; and what an accepted file has. Assumes nothing.
use mathlib.Core.Path.{◌≡◌, refl, sym, ◌∙◌, ap}
use Prim.Native.Nat.{ℕ, ◌≤◌}
use native.Mathlib.Omega.{arith}
use mathlib.Core.List.{List}
use mathlib.Core.Bool.{true, false, ◌&&◌}
use lib.ListN.{length}
use lib.Dec.{leb, leb→le}
use lib.Ieee.{Float}
use lib.Ieee.Fits.{and_l, and_r}
use Rattle.layout.specs.Layout.{step_work_length}
use Rattle.std.specs.Prelude.{Ok, Err}
use Rattle.pywr.specs.declared.Reason.{Reason}
use Rattle.pywr.specs.declared.Refusal.{Refusal}
use Rattle.pywr.specs.Answer.{Answer}
use Rattle.pywr.specs.Result.{Result, value, refused, ◌>>=◌, need}
use Rattle.pywr.specs.Answers.{answer_of, refusal_at}
use Rattle.pywr.specs.Store.{Store, store_has_room, word, node_count, aggregate_count, virtual_storage_count, nodes_at, aggregates_at, virtual_storages_at, node_entry, virtual_storage_entry, shape_of}
use Rattle.pywr.specs.Misshapen.{well_shaped}
use Rattle.pywr.specs.Calls.{step_room, step_read, step_intervals, step_ordered, step_answer}
use Rattle.laws.proofs.Tests.{of_true}
use Rattle.pywr.proofs.Represents.{Roomy}
use Rattle.pywr.proofs.DemandThree.{roomy_parts}
use Rattle.pywr.proofs.AcceptedLaws.{after_reading, step_answers}
use Rattle.store_shape.proofs.EntryLaws.{entries_length}
use Rattle.step_file.specs.Decoded.{file_length}
use Rattle.step_file.proofs.DecodedLaws.{accepted_decoded, accepted_length}
use Rattle.step_work.specs.WorkRun.{IntervalsHeld}
use Rattle.step_checks.specs.Judged.{read_on, decoded_by, Judged}

-- ---- answers and results

pub refused_is : {A : Type 0} (r : Result A) (refusal : Refusal) → answer_of r ≡ Err refusal → r ≡ refused refusal.number refusal.place
unfolding answer_of
refused_is (value x) refusal e = cc
refused_is (refused m q) refusal e = let same : record { number = m; place = q } ≡ refusal = cc in ap (λ (t : Refusal). refused t.number t.place) same

not_accepted : {refusal : Refusal} {X : Type 0} → ◌≡◌ {A = Answer} (Err refusal) (Ok tt) → X
not_accepted e = absurd cc

-- a file in order is answered as its intervals are
ordered_answer : {A B : Type 0} (r : Result A) (f : B) → answer_of (r >>= λ _. value f) ≡ answer_of r
unfolding answer_of ◌>>=◌
ordered_answer (value x) f = refl
ordered_answer (refused n p) f = refl

ordered_value : {A B : Type 0} (r : Result A) (f : B) → answer_of r ≡ Ok tt → (r >>= λ _. value f) ≡ value f
unfolding answer_of ◌>>=◌
ordered_value (value x) f e = refl
ordered_value (refused n p) f e = not_accepted e

-- ---- room

pub room_store : (s : Store) (work : List Float) → step_room s work ≡ true → Roomy s
unfolding step_room
room_store s work e = roomy_parts s (and_l (store_has_room s) (leb step_work_length (length work)) (of_true (store_has_room s && leb step_work_length (length work)) e))

pub room_work : (s : Store) (work : List Float) → step_room s work ≡ true → step_work_length ≤ length work
unfolding step_room
room_work s work e = leb→le step_work_length (length work) (and_r (store_has_room s) (leb step_work_length (length work)) (of_true (store_has_room s && leb step_work_length (length work)) e))

module _ (s : Store) (file : List ℕ) (work : List Float) where
  -- 17
  misshapen : well_shaped s ≡ false → (lent : List Float) → step_room s lent ≡ true → step_answer s file lent ≡ refused 17 0
  unfolding step_answer step_read need ◌>>=◌
  misshapen e lent room = rw (room, e)

  pub judged_shape : well_shaped s ≡ false → Judged s file (Err (refusal_at Reason.MisshapenStore 0)) work
  unfolding answer_of
  judged_shape e = record { answer = λ lent room. sym (ap answer_of (misshapen e lent room)); read = λ lent room q. not_accepted q; ready = λ q. not_accepted q }

  module _ (ok : well_shaped s ≡ true) where
    answers : (lent : List Float) → step_room s lent ≡ true
        → step_answer s file lent ≡ after_reading (step_ordered s) (read_on s file)
    unfolding step_room
    answers lent room =
        step_answers s file lent (and_l (store_has_room s) (leb step_work_length (length lent)) (of_true (store_has_room s && leb step_work_length (length lent)) room))
        (room_work s lent room) (of_true (well_shaped s) ok)

    -- 12, 13
    pub judged_file : {refusal : Refusal} → Err refusal ≡ answer_of (read_on s file) → Judged s file (Err refusal) work
    unfolding answer_of after_reading ◌>>=◌
    judged_file {refusal} e =
        record {
          answer = λ lent room. sym (ap answer_of (answers lent room ∙ ap (after_reading (step_ordered s)) (refused_is (read_on s file) refusal (sym e))));
          read = λ lent room q. not_accepted q;
          ready = λ q. not_accepted q;
        }

    module _ (e : Ok tt ≡ answer_of (read_on s file)) where
      read_as : read_on s file ≡ value (decoded_by s file)
      read_as = accepted_decoded (shape_of s).nodes (length (shape_of s).aggregates) (length (shape_of s).virtual_storages) file (sym e)

      judged : (lent : List Float) → step_room s lent ≡ true → step_answer s file lent ≡ (step_ordered s (decoded_by s file) >>= λ _. value (decoded_by s file))
      unfolding after_reading ◌>>=◌
      judged lent room = answers lent room ∙ ap (after_reading (step_ordered s)) read_as

      pub long : file_length (node_count s) (aggregate_count s) (virtual_storage_count s) ≤ length file
      unfolding shape_of
      long =
          let l = accepted_length (shape_of s).nodes (length (shape_of s).aggregates) (length (shape_of s).virtual_storages) file (sym e) in
          let n = entries_length (node_entry s) 2 nodes_at (node_count s) in
          let a = entries_length (word s) 1 aggregates_at (aggregate_count s) in
          let v = entries_length (virtual_storage_entry s) 6 virtual_storages_at (virtual_storage_count s) in
          omega (arith, l, n, a, v)

      -- 14 or 21, or accepted
      pub judged_intervals : (r : Answer) → r ≡ answer_of (step_ordered s (decoded_by s file))
          → (r ≡ Ok tt → IntervalsHeld (node_count s) (aggregate_count s) (virtual_storage_count s) work (step_intervals s (decoded_by s file)))
          → Judged s file r work
      judged_intervals r a h =
          let i = step_ordered s (decoded_by s file) in
          record {
            answer = λ lent room. a ∙ sym (ap answer_of (judged lent room) ∙ ordered_answer i (decoded_by s file));
            read = λ lent room q. judged lent room ∙ ordered_value i (decoded_by s file) (sym a ∙ q);
            ready = λ q. record { shaped = ok; long = long; held = h q };
          }

-- The companions of demand 3, which keep it from holding of nothing: a build's store is well shaped, a step on it is accepted exactly by its file,
-- a refused step leaves the store, and an accepted one leaves what its file says and nothing of the steps before. Assumes nothing.
use mathlib.Core.Path.{◌≡◌, refl, sym, ap, ◌∙◌}
use mathlib.Core.Logic.{◌↔◌}
use Prim.Native.Nat.{ℕ, ◌≤◌}
use native.Mathlib.Omega.{arith}
use mathlib.Core.Bool.{true, false}
use mathlib.Core.List.{List}
use mathlib.Core.Option.{none}
use lib.ListN.{length}
use lib.Dec.{leb, leb→le}
use lib.Ieee.{Float}
use lib.Ieee.Fits.{and_r}
use Rattle.pywr.specs.declared.Sentinel.{Sentinel}
use Rattle.pywr.specs.Result.{value, Result, refused}
use Rattle.pywr.specs.Network.{Network}
use Rattle.pywr.specs.NetworkFile.{parse_network}
use Rattle.pywr.specs.Build.{programme_of}
use Rattle.pywr.specs.StepFile.{StepFile}
use Rattle.pywr.specs.StepIntervals.{intervals, ordered}
use Rattle.pywr.specs.Store.{Store, store_has_room}
use Rattle.pywr.specs.Misshapen.{well_shaped}
use Rattle.pywr.specs.Calls.{build_answer, build_store, work_needed, step_room, step_read, step_answer, store_of_step, step_store, is_accepted}
use Rattle.pywr.specs.Correspondence.{Call, store_after, reports, last_accepted, periods_of, read_by, is_varying_exclusive}
use Rattle.pywr.proofs.Represents.{Represents}
use Rattle.pywr.proofs.RunLaws.{bind_value, Reached, reached_step, run}
use Rattle.pywr.proofs.ReadLaws.{need_test, read_sound}
use Rattle.pywr.proofs.DemandThree.{accepted_value, build_accepted, build_represents}
use Rattle.pywr.proofs.AcceptedLaws.{after_reading, judged_by, build_shaped, build_roomy, file_answers, file_accepted}
use Rattle.pywr.proofs.CallLaws.{step_refused}

-- "a refused step changes nothing": of any store
pub refused_leaves_store : (store : Store) (file : List ℕ) (work : List Float) → is_accepted (step_answer store file work) ≡ false → step_store store file work ≡ store
unfolding is_accepted
refused_leaves_store store file work e = go (step_answer store file work) refl e
  where
    go : (r : Result StepFile) → step_answer store file work ≡ r → is_accepted r ≡ false → step_store store file work ≡ store
    go (value f) q k = let z : ◌≡◌ {A = ℕ} 0 1 = cc in absurd (omega arith)
    go (refused n p) q k = step_refused store file work n p q

accepted_long : (store : Store) (file : List ℕ) (work : List Float) (f : StepFile) → step_answer store file work ≡ value f → work_needed ≤ length work
unfolding step_answer step_read step_room
accepted_long store file work f e =
    let a = bind_value _ _ f e in
    let b = bind_value _ _ a.0 a.1 in
    leb→le work_needed (length work) (and_r (store_has_room store) (leb work_needed (length work)) (need_test _ 16 0 store b.0 b.1))

-- over every network file, sentinel, store and work area, as `Correspondence`: the network is what the file holds, and the build was accepted
module _ (network_file : List ℕ) (s : Sentinel) (old : Store) (words : List ℕ) (numbers : List Float) (net : Network)
    (parsed : parse_network network_file ≡ value net)
    (accepted : is_accepted (build_answer s network_file old words numbers) ≡ true) where
  -- the store that the build left, after any list of steps
  abbrev after : List Call → Store
  after calls = store_after (build_store s network_file old words numbers) calls

  -- so that 17 is never answered, nor 16 for the store
  pub store_well_shaped : (calls : List Call) → (well_shaped (after calls) ≡ true) × (store_has_room (after calls) ≡ true)
  store_well_shaped calls = (build_shaped network_file s old words numbers net parsed accepted calls, build_roomy network_file s old words numbers net parsed accepted calls)

  -- a step is accepted exactly if its work area is long enough, the network reads the file, no varying node's lower is over its upper and no varying
  -- exclusive one's bound is at or beyond a sentinel
  pub accepted_exactly : (calls : List Call) (file : List ℕ) (work : List Float)
      → is_accepted (step_answer (after calls) file work) ≡ true
      ↔ (work_needed ≤ length work) × (f : StepFile) × (read_by net file ≡ value f) × (is_accepted (ordered s (is_varying_exclusive net) (intervals s (periods_of net) f)) ≡ true)
  unfolding after_reading judged_by is_accepted
  accepted_exactly calls file work = (
    λ e.
        let v = accepted_value (step_answer (after calls) file work) e in
        let long = accepted_long (after calls) file work v.0 v.1 in
        let a = bind_value (read_by net file) _ v.0 (sym (file_answers network_file s old words numbers net parsed accepted calls file work long) ∙ v.1) in
        let b = bind_value (judged_by s net a.0) _ v.0 a.2 in
        (long, a.0, a.1, ap is_accepted b.1),
    λ h.
        let i = accepted_value (judged_by s net h.1) h.3 in
        ap is_accepted (file_accepted network_file s old words numbers net parsed accepted calls file work h.1 i.0 h.0 h.2 i.1),
  )

  held : Represents (build_store s network_file old words numbers) (programme_of s net)
  held = build_represents s net old network_file words numbers (read_sound network_file net parsed) (build_accepted s net old network_file words numbers parsed accepted)

  -- an accepted step leaves one store, whatever steps came before it and whatever work area was lent: costs, bounds, elements and all else are the build's and this file's
  pub accepted_by_file_alone : (calls others : List Call) (file : List ℕ) (work lent : List Float) → is_accepted (step_answer (after calls) file work) ≡ true → work_needed ≤ length lent
      → step_store (after calls) file work ≡ step_store (after others) file lent
  unfolding step_store Reached
  accepted_by_file_alone calls others file work lent e long =
      let v = accepted_value (step_answer (after calls) file work) e in
      let answers = file_answers network_file s old words numbers net parsed accepted in
      let same : step_answer (after others) file lent ≡ value v.0 = answers others file lent long ∙ sym (answers calls file work (accepted_long (after calls) file work v.0 v.1)) ∙ v.1 in
      let store : Store = build_store s network_file old words numbers in
      let alone : (list : List Call) → store_of_step (after list) (value v.0) ≡ store_of_step store (value v.0) =
      (λ list. reached_step store (programme_of s net) held (last_accepted none (reports store list)) (after list) (run store (programme_of s net) held list store none refl) v.0) in
      ap (store_of_step (after calls)) v.1 ∙ alone calls ∙ sym (alone others) ∙ sym (ap (store_of_step (after others)) same)

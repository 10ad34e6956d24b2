-- Demand 3 of the port: the contracts of `build` and `step` lead to the definitions of which demand 3 is proved. Assumes nothing.
use mathlib.Core.Path.{◌≡◌, refl, sym, ap, ap₂, ◌∙◌}
use mathlib.Core.List.{List, ◌∷◌, map}
use mathlib.Core.Bool.{Bool, true}
use Rattle.pywr.specs.Result.{Result, value, refused}
use Rattle.pywr.specs.Answers.{answer_of}
use Rattle.pywr.specs.NetworkFile.{parse_network}
use Rattle.pywr.specs.Store.{Store}
use Rattle.pywr.specs.Calls.{build_answer, build_store, step_answer, is_accepted}
use Rattle.pywr.specs.Correspondence.{Call, Report, store_after, reports, any_accepted, network_allows, programme_admits}
use Rattle.pywr.specs.PortRun.{Answered, Run, accepts, report, PortCorrespondence}
use Rattle.pywr.proofs.DemandThree.{correspondence}

-- the answer tells whether the definition accepts
pub answer_tells : {A : Type 0} (r : Result A) → accepts (answer_of r) ≡ is_accepted r
unfolding accepts answer_of is_accepted
answer_tells (value x) = refl
answer_tells (refused n p) = refl

abbrev calls_of : List Answered → List Call
calls_of rest = map (λ (a : Answered). a.call) rest

-- the calls left the store of the definition, and answered as it does
left_is : {s last : Store} {rest : List Answered} → Run s rest last → last ≡ store_after s (calls_of rest)
unfolding store_after
left_is Run.none = refl
left_is (Run.more {s} {t} {last} {a} {rest} e r) = left_is r ∙ ap (λ (q : Store). store_after q (calls_of rest)) e.store

reports_are : {s last : Store} {rest : List Answered} → Run s rest last → map report rest ≡ reports s (calls_of rest)
unfolding reports report
reports_are Run.none = refl
reports_are (Run.more {s} {t} {last} {a} {rest} e r) =
    ap₂ (λ (b : Bool) (ts : List Report). record { file = a.call.file; accepted = b } ∷ ts)
    (ap accepts e.answer ∙ answer_tells (step_answer s a.call.file a.call.work))
    (reports_are r ∙ ap (λ (q : Store). reports q (calls_of rest)) e.store)

pub port_correspondence : PortCorrespondence
unfolding accepts
port_correspondence network_file s old built words words' numbers numbers' net parsed after factors calls last r any plan =
    let start : Store = build_store s network_file old words numbers in
    let accepted : is_accepted (build_answer s network_file old words numbers) ≡ true = sym (ap accepts after.answer ∙ answer_tells (build_answer s network_file old words numbers)) ∙ refl in
    let told : map report calls ≡ reports start (calls_of calls) = reports_are r ∙ ap (λ (q : Store). reports q (calls_of calls)) after.store in
    ap (λ (q : Store). programme_admits (parse_network network_file) q plan) (left_is r ∙ ap (λ (q : Store). store_after q (calls_of calls)) after.store)
    ∙ correspondence network_file s old words numbers net parsed accepted factors (calls_of calls) (sym (ap any_accepted told) ∙ any) plan
    ∙ sym (ap (λ (ts : List Report). network_allows (parse_network network_file) s ts plan) told)

-- Demand 3 of the exported calls: their numbers are the answers of `build` and `step`, of which demand 3 is proved. Assumes nothing.
use mathlib.Core.Path.{◌≡◌, refl, sym, ap, ap₂, ◌∙◌, subst}
use mathlib.Core.List.{List, [], ◌∷◌, map}
use mathlib.Core.Bool.{Bool, true}
use Rattle.std.specs.Prelude.{Ok}
use Rattle.pywr.specs.Answer.{Answer}
use Rattle.pywr.specs.Result.{Result, value, refused}
use Rattle.pywr.specs.Answers.{answer_of}
use Rattle.pywr.specs.NetworkFile.{parse_network}
use Rattle.pywr.specs.Store.{Store}
use Rattle.pywr.specs.Calls.{AfterBuild, build_answer, step_answer, is_accepted}
use Rattle.pywr.specs.Correspondence.{Report, network_allows, any_accepted}
use Rattle.pywr.specs.PortRun.{Answered, Run, accepts, report}
use Rattle.pywr.proofs.PortRun.{answer_tells, port_correspondence}
use Rattle.pywr_c_answers.specs.Crossing.{picked}
use Rattle.theorem_exported_calls.specs.ExportedRun.{Numbered, ExportedRun, report_of, ExportedCorrespondence}
use Rattle.theorem_exported_calls.proofs.AnswerNumbers.{build_zero, step_zero}

-- the calls of `step` beneath
abbrev answered : {s last : Store} {rest : List Numbered} → ExportedRun s rest last → List Answered
answered ExportedRun.none = []
answered (ExportedRun.more {s} {t} {last} {a} c r) = record { call = a.call; answer = c.answer } ∷ answered r

port_run : {s last : Store} {rest : List Numbered} (r : ExportedRun s rest last) → Run s (answered r) last
port_run ExportedRun.none = Run.none
port_run (ExportedRun.more c r) = Run.more c.after (port_run r)

-- they are reported alike
reported : {s last : Store} {rest : List Numbered} (r : ExportedRun s rest last) → map report (answered r) ≡ map report_of rest
unfolding report report_of
reported ExportedRun.none = refl
reported (ExportedRun.more {s} {t} {last} {a} c r) =
    ap₂ (λ (b : Bool) (ts : List Report). record { file = a.call.file; accepted = b } ∷ ts)
    (ap accepts c.after.answer ∙ answer_tells (step_answer s a.call.file a.call.work) ∙ sym (step_zero c))
    (reported r)

accepted_is : {A : Type 0} (r : Result A) → is_accepted r ≡ true → answer_of r ≡ Ok tt
unfolding answer_of is_accepted
accepted_is (value x) e = refl
accepted_is (refused n p) e = cc

pub exported_correspondence : ExportedCorrespondence
exported_correspondence network_file infinite old built words words' numbers numbers' place net parsed crossed factors calls last r any plan =
    let accepted : crossed.answer ≡ Ok tt = crossed.after.answer ∙ accepted_is (build_answer (picked infinite) network_file old words numbers) (sym (build_zero crossed)) in
    let after : AfterBuild (picked infinite) network_file old words numbers (Ok tt) built words' numbers' = subst
    (λ (a : Answer). AfterBuild (picked infinite) network_file old words numbers a built words' numbers') accepted crossed.after in
    port_correspondence network_file (picked infinite) old built words words' numbers numbers' net parsed after factors (answered r) last (port_run r) (ap any_accepted (reported r) ∙ any) plan
    ∙ ap (λ (ts : List Report). network_allows (parse_network network_file) (picked infinite) ts plan) (reported r)

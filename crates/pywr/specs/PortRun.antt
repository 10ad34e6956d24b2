-- Demand 3 of the port: over the stores and answers that calls of `build` and `step` left, in the words of their contracts. Assumes nothing.
use Rattle.std.specs.Prelude.{◌≡◌, ℕ, List, [], ◌∷◌, map, Bool, true, false, Float, Ok, Err}
use Rattle.pywr.specs.declared.Sentinel.{Sentinel}
use Rattle.pywr.specs.Answer.{Answer}
use Rattle.pywr.specs.Result.{value}
use Rattle.pywr.specs.Network.{Network}
use Rattle.pywr.specs.NetworkFile.{parse_network}
use Rattle.pywr.specs.Store.{Store}
use Rattle.pywr.specs.Calls.{AfterBuild, AfterStep}
use Rattle.pywr.specs.Plans.{Plan}
use Rattle.pywr.specs.Correspondence.{Call, Report, network_allows, programme_admits, factors_in1024ths, any_accepted}

-- a call of `step` with what it answered
pub record Answered : Type 0 where
  pub call : Call
  pub answer : Answer

-- calls of `step`, each handed the store as the call before it left it: they found the first store and left the last
pub data Run : Store → List Answered → Store → Type 0 where
  none : {s : Store} → Run s [] s
  more : {s t last : Store} {a : Answered} {rest : List Answered} {work : List Float} → AfterStep a.call.file s a.call.work a.answer t work → Run t rest last → Run s (a ∷ rest) last

-- "A step is accepted if it answers no refusal."
unfoldable pub accepts : Answer → Bool
accepts (Ok _) = true
accepts (Err refusal) = false

unfoldable pub report : Answered → Report
report a = record { file = a.call.file; accepted = accepts a.answer }

abbrev pub PortCorrespondence : Type 0
PortCorrespondence =
    (network_file : List ℕ) (s : Sentinel) (old built : Store) (words words' : List ℕ) (numbers numbers' : List Float) (net : Network)
    → parse_network network_file ≡ value net
    → AfterBuild s network_file old words numbers (Ok tt) built words' numbers'
    → factors_in1024ths net ≡ true
    → (calls : List Answered) (last : Store)
    → Run built calls last
    → any_accepted (map report calls) ≡ true
    → (plan : Plan)
    → programme_admits (parse_network network_file) last plan ≡ network_allows (parse_network network_file) s (map report calls) plan

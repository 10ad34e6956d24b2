-- Demand 3 of the exported calls: over the stores and the numbers that calls of `pywr_build` and `pywr_step` left, in the words of their contracts. Assumes nothing.
use Rattle.std.specs.Prelude.{◌≡◌, ℕ, List, [], ◌∷◌, map, Bool, true, eqb, Float}
use Rattle.pywr.specs.Result.{value}
use Rattle.pywr.specs.Network.{Network}
use Rattle.pywr.specs.NetworkFile.{parse_network}
use Rattle.pywr.specs.Store.{Store}
use Rattle.pywr.specs.Plans.{Plan}
use Rattle.pywr.specs.Correspondence.{Call, Report, network_allows, programme_admits, factors_in1024ths, any_accepted}
use Rattle.pywr_c_answers.specs.Crossing.{picked, BuildCrossed, StepCrossed}

-- a call of `pywr_step` with the number that it answered
pub record Numbered : Type 0 where
  pub call : Call
  pub number : ℕ

-- calls of `pywr_step`, each handed the store as the call before it left it: they found the first store and left the last
pub data ExportedRun : Store → List Numbered → Store → Type 0 where
  none : {s : Store} → ExportedRun s [] s
  more : {s t last : Store} {a : Numbered} {rest : List Numbered} {place : ℕ} {work : List Float}
      → StepCrossed a.call.file s a.call.work a.number place t work → ExportedRun t rest last → ExportedRun s (a ∷ rest) last

-- a caller takes a step for accepted exactly if its number is 0
unfoldable pub report_of : Numbered → Report
report_of a = record { file = a.call.file; accepted = eqb a.number 0 }

abbrev pub ExportedCorrespondence : Type 0
ExportedCorrespondence =
    (network_file : List ℕ) (infinite : Bool) (old built : Store) (words words' : List ℕ) (numbers numbers' : List Float) (place : ℕ) (net : Network)
    → parse_network network_file ≡ value net
    → BuildCrossed (picked infinite) network_file old words numbers 0 place built words' numbers'
    → factors_in1024ths net ≡ true
    → (calls : List Numbered) (last : Store)
    → ExportedRun built calls last
    → any_accepted (map report_of calls) ≡ true
    → (plan : Plan)
    → programme_admits (parse_network network_file) last plan ≡ network_allows (parse_network network_file) (picked infinite) (map report_of calls) plan

-- Both sides of demand 3 on a network file, a list of step files and plans, for the examples: what each says, and that demand 3 fails with a premise on factors
-- under which they differ on a plan. Assumes nothing.
use mathlib.Core.Path.{◌≡◌, sym, ap, ◌∙◌}
use Prim.Native.Nat.{ℕ}
use native.Mathlib.Omega.{arith}
use mathlib.Core.List.{List, [], ◌∷◌, map}
use mathlib.Core.Bool.{Bool, true, false, cond, not}
use lib.ListN.{replicate}
use Rattle.layout.specs.Layout.{words_length, numbers_length}
use Rattle.pywr.specs.declared.Sentinel.TheVariants.{Infinity}
use Rattle.pywr.specs.Result.{value, Result, refused}
use Rattle.pywr.specs.Numbers.{zero64}
use Rattle.pywr.specs.Network.{Network}
use Rattle.pywr.specs.NetworkFile.{parse_network}
use Rattle.pywr.specs.Store.{Store}
use Rattle.pywr.specs.Calls.{build_answer, build_store, is_accepted}
use Rattle.pywr.specs.Plans.{Plan}
use Rattle.pywr.specs.Correspondence.{Call, store_after, reports, network_allows, programme_admits, any_accepted, CorrespondenceWhere}
use Rattle.pywr.specs.Cases.{blank, work}

unfoldable pub of_network : {A : Type 0} → (Network → A) → A → Result Network → A
of_network get none (value net) = get net
of_network get none (refused number place) = none

unfoldable pub built : List ℕ → Store
built network = build_store Infinity network blank (replicate words_length 0) (replicate numbers_length zero64)

unfoldable pub call : List ℕ → Call
call file = record { file = file; work = work }

-- what either side says of each plan after the steps
unfoldable pub allowed : List ℕ → List (List ℕ) → List Plan → List Bool
allowed network files plans = map (network_allows (parse_network network) Infinity (reports (built network) (map call files))) plans

unfoldable pub admitted : List ℕ → List (List ℕ) → List Plan → List Bool
admitted network files plans = map (programme_admits (parse_network network) (store_after (built network) (map call files))) plans

-- a network that keeps the premise and a step on it, with a plan that one side alone takes
pub record Differ (premise : Network → Bool) (network file : List ℕ) (plan : Plan) (is_allowed : Bool) : Type 0 where
  pub net : Network
  pub parsed : parse_network network ≡ value net
  pub accepted : is_accepted (build_answer Infinity network blank (replicate words_length 0) (replicate numbers_length zero64)) ≡ true
  pub kept : premise net ≡ true
  pub step_accepted : any_accepted (reports (built network) (call file ∷ [])) ≡ true
  pub allows : network_allows (parse_network network) Infinity (reports (built network) (call file ∷ [])) plan ≡ is_allowed
  pub admits : programme_admits (parse_network network) (store_after (built network) (call file ∷ [])) plan ≡ not is_allowed

pub refutes : {premise : Network → Bool} {network file : List ℕ} {plan : Plan} {is_allowed : Bool} → Differ premise network file plan is_allowed → CorrespondenceWhere premise → ⊥
unfolding built
refutes {premise} {network} {file} {plan} {is_allowed} d correspond =
    differ is_allowed
    (sym d.admits
    ∙ correspond network Infinity blank (replicate words_length 0) (replicate numbers_length zero64) d.net d.parsed d.accepted d.kept
    (call file ∷ []) d.step_accepted plan
    ∙ d.allows)
  where
    number : Bool → ℕ
    number b = cond b 1 0

    differ : (b : Bool) → not b ≡ b → ⊥
    differ true e = let z : ◌≡◌ {A = ℕ} 0 1 = ap number e in absurd (omega arith)
    differ false e = let z : ◌≡◌ {A = ℕ} 1 0 = ap number e in absurd (omega arith)

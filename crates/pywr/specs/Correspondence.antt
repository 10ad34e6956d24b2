-- Demand 3, as one statement over any list of steps. Assumes nothing.
use Rattle.std.specs.Prelude.{◌≡◌, ℕ, ◌*◌, ◌%◌, List, [], ◌∷◌, map, Bool, true, false, cond, not, ◌&&◌, ◌||◌, length, get_or, nat_abs, leb, eqb, Float}
use Rattle.std.proofs.Math.Option.{Option, none, some}
use Rattle.pywr.specs.declared.Sentinel.{Sentinel}
use Rattle.pywr.specs.Result.{value, Result, refused}
use Rattle.pywr.specs.Network.{Period, Part, VirtualStorage, Network, no_node, is_exclusive}
use Rattle.pywr.specs.NetworkFile.{parse_network}
use Rattle.pywr.specs.Rows.{column_map}
use Rattle.pywr.specs.Build.{node_shape}
use Rattle.pywr.specs.StepFile.{StepFile, read_step}
use Rattle.pywr.specs.StepIntervals.{intervals}
use Rattle.pywr.specs.Store.{Store, programme_in}
use Rattle.pywr.specs.Calls.{build_answer, build_store, step_answer, step_store, is_accepted}
use Rattle.pywr.specs.Plans.{Amount, exact, Plan, units_in_one, units_in1024th, all_from}
use Rattle.pywr.specs.Allows.{allows}
use Rattle.pywr.specs.Admits.{admits}

-- a step as it is called: its file and the work area lent to it, of any length and content
pub record Call : Type 0 where
  pub file : List ℕ
  pub work : List Float

-- ---- the port's side: each step is handed the store as the call before it left it

unfoldable pub store_after : Store → List Call → Store
store_after store [] = store
store_after store (call ∷ rest) = store_after (step_store store call.file call.work) rest

-- ---- what the network's side is told: the step files in turn, and which were accepted

pub record Report : Type 0 where
  pub file : List ℕ
  pub accepted : Bool

unfoldable pub reports : Store → List Call → List Report
reports store [] = []
reports store (call ∷ rest) =
    record { file = call.file; accepted = is_accepted (step_answer store call.file call.work) }
    ∷ reports (step_store store call.file call.work) rest

-- "It keeps the last accepted file; a refused step changes nothing."
unfoldable pub last_accepted : Option (List ℕ) → List Report → Option (List ℕ)
last_accepted kept [] = kept
last_accepted kept (report ∷ rest) = last_accepted (cond report.accepted (some report.file) kept) rest

-- the virtual storages' periods
unfoldable pub periods_of : Network → List Period
periods_of net = map (λ (v : VirtualStorage). v.period) net.virtual_storages

-- the network's own reading of a step file
unfoldable pub read_by : Network → List ℕ → Result StepFile
read_by net file = read_step (map node_shape net.nodes) (length net.aggregates) (length net.virtual_storages) file

-- nothing is allowed where no step was accepted, or where the file is not one of this network
unfoldable pub allows_read : Sentinel → Network → Result StepFile → Plan → Bool
allows_read s net (refused number place) plan = false
allows_read s net (value step) plan = allows s net (intervals s (periods_of net) step) plan

unfoldable pub allows_under : Sentinel → Network → Option (List ℕ) → Plan → Bool
allows_under s net none plan = false
allows_under s net (some file) plan = allows_read s net (read_by net file) plan

-- "The network's side is fed the network file, the sentinel picked and the step files in turn; of the port it is told only which steps were accepted."
unfoldable pub network_allows : Result Network → Sentinel → List Report → Plan → Bool
network_allows (refused number place) s reports plan = false
network_allows (value net) s reports plan = allows_under s net (last_accepted none reports) plan

-- the columns are those of `ColEdgeMap` on the network file
unfoldable pub programme_admits : Result Network → Store → Plan → Bool
programme_admits (refused number place) store plan = false
programme_admits (value net) store plan = admits (column_map net) (programme_in store) plan

-- document 02, L3: "varying exclusive nodes", in the network's words: 21 is asked of these
unfoldable pub is_varying_exclusive : Network → ℕ → Bool
is_varying_exclusive net node = is_exclusive net.aggregates node && not (get_or net.nodes node no_node).constant

-- ---- the premise

-- the most that a factor may be in magnitude
unfoldable pub factor_limit : Amount
factor_limit = 1000000 * units_in_one

-- a virtual storage's factor is a whole multiple of the amount, and at most 1,000,000 in magnitude
unfoldable pub is_multiple_to_limit : Amount → Part → Bool
is_multiple_to_limit amount part = eqb (nat_abs (exact part.factor) % amount) 0 && leb (nat_abs (exact part.factor)) factor_limit

-- so is every factor of the network
unfoldable pub factors_are_multiples : Amount → Network → Bool
factors_are_multiples amount net =
    all_from (λ (number : ℕ) (v : VirtualStorage). all_from (λ (index : ℕ) (part : Part). is_multiple_to_limit amount part) 0 v.parts) 0 net.virtual_storages

-- document 02, L14: "factors are whole multiples of 1/1024, at most 1,000,000 in magnitude". That "the sum of factors on each column" is then exact is no
-- premise: `ExactElements`
unfoldable pub factors_in1024ths : Network → Bool
factors_in1024ths net = factors_are_multiples units_in1024th net

-- whole factors, a special case (`whole_in_1024ths`)
unfoldable pub factors_whole : Network → Bool
factors_whole net = factors_are_multiples units_in_one net

unfoldable pub any_accepted : List Report → Bool
any_accepted [] = false
any_accepted (report ∷ rest) = report.accepted || any_accepted rest

-- For every list of steps, refused ones included, from the store that any accepted build left: after the list, if at least one was accepted,
-- the programme admits each plan exactly if the network allows it under the last accepted step.
-- The build and each step have a work area of any length and content. Premises: nothing but these steps writes the store (`store_after`), and what
-- is said of factors.
abbrev pub CorrespondenceWhere : (Network → Bool) → Type 0
CorrespondenceWhere factors_allowed =
    (network_file : List ℕ) (s : Sentinel) (old : Store) (words : List ℕ) (numbers : List Float) (net : Network)
    → parse_network network_file ≡ value net
    → is_accepted (build_answer s network_file old words numbers) ≡ true
    → factors_allowed net ≡ true
    → (calls : List Call)
    → any_accepted (reports (build_store s network_file old words numbers) calls) ≡ true
    → (plan : Plan)
    → programme_admits (parse_network network_file) (store_after (build_store s network_file old words numbers) calls) plan
    ≡ network_allows (parse_network network_file) s (reports (build_store s network_file old words numbers) calls) plan

-- Demand 3
abbrev pub Correspondence : Type 0
Correspondence = CorrespondenceWhere factors_in1024ths

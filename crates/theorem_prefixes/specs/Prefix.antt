-- How many first bytes of a network file, and of a step file, decide what is answered; how long a file can be that is accepted. Assumes nothing.
use Rattle.std.specs.Prelude.{◌≡◌, ℕ, ◌+◌, ◌*◌, ◌≤◌, List, true, length, take, Float}
use Rattle.layout.specs.Layout.{node_ceiling, edge_ceiling, aggregate_ceiling, virtual_storage_ceiling, aggregate_set_ceiling, part_ceiling, set_size_ceiling}
use Rattle.pywr.specs.declared.Sentinel.{Sentinel}
use Rattle.pywr.specs.Answer.{Answer}
use Rattle.pywr.specs.Build.{build}
use Rattle.pywr.specs.Store.{Store}
use Rattle.pywr.specs.Calls.{build_answer, build_store, AfterBuild, step_answer, step_store, AfterStep, is_accepted}
use Rattle.network_node.specs.Node.{node_length}
use Rattle.network_edge.specs.Edge.{edge_length}
use Rattle.network_aggregate.specs.AggregatedNode.{sets_offset, members_offset, member_length}
use Rattle.network_virtual_storage.specs.VirtualStorage.{parts_offset, storage_part_length}
use Rattle.step_file.specs.Decoded.{file_length}

-- an aggregate with 16 sets of 16 nodes, and a virtual storage with 64 parts
abbrev pub longest_aggregate : ℕ
longest_aggregate = sets_offset + aggregate_set_ceiling * (members_offset + set_size_ceiling * member_length)

abbrev pub longest_virtual_storage : ℕ
longest_virtual_storage = parts_offset + part_ceiling * storage_part_length

-- 63,488 bytes: every record that fits, each at its longest
abbrev pub longest_network : ℕ
longest_network =
    node_ceiling * node_length + edge_ceiling * edge_length + aggregate_ceiling * longest_aggregate + virtual_storage_ceiling * longest_virtual_storage

-- 63,490: a record more is told by its mark
abbrev pub network_prefix : ℕ
network_prefix = longest_network + 2

-- 10,700 bytes
abbrev pub longest_step : ℕ
longest_step = file_length node_ceiling aggregate_ceiling virtual_storage_ceiling

-- 10,701: a byte more is left over
abbrev pub step_prefix : ℕ
step_prefix = longest_step + 1

-- ---- the network file

abbrev pub BuildByPrefix : Type 0
BuildByPrefix = (s : Sentinel) (file : List ℕ) (m : ℕ) → network_prefix ≤ m → build s (take m file) ≡ build s file

abbrev pub BuildAnswerByPrefix : Type 0
BuildAnswerByPrefix =
    (s : Sentinel) (file : List ℕ) (old : Store) (words : List ℕ) (numbers : List Float) (m : ℕ) → network_prefix ≤ m
    → build_answer s (take m file) old words numbers ≡ build_answer s file old words numbers

abbrev pub BuildStoreByPrefix : Type 0
BuildStoreByPrefix =
    (s : Sentinel) (file : List ℕ) (old : Store) (words : List ℕ) (numbers : List Float) (m : ℕ) → network_prefix ≤ m
    → build_store s (take m file) old words numbers ≡ build_store s file old words numbers

-- what a build promises of the first bytes it promises of the file
abbrev pub AfterBuildByPrefix : Type 0
AfterBuildByPrefix =
    (s : Sentinel) (file : List ℕ) (old : Store) (words : List ℕ) (numbers : List Float) (r : Answer) (new : Store) (words' : List ℕ) (numbers' : List Float) (m : ℕ)
    → network_prefix ≤ m → AfterBuild s (take m file) old words numbers r new words' numbers' → AfterBuild s file old words numbers r new words' numbers'

-- no fewer bytes do
abbrev pub NetworkPrefixLeast : Type 0
NetworkPrefixLeast = (s : Sentinel) (m : ℕ) → ((file : List ℕ) → build s (take m file) ≡ build s file) → network_prefix ≤ m

abbrev pub AcceptedNetworkLength : Type 0
AcceptedNetworkLength = (s : Sentinel) (file : List ℕ) → is_accepted (build s file) ≡ true → length file ≤ longest_network

-- ---- the step file, on any store: where it is misshapen the file is not read

abbrev pub StepAnswerByPrefix : Type 0
StepAnswerByPrefix =
    (store : Store) (file : List ℕ) (work : List Float) (m : ℕ) → step_prefix ≤ m → step_answer store (take m file) work ≡ step_answer store file work

abbrev pub StepStoreByPrefix : Type 0
StepStoreByPrefix = (store : Store) (file : List ℕ) (work : List Float) (m : ℕ) → step_prefix ≤ m → step_store store (take m file) work ≡ step_store store file work

abbrev pub AfterStepByPrefix : Type 0
AfterStepByPrefix =
    (file : List ℕ) (old : Store) (work : List Float) (r : Answer) (new : Store) (work' : List Float) (m : ℕ)
    → step_prefix ≤ m → AfterStep (take m file) old work r new work' → AfterStep file old work r new work'

-- no fewer bytes do
abbrev pub StepPrefixLeast : Type 0
StepPrefixLeast = (m : ℕ) → ((store : Store) (file : List ℕ) (work : List Float) → step_answer store (take m file) work ≡ step_answer store file work) → step_prefix ≤ m

abbrev pub AcceptedStepLength : Type 0
AcceptedStepLength = (store : Store) (file : List ℕ) (work : List Float) → is_accepted (step_answer store file work) ≡ true → length file ≤ longest_step

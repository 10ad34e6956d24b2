-- Every factor of a network that was read, and every cost of a step file that was read, is at most 1e12 in magnitude. Assumes nothing.
use mathlib.Core.Path.{◌≡◌, subst, ◌∙◌}
use Prim.Native.Nat.{ℕ, zero, suc, ◌+◌}
use mathlib.Core.Bool.{Bool, true, false}
use mathlib.Core.List.{List, [], ◌∷◌, ◌++◌}
use mathlib.Core.Option.{Option, none, some}
use native.Mathlib.Omega.{arith}
use lib.ListN.{length}
use lib.Dec.{ltb}
use Rattle.pywr.specs.Result.{value, ◌>>=◌, refused_if}
use Rattle.pywr.specs.Numbers.{is_small, of_pattern}
use Rattle.pywr.specs.Network.{Part, VirtualStorage, Network}
use Rattle.pywr.specs.NetworkFile.{Read, ND, ED, AG, VS, read_parts, read_virtual_storage, Mark, with_node, with_edge}
use Rattle.pywr.specs.NetworkFile.{with_aggregate, with_virtual_storage, read_body, Reading, read_record, read_records, check_network, parse_network}
use Rattle.pywr.specs.Programme.{NodeShape}
use Rattle.pywr.specs.StepFile.{NodeStep, StepFile, read_step}
use Rattle.pywr.proofs.RunLaws.{bind_then, bind_value, need_value}
use Rattle.pywr.proofs.ListLaws.{AllMem, all_none, all_snoc}
use Rattle.pywr.proofs.ReadLaws.{same_value, checked_value}
use Rattle.pywr.proofs.CostReadLaws.{step_costs_lem}
use Rattle.theorem_numbers.proofs.SumBounds.{Within, up_to_within, small_within}

-- ---- a network's factors

abbrev pub SmallPart : Part → Type 0
SmallPart p = Within 1 p.factor

abbrev pub SmallFactors : VirtualStorage → Type 0
SmallFactors v = AllMem SmallPart v.parts

read_parts_lem : (file : List ℕ) (place nodes count : ℕ) (so_far : List Part) (at : ℕ) (r : Read (List Part)) → read_parts file place nodes count so_far at ≡ value r
    → AllMem SmallPart so_far → AllMem SmallPart r.item
unfolding read_parts
read_parts_lem file place nodes zero so_far at r e h = subst (λ (q : Read (List Part)). AllMem SmallPart q.item) (same_value _ r e) h
read_parts_lem file place nodes (suc count) so_far at r e h =
    bind_then _ _ r e (λ a a-is e. bind_then _ _ r e (λ b b-is e.
    let p : Part = record { node = a; factor = of_pattern b } in
    read_parts_lem file place nodes count (so_far ++ (p ∷ [])) (at + 10) r e (all_snoc SmallPart so_far p h (small_within b (checked_value 3 place is_small _ b b-is)))))

read_virtual_storage_lem : (net : Network) (file : List ℕ) (at : ℕ) (r : Read VirtualStorage) → read_virtual_storage net file at ≡ value r → SmallFactors r.item
unfolding read_virtual_storage
read_virtual_storage_lem net file at r e =
    bind_then _ _ r e (λ a a-is e. bind_then _ _ r e
    (λ b b-is e. bind_then _ _ r e (λ c c-is e. bind_then _ _ r e (λ d d-is e. bind_then _ _ r e (λ g g-is e. bind_then _ _ r e (λ count count_is e. bind_then _ _ r e (λ m m-is e.
    subst (λ (q : Read VirtualStorage). SmallFactors q.item) (same_value _ r e) (read_parts_lem file at (length net.nodes) count [] (at + 8) m m-is (all_none SmallPart)))))))))

abbrev pub AllSmall : Network → Type 0
AllSmall net = AllMem SmallFactors net.virtual_storages

body : (m : Mark) (net : Network) (file : List ℕ) (at : ℕ) (r : Read Network) → read_body m net file at ≡ value r → AllSmall net → AllSmall r.item
unfolding read_body with_node with_edge with_aggregate with_virtual_storage
body ND net file at r e g = let a = bind_value _ _ r e in subst (λ (q : Read Network). AllSmall q.item) (same_value _ r a.2) g
body ED net file at r e g = let a = bind_value _ _ r e in subst (λ (q : Read Network). AllSmall q.item) (same_value _ r a.2) g
body AG net file at r e g = let a = bind_value _ _ r e in subst (λ (q : Read Network). AllSmall q.item) (same_value _ r a.2) g
body VS net file at r e g =
    let a = bind_value _ _ r e in
    subst (λ (q : Read Network). AllSmall q.item) (same_value _ r a.2) (all_snoc SmallFactors net.virtual_storages a.0.item g (read_virtual_storage_lem net file at a.0 a.1))

one_record : (file : List ℕ) (r q : Reading) → read_record file r ≡ value q → AllSmall r.network → AllSmall q.network
unfolding read_record
one_record file r q e g =
    bind_then _ _ q e (λ a a-is e. bind_then _ _ q e (λ b b-is e. bind_then _ _ q e (λ c c-is e. bind_then _ _ q e (λ d d-is e.
    subst (λ (p : Reading). AllSmall p.network) (same_value _ q e) (body c r.network file r.at d d-is g)))))

all_records : (left : ℕ) (file : List ℕ) (r : Reading) (net : Network) → read_records left file r ≡ value net → AllSmall r.network → AllSmall net
unfolding read_records
all_records zero file r net e g = subst AllSmall (same_value r.network net e) g
all_records (suc left) file r net e g = go (λ q k h. all_records left file q net k h) (ltb r.at (length file)) e
  where
    go : ((q : Reading) → read_records left file q ≡ value net → AllSmall q.network → AllSmall net) → (b : Bool)
        → elim b [ true ↦ (read_record file r >>= λ next. read_records left file next) | false ↦ value r.network ] ≡ value net → AllSmall net
    go ih true k = let a = bind_value _ _ net k in ih a.0 a.2 (one_record file r a.0 a.1 g)
    go ih false k = subst AllSmall (same_value r.network net k) g

-- the checks of the whole network change nothing
refused_same : (net m : Network) (o : Option (ℕ × ℕ)) → refused_if net o ≡ value m → net ≡ m
unfolding refused_if
refused_same net m none e = same_value net m e
refused_same net m (some f) e = let z : ◌≡◌ {A = ℕ} 0 1 = cc in absurd (omega arith)

pub read_small : (file : List ℕ) (net : Network) → parse_network file ≡ value net → AllSmall net
unfolding parse_network check_network
read_small file net e =
    bind_then _ _ net e (λ a a-is e. bind_then _ _ net e (λ b b-is e. bind_then _ _ net e (λ c c-is e.
    subst AllSmall (need_value _ 7 0 a b b-is ∙ refused_same b c _ c-is ∙ refused_same c net _ e) (all_records (length file) file _ a a-is (all_none SmallFactors)))))

-- ---- a step's costs

abbrev pub SmallCost : NodeStep → Type 0
SmallCost n = Within 1 n.cost

pub costs_small : (shapes : List NodeShape) (aggregates virtual_storages : ℕ) (file : List ℕ) (f : StepFile) → read_step shapes aggregates virtual_storages file ≡ value f → AllMem SmallCost f.nodes
costs_small shapes aggregates virtual_storages file f e x m = up_to_within x.cost (step_costs_lem shapes aggregates virtual_storages file f e x m)

-- The network file is refused with 1 to 10, 19 and 20 alone, and with an edge's own only where the edge's record stands whole in the file. Assumes nothing.
use mathlib.Core.Path.{◌≡◌, refl, subst}
use Prim.Native.Nat.{ℕ, zero, suc, ◌+◌, ◌≤◌}
use native.Mathlib.Omega.{arith}
use mathlib.Core.Bool.{Bool, true, false, cond, ◌&&◌, ◌||◌}
use mathlib.Core.List.{List, [], ◌∷◌, ◌++◌}
use mathlib.Core.Option.{Option, none, some}
use lib.ListN.{length}
use lib.Dec.{T, leb, ltb, eqb, leb→le, eqb→eq}
use lib.Ieee.{inf, lt, eq}
use lib.Ieee.Fits.{and_l, and_r}
use Rattle.laws.proofs.Tests.{or_l, or_r, or_elim}
use Rattle.pywr.specs.Result.{value, Result, refused, ◌>>=◌, need}
use Rattle.pywr.specs.Bytes.{u16, checked}
use Rattle.pywr.specs.Numbers.{of_pattern}
use Rattle.pywr.specs.Network.{link, Node, Part, Network, is_exclusive, incoming, outgoing}
use Rattle.pywr.specs.NetworkFile.{ND, read_node, ED, read_edge, read_members, read_sets, AG, read_aggregate, read_parts, VS, read_virtual_storage, Mark, rank}
use Rattle.pywr.specs.NetworkFile.{in_order, has_room, read_body, Reading, read_record, read_records, is_empty, unconnected_link, bad_constant, check_network, parse_network}
use Rattle.pywr.proofs.RunLaws.{bind_then}
use Rattle.pywr.proofs.ReadLaws.{need_test}
use Rattle.theorem_refusals.specs.RefusalNumbers.{Among, passed, told, from_to, of_edge, of_others, of_network_file}
use Rattle.theorem_refusals.proofs.Among.{bind_among, need_among, first_among, checked_among, u8_among, u16_among, u32_among, bits_among}

read_node_lem : (file : List ℕ) (at : ℕ) → Among of_others (read_node file at)
unfolding read_node
read_node_lem file at =
    bind_among _ _ (checked_among 3 at _ _ tt (u8_among file at 1 tt (at + 2))) (λ a.
    bind_among _ _ (checked_among 3 at _ _ tt (u8_among file at 1 tt (at + 3))) (λ b.
    bind_among _ _ (checked_among 3 at _ _ tt (bits_among file at 1 tt (at + 4))) (λ c.
    bind_among _ _ (checked_among 3 at _ _ tt (bits_among file at 1 tt (at + 12))) (λ d. passed))))

read_members_lem : (file : List ℕ) (place nodes count : ℕ) (so_far : List ℕ) (at : ℕ) → Among of_others (read_members file place nodes count so_far at)
unfolding read_members
read_members_lem file place nodes zero so_far at = passed
read_members_lem file place nodes (suc count) so_far at =
    bind_among _ _ (checked_among 4 place _ _ tt (u16_among file place 1 tt at)) (λ n. read_members_lem file place nodes count (so_far ++ (n ∷ [])) (at + 2))

read_sets_lem : (file : List ℕ) (place nodes count : ℕ) (so_far : List (List ℕ)) (at : ℕ) → Among of_others (read_sets file place nodes count so_far at)
unfolding read_sets
read_sets_lem file place nodes zero so_far at = passed
read_sets_lem file place nodes (suc count) so_far at =
    bind_among _ _ (checked_among 3 place _ _ tt (u8_among file place 1 tt at)) (λ size.
    bind_among _ _ (read_members_lem file place nodes size [] (at + 1)) (λ m. read_sets_lem file place nodes count (so_far ++ (m.item ∷ [])) m.next))

read_aggregate_lem : (net : Network) (file : List ℕ) (at : ℕ) → Among of_others (read_aggregate net file at)
unfolding read_aggregate
read_aggregate_lem net file at =
    bind_among _ _ (checked_among 3 at _ _ tt (u8_among file at 1 tt (at + 2))) (λ a.
    bind_among _ _ (checked_among 3 at _ _ tt (u8_among file at 1 tt (at + 3))) (λ b.
    bind_among _ _ (checked_among 3 at _ _ tt (u32_among file at 1 tt (at + 4))) (λ c.
    bind_among _ _ (checked_among 3 at _ _ tt (u32_among file at 1 tt (at + 8))) (λ d.
    bind_among _ _ (read_sets_lem file at (length net.nodes) b [] (at + 12)) (λ e. passed)))))

read_parts_lem : (file : List ℕ) (place nodes count : ℕ) (so_far : List Part) (at : ℕ) → Among of_others (read_parts file place nodes count so_far at)
unfolding read_parts
read_parts_lem file place nodes zero so_far at = passed
read_parts_lem file place nodes (suc count) so_far at =
    bind_among _ _ (checked_among 4 place _ _ tt (u16_among file place 1 tt at)) (λ n.
    bind_among _ _ (checked_among 3 place _ _ tt (bits_among file place 1 tt (at + 2))) (λ x. read_parts_lem file place nodes count (so_far ++ (record { node = n; factor = of_pattern x } ∷ [])) (at + 10)))

read_virtual_storage_lem : (net : Network) (file : List ℕ) (at : ℕ) → Among of_others (read_virtual_storage net file at)
unfolding read_virtual_storage
read_virtual_storage_lem net file at =
    bind_among _ _ (checked_among 3 at _ _ tt (u8_among file at 1 tt (at + 2))) (λ a.
    bind_among _ _ (checked_among 3 at _ _ tt (u8_among file at 1 tt (at + 3))) (λ b.
    bind_among _ _ (checked_among 3 at _ _ tt (u8_among file at 1 tt (at + 4))) (λ c.
    bind_among _ _ (checked_among 3 at _ _ tt (u8_among file at 1 tt (at + 5))) (λ d.
    bind_among _ _ (checked_among 3 at _ _ tt (u8_among file at 1 tt (at + 6))) (λ e.
    bind_among _ _ (checked_among 3 at _ _ tt (u8_among file at 1 tt (at + 7))) (λ n.
    bind_among _ _ (read_parts_lem file at (length net.nodes) n [] (at + 8)) (λ p. passed)))))))

in_order_lem : (place stage : ℕ) (o : Option Mark) → Among of_others (in_order place stage o)
unfolding in_order
in_order_lem place stage none = told tt
in_order_lem place stage (some m) = go (leb stage (rank m))
  where
    go : (b : Bool) → Among of_others (cond {A = Result Mark} b (value m) (refused 2 place))
    go true = passed
    go false = told tt

loose_number : (net : Network) (i : ℕ) (x : Node) (n : ℕ) → unconnected_link net i x ≡ some n → T (of_others n)
unfolding unconnected_link
loose_number net i x n e = go (eqb x.kind link && (is_empty (incoming net i) || is_empty (outgoing net i))) e
  where
    go : (b : Bool) → cond {A = Option ℕ} b (some 8) none ≡ some n → T (of_others n)
    go true k = let same : 8 ≡ n = cc in subst (λ (m : ℕ). T (of_others m)) same tt
    go false k = let z : ◌≡◌ {A = ℕ} 0 1 = cc in absurd (omega arith)

bad_number : (net : Network) (i : ℕ) (x : Node) (n : ℕ) → bad_constant net i x ≡ some n → T (of_others n)
unfolding bad_constant
bad_number net i x n e = go (x.constant && lt x.max x.min) (x.constant && is_exclusive net.aggregates i && (eq x.max (inf true) || eq x.min (inf false))) e
  where
    go : (b c : Bool) → cond {A = Option ℕ} b (some 9) (cond {A = Option ℕ} c (some 10) none) ≡ some n → T (of_others n)
    go true c k = let same : 9 ≡ n = cc in subst (λ (m : ℕ). T (of_others m)) same tt
    go false true k = let same : 10 ≡ n = cc in subst (λ (m : ℕ). T (of_others m)) same tt
    go false false k = let z : ◌≡◌ {A = ℕ} 0 1 = cc in absurd (omega arith)

sound_network : (net : Network) → Among of_others (check_network net)
unfolding check_network
sound_network net =
    bind_among _ _ (need_among _ 7 0 net tt) (λ a.
    bind_among _ _ (first_among (unconnected_link a) (loose_number a) 0 a.nodes a) (λ b. first_among (bad_constant b) (bad_number b) 0 b.nodes b))

-- ---- an edge, and the records in turn

-- a value; a refusal that is not an edge's own; or one that is, with four bytes of the file from its place on
data Judged (file : List ℕ) {A : Type 0} : Result A → Type 0 where
  accepted : {x : A} → Judged file (value x)
  other : {number place : ℕ} → T (of_others number) → Judged file (refused number place)
  edge : {number place : ℕ} → T (of_edge number) → place + 4 ≤ length file → Judged file (refused number place)

others : {file : List ℕ} {A : Type 0} (r : Result A) → Among of_others r → Judged file r
others (value x) h = accepted
others (refused n p) (told t) = other t

then_judged : {file : List ℕ} {A B : Type 0} (r : Result A) (k : A → Result B) → Judged file r → ((x : A) → r ≡ value x → Judged file (k x)) → Judged file (r >>= k)
unfolding ◌>>=◌
then_judged (value x) k h g = g x refl
then_judged (refused n p) k (other t) g = other t
then_judged (refused n p) k (edge t l) g = edge t l

need_edge : {file : List ℕ} {A : Type 0} (ok : Bool) (n p : ℕ) (x : A) → T (of_edge n) → p + 4 ≤ length file → Judged file (need ok n p x)
unfolding need
need_edge true n p x t l = accepted
need_edge false n p x t l = edge t l

-- a field that was read stands in the file
field_inside : (file : List ℕ) (place at x : ℕ) (ok : ℕ → Bool) → checked 4 place ok (u16 file place 1 at) ≡ value x → at + 2 ≤ length file
unfolding checked u16
field_inside file place at x ok e = bind_then _ _ x e (λ y y-is _. leb→le (at + 2) (length file) (need_test _ 1 place _ y y-is))

read_edge_lem : (net : Network) (file : List ℕ) (at : ℕ) → Judged file (read_edge net file at)
unfolding read_edge
read_edge_lem net file at =
    then_judged _ _ (others _ (checked_among 4 at _ _ tt (u16_among file at 1 tt (at + 2)))) (λ from _.
    then_judged _ _ (others _ (checked_among 4 at _ _ tt (u16_among file at 1 tt (at + 4)))) (λ to to_is.
    let inside : at + 2 + 4 ≤ length file = (let l = field_inside file at (at + 4) to _ to_is in omega arith) in
    then_judged _ _ (need_edge _ 5 (at + 2) _ tt inside) (λ right_way _.
    then_judged _ _ (need_edge _ 19 (at + 2) right_way tt inside) (λ apart _.
    then_judged _ _ (need_edge _ 20 (at + 2) apart tt inside) (λ unrepeated _. accepted)))))

read_body_lem : (m : Mark) (net : Network) (file : List ℕ) (at : ℕ) → Judged file (read_body m net file at)
unfolding read_body
read_body_lem ND net file at = then_judged _ _ (others _ (read_node_lem file at)) (λ r _. accepted)
read_body_lem ED net file at = then_judged _ _ (read_edge_lem net file at) (λ r _. accepted)
read_body_lem AG net file at = then_judged _ _ (others _ (read_aggregate_lem net file at)) (λ r _. accepted)
read_body_lem VS net file at = then_judged _ _ (others _ (read_virtual_storage_lem net file at)) (λ r _. accepted)

read_record_lem : (file : List ℕ) (r : Reading) → Judged file (read_record file r)
unfolding read_record
read_record_lem file r =
    then_judged _ _ (others _ (need_among _ 1 r.at _ tt)) (λ f _.
    then_judged _ _ (others _ (in_order_lem r.at r.stage f)) (λ m _.
    then_judged _ _ (others _ (need_among (has_room r.network m) 6 r.at m tt)) (λ k _.
    then_judged _ _ (read_body_lem k r.network file r.at) (λ q _. accepted))))

read_records_lem : (left : ℕ) (file : List ℕ) (r : Reading) → Judged file (read_records left file r)
unfolding read_records
read_records_lem zero file r = accepted
read_records_lem (suc left) file r = go (λ q. read_records_lem left file q) (ltb r.at (length file))
  where
    go : ((q : Reading) → Judged file (read_records left file q)) → (b : Bool)
        → Judged file {A = Network} (elim b [ true ↦ (read_record file r >>= λ next. read_records left file next) | false ↦ value r.network ])
    go ih true = then_judged _ _ (read_record_lem file r) (λ next _. ih next)
    go ih false = accepted

network_judged : (file : List ℕ) → Judged file (parse_network file)
unfolding parse_network
network_judged file = then_judged _ _ (read_records_lem (length file) file _) (λ net _. others _ (sound_network net))

pub network_file_numbers : (file : List ℕ) → Among of_network_file (parse_network file)
network_file_numbers file = go (parse_network file) (network_judged file)
  where
    go : (r : Result Network) → Judged file r → Among of_network_file r
    go (value net) h = passed
    go (refused n p) (other t) = told (or_l (of_others n) (of_edge n) t)
    go (refused n p) (edge t l) = told (or_r (of_others n) (of_edge n) t)

-- no number is both
apart : (n : ℕ) → T (of_others n) → T (of_edge n) → ⊥
apart n t u =
    or_elim (eqb n 5) (from_to 19 20 n) u
    (λ five. subst (λ (k : ℕ). T (of_others k)) (eqb→eq n 5 five) t)
    (λ more.
    let low = leb→le 19 n (and_l (leb 19 n) (leb n 20) more) in
    or_elim (from_to 1 4 n) (from_to 6 10 n) t
    (λ few. let high = leb→le n 4 (and_r (leb 1 n) (leb n 4) few) in omega arith)
    (λ few. let high = leb→le n 10 (and_r (leb 6 n) (leb n 10) few) in omega arith))

pub edge_inside : (file : List ℕ) (n p : ℕ) → parse_network file ≡ refused n p → T (of_edge n) → p + 4 ≤ length file
edge_inside file n p e t = go (subst (Judged file) e (network_judged file))
  where
    go : Judged file {A = Network} (refused n p) → p + 4 ≤ length file
    go (other u) = absurd (apart n u t)
    go (edge u l) = l

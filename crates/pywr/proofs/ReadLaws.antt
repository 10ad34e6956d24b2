-- A network that was read is sound: no edge into an input, out of an output, to itself or twice, links with edges in and out, members under the node count,
-- counts within the maxima, and doubles that are bounds. Assumes nothing.
use mathlib.Core.Path.{◌≡◌, refl, sym, ap, ◌∙◌, subst}
use mathlib.Core.Logic.{◌⊎◌, inl, inr, ◌≢◌}
use Prim.Native.Nat.{ℕ, zero, suc, ◌+◌, ◌<◌, ◌≤◌, zero-le}
use native.Mathlib.Nat.{add-suc, suc-add, add-zero, zero-add}
use native.Mathlib.Omega.{arith}
use mathlib.Core.Bool.{Bool, true, false, cond, not, ◌&&◌, ◌||◌}
use mathlib.Core.List.{List, [], ◌∷◌, ◌++◌}
use mathlib.Core.Option.{Option, none, some}
use lib.ListN.{length, get_elem?, length-append, get_or-append}
use lib.Dec.{T, T_not, leb, ltb, eqb, leb→le, ltb→lt}
use lib.Ieee.{inf, lt, eq}
use lib.Ieee.Fits.{and_i, and_r, eq→eqb}
use Rattle.laws.proofs.Tests.{or_l, or_r, cond_yes}
use Rattle.pywr.specs.Result.{value, Result, ◌>>=◌, need, first_refused, refused_if}
use Rattle.pywr.specs.Bytes.{checked}
use Rattle.pywr.specs.Numbers.{is_flow, is_small, of_pattern}
use Rattle.pywr.specs.Network.{input, output, link, Node, Edge, Aggregate, Part, VirtualStorage, Network, no_node, kind_of, is_exclusive, incoming, outgoing}
use Rattle.pywr.specs.NetworkFile.{between, Read, ND, constant_fits, read_node, ED, joins, wrong_way, read_edge, read_members, read_sets, AG}
use Rattle.pywr.specs.NetworkFile.{read_aggregate, read_parts, VS, read_virtual_storage, Mark, has_room, with_node, with_edge, with_aggregate, with_virtual_storage, read_body, Reading}
use Rattle.pywr.specs.NetworkFile.{read_record, read_records, empty_network, is_empty, unconnected_link, bad_constant, check_network, parse_network}
use Rattle.pywr.proofs.BoundLaws.{IsBound}
use Rattle.pywr.proofs.NumberLaws.{flow_bound, FiniteFit, small_is}
use Rattle.pywr.proofs.RunLaws.{bind_then, bind_value, need_value}
use Rattle.pywr.proofs.LinkLaws.{NoSelf}
use Rattle.pywr.proofs.MassLaws.{Joined}
use Rattle.pywr.proofs.ListLaws.{AllMem, all_none, all_snoc, found_mem, not_found, same_some}

-- ---- fields

pub same_value : {A : Type 0} (x y : A) → value x ≡ value y → x ≡ y
same_value x y e = cc

pub need_test : {A : Type 0} (ok : Bool) (n p : ℕ) (x y : A) → need ok n p x ≡ value y → T ok
unfolding need
need_test true n p x y e = tt
need_test false n p x y e = let z : ◌≡◌ {A = ℕ} 0 1 = cc in absurd (omega arith)

pub checked_value : (n p : ℕ) (ok : ℕ → Bool) (field : Result ℕ) (x : ℕ) → checked n p ok field ≡ value x → T (ok x)
unfolding checked
checked_value n p ok field x e =
    let a = bind_value field _ x e in
    subst (λ (y : ℕ). T (ok y)) (need_value (ok a.0) n p a.0 x a.2) (need_test (ok a.0) n p a.0 x a.2)

-- ---- nodes and edges

between_most : (least most n : ℕ) → T (between least most n) → n ≤ most
unfolding between
between_most least most n t = leb→le n most (and_r (leb least n) (leb n most) t)

pub record NodeOk (x : Node) : Type 0 where
  pub kind_most : x.kind ≤ 3
  pub least : T x.constant → IsBound x.min
  pub most : T x.constant → IsBound x.max

read_node_lem : (file : List ℕ) (at : ℕ) (r : Read Node) → read_node file at ≡ value r → NodeOk r.item
unfolding read_node constant_fits
read_node_lem file at r e =
    bind_then _ _ r e (λ a a-is e. bind_then _ _ r e (λ b b-is e. bind_then _ _ r e (λ c c-is e. bind_then _ _ r e (λ d d-is e.
    let flows : (bits : ℕ) → T (constant_fits b bits) → T (eqb b 1) → T (is_flow bits) = (λ bits t k. subst T (cond_yes (eqb b 1) (is_flow bits) (eqb bits 0) k) t) in
    subst (λ (q : Read Node). NodeOk q.item) (same_value _ r e)
    (record {
      kind_most = between_most 0 3 a (checked_value 3 at (between 0 3) _ a a-is);
      least = λ t. flow_bound c (flows c (checked_value 3 at (constant_fits b) _ c c-is) t);
      most = λ t. flow_bound d (flows d (checked_value 3 at (constant_fits b) _ d d-is) t);
    })))))

pub record EdgeOk (nodes : List Node) (x : Edge) : Type 0 where
  pub from_under : x.from < length nodes
  pub to_under : x.to < length nodes
  pub into_no_input : kind_of nodes x.to ≢ input
  pub out_of_no_output : kind_of nodes x.from ≢ output
  pub apart : x.from ≢ x.to

-- no edge stands twice
abbrev pub Unrepeated : List Edge → Type 0
Unrepeated es = (i j : ℕ) (x : Edge) → get_elem? es i ≡ some x → get_elem? es j ≡ some x → i ≡ j

joins_found : (es : List Edge) (i : ℕ) (x : Edge) → get_elem? es i ≡ some x → T (joins es x.from x.to)
unfolding joins
joins_found [] i x h = not_found x h
joins_found (y ∷ ys) zero x h =
    let q = same_some y x h in
    or_l (eqb y.from x.from && eqb y.to x.to) (joins ys x.from x.to)
    (and_i (eqb y.from x.from) (eqb y.to x.to) (eq→eqb (ap (λ (z : Edge). z.from) q)) (eq→eqb (ap (λ (z : Edge). z.to) q)))
joins_found (y ∷ ys) (suc i) x h = or_r (eqb y.from x.from && eqb y.to x.to) (joins ys x.from x.to) (joins_found ys i x h)

-- an element of a list with one more behind it is the one, or an element of the list
snoc_found : {A : Type 0} (xs : List A) (y x : A) (i : ℕ) → get_elem? (xs ++ (y ∷ [])) i ≡ some x → ((i ≡ length xs) × (y ≡ x)) ⊎ (get_elem? xs i ≡ some x)
snoc_found [] y x zero h = inl (refl, same_some y x h)
snoc_found [] y x (suc i) h = not_found x h
snoc_found (z ∷ zs) y x zero h = inr h
snoc_found (z ∷ zs) y x (suc i) h = more (snoc_found zs y x i h)
  where
    more : ((i ≡ length zs) × (y ≡ x)) ⊎ (get_elem? zs i ≡ some x) → ((suc i ≡ suc (length zs)) × (y ≡ x)) ⊎ (get_elem? zs i ≡ some x)
    more (inl q) = inl (ap suc q.0, q.1)
    more (inr q) = inr q

unrepeated_snoc : (es : List Edge) (y : Edge) → T (not (joins es y.from y.to)) → Unrepeated es → Unrepeated (es ++ (y ∷ []))
unrepeated_snoc es y fresh u i j x h k = go (snoc_found es y x i h) (snoc_found es y x j k)
  where
    never : (l : ℕ) → y ≡ x → get_elem? es l ≡ some x → i ≡ j
    never l q f = absurd (T_not (joins es y.from y.to) fresh (joins_found es l y (f ∙ ap {B = Option Edge} some (sym q))))

    go : ((i ≡ length es) × (y ≡ x)) ⊎ (get_elem? es i ≡ some x) → ((j ≡ length es) × (y ≡ x)) ⊎ (get_elem? es j ≡ some x) → i ≡ j
    go (inl p) (inl q) = p.0 ∙ sym q.0
    go (inl p) (inr f) = never j p.1 f
    go (inr f) (inl q) = never i q.1 f
    go (inr f) (inr g) = u i j x f g

read_edge_lem : (net : Network) (file : List ℕ) (at : ℕ) (r : Read Edge) → read_edge net file at ≡ value r
    → EdgeOk net.nodes r.item × T (not (joins net.edges r.item.from r.item.to))
unfolding read_edge wrong_way
read_edge_lem net file at r e =
    bind_then _ _ r e (λ from from_is e. bind_then _ _ r e (λ to to_is e.
    bind_then _ _ r e (λ right_way rightWay-is e. bind_then _ _ r e (λ apart apart-is e. bind_then _ _ r e (λ unrepeated unrepeated-is e.
    let under : ℕ → Bool = (λ (n : ℕ). ltb n (length net.nodes)) in
    let into : Bool = eqb (kind_of net.nodes to) input in
    let right : T (not (wrong_way net.nodes from to)) = need_test _ _ _ _ right_way rightWay-is in
    let differ : T (not (eqb from to)) = need_test _ _ _ right_way apart apart-is in
    let fresh : T (not (joins net.edges from to)) = need_test _ _ _ apart unrepeated unrepeated-is in
    let edge : Edge = record { from = from; to = to } in
    let same : edge ≡ r.item =
    need_value _ _ _ edge right_way rightWay-is
    ∙ need_value _ _ _ right_way apart apart-is
    ∙ need_value _ _ _ apart unrepeated unrepeated-is
    ∙ ap (λ (q : Read Edge). q.item) (same_value _ r e) in
    subst (λ (x : Edge). EdgeOk net.nodes x × T (not (joins net.edges x.from x.to))) same (
      record {
        from_under = ltb→lt from (length net.nodes) (checked_value 4 at under _ from from_is);
        to_under = ltb→lt to (length net.nodes) (checked_value 4 at under _ to to_is);
        into_no_input = λ q. T_not (wrong_way net.nodes from to) right (or_l into _ (eq→eqb q));
        out_of_no_output = λ q. T_not (wrong_way net.nodes from to) right (or_r into (eqb (kind_of net.nodes from) output) (eq→eqb q));
        apart = λ q. T_not (eqb from to) differ (eq→eqb q);
      },
      fresh,
    ))))))

-- ---- aggregates

pub record SetOk (nodes : ℕ) (s : List ℕ) : Type 0 where
  pub members : AllMem (λ (n : ℕ). n < nodes) s
  pub small : length s ≤ 16

read_members_lem : (file : List ℕ) (place nodes count : ℕ) (so_far : List ℕ) (at : ℕ) (r : Read (List ℕ)) → read_members file place nodes count so_far at ≡ value r → AllMem (λ (n : ℕ). n < nodes) so_far
    → AllMem (λ (n : ℕ). n < nodes) r.item × (length r.item ≡ length so_far + count)
unfolding read_members
read_members_lem file place nodes zero so_far at r e h =
    subst (λ (q : Read (List ℕ)). AllMem (λ (n : ℕ). n < nodes) q.item × (length q.item ≡ length so_far + 0)) (same_value _ r e) (h, sym (add-zero (length so_far)))
read_members_lem file place nodes (suc count) so_far at r e h =
    let a = bind_value _ _ r e in
    let n : ℕ = a.0 in
    let ih = read_members_lem file place nodes count (so_far ++ (n ∷ [])) (at + 2) r a.2
    (all_snoc (λ (m : ℕ). m < nodes) so_far n h (ltb→lt n nodes (checked_value 4 place (λ (m : ℕ). ltb m nodes) _ n a.1))) in
    let l = length-append so_far (n ∷ []) in
    (ih.0, ih.1 ∙ (let k : length (so_far ++ (n ∷ [])) + count ≡ length so_far + suc count = omega arith in k))

read_sets_lem : (file : List ℕ) (place nodes count : ℕ) (so_far : List (List ℕ)) (at : ℕ) (r : Read (List (List ℕ))) → read_sets file place nodes count so_far at ≡ value r → AllMem (SetOk nodes) so_far
    → AllMem (SetOk nodes) r.item × (length r.item ≡ length so_far + count)
unfolding read_sets
read_sets_lem file place nodes zero so_far at r e h =
    subst (λ (q : Read (List (List ℕ))). AllMem (SetOk nodes) q.item × (length q.item ≡ length so_far + 0)) (same_value _ r e) (h, sym (add-zero (length so_far)))
read_sets_lem file place nodes (suc count) so_far at r e h =
    bind_then _ _ r e (λ size size_is e. bind_then _ _ r e (λ m m-is e.
    let k = read_members_lem file place nodes size [] (at + 1) m m-is (all_none (λ (n : ℕ). n < nodes)) in
    let few = between_most 1 16 size (checked_value 3 place (between 1 16) _ size size_is) in
    let long : length m.item ≡ 0 + size = k.1 in
    let ih = read_sets_lem file place nodes count (so_far ++ (m.item ∷ [])) m.next r e
    (all_snoc (SetOk nodes) so_far m.item h (record { members = k.0; small = omega arith })) in
    let l = length-append so_far (m.item ∷ []) in
    (ih.0, ih.1 ∙ (let j : length (so_far ++ (m.item ∷ [])) + count ≡ length so_far + suc count = omega arith in j))))

pub record AggregateOk (nodes : ℕ) (a : Aggregate) : Type 0 where
  pub sets : AllMem (SetOk nodes) a.sets
  pub few : length a.sets ≤ 16

read_aggregate_lem : (net : Network) (file : List ℕ) (at : ℕ) (r : Read Aggregate) → read_aggregate net file at ≡ value r → AggregateOk (length net.nodes) r.item
unfolding read_aggregate
read_aggregate_lem net file at r e =
    bind_then _ _ r e (λ a a-is e. bind_then _ _ r e (λ count count_is e. bind_then _ _ r e (λ c c-is e. bind_then _ _ r e (λ d d-is e. bind_then _ _ r e (λ m m-is e.
    let k = read_sets_lem file at (length net.nodes) count [] (at + 12) m m-is (all_none (SetOk (length net.nodes))) in
    let few = between_most 1 16 count (checked_value 3 at (between 1 16) _ count count_is) in
    let long : length m.item ≡ 0 + count = k.1 in
    subst (λ (q : Read Aggregate). AggregateOk (length net.nodes) q.item) (same_value _ r e) (record { sets = k.0; few = omega arith }))))))

-- ---- virtual storages

abbrev pub PartOk : Part → Type 0
PartOk p = FiniteFit p.factor

read_parts_lem : (file : List ℕ) (place nodes count : ℕ) (so_far : List Part) (at : ℕ) (r : Read (List Part)) → read_parts file place nodes count so_far at ≡ value r → AllMem PartOk so_far
    → AllMem PartOk r.item × (length r.item ≡ length so_far + count)
unfolding read_parts
read_parts_lem file place nodes zero so_far at r e h =
    subst (λ (q : Read (List Part)). AllMem PartOk q.item × (length q.item ≡ length so_far + 0)) (same_value _ r e) (h, sym (add-zero (length so_far)))
read_parts_lem file place nodes (suc count) so_far at r e h =
    bind_then _ _ r e (λ a a-is e. bind_then _ _ r e (λ b b-is e.
    let p : Part = record { node = a; factor = of_pattern b } in
    let s = small_is b (checked_value 3 place is_small _ b b-is) in
    let ih = read_parts_lem file place nodes count (so_far ++ (p ∷ [])) (at + 10) r e (all_snoc PartOk so_far p h s) in
    let l = length-append so_far (p ∷ []) in
    (ih.0, ih.1 ∙ (let j : length (so_far ++ (p ∷ [])) + count ≡ length so_far + suc count = omega arith in j))))

pub record VirtualStorageOk (v : VirtualStorage) : Type 0 where
  pub parts : AllMem PartOk v.parts
  pub few : length v.parts ≤ 64

read_virtual_storage_lem : (net : Network) (file : List ℕ) (at : ℕ) (r : Read VirtualStorage) → read_virtual_storage net file at ≡ value r → VirtualStorageOk r.item
unfolding read_virtual_storage
read_virtual_storage_lem net file at r e =
    bind_then _ _ r e (λ a a-is e. bind_then _ _ r e
    (λ b b-is e. bind_then _ _ r e (λ c c-is e. bind_then _ _ r e (λ d d-is e. bind_then _ _ r e (λ g g-is e. bind_then _ _ r e (λ count count_is e. bind_then _ _ r e (λ m m-is e.
    let k = read_parts_lem file at (length net.nodes) count [] (at + 8) m m-is (all_none PartOk) in
    let few = between_most 1 64 count (checked_value 3 at (between 1 64) _ count count_is) in
    let long : length m.item ≡ 0 + count = k.1 in
    subst (λ (q : Read VirtualStorage). VirtualStorageOk q.item) (same_value _ r e) (record { parts = k.0; few = omega arith }))))))))

-- ---- what every record keeps

pub record Good (net : Network) : Type 0 where
  pub nodes : AllMem NodeOk net.nodes
  pub edges : AllMem (EdgeOk net.nodes) net.edges
  pub unrepeated : Unrepeated net.edges
  pub aggregates : AllMem (AggregateOk (length net.nodes)) net.aggregates
  pub virtual_storages : AllMem VirtualStorageOk net.virtual_storages
  pub node_count : length net.nodes ≤ 256
  pub edge_count : length net.edges ≤ 512
  pub aggregate_count : length net.aggregates ≤ 64
  pub virtual_storage_count : length net.virtual_storages ≤ 32

more_nodes : (n m : ℕ) → n ≤ m → (a : Aggregate) → AggregateOk n a → AggregateOk m a
more_nodes n m h a ok =
    record {
      sets = λ s k. let t = ok.sets s k in record { members = λ x j. let l : x < n = t.members x j in omega arith; small = t.small };
      few = ok.few;
    }

kind_kept : (nodes : List Node) (node : Node) (n : ℕ) → n < length nodes → kind_of (nodes ++ (node ∷ [])) n ≡ kind_of nodes n
unfolding kind_of
kind_kept nodes node n h = ap (λ (x : Node). x.kind) (get_or-append nodes (node ∷ []) no_node n h)

more_ends : (nodes : List Node) (node : Node) (x : Edge) → EdgeOk nodes x → EdgeOk (nodes ++ (node ∷ [])) x
more_ends nodes node x ok =
    let l = length-append nodes (node ∷ []) in
    record {
      from_under = (let h = ok.from_under in omega arith);
      to_under = (let h = ok.to_under in omega arith);
      into_no_input = λ q. ok.into_no_input (sym (kind_kept nodes node x.to ok.to_under) ∙ q);
      out_of_no_output = λ q. ok.out_of_no_output (sym (kind_kept nodes node x.from ok.from_under) ∙ q);
      apart = ok.apart;
    }

body : (m : Mark) (net : Network) (file : List ℕ) (at : ℕ) (r : Read Network) → T (has_room net m) → read_body m net file at ≡ value r → Good net → Good r.item
unfolding read_body has_room with_node with_edge with_aggregate with_virtual_storage
body ND net file at r room e g =
    let a = bind_value _ _ r e in
    let x : Node = a.0.item in
    let l = length-append net.nodes (x ∷ []) in
    let h = ltb→lt (length net.nodes) 256 room in
    subst (λ (q : Read Network). Good q.item) (same_value _ r a.2)
    (record {
      nodes = all_snoc NodeOk net.nodes x g.nodes (read_node_lem file at a.0 a.1);
      edges = λ y k. more_ends net.nodes x y (g.edges y k);
      unrepeated = g.unrepeated;
      aggregates = λ y k. more_nodes (length net.nodes) (length (net.nodes ++ (x ∷ []))) (omega arith) y (g.aggregates y k);
      virtual_storages = g.virtual_storages;
      node_count = omega arith;
      edge_count = g.edge_count;
      aggregate_count = g.aggregate_count;
      virtual_storage_count = g.virtual_storage_count;
    })
body ED net file at r room e g =
    let a = bind_value _ _ r e in
    let x : Edge = a.0.item in
    let l = length-append net.edges (x ∷ []) in
    let h = ltb→lt (length net.edges) 512 room in
    subst (λ (q : Read Network). Good q.item) (same_value _ r a.2)
    (record {
      nodes = g.nodes;
      edges = all_snoc (EdgeOk net.nodes) net.edges x g.edges (read_edge_lem net file at a.0 a.1).0;
      unrepeated = unrepeated_snoc net.edges x (read_edge_lem net file at a.0 a.1).1 g.unrepeated;
      aggregates = g.aggregates;
      virtual_storages = g.virtual_storages;
      node_count = g.node_count;
      edge_count = omega arith;
      aggregate_count = g.aggregate_count;
      virtual_storage_count = g.virtual_storage_count;
    })
body AG net file at r room e g =
    let a = bind_value _ _ r e in
    let x : Aggregate = a.0.item in
    let l = length-append net.aggregates (x ∷ []) in
    let h = ltb→lt (length net.aggregates) 64 room in
    subst (λ (q : Read Network). Good q.item) (same_value _ r a.2)
    (record {
      nodes = g.nodes;
      edges = g.edges;
      unrepeated = g.unrepeated;
      aggregates = all_snoc (AggregateOk (length net.nodes)) net.aggregates x g.aggregates (read_aggregate_lem net file at a.0 a.1);
      virtual_storages = g.virtual_storages;
      node_count = g.node_count;
      edge_count = g.edge_count;
      aggregate_count = omega arith;
      virtual_storage_count = g.virtual_storage_count;
    })
body VS net file at r room e g =
    let a = bind_value _ _ r e in
    let x : VirtualStorage = a.0.item in
    let l = length-append net.virtual_storages (x ∷ []) in
    let h = ltb→lt (length net.virtual_storages) 32 room in
    subst (λ (q : Read Network). Good q.item) (same_value _ r a.2)
    (record {
      nodes = g.nodes;
      edges = g.edges;
      unrepeated = g.unrepeated;
      aggregates = g.aggregates;
      virtual_storages = all_snoc VirtualStorageOk net.virtual_storages x g.virtual_storages (read_virtual_storage_lem net file at a.0 a.1);
      node_count = g.node_count;
      edge_count = g.edge_count;
      aggregate_count = g.aggregate_count;
      virtual_storage_count = omega arith;
    })

one_record : (file : List ℕ) (r q : Reading) → read_record file r ≡ value q → Good r.network → Good q.network
unfolding read_record
one_record file r q e g =
    bind_then _ _ q e (λ a a-is e. bind_then _ _ q e (λ b b-is e. bind_then _ _ q e (λ c c-is e. bind_then _ _ q e (λ d d-is e.
    let room : T (has_room r.network c) =
    subst (λ (m : Mark). T (has_room r.network m)) (need_value _ 6 r.at b c c-is) (need_test (has_room r.network b) 6 r.at b c c-is) in
    subst (λ (p : Reading). Good p.network) (same_value _ q e) (body c r.network file r.at d room d-is g)))))

all_records : (left : ℕ) (file : List ℕ) (r : Reading) (net : Network) → read_records left file r ≡ value net → Good r.network → Good net
unfolding read_records
all_records zero file r net e g = subst Good (same_value r.network net e) g
all_records (suc left) file r net e g = go (λ q k h. all_records left file q net k h) (ltb r.at (length file)) e
  where
    go : ((q : Reading) → read_records left file q ≡ value net → Good q.network → Good net) → (b : Bool)
        → elim b [ true ↦ (read_record file r >>= λ next. read_records left file next) | false ↦ value r.network ] ≡ value net → Good net
    go ih true k = let a = bind_value _ _ net k in ih a.0 a.2 (one_record file r a.0 a.1 g)
    go ih false k = subst Good (same_value r.network net k) g

good_empty : Good empty_network
good_empty =
    record {
      nodes = all_none NodeOk;
      edges = all_none (EdgeOk []);
      unrepeated = λ i j x h k. not_found x h;
      aggregates = all_none (AggregateOk 0);
      virtual_storages = all_none VirtualStorageOk;
      node_count = zero-le;
      edge_count = zero-le;
      aggregate_count = zero-le;
      virtual_storage_count = zero-le;
    }

-- ---- 8, 9 and 10

unless_value : (net m : Network) (o : Option (ℕ × ℕ)) → refused_if net o ≡ value m → (o ≡ none) × (net ≡ m)
unfolding refused_if
unless_value net m none e = (refl, same_value net m e)
unless_value net m (some f) e = let z : ◌≡◌ {A = ℕ} 0 1 = cc in absurd (omega arith)

none_refused : (test : ℕ → Node → Option ℕ) (i : ℕ) (xs : List Node) → first_refused test i xs ≡ none → (j : ℕ) (x : Node) → get_elem? xs j ≡ some x → test (i + j) x ≡ none
unfolding first_refused
none_refused test i [] e j x h = not_found x h
none_refused test i (y ∷ ys) e j x h = go (λ k l h'. none_refused test (suc i) ys k l x h') (test i y) refl e j h
  where
    go : (first_refused test (suc i) ys ≡ none → (l : ℕ) → get_elem? ys l ≡ some x → test (suc i + l) x ≡ none) → (o : Option ℕ) → test i y ≡ o
        → ◌≡◌ {A = Option (ℕ × ℕ)} (elim o [ none ↦ first_refused test (suc i) ys | some number ↦ some (number, i) ]) none → (j : ℕ) → get_elem? (y ∷ ys) j ≡ some x → test (i + j) x ≡ none
    go ih none q k zero h' = ap (λ (m : ℕ). test m x) (add-zero i) ∙ ap (test i) (sym (same_some y x h')) ∙ q
    go ih none q k (suc j) h' = ap (λ (m : ℕ). test m x) (add-suc i j ∙ sym (suc-add i j)) ∙ ih k j h'
    go ih (some number) q k j h' = let z : ◌≡◌ {A = ℕ} 0 1 = cc in absurd (omega arith)

joined_of : (net : Network) (n : ℕ) (k : Bool) (ins outs : List ℕ) → incoming net n ≡ ins → outgoing net n ≡ outs → T k
    → cond {A = Option ℕ} (k && (is_empty ins || is_empty outs)) (some 8) none ≡ none → Joined net n
unfolding is_empty
joined_of net n false ins outs hi ho t e = absurd t
joined_of net n true [] outs hi ho t e = let z : ◌≡◌ {A = ℕ} 0 1 = cc in absurd (omega arith)
joined_of net n true (a ∷ mi) [] hi ho t e = let z : ◌≡◌ {A = ℕ} 0 1 = cc in absurd (omega arith)
joined_of net n true (a ∷ mi) (b ∷ mo) hi ho t e = record { a = a; b = b; mi = mi; mo = mo; ins = hi; outs = ho }

-- the coefficients of an exclusive constant node are finite
pub record CoefficientsOk (x : Node) : Type 0 where
  pub most : T (not (eq x.max (inf true)))
  pub least : T (not (eq x.min (inf false)))

coefficients_of : (c crossed ex up down : Bool) → T c → T ex
    → cond {A = Option ℕ} (c && crossed) (some 9) (cond {A = Option ℕ} (c && ex && (up || down)) (some 10) none) ≡ none → T (not up) × T (not down)
coefficients_of false crossed ex up down t u e = absurd t
coefficients_of true true ex up down t u e = let z : ◌≡◌ {A = ℕ} 0 1 = cc in absurd (omega arith)
coefficients_of true false false up down t u e = absurd u
coefficients_of true false true true down t u e = let z : ◌≡◌ {A = ℕ} 0 1 = cc in absurd (omega arith)
coefficients_of true false true false true t u e = let z : ◌≡◌ {A = ℕ} 0 1 = cc in absurd (omega arith)
coefficients_of true false true false false t u e = (tt, tt)

-- ---- the whole file

pub record Sound (net : Network) : Type 0 where
  pub good : Good net
  pub noself : NoSelf net
  pub links : (i : ℕ) (x : Node) → get_elem? net.nodes i ≡ some x → T (eqb x.kind link) → Joined net i
  pub coefficients : (i : ℕ) (x : Node) → get_elem? net.nodes i ≡ some x → T x.constant → T (is_exclusive net.aggregates i) → CoefficientsOk x

pub read_sound : (file : List ℕ) (net : Network) → parse_network file ≡ value net → Sound net
unfolding parse_network check_network unconnected_link bad_constant
read_sound file net e =
    bind_then _ _ net e (λ a a-is e. bind_then _ _ net e (λ b b-is e. bind_then _ _ net e (λ c c-is e.
    let n7 : a ≡ b = need_value _ 7 0 a b b-is in
    let n8 = unless_value b c _ c-is in
    let n9 = unless_value c net _ e in
    let good : Good net = subst Good (n7 ∙ n8.1 ∙ n9.1) (all_records (length file) file _ a a-is good_empty) in
    let edgeless_inputs : first_refused (unconnected_link net) 0 net.nodes ≡ none = subst (λ (m : Network). first_refused (unconnected_link m) 0 m.nodes ≡ none) (n8.1 ∙ n9.1) n8.0 in
    let bad : first_refused (bad_constant net) 0 net.nodes ≡ none = subst (λ (m : Network). first_refused (bad_constant m) 0 m.nodes ≡ none) n9.1 n9.0 in
    record {
      good = good;
      noself = λ i x h. (good.edges x (found_mem net.edges i x h)).apart;
      links = λ i x h t.
          joined_of net i (eqb x.kind link) (incoming net i) (outgoing net i) refl refl t
          (subst (λ (m : ℕ). unconnected_link net m x ≡ none) (zero-add i) (none_refused (unconnected_link net) 0 net.nodes edgeless_inputs i x h));
      coefficients = λ i x h t u.
          let r = coefficients_of x.constant (lt x.max x.min) (is_exclusive net.aggregates i) (eq x.max (inf true)) (eq x.min (inf false)) t u
          (subst (λ (m : ℕ). bad_constant net m x ≡ none) (zero-add i) (none_refused (bad_constant net) 0 net.nodes bad i x h)) in
          record { most = r.0; least = r.1 };
    })))

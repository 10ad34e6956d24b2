-- The first 63,490 bytes of a network file decide the build's answer, and a file that is accepted has at most 63,488. Assumes nothing.
use mathlib.Core.Path.{◌≡◌, refl, subst}
use Prim.Native.Nat.{ℕ, zero, suc, ◌+◌, ◌*◌, ◌≤◌}
use native.Mathlib.Omega.{arith}
use mathlib.Core.Bool.{Bool, true, false, not}
use mathlib.Core.List.{List, [], ◌∷◌, ◌++◌}
use lib.ListN.{length, length-append}
use lib.Dec.{T, leb, ltb, leb→le, ltb→lt, nltb→le}
use lib.Ieee.Fits.{and_r}
use borrow.Author.Tests.{lt-ltb}
use Rattle.pywr.specs.Result.{value, Result, refused, ◌>>=◌, need}
use Rattle.pywr.specs.Bytes.{within, checked}
use Rattle.pywr.specs.Network.{Node, Edge, Aggregate, Part, VirtualStorage, Network}
use Rattle.pywr.specs.NetworkFile.{between, Read, read_node, read_edge, read_members, read_sets, read_aggregate, read_parts, read_virtual_storage, Mark, ND, ED, AG}
use Rattle.pywr.specs.NetworkFile.{VS, mark_at, has_room, with_node, with_edge, with_aggregate, with_virtual_storage, read_body, Reading, read_record, read_records, empty_network, parse_network}
use Rattle.pywr.specs.Build.{build}
use Rattle.pywr.specs.Calls.{build_answer, build_store, is_accepted}
use Rattle.pywr.proofs.RunLaws.{bind_then, bind_value, need_value}
use Rattle.pywr.proofs.ReadLaws.{same_value, need_test, checked_value}
use Rattle.theorem_prefixes.specs.Prefix.{longest_aggregate, longest_virtual_storage, longest_network, network_prefix, BuildByPrefix}
use Rattle.theorem_prefixes.specs.Prefix.{BuildAnswerByPrefix, BuildStoreByPrefix, AfterBuildByPrefix, AcceptedNetworkLength}
use Rattle.theorem_prefixes.proofs.SameBytes.{bind_both, ends, Same, by_prefix, within_same, mark_same, u8_same, u16_same, u32_same, bits64_same}

-- ---- where a record ends

at_most : (place least most : ℕ) (field : Result ℕ) (x : ℕ) → checked 3 place (between least most) field ≡ value x → x ≤ most
unfolding between
at_most place least most field x e = leb→le x most (and_r (leb least x) (leb x most) (checked_value 3 place (between least most) field x e))

module _ (file : List ℕ) where
  node_end : (at : ℕ) (r : Read Node) → read_node file at ≡ value r → at + 20 ≡ r.next
  unfolding read_node
  node_end at r e = bind_then _ _ r e (λ a _ e. bind_then _ _ r e (λ b _ e. bind_then _ _ r e (λ c _ e. bind_then _ _ r e (λ d _ e. ends _ r e))))

  edge_end : (net : Network) (at : ℕ) (r : Read Edge) → read_edge net file at ≡ value r → at + 6 ≡ r.next
  unfolding read_edge
  edge_end net at r e =
      bind_then _ _ r e (λ a _ e. bind_then _ _ r e (λ b _ e. bind_then _ _ r e (λ c _ e. bind_then _ _ r e (λ d _ e. bind_then _ _ r e (λ x _ e. ends _ r e)))))

  module _ (place nodes : ℕ) where
    members_end : (count : ℕ) (so_far : List ℕ) (at : ℕ) (r : Read (List ℕ)) → read_members file place nodes count so_far at ≡ value r → r.next ≡ at + 2 * count
    unfolding read_members
    members_end zero so_far at r e = let k = ends _ r e in omega arith
    members_end (suc count) so_far at r e =
        bind_then _ _ r e (λ n _ e. let k = members_end count (so_far ++ (n ∷ [])) (at + 2) r e in omega arith)

    sets_end : (count : ℕ) (so_far : List (List ℕ)) (at : ℕ) (r : Read (List (List ℕ))) → read_sets file place nodes count so_far at ≡ value r → r.next ≤ at + 33 * count
    unfolding read_sets
    sets_end zero so_far at r e = let k = ends _ r e in omega arith
    sets_end (suc count) so_far at r e =
        bind_then _ _ r e (λ size size_is e. bind_then _ _ r e (λ m m-is e.
        let few = at_most place 1 16 _ size size_is in
        let k = members_end size [] (at + 1) m m-is in
        let l = sets_end count (so_far ++ (m.item ∷ [])) m.next r e in
        omega arith))

    parts_end : (count : ℕ) (so_far : List Part) (at : ℕ) (r : Read (List Part)) → read_parts file place nodes count so_far at ≡ value r → r.next ≡ at + 10 * count
    unfolding read_parts
    parts_end zero so_far at r e = let k = ends _ r e in omega arith
    parts_end (suc count) so_far at r e =
        bind_then _ _ r e (λ n _ e. bind_then _ _ r e (λ x _ e. let k = parts_end count _ (at + 10) r e in omega arith))

  aggregate_end_lem : (net : Network) (at : ℕ) (r : Read Aggregate) → read_aggregate net file at ≡ value r → r.next ≤ at + longest_aggregate
  unfolding read_aggregate
  aggregate_end_lem net at r e =
      bind_then _ _ r e (λ a _ e. bind_then _ _ r e (λ count count_is e. bind_then _ _ r e (λ c _ e. bind_then _ _ r e (λ d _ e. bind_then _ _ r e (λ m m-is e.
      let few = at_most at 1 16 _ count count_is in
      let k = sets_end at (length net.nodes) count [] (at + 12) m m-is in
      let l = ends _ r e in
      omega arith)))))

  virtual_storage_end_lem : (net : Network) (at : ℕ) (r : Read VirtualStorage) → read_virtual_storage net file at ≡ value r → r.next ≤ at + longest_virtual_storage
  unfolding read_virtual_storage
  virtual_storage_end_lem net at r e =
      bind_then _ _ r e (λ a _ e. bind_then _ _ r e
      (λ b _ e. bind_then _ _ r e (λ c _ e. bind_then _ _ r e (λ d _ e. bind_then _ _ r e (λ g _ e. bind_then _ _ r e (λ count count_is e. bind_then _ _ r e (λ m m-is e.
      let few = at_most at 1 64 _ count count_is in
      let k = parts_end at (length net.nodes) count [] (at + 8) m m-is in
      let l = ends _ r e in
      omega arith)))))))

-- ---- how far the records of a network reach

abbrev record_count : Network → ℕ
record_count net = length net.nodes + length net.edges + length net.aggregates + length net.virtual_storages

record Bounded (net : Network) (at : ℕ) : Type 0 where
  nodes : length net.nodes ≤ 256
  edges : length net.edges ≤ 512
  aggregates : length net.aggregates ≤ 64
  virtual_storages : length net.virtual_storages ≤ 32
  reach : at ≤ 20 * length net.nodes + 6 * length net.edges + longest_aggregate * length net.aggregates + longest_virtual_storage * length net.virtual_storages

record OneMore (net : Network) (r : Read Network) : Type 0 where
  bounded : Bounded r.item r.next
  count : record_count r.item ≡ suc (record_count net)

body_end : (m : Mark) (net : Network) (file : List ℕ) (at : ℕ) (r : Read Network) → T (has_room net m) → Bounded net at → read_body m net file at ≡ value r → OneMore net r
unfolding read_body has_room with_node with_edge with_aggregate with_virtual_storage
body_end ND net file at r room b e =
    let a = bind_value _ _ r e in
    let l = length-append net.nodes (a.0.item ∷ []) in
    let h = ltb→lt (length net.nodes) 256 room in
    let k = node_end file at a.0 a.1 in
    subst (OneMore net) (same_value _ r a.2)
    (record { bounded = record { nodes = omega arith; edges = b.edges; aggregates = b.aggregates; virtual_storages = b.virtual_storages; reach = omega arith }; count = omega arith })
body_end ED net file at r room b e =
    let a = bind_value _ _ r e in
    let l = length-append net.edges (a.0.item ∷ []) in
    let h = ltb→lt (length net.edges) 512 room in
    let k = edge_end file net at a.0 a.1 in
    subst (OneMore net) (same_value _ r a.2)
    (record { bounded = record { nodes = b.nodes; edges = omega arith; aggregates = b.aggregates; virtual_storages = b.virtual_storages; reach = omega arith }; count = omega arith })
body_end AG net file at r room b e =
    let a = bind_value _ _ r e in
    let l = length-append net.aggregates (a.0.item ∷ []) in
    let h = ltb→lt (length net.aggregates) 64 room in
    let k = aggregate_end_lem file net at a.0 a.1 in
    subst (OneMore net) (same_value _ r a.2)
    (record { bounded = record { nodes = b.nodes; edges = b.edges; aggregates = omega arith; virtual_storages = b.virtual_storages; reach = omega arith }; count = omega arith })
body_end VS net file at r room b e =
    let a = bind_value _ _ r e in
    let l = length-append net.virtual_storages (a.0.item ∷ []) in
    let h = ltb→lt (length net.virtual_storages) 32 room in
    let k = virtual_storage_end_lem file net at a.0 a.1 in
    subst (OneMore net) (same_value _ r a.2)
    (record { bounded = record { nodes = b.nodes; edges = b.edges; aggregates = b.aggregates; virtual_storages = omega arith; reach = omega arith }; count = omega arith })

-- the mark that passed 6
room_of : (net : Network) (place : ℕ) (mark known : Mark) → need (has_room net mark) 6 place mark ≡ value known → T (has_room net known)
room_of net place mark known e = subst (λ (m : Mark). T (has_room net m)) (need_value _ 6 place mark known e) (need_test (has_room net mark) 6 place mark known e)

abbrev as_read : Reading → Read Network
as_read r = record { item = r.network; next = r.at }

record_end : (file : List ℕ) (r q : Reading) → Bounded r.network r.at → read_record file r ≡ value q → OneMore r.network (as_read q)
unfolding read_record
record_end file r q b e =
    bind_then _ _ q e (λ found _ e. bind_then _ _ q e (λ mark _ e. bind_then _ _ q e (λ known Known-is e. bind_then _ _ q e (λ read read_is e.
    subst (λ (p : Reading). OneMore r.network (as_read p)) (same_value _ q e)
    (body_end known r.network file r.at read (room_of r.network r.at mark known Known-is) b read_is)))))

-- ---- two files with the same first bytes

module _ (f g : List ℕ) (h : Same network_prefix f g) where
  node_same : (at : ℕ) → at + 20 ≤ network_prefix → read_node f at ≡ read_node g at
  unfolding read_node
  node_same at le =
      rw (u8_same h at 1 (at + 2) (omega arith), u8_same h at 1 (at + 3) (omega arith), bits64_same h at 1 (at + 4) (omega arith), bits64_same h at 1 (at + 12) (omega arith))

  edge_same : (net : Network) (at : ℕ) → at + 6 ≤ network_prefix → read_edge net f at ≡ read_edge net g at
  unfolding read_edge
  edge_same net at le =
      rw (u16_same h at 1 (at + 2) (omega arith), u16_same h at 1 (at + 4) (omega arith))

  module _ (place nodes : ℕ) where
    members_same : (count : ℕ) (so_far : List ℕ) (at : ℕ) → at + 2 * count ≤ network_prefix → read_members f place nodes count so_far at ≡ read_members g place nodes count so_far at
    unfolding read_members
    members_same zero so_far at le = refl
    members_same (suc count) so_far at le =
        bind_both (rw (u16_same h place 1 at (omega arith))) (λ n _. members_same count (so_far ++ (n ∷ [])) (at + 2) (omega arith))

    sets_same : (count : ℕ) (so_far : List (List ℕ)) (at : ℕ) → at + 33 * count ≤ network_prefix → read_sets f place nodes count so_far at ≡ read_sets g place nodes count so_far at
    unfolding read_sets
    sets_same zero so_far at le = refl
    sets_same (suc count) so_far at le =
        bind_both (rw (u8_same h place 1 at (omega arith))) (λ size size_is.
        let few = at_most place 1 16 _ size size_is in
        bind_both (members_same size [] (at + 1) (omega arith)) (λ m m-is.
        let k = members_end f place nodes size [] (at + 1) m m-is in
        sets_same count (so_far ++ (m.item ∷ [])) m.next (omega arith)))

    parts_same : (count : ℕ) (so_far : List Part) (at : ℕ) → at + 10 * count ≤ network_prefix → read_parts f place nodes count so_far at ≡ read_parts g place nodes count so_far at
    unfolding read_parts
    parts_same zero so_far at le = refl
    parts_same (suc count) so_far at le =
        bind_both (rw (u16_same h place 1 at (omega arith))) (λ n _.
        bind_both (rw (bits64_same h place 1 (at + 2) (omega arith))) (λ x _. parts_same count _ (at + 10) (omega arith)))

  aggregate_same : (net : Network) (at : ℕ) → at + longest_aggregate ≤ network_prefix → read_aggregate net f at ≡ read_aggregate net g at
  unfolding read_aggregate
  aggregate_same net at le =
      bind_both (rw (u8_same h at 1 (at + 2) (omega arith))) (λ kind _.
      bind_both (rw (u8_same h at 1 (at + 3) (omega arith))) (λ sets sets-is.
      let few = at_most at 1 16 _ sets sets-is in
      bind_both (rw (u32_same h at 1 (at + 4) (omega arith))) (λ least _.
      bind_both (rw (u32_same h at 1 (at + 8) (omega arith))) (λ most _.
      bind_both (sets_same at (length net.nodes) sets [] (at + 12) (omega arith)) (λ read _. refl)))))

  virtual_storage_same : (net : Network) (at : ℕ) → at + longest_virtual_storage ≤ network_prefix → read_virtual_storage net f at ≡ read_virtual_storage net g at
  unfolding read_virtual_storage
  virtual_storage_same net at le =
      bind_both (rw (u8_same h at 1 (at + 2) (omega arith))) (λ period _.
      bind_both (rw (u8_same h at 1 (at + 3) (omega arith))) (λ start_month _.
      bind_both (rw (u8_same h at 1 (at + 4) (omega arith))) (λ start_day _.
      bind_both (rw (u8_same h at 1 (at + 5) (omega arith))) (λ end_month _.
      bind_both (rw (u8_same h at 1 (at + 6) (omega arith))) (λ end_day _.
      bind_both (rw (u8_same h at 1 (at + 7) (omega arith))) (λ n n-is.
      let few = at_most at 1 64 _ n n-is in
      bind_both (parts_same at (length net.nodes) n [] (at + 8) (omega arith)) (λ read _. refl)))))))

  body_same : (m : Mark) (net : Network) (at : ℕ) → T (has_room net m) → Bounded net at → read_body m net f at ≡ read_body m net g at
  unfolding read_body has_room
  body_same ND net at room b = let k = ltb→lt (length net.nodes) 256 room in bind_both (node_same at (omega arith)) (λ r _. refl)
  body_same ED net at room b = let k = ltb→lt (length net.edges) 512 room in bind_both (edge_same net at (omega arith)) (λ r _. refl)
  body_same AG net at room b = let k = ltb→lt (length net.aggregates) 64 room in bind_both (aggregate_same net at (omega arith)) (λ r _. refl)
  body_same VS net at room b = let k = ltb→lt (length net.virtual_storages) 32 room in bind_both (virtual_storage_same net at (omega arith)) (λ r _. refl)

  found_same : (at : ℕ) → at + 2 ≤ network_prefix → need (within f at 2) 1 at (mark_at f at) ≡ need (within g at 2) 1 at (mark_at g at)
  unfolding mark_at
  found_same at le =
      rw (within_same h at 2 le, mark_same h at 78 68 le, mark_same h at 69 68 le, mark_same h at 65 71 le, mark_same h at 86 83 le)

  record_same : (r : Reading) → Bounded r.network r.at → read_record f r ≡ read_record g r
  unfolding read_record
  record_same r b =
      bind_both (found_same r.at (omega arith)) (λ found _.
      bind_both refl (λ mark _.
      bind_both refl (λ known Known-is.
      bind_both (body_same known r.network r.at (room_of r.network r.at mark known Known-is) b) (λ read _. refl))))

  -- each record is one more of at most 864, so that a count of a file's length never runs out
  records_same : (a b : ℕ) (r : Reading) → Bounded r.network r.at → network_prefix ≤ a + record_count r.network → network_prefix ≤ b + record_count r.network
      → read_records a f r ≡ read_records b g r
  unfolding read_records
  records_same zero b r ok ha hb = absurd (omega arith)
  records_same (suc a) zero r ok ha hb = absurd (omega arith)
  records_same (suc a) (suc b) r ok ha hb =
      rw (lt-ltb r.at (length f) (omega (arith, h.long)), lt-ltb r.at (length g) (omega (arith, h.long')), read_records)
      (bind_both (record_same r ok) (λ q q-is.
      let k = record_end f r q ok q-is in
      records_same a b q k.bounded (omega arith) (omega arith)))

-- ---- the whole file

start_bounded : Bounded empty_network 0
start_bounded = record { nodes = omega arith; edges = omega arith; aggregates = omega arith; virtual_storages = omega arith; reach = omega arith }

parse_same : (f g : List ℕ) → Same network_prefix f g → parse_network f ≡ parse_network g
unfolding parse_network
parse_same f g h =
    bind_both (records_same f g h (length f) (length g) _ start_bounded (omega (arith, h.long)) (omega (arith, h.long'))) (λ net _. refl)

pub build_by_prefix : BuildByPrefix
unfolding build
build_by_prefix s file m h = bind_both (by_prefix parse_network network_prefix parse_same m file h) (λ net _. refl)

pub build_answer_by_prefix : BuildAnswerByPrefix
unfolding build_answer
build_answer_by_prefix s file old words numbers m h = bind_both refl (λ room _. build_by_prefix s file m h)

pub build_store_by_prefix : BuildStoreByPrefix
unfolding build_store
build_store_by_prefix s file old words numbers m h = rw (build_answer_by_prefix s file old words numbers m h)

pub after_build_by_prefix : AfterBuildByPrefix
after_build_by_prefix s file old words numbers r new words' numbers' m h a =
    record {
      answer = rw (build_answer_by_prefix s file old words numbers m h) at a.answer;
      store = rw (build_store_by_prefix s file old words numbers m h) at a.store;
      words_left = a.words_left;
      numbers_left = a.numbers_left;
    }

-- ---- a file that is accepted

records_long : (left : ℕ) (file : List ℕ) (r : Reading) (net : Network) → Bounded r.network r.at → length file ≤ left + record_count r.network
    → read_records left file r ≡ value net → length file ≤ longest_network
unfolding read_records
records_long zero file r net b h e = omega arith
records_long (suc left) file r net b h e = go (λ q k c. records_long left file q net k c) (ltb r.at (length file)) (λ t. nltb→le r.at (length file) t) e
  where
    go : ((q : Reading) → Bounded q.network q.at → length file ≤ left + record_count q.network → read_records left file q ≡ value net → length file ≤ longest_network)
        → (t : Bool) → (T (not t) → length file ≤ r.at)
        → elim t [ true ↦ (read_record file r >>= λ next. read_records left file next) | false ↦ value r.network ] ≡ value net → length file ≤ longest_network
    go ih true least k =
        let a = bind_value _ _ net k in
        let o = record_end file r a.0 b a.1 in
        ih a.0 o.bounded (omega arith) a.2
    go ih false least k = let l = least tt in omega arith

pub accepted_network_length : AcceptedNetworkLength
unfolding build parse_network is_accepted
accepted_network_length s file e = go (build s file) refl e
  where
    go : (b : Result _) → build s file ≡ b → is_accepted b ≡ true → length file ≤ longest_network
    go (value b) q t =
        let a = bind_value _ _ b q in
        let c = bind_value _ _ a.0 a.1 in
        records_long (length file) file _ c.0 start_bounded (omega arith) c.1
    go (refused n p) q t = absurd (let z : ◌≡◌ {A = ℕ} 0 1 = cc in omega arith)

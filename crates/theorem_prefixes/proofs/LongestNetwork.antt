-- A file with every record that fits, each at its longest: it is read to its end, so that no fewer bytes decide the answer. Assumes nothing.
use mathlib.Core.Path.{◌≡◌, refl, sym, ap, ◌∙◌, subst}
use Prim.Native.Nat.{ℕ, zero, suc, ◌+◌, ◌*◌, ◌<◌, ◌≤◌}
use native.Mathlib.Omega.{arith}
use mathlib.Core.Bool.{Bool, true, false, ◌&&◌}
use mathlib.Core.List.{List, [], ◌∷◌, ◌++◌, append_assoc}
use mathlib.Core.Option.{some}
use lib.ListN.{length, drop, replicate, take, length-drop, length-append, length-replicate}
use lib.Seq.{take-append-le}
use lib.Dec.{leb, leb→le, nleb→lt}
use borrow.Author.Tests.{leb-true, lt-ltb, le-ltb, le-leb, lt-leb}
use Rattle.laws.proofs.Tests.{by_cases}
use Rattle.laws.proofs.Runs.{replicate_more}
use Rattle.pywr.specs.Result.{value, Result, refused}
use Rattle.pywr.specs.Bytes.{within}
use Rattle.pywr.specs.Network.{Node, Edge, Network, kind_of}
use Rattle.pywr.specs.NetworkFile.{Read, joins, wrong_way, Mark, ND, ED, AG, VS, rank, mark_at, in_order, has_room}
use Rattle.pywr.specs.NetworkFile.{with_node, with_edge, with_aggregate, with_virtual_storage, read_body, Reading, read_record, read_records, empty_network, parse_network}
use Rattle.pywr.specs.declared.Sentinel.{Sentinel}
use Rattle.pywr.specs.Programme.{Built}
use Rattle.pywr.specs.Build.{build}
use Rattle.theorem_prefixes.specs.Prefix.{longest_network, network_prefix, NetworkPrefixLeast}
use Rattle.theorem_prefixes.proofs.Left.{then_value, then_refused, need_true, need_false, times, nothing_more, times_left, left_next, left_room, first_left, second_left, times_length}
use Rattle.theorem_prefixes.proofs.LongestRecords.{node_bytes, link_node, node_read_lem, edge_bytes, good_edge, each_true}
use Rattle.theorem_prefixes.proofs.LongestRecords.{edge_read, aggregate_bytes, virtual_storage_bytes, aggregate_read, virtual_storage_read}

-- ---- how far a file is read: its nodes and edges so far, and how many aggregates and virtual storages

abbrev begin : Reading
begin = record { network = empty_network; at = 0; stage = 0 }

record Reached (file : List ℕ) (nodes : List Node) (edges : List Edge) (a v at top : ℕ) : Type 0 where
  net : Network
  stage : ℕ
  left : ℕ
  so_far : read_records (length file) file begin ≡ read_records left file (record { network = net; at = at; stage = stage })
  early : stage ≤ top
  nodes_are : net.nodes ≡ nodes
  edges_are : net.edges ≡ edges
  aggregate_count_lem : length net.aggregates ≡ a
  virtual_storage_count_lem : length net.virtual_storages ≡ v
  enough : length file ≤ left + (length nodes + length edges + a + v)

later : (file : List ℕ) (nodes : List Node) (edges : List Edge) (a v at top top' : ℕ) → top ≤ top' → Reached file nodes edges a v at top → Reached file nodes edges a v at top'
later file nodes edges a v at top top' h s =
    record {
      net = s.net;
      stage = s.stage;
      left = s.left;
      so_far = s.so_far;
      early = omega (arith, s.early);
      nodes_are = s.nodes_are;
      edges_are = s.edges_are;
      aggregate_count_lem = s.aggregate_count_lem;
      virtual_storage_count_lem = s.virtual_storage_count_lem;
      enough = s.enough;
    }

-- one record more
one_record : (file : List ℕ) (left : ℕ) (r : Reading) (m : Mark) (read : Read Network) → within file r.at 2 ≡ true → mark_at file r.at ≡ some m → r.stage ≤ rank m → has_room r.network m ≡ true
    → read_body m r.network file r.at ≡ value read → read_records (suc left) file r ≡ read_records left file (record { network = read.item; at = read.next; stage = rank m })
unfolding read_records read_record in_order
one_record file left r m read inside mark stage room body =
    rw (lt-ltb r.at (length file) (omega (arith, leb-true (r.at + 2) (length file) inside)), read_records)
    (then_value _ _ _ (record { network = read.item; at = read.next; stage = rank m })
    (then_value _ _ _ (some m) (need_true _ 1 r.at _ inside ∙ ap value mark)
    (then_value _ _ _ m (rw (le-leb r.stage (rank m) stage))
    (then_value _ _ _ m (need_true _ 6 r.at m room)
    (then_value _ _ _ read body refl)))) refl)

mark_read : (file : List ℕ) (at x y : ℕ) (rest : List ℕ) → drop at file ≡ x ∷ y ∷ rest → mark_at file at ≡ mark_at (x ∷ y ∷ []) 0
unfolding mark_at
mark_read file at x y rest e = rw (first_left file at (x ∷ y ∷ rest) e, second_left file at (x ∷ y ∷ rest) e)

mark_inside : (file : List ℕ) (at x y : ℕ) (rest : List ℕ) → drop at file ≡ x ∷ y ∷ rest → within file at 2 ≡ true
mark_inside file at x y rest e = le-leb (at + 2) (length file) (left_room file at (x ∷ y ∷ rest) e 2 (omega arith) (omega arith))

more : (file : List ℕ) (nodes : List Node) (edges : List Edge) (a v at top : ℕ) (s : Reached file nodes edges a v at top) → length nodes + length edges + a + v < length file
    → (m : Mark) (read : Read Network) → top ≤ rank m → within file at 2 ≡ true → mark_at file at ≡ some m → has_room s.net m ≡ true → read_body m s.net file at ≡ value read
    → (left : ℕ) × (suc left ≡ s.left) × (read_records (length file) file begin ≡ read_records left file (record { network = read.item; at = read.next; stage = rank m }))
more file nodes edges a v at top s few m read order inside mark room body = go s.left refl
  where
    go : (k : ℕ) → s.left ≡ k → (left : ℕ) × (suc left ≡ s.left) × (read_records (length file) file begin ≡ read_records left file (record { network = read.item; at = read.next; stage = rank m }))
    go zero e = absurd (omega (arith, s.enough))
    go (suc left) e = (
      left,
      sym e,
      s.so_far
          ∙ ap (λ (k : ℕ). read_records k file (record { network = s.net; at = at; stage = s.stage })) e
          ∙ one_record file left (record { network = s.net; at = at; stage = s.stage }) m read inside mark (omega (arith, s.early)) room body,
    )

-- the edges still to come are good ones
unfoldable all_good : List Node → List Edge → List Edge → Bool
all_good nodes edges [] = true
all_good nodes edges (x ∷ es) = good_edge nodes edges x && all_good nodes (edges ++ (x ∷ [])) es

unfoldable edges_bytes : List Edge → List ℕ
edges_bytes [] = []
edges_bytes (x ∷ es) = edge_bytes x ++ edges_bytes es

-- what is left behind an aggregate and a virtual storage
aggregate_next : (file : List ℕ) (at : ℕ) (rest : List ℕ) → drop at file ≡ aggregate_bytes ++ rest → drop (at + 540) file ≡ rest
unfolding times
aggregate_next file at rest e = left_next file at aggregate_bytes rest e

virtual_storage_next : (file : List ℕ) (at : ℕ) (rest : List ℕ) → drop at file ≡ virtual_storage_bytes ++ rest → drop (at + 648) file ≡ rest
unfolding times
virtual_storage_next file at rest e = left_next file at virtual_storage_bytes rest e

module _ (file : List ℕ) (long : 864 < length file) where
  -- ---- nodes

  node_more : (nodes : List Node) (at : ℕ) (rest : List ℕ) → length nodes < 256 → Reached file nodes [] 0 0 at 0 → drop at file ≡ node_bytes ++ rest
      → Reached file (nodes ++ (link_node ∷ [])) [] 0 0 (at + 20) 0
  unfolding read_body has_room with_node mark_at
  node_more nodes at rest few s e =
      let item : Read Node = record { item = link_node; next = at + 20 } in
      let same : length s.net.nodes ≡ length nodes = ap length s.nodes_are in
      let k = more file nodes [] 0 0 at 0 s (omega arith) ND (with_node s.net item) (omega arith) (mark_inside file at 78 68 _ e)
      (mark_read file at 78 68 _ e) (lt-ltb (length s.net.nodes) 256 (omega arith)) (then_value _ _ _ item (node_read_lem file at rest e) refl) in
      record {
        net = (with_node s.net item).item;
        stage = 0;
        left = k.0;
        so_far = k.2;
        early = omega arith;
        nodes_are = ap (λ (l : List Node). l ++ (link_node ∷ [])) s.nodes_are;
        edges_are = s.edges_are;
        aggregate_count_lem = s.aggregate_count_lem;
        virtual_storage_count_lem = s.virtual_storage_count_lem;
        enough = omega (arith, s.enough, k.1, length-append nodes (link_node ∷ []));
      }

  abbrev NodesTo : List ℕ → ℕ → ℕ → Type 0
  NodesTo rest n at = Reached file (replicate n link_node) [] 0 0 at 0 × (drop at file ≡ rest)

  nodes_more : (count n at : ℕ) (rest : List ℕ) → n + count ≤ 256 → Reached file (replicate n link_node) [] 0 0 at 0 → drop at file ≡ times count node_bytes
      ++ rest → NodesTo rest (n + count) (at + 20 * count)
  nodes_more zero n at rest few s e = subst (λ (k : ℕ). NodesTo rest k (at + 0)) (let q : n ≡ n + 0 = omega arith in q)
      (subst (NodesTo rest n) (let q : at ≡ at + 0 = omega arith in q) (s, nothing_more node_bytes rest (drop at file) e))
  nodes_more (suc count) n at rest few s e =
      let d = times_left count node_bytes rest (drop at file) e in
      let one = node_more (replicate n link_node) at (times count node_bytes ++ rest) (omega (arith, length-replicate n link_node)) s d in
      let one' = subst (λ (l : List Node). Reached file l [] 0 0 (at + 20) 0) (replicate_more n link_node) one in
      let ih = nodes_more count (n + 1) (at + 20) rest (omega arith) one' (left_next file at node_bytes (times count node_bytes ++ rest) d) in
      subst (λ (k : ℕ). NodesTo rest k (at + 20 * suc count)) (let q : n + 1 + count ≡ n + suc count = omega arith in q)
      (subst (NodesTo rest (n + 1 + count)) (let q : at + 20 + 20 * count ≡ at + 20 * suc count = omega arith in q) ih)

  -- ---- edges

  module _ (nodes : List Node) (node_count_lem : length nodes ≡ 256) where
    edge_more : (edges : List Edge) (x : Edge) (at : ℕ) (rest : List ℕ) → length edges < 512 → good_edge nodes edges x ≡ true → Reached file nodes edges 0 0 at 1 → drop at file ≡ edge_bytes x ++ rest
        → Reached file nodes (edges ++ (x ∷ [])) 0 0 (at + 6) 1
    unfolding read_body has_room with_edge mark_at
    edge_more edges x at rest few good s e =
        let item : Read Edge = record { item = x; next = at + 6 } in
        let same : length s.net.edges ≡ length edges = ap length s.edges_are in
        let good' : good_edge s.net.nodes s.net.edges x ≡ true = rw (s.nodes_are, s.edges_are) good in
        let k = more file nodes edges 0 0 at 1 s (omega arith) ED (with_edge s.net item) (omega arith) (mark_inside file at 69 68 _ e)
        (mark_read file at 69 68 _ e) (lt-ltb (length s.net.edges) 512 (omega arith)) (then_value _ _ _ item (edge_read s.net file at x rest e good') refl) in
        record {
          net = (with_edge s.net item).item;
          stage = 1;
          left = k.0;
          so_far = k.2;
          early = omega arith;
          nodes_are = s.nodes_are;
          edges_are = ap (λ (l : List Edge). l ++ (x ∷ [])) s.edges_are;
          aggregate_count_lem = s.aggregate_count_lem;
          virtual_storage_count_lem = s.virtual_storage_count_lem;
          enough = omega (arith, s.enough, k.1, length-append edges (x ∷ []));
        }

    record EdgesTo (rest : List ℕ) (count at : ℕ) : Type 0 where
      edges : List Edge
      many : length edges ≡ count
      reached : Reached file nodes edges 0 0 at 1
      rest_left : drop at file ≡ rest

    edges_more : (es edges : List Edge) (at : ℕ) (rest : List ℕ) → all_good nodes edges es ≡ true → length edges + length es ≤ 512
        → Reached file nodes edges 0 0 at 1 → drop at file ≡ edges_bytes es ++ rest
        → EdgesTo rest (length edges + length es) (at + 6 * length es)
    unfolding edges_bytes all_good
    edges_more [] edges at rest good few s e =
        subst (λ (p : ℕ). EdgesTo rest (length edges + 0) p) (let q : at ≡ at + 0 = omega arith in q) (record { edges = edges; many = omega arith; reached = s; rest_left = e })
    edges_more (x ∷ es) edges at rest good few s e =
        let g = each_true (good_edge nodes edges x) (all_good nodes (edges ++ (x ∷ [])) es) good in
        let d : drop at file ≡ edge_bytes x ++ (edges_bytes es ++ rest) = e ∙ append_assoc (edge_bytes x) (edges_bytes es) rest in
        let l = length-append edges (x ∷ []) in
        let one = edge_more edges x at (edges_bytes es ++ rest) (omega arith) g.0 s d in
        let ih = edges_more es (edges ++ (x ∷ [])) (at + 6) rest g.1 (omega arith) one (left_next file at (edge_bytes x) (edges_bytes es ++ rest) d) in
        subst (λ (k : ℕ). EdgesTo rest k (at + 6 * suc (length es))) (let q : length (edges ++ (x ∷ [])) + length es ≡ length edges + suc (length es) = omega arith in q)
        (subst (EdgesTo rest (length (edges ++ (x ∷ [])) + length es)) (let q : at + 6 + 6 * length es ≡ at + 6 * suc (length es) = omega arith in q) ih)

    -- ---- aggregates and virtual storages

    module _ (edges : List Edge) (edge_count : length edges ≡ 512) where
      aggregate_more : (a at : ℕ) (rest : List ℕ) → a < 64 → Reached file nodes edges a 0 at 2 → drop at file ≡ aggregate_bytes ++ rest → Reached file nodes edges (suc a) 0 (at + 540) 2
      unfolding read_body has_room with_aggregate mark_at
      aggregate_more a at rest few s e =
          let same : length s.net.nodes ≡ length nodes = ap length s.nodes_are in
          let item = aggregate_read s.net file at rest e (omega arith) in
          let many = s.aggregate_count_lem in
          let k = more file nodes edges a 0 at 2 s (omega arith) AG (with_aggregate s.net item.0) (omega arith) (mark_inside file at 65 71 _ e)
          (mark_read file at 65 71 _ e) (lt-ltb (length s.net.aggregates) 64 (omega arith)) (then_value _ _ _ item.0 item.1 refl) in
          subst (λ (p : ℕ). Reached file nodes edges (suc a) 0 p 2) item.2
          (record {
            net = (with_aggregate s.net item.0).item;
            stage = 2;
            left = k.0;
            so_far = k.2;
            early = omega arith;
            nodes_are = s.nodes_are;
            edges_are = s.edges_are;
            aggregate_count_lem = (let l = length-append s.net.aggregates (item.0.item ∷ []) in omega arith);
            virtual_storage_count_lem = s.virtual_storage_count_lem;
            enough = omega (arith, s.enough, k.1);
          })

      abbrev AggregatesTo : List ℕ → ℕ → ℕ → Type 0
      AggregatesTo rest a at = Reached file nodes edges a 0 at 2 × (drop at file ≡ rest)

      aggregates_more : (count a at : ℕ) (rest : List ℕ) → a + count ≤ 64 → Reached file nodes edges a 0 at 2 → drop at file ≡ times count aggregate_bytes
          ++ rest → AggregatesTo rest (a + count) (at + 540 * count)
      aggregates_more zero a at rest few s e = subst (λ (k : ℕ). AggregatesTo rest k (at + 0)) (let q : a ≡ a + 0 = omega arith in q)
          (subst (AggregatesTo rest a) (let q : at ≡ at + 0 = omega arith in q) (s, nothing_more aggregate_bytes rest (drop at file) e))
      aggregates_more (suc count) a at rest few s e =
          let d = times_left count aggregate_bytes rest (drop at file) e in
          let one = aggregate_more a at (times count aggregate_bytes ++ rest) (omega arith) s d in
          let ih = aggregates_more count (suc a) (at + 540) rest (omega arith) one (aggregate_next file at (times count aggregate_bytes ++ rest) d) in
          subst (λ (k : ℕ). AggregatesTo rest k (at + 540 * suc count)) (let q : suc a + count ≡ a + suc count = omega arith in q)
          (subst (AggregatesTo rest (suc a + count)) (let q : at + 540 + 540 * count ≡ at + 540 * suc count = omega arith in q) ih)

      virtual_storage_more : (v at : ℕ) (rest : List ℕ) → v < 32 → Reached file nodes edges 64 v at 3 → drop at file ≡ virtual_storage_bytes ++ rest → Reached file nodes edges 64 (suc v) (at + 648) 3
      unfolding read_body has_room with_virtual_storage mark_at
      virtual_storage_more v at rest few s e =
          let same : length s.net.nodes ≡ length nodes = ap length s.nodes_are in
          let item = virtual_storage_read s.net file at rest e (omega arith) in
          let many = s.virtual_storage_count_lem in
          let k = more file nodes edges 64 v at 3 s (omega arith) VS (with_virtual_storage s.net item.0) (omega arith) (mark_inside file at 86 83 _ e)
          (mark_read file at 86 83 _ e) (lt-ltb (length s.net.virtual_storages) 32 (omega arith)) (then_value _ _ _ item.0 item.1 refl) in
          subst (λ (p : ℕ). Reached file nodes edges 64 (suc v) p 3) item.2
          (record {
            net = (with_virtual_storage s.net item.0).item;
            stage = 3;
            left = k.0;
            so_far = k.2;
            early = omega arith;
            nodes_are = s.nodes_are;
            edges_are = s.edges_are;
            aggregate_count_lem = s.aggregate_count_lem;
            virtual_storage_count_lem = (let l = length-append s.net.virtual_storages (item.0.item ∷ []) in omega arith);
            enough = omega (arith, s.enough, k.1);
          })

      abbrev VirtualStoragesTo : List ℕ → ℕ → ℕ → Type 0
      VirtualStoragesTo rest v at = Reached file nodes edges 64 v at 3 × (drop at file ≡ rest)

      virtual_storages_more : (count v at : ℕ) (rest : List ℕ) → v + count ≤ 32 → Reached file nodes edges 64 v at 3
          → drop at file ≡ times count virtual_storage_bytes ++ rest → VirtualStoragesTo rest (v + count) (at + 648 * count)
      virtual_storages_more zero v at rest few s e = subst (λ (k : ℕ). VirtualStoragesTo rest k (at + 0)) (let q : v ≡ v + 0 = omega arith in q)
          (subst (VirtualStoragesTo rest v) (let q : at ≡ at + 0 = omega arith in q) (s, nothing_more virtual_storage_bytes rest (drop at file) e))
      virtual_storages_more (suc count) v at rest few s e =
          let d = times_left count virtual_storage_bytes rest (drop at file) e in
          let one = virtual_storage_more v at (times count virtual_storage_bytes ++ rest) (omega arith) s d in
          let ih = virtual_storages_more count (suc v) (at + 648) rest (omega arith) one (virtual_storage_next file at (times count virtual_storage_bytes ++ rest) d) in
          subst (λ (k : ℕ). VirtualStoragesTo rest k (at + 648 * suc count)) (let q : suc v + count ≡ v + suc count = omega arith in q)
          (subst (VirtualStoragesTo rest (suc v + count)) (let q : at + 648 + 648 * count ≡ at + 648 * suc count = omega arith in q) ih)

-- ---- the whole file, with any bytes behind the last record

-- 512 edges, from nodes 0 to 3 to nodes 128 to 255
unfoldable edges_from : ℕ → ℕ → List Edge
edges_from from zero = []
edges_from from (suc k) = record { from = from; to = 128 + k } ∷ edges_from from k

unfoldable many_edges : List Edge
many_edges = edges_from 0 128 ++ (edges_from 1 128 ++ (edges_from 2 128 ++ edges_from 3 128))

many_edges_lem : length many_edges ≡ 512
unfolding many_edges edges_from
many_edges_lem = refl

all_good_lem : all_good (replicate 256 link_node) [] many_edges ≡ true
unfolding many_edges edges_from all_good good_edge wrong_way kind_of joins
all_good_lem = refl

unfoldable longest : List ℕ → List ℕ
longest tail = times 256 node_bytes ++ (edges_bytes many_edges ++ (times 64 aggregate_bytes ++ (times 32 virtual_storage_bytes ++ tail)))

record ReadToEnd (file tail : List ℕ) : Type 0 where
  nodes : List Node
  edges : List Edge
  node_count_lem : length nodes ≡ 256
  edge_count : length edges ≡ 512
  reached : Reached file nodes edges 64 32 longest_network 3
  tail_left : drop longest_network file ≡ tail

from_edges : (file : List ℕ) → 864 < length file → (nodes : List Node) → length nodes ≡ 256 → all_good nodes [] many_edges ≡ true → (tail : List ℕ) → Reached file nodes [] 0 0 5120 0
    → drop 5120 file ≡ edges_bytes many_edges ++ (times 64 aggregate_bytes ++ (times 32 virtual_storage_bytes ++ tail)) → ReadToEnd file tail
from_edges file long nodes count good tail s e =
    let groups : List ℕ = times 64 aggregate_bytes ++ (times 32 virtual_storage_bytes ++ tail) in
    let m = subst (λ (k : ℕ). EdgesTo file long nodes count groups (0 + k) (5120 + 6 * k)) many_edges_lem
    (edges_more file long nodes count many_edges [] 5120 groups good (omega (arith, many_edges_lem)) (later file nodes [] 0 0 5120 0 1 (omega arith) s) e) in
    let a = aggregates_more file long nodes count m.edges m.many 64 0 8192 (times 32 virtual_storage_bytes ++ tail) (omega arith)
    (later file nodes m.edges 0 0 8192 1 2 (omega arith) m.reached) m.rest_left in
    let v = virtual_storages_more file long nodes count m.edges m.many 32 0 42752 tail (omega arith) (later file nodes m.edges 64 0 42752 2 3 (omega arith) a.0) a.1 in
    record { nodes = nodes; edges = m.edges; node_count_lem = count; edge_count = m.many; reached = v.0; tail_left = v.1 }

read_to_end : (file tail : List ℕ) → file ≡ longest tail → ReadToEnd file tail
unfolding longest
read_to_end file tail e =
    let rest : List ℕ = edges_bytes many_edges ++ (times 64 aggregate_bytes ++ (times 32 virtual_storage_bytes ++ tail)) in
    let l : length (times 256 node_bytes) ≡ 5120 = times_length 256 node_bytes in
    let long : 864 < length file = omega (arith, ap length e, length-append (times 256 node_bytes) rest) in
    let start : Reached file [] [] 0 0 0 0 =
    record {
      net = empty_network;
      stage = 0;
      left = length file;
      so_far = refl;
      early = omega arith;
      nodes_are = refl;
      edges_are = refl;
      aggregate_count_lem = refl;
      virtual_storage_count_lem = refl;
      enough = omega arith;
    } in
    let n = nodes_more file long 256 0 0 rest (omega arith) start e in
    from_edges file long (replicate 256 link_node) (length-replicate 256 link_node) all_good_lem tail n.0 n.1

-- ---- the mark of one virtual storage more

last_full : (file : List ℕ) (left : ℕ) (r : Reading) → within file r.at 2 ≡ true → mark_at file r.at ≡ some VS → r.stage ≤ 3
    → has_room r.network VS ≡ false → read_records (suc left) file r ≡ refused 6 r.at
unfolding read_records read_record in_order
last_full file left r inside mark stage room =
    rw (lt-ltb r.at (length file) (omega (arith, leb-true (r.at + 2) (length file) inside)), read_records)
    (then_refused _ _ 6 r.at
    (then_value _ _ _ (some VS) (need_true _ 1 r.at _ inside ∙ ap value mark)
    (then_value _ _ _ VS (rw (le-leb r.stage 3 stage)) (then_refused _ _ 6 r.at (need_false _ 6 r.at VS room)))))

last_short : (file : List ℕ) (left : ℕ) (r : Reading) → r.at < length file → within file r.at 2 ≡ false → read_records (suc left) file r ≡ refused 1 r.at
unfolding read_records read_record
last_short file left r some_bytes short =
    rw (lt-ltb r.at (length file) some_bytes, read_records) (then_refused _ _ 1 r.at (then_refused _ _ 1 r.at (need_false _ 1 r.at _ short)))

left_is : (n : ℕ) → 0 < n → (k : ℕ) × (n ≡ suc k)
left_is zero h = absurd (omega arith)
left_is (suc k) h = (k, refl)

module _ (file tail : List ℕ) (e : file ≡ longest tail) where
  length_is : 0 < length tail → length file ≡ longest_network + length tail
  length_is h = let r = read_to_end file tail e in omega (arith, length-drop longest_network file, ap length r.tail_left)

  ends_by : (x : Result Network) → 0 < length tail
      → ((left : ℕ) (r : Reading) → r.at ≡ longest_network → r.stage ≤ 3 → length r.network.virtual_storages ≡ 32 → read_records (suc left) file r ≡ x)
      → read_records (length file) file begin ≡ x
  ends_by x some_bytes last =
      let t = read_to_end file tail e in
      let s = t.reached in
      let long = length_is some_bytes in
      let counts : length t.nodes + length t.edges ≤ 768 = omega (arith, t.node_count_lem, t.edge_count) in
      let k = left_is s.left (omega (arith, s.enough)) in
      s.so_far
      ∙ ap (λ (n : ℕ). read_records n file (record { network = s.net; at = longest_network; stage = s.stage })) k.1
      ∙ last k.0 (record { network = s.net; at = longest_network; stage = s.stage }) refl s.early s.virtual_storage_count_lem

full_answer : (file : List ℕ) → file ≡ longest (86 ∷ 83 ∷ []) → read_records (length file) file begin ≡ refused 6 longest_network
unfolding has_room mark_at
full_answer file e =
    let t = read_to_end file (86 ∷ 83 ∷ []) e in
    ends_by file (86 ∷ 83 ∷ []) e (refused 6 longest_network) (omega arith)
    (λ left r at_is stage many.
    let d = subst (λ (p : ℕ). drop p file ≡ 86 ∷ 83 ∷ []) (sym at_is) t.tail_left in
    last_full file left r (mark_inside file r.at 86 83 [] d) (mark_read file r.at 86 83 [] d) stage
    (le-ltb (length r.network.virtual_storages) 32 (omega arith)) ∙ ap (λ (p : ℕ). refused 6 p) at_is)

short_answer : (file : List ℕ) → file ≡ longest (86 ∷ []) → read_records (length file) file begin ≡ refused 1 longest_network
short_answer file e =
    let long = length_is file (86 ∷ []) e (omega arith) in
    ends_by file (86 ∷ []) e (refused 1 longest_network) (omega arith)
    (λ left r at_is stage many. last_short file left r (omega arith) (lt-leb (r.at + 2) (length file) (omega arith)) ∙ ap (λ (p : ℕ). refused 1 p) at_is)

build_refused : (s : Sentinel) (file : List ℕ) (n p : ℕ) → read_records (length file) file begin ≡ refused n p → build s file ≡ refused n p
unfolding build parse_network
build_refused s file n p e = then_refused _ _ n p (then_refused _ _ n p e)

longest_append : (t u : List ℕ) → longest (t ++ u) ≡ longest t ++ u
unfolding longest
longest_append t u = simp append_assoc

pub network_prefix_least : NetworkPrefixLeast
network_prefix_least s m law = by_cases (leb network_prefix m) (λ t. leb→le network_prefix m t) (λ t. absurd (go (nleb→lt network_prefix m t)))
  where
    go : m < network_prefix → ⊥
    go lt =
        let short : List ℕ = longest (86 ∷ []) in
        let full : List ℕ = longest (86 ∷ 83 ∷ []) in
        let more-is : full ≡ short ++ (83 ∷ []) = longest_append (86 ∷ []) (83 ∷ []) in
        let long = length_is short (86 ∷ []) refl (omega arith) in
        let same : take m full ≡ take m short = ap (take m) more-is ∙ take-append-le m short (83 ∷ []) (omega arith) in
        let q : ◌≡◌ {A = Result Built} (refused 1 longest_network) (refused 6 longest_network) =
        sym (build_refused s short 1 longest_network (short_answer short refl)) ∙ sym (law short) ∙ ap (build s) (sym same) ∙ law full ∙ build_refused s full 6 longest_network (full_answer full refl) in
        let z : ◌≡◌ {A = ℕ} 1 6 = cc in
        omega arith

-- The loop of `scan`: its invariant, what a record of each kind adds, and the two ways out. Assumes nothing.
use Prim.Native.Nat.{ℕ, zero, suc, ◌+◌, ◌*◌, ◌-◌, ◌<◌, ◌≤◌}
use mathlib.Core.Path.{◌≡◌, refl, sym, ◌∙◌, ap, subst}
use mathlib.Core.List.{List}
use native.Mathlib.Omega.{arith}
use borrow.Author.Tests.{lt-ltb, le-ltb, ltb-true}
use Rattle.std.specs.Prelude.{Ok, Err}
use Rattle.pywr.specs.declared.Refusal.{Refusal}
use lib.ListN.{length}
use Rattle.pywr.specs.Result.{Result, value, refused, ◌>>=◌}
use Rattle.pywr.specs.Bytes.{byte}
use Rattle.pywr.specs.Network.{Network}
use Rattle.pywr.specs.NetworkFile.{Reading, read_record, read_records, with_node, with_edge, with_aggregate, with_virtual_storage}
use Rattle.fields.specs.Records.{records_at, records_end, AllPass}
use Rattle.fields.proofs.RecordLaws.{records_more, end_fixed, end_more, end_none, end_after, none_pass, one_pass}
use Rattle.network_node.specs.Node.{node_at, check_node}
use Rattle.network_edge.specs.Edge.{edge_at, check_edge}
use Rattle.network_aggregate.specs.AggregatedNode.{set_end, aggregate_at, aggregate_end, check_aggregate}
use Rattle.network_virtual_storage.specs.VirtualStorage.{virtual_storage_at, virtual_storage_end, check_virtual_storage}
use Rattle.network_laws.specs.NetworkAt.{aggregate_start, network_at}
use Rattle.network_laws.proofs.Passed.{node_end, edge_end, aggregate_end_lem, virtual_storage_end_lem}
use Rattle.network_record.specs.Counts.{network_of}
use Rattle.network_record.specs.Record.{rank, with_record, check_record, RecordPassed}
use Rattle.network_record.specs.declared.Mark.{Mark}
use Rattle.network_record.specs.declared.Record.{Record}
use Rattle.network_record.specs.declared.Counts.{Counts}
use Rattle.network_record.proofs.RecordLaw.{after, record_law}
use Rattle.network.specs.Loaded.{start, Placed}

abbrev reading : List ℕ → ℕ → Mark → Counts → Reading
reading file at stage c = record { network = network_of file c; at = at; stage = rank stage }

-- at the loop's head; `left` is what is left of the definition's count
pub record ScanInvariant (file : List ℕ) (at : ℕ) (stage : Mark) (c : Counts) : Type 0 where
  pub left : ℕ
  pub enough : length file ≤ left + at
  pub from : read_records (length file) file start ≡ read_records left file (reading file at stage c)
  pub virtual_storages : c.virtual_storages_at ≡ aggregate_start file c.nodes c.edges c.aggregates
  pub stands : at ≡ records_end (virtual_storage_end file) c.virtual_storages c.virtual_storages_at
  pub no_edges : rank stage < 1 → c.edges ≡ 0
  pub no_aggregates : rank stage < 2 → c.aggregates ≡ 0
  pub no_virtual_storages : rank stage < 3 → c.virtual_storages ≡ 0
  pub few_nodes : c.nodes ≤ 256
  pub few_edges : c.edges ≤ 512
  pub few_aggregates_lem : c.aggregates ≤ 64
  pub few_virtual_storages_lem : c.virtual_storages ≤ 32
  pub inside : at ≤ length file
  pub nodes_pass : AllPass (λ i. check_node file) (λ at. at + 20) c.nodes 0
  pub edges_pass : AllPass (check_edge file c.nodes) (λ at. at + 6) c.edges (20 * c.nodes)
  pub aggregates_pass : AllPass (λ i. check_aggregate file c.nodes) (aggregate_end file) c.aggregates (20 * c.nodes + 6 * c.edges)
  pub virtual_storages_pass : AllPass (λ i. check_virtual_storage file c.nodes) (virtual_storage_end file) c.virtual_storages c.virtual_storages_at

abbrev no_records : Counts
no_records = record { nodes = 0; edges = 0; aggregates = 0; virtual_storages = 0; virtual_storages_at = 0 }

network_start : (file : List ℕ) → network_at file 0 0 0 0 ≡ start.network
unfolding network_at records_at
network_start file = refl

first : (file : List ℕ) → ScanInvariant file 0 Mark.Node no_records
unfolding records_end
first file = record {
  left = length file;
  enough = omega arith;
  from = ap (λ (net : Network). read_records (length file) file (record { network = net; at = 0; stage = 0 })) (sym (network_start file));
  virtual_storages = refl;
  stands = refl;
  no_edges = λ _. refl;
  no_aggregates = λ _. refl;
  no_virtual_storages = λ _. refl;
  few_nodes = omega arith;
  few_edges = omega arith;
  few_aggregates_lem = omega arith;
  few_virtual_storages_lem = omega arith;
  inside = omega arith;
  nodes_pass = none_pass (λ i. check_node file) (λ at. at + 20) 0 0 refl;
  edges_pass = none_pass (check_edge file 0) (λ at. at + 6) 0 0 refl;
  aggregates_pass = none_pass (λ i. check_aggregate file 0) (aggregate_end file) 0 0 refl;
  virtual_storages_pass = none_pass (λ i. check_virtual_storage file 0) (virtual_storage_end file) 0 0 refl;
}

counts_of : (n e a v place : ℕ) → n ≡ 0 → e ≡ 0 → a ≡ 0 → v ≡ 0 → place ≡ 0
    → no_records ≡ record { nodes = n; edges = e; aggregates = a; virtual_storages = v; virtual_storages_at = place }
counts_of n e a v place p q r s t = rw (p, q, r, s, t)

pub begin : (file : List ℕ) (c : Counts) → c.nodes ≡ 0 → c.edges ≡ 0 → c.aggregates ≡ 0 → c.virtual_storages ≡ 0 → c.virtual_storages_at ≡ 0 → ScanInvariant file 0 Mark.Node c
begin file c p q r s t = subst (ScanInvariant file 0 Mark.Node) (counts_of c.nodes c.edges c.aggregates c.virtual_storages c.virtual_storages_at p q r s t) (first file)

-- how the definition goes on
module _ (file : List ℕ) (r : Reading) where
  records_next : (left : ℕ) → r.at < length file → read_records (suc left) file r ≡ (read_record file r >>= λ next. read_records left file next)
  unfolding read_records
  records_next left lt = rw (lt-ltb r.at (length file) lt, read_records)

  records_end_lem : (left : ℕ) → length file ≤ r.at → read_records left file r ≡ value r.network
  unfolding read_records
  records_end_lem zero le = refl
  records_end_lem (suc left) le = rw (le-ltb r.at (length file) le, read_records)

-- one node, edge, aggregate, virtual storage more
module _ (file : List ℕ) (n e a v at x : ℕ) where
  abbrev here : Network
  here = network_at file n e a v

  with_node_lem : e ≡ 0 → a ≡ 0 → v ≡ 0 → at ≡ 20 * n → (with_node here (record { item = node_at file at; next = x })).item ≡ network_at file (n + 1) e a v
  unfolding with_node network_at records_at
  with_node_lem qe qa qv q =
      let p : records_end (λ at. at + 20) n 0 ≡ at = end_fixed 20 n 0 ∙ omega arith in
      rw (qe, qa, qv, records_more (node_at file) (λ at. at + 20) n 0, p)

  with_edge_lem : a ≡ 0 → v ≡ 0 → at ≡ 20 * n + 6 * e → (with_edge here (record { item = edge_at file at; next = x })).item ≡ network_at file n (e + 1) a v
  unfolding with_edge network_at records_at
  with_edge_lem qa qv q =
      let p : records_end (λ at. at + 6) e (20 * n) ≡ at = end_fixed 6 e (20 * n) ∙ omega arith in
      rw (qa, qv, records_more (edge_at file) (λ at. at + 6) e (20 * n), p)

  with_aggregate_lem : v ≡ 0 → at ≡ records_end (aggregate_end file) a (20 * n + 6 * e)
      → (with_aggregate here (record { item = aggregate_at file at; next = x })).item ≡ network_at file n e (a + 1) v
  unfolding with_aggregate network_at records_at
  with_aggregate_lem qv q = rw (qv, records_more (aggregate_at file) (aggregate_end file) a (20 * n + 6 * e), q)

  with_virtual_storage_lem : at ≡ records_end (virtual_storage_end file) v (aggregate_start file n e a)
      → (with_virtual_storage here (record { item = virtual_storage_at file at; next = x })).item ≡ network_at file n e a (v + 1)
  unfolding with_virtual_storage network_at
  with_virtual_storage_lem q = rw (records_more (virtual_storage_at file) (virtual_storage_end file) v (aggregate_start file n e a), q)

aggregate_after : (file : List ℕ) (x : ℕ) → x ≤ aggregate_end file x
aggregate_after file x = let h = end_after (set_end file) (λ y. omega arith) (byte file (x + 3)) (x + 12) in omega (arith, h)

module _ (file : List ℕ) (at : ℕ) (stage : Mark) (c : Counts) (h : ScanInvariant file at stage c) where
  -- before the aggregates, the records so far have a fixed length
  pub fixed_at : rank stage < 2 → at ≡ 20 * c.nodes + 6 * c.edges
  fixed_at lt =
      h.stands ∙ end_none (virtual_storage_end file) c.virtual_storages c.virtual_storages_at (h.no_virtual_storages (omega arith))
      ∙ h.virtual_storages ∙ end_none (aggregate_end file) c.aggregates (20 * c.nodes + 6 * c.edges) (h.no_aggregates lt)

  more_left : at < length file → h.left ≡ suc (h.left - 1)
  more_left lt = omega (arith, h.enough)

  read_on_lem : (net : Network) (x stage' : ℕ) → at < length file
      → after (network_of file c) file at (check_record file at c stage) ≡ value (record { network = net; at = x; stage = stage' })
      → read_records (length file) file start ≡ read_records (h.left - 1) file (record { network = net; at = x; stage = stage' })
  unfolding ◌>>=◌
  read_on_lem net x stage' lt q =
      h.from ∙ ap (λ (k : ℕ). read_records k file (reading file at stage c)) (more_left lt)
      ∙ records_next file (reading file at stage c) (h.left - 1) lt
      ∙ ap (λ (r : Result Reading). r >>= λ next. read_records (h.left - 1) file next) (record_law file at stage c ∙ q)

  pub node_more : (x : ℕ) → at < length file → check_record file at c stage ≡ Ok (record { mark = Mark.Node; end = x }) → RecordPassed file at c stage (Ok (record { mark = Mark.Node; end = x })) → ScanInvariant file x Mark.Node (with_record c Mark.Node x)
  node_more x lt q t =
      let qe = h.no_edges (omega (arith, t.0)) in
      let qa = h.no_aggregates (omega (arith, t.0)) in
      let qv = h.no_virtual_storages (omega (arith, t.0)) in
      let f = fixed_at (omega (arith, t.0)) in
      let d = node_end file at x t.2 in
      let w : at ≡ 20 * c.nodes = omega (arith, f, qe) in
      let s : x ≡ 20 * (c.nodes + 1) + 6 * c.edges = omega (arith, f, d) in
      let p : at ≡ records_end (λ at. at + 20) c.nodes 0 = omega (arith, w, end_fixed 20 c.nodes 0) in
      record {
        left = h.left - 1;
        enough = omega (arith, h.enough, d);
        from = read_on_lem _ x 0 lt (ap (after (network_of file c) file at) q)
            ∙ ap (λ (net : Network). read_records (h.left - 1) file (record { network = net; at = x; stage = 0 })) (with_node_lem file c.nodes c.edges c.aggregates c.virtual_storages at x qe qa qv w);
        virtual_storages = s ∙ sym (end_none (aggregate_end file) c.aggregates (20 * (c.nodes + 1) + 6 * c.edges) qa);
        stands = sym (end_none (virtual_storage_end file) c.virtual_storages x qv);
        no_edges = λ _. qe;
        no_aggregates = λ _. qa;
        no_virtual_storages = λ _. qv;
        few_nodes = omega (arith, ltb-true _ _ t.1);
        few_edges = h.few_edges;
        few_aggregates_lem = h.few_aggregates_lem;
        few_virtual_storages_lem = h.few_virtual_storages_lem;
        inside = t.3;
        nodes_pass = one_pass (λ i. check_node file) (λ at. at + 20) c.nodes 0 at x h.nodes_pass p d t.2;
        edges_pass = none_pass (check_edge file (c.nodes + 1)) (λ at. at + 6) c.edges _ qe;
        aggregates_pass = none_pass (λ i. check_aggregate file (c.nodes + 1)) (aggregate_end file) c.aggregates _ qa;
        virtual_storages_pass = none_pass (λ i. check_virtual_storage file (c.nodes + 1)) (virtual_storage_end file) c.virtual_storages _ qv;
      }

  pub edge_more : (x : ℕ) → at < length file → check_record file at c stage ≡ Ok (record { mark = Mark.Edge; end = x }) → RecordPassed file at c stage (Ok (record { mark = Mark.Edge; end = x })) → ScanInvariant file x Mark.Edge (with_record c Mark.Edge x)
  edge_more x lt q t =
      let qa = h.no_aggregates (omega (arith, t.0)) in
      let qv = h.no_virtual_storages (omega (arith, t.0)) in
      let f = fixed_at (omega (arith, t.0)) in
      let d = edge_end file c.nodes c.edges at x t.2 in
      let s : x ≡ 20 * c.nodes + 6 * (c.edges + 1) = omega (arith, f, d) in
      let p : at ≡ records_end (λ at. at + 6) c.edges (20 * c.nodes) = omega (arith, f, end_fixed 6 c.edges (20 * c.nodes)) in
      record {
        left = h.left - 1;
        enough = omega (arith, h.enough, d);
        from = read_on_lem _ x 1 lt (ap (after (network_of file c) file at) q)
            ∙ ap (λ (net : Network). read_records (h.left - 1) file (record { network = net; at = x; stage = 1 })) (with_edge_lem file c.nodes c.edges c.aggregates c.virtual_storages at x qa qv f);
        virtual_storages = s ∙ sym (end_none (aggregate_end file) c.aggregates (20 * c.nodes + 6 * (c.edges + 1)) qa);
        stands = sym (end_none (virtual_storage_end file) c.virtual_storages x qv);
        no_edges = λ l. absurd (omega (arith, l));
        no_aggregates = λ _. qa;
        no_virtual_storages = λ _. qv;
        few_nodes = h.few_nodes;
        few_edges = omega (arith, ltb-true _ _ t.1);
        few_aggregates_lem = h.few_aggregates_lem;
        few_virtual_storages_lem = h.few_virtual_storages_lem;
        inside = t.3;
        nodes_pass = h.nodes_pass;
        edges_pass = one_pass (check_edge file c.nodes) (λ at. at + 6) c.edges (20 * c.nodes) at x h.edges_pass p d t.2;
        aggregates_pass = none_pass (λ i. check_aggregate file c.nodes) (aggregate_end file) c.aggregates _ qa;
        virtual_storages_pass = none_pass (λ i. check_virtual_storage file c.nodes) (virtual_storage_end file) c.virtual_storages _ qv;
      }

  pub aggregate_more : (x : ℕ) → at < length file → check_record file at c stage ≡ Ok (record { mark = Mark.Aggregate; end = x })
      → RecordPassed file at c stage (Ok (record { mark = Mark.Aggregate; end = x })) → ScanInvariant file x Mark.Aggregate (with_record c Mark.Aggregate x)
  aggregate_more x lt q t =
      let qv = h.no_virtual_storages (omega (arith, t.0)) in
      let w : at ≡ records_end (aggregate_end file) c.aggregates (20 * c.nodes + 6 * c.edges) = h.stands ∙ end_none (virtual_storage_end file) c.virtual_storages c.virtual_storages_at qv ∙ h.virtual_storages in
      let d = aggregate_end_lem file c.nodes at x t.2 in
      let g : at + 12 ≤ aggregate_end file at = end_after (set_end file) (λ y. omega arith) _ (at + 12) in
      record {
        left = h.left - 1;
        enough = omega (arith, h.enough, d, g);
        from = read_on_lem _ x 2 lt (ap (after (network_of file c) file at) q)
            ∙ ap (λ (net : Network). read_records (h.left - 1) file (record { network = net; at = x; stage = 2 })) (with_aggregate_lem file c.nodes c.edges c.aggregates c.virtual_storages at x qv w);
        virtual_storages = d ∙ ap (aggregate_end file) w ∙ sym (end_more (aggregate_end file) c.aggregates (20 * c.nodes + 6 * c.edges));
        stands = sym (end_none (virtual_storage_end file) c.virtual_storages x qv);
        no_edges = λ l. absurd (omega (arith, l));
        no_aggregates = λ l. absurd (omega (arith, l));
        no_virtual_storages = λ _. qv;
        few_nodes = h.few_nodes;
        few_edges = h.few_edges;
        few_aggregates_lem = omega (arith, ltb-true _ _ t.1);
        few_virtual_storages_lem = h.few_virtual_storages_lem;
        inside = t.3;
        nodes_pass = h.nodes_pass;
        edges_pass = h.edges_pass;
        aggregates_pass = one_pass (λ i. check_aggregate file c.nodes) (aggregate_end file) c.aggregates (20 * c.nodes + 6 * c.edges) at x h.aggregates_pass w d t.2;
        virtual_storages_pass = none_pass (λ i. check_virtual_storage file c.nodes) (virtual_storage_end file) c.virtual_storages _ qv;
      }

  pub virtual_storage_more : (x : ℕ) → at < length file → check_record file at c stage ≡ Ok (record { mark = Mark.VirtualStorage; end = x })
      → RecordPassed file at c stage (Ok (record { mark = Mark.VirtualStorage; end = x })) → ScanInvariant file x Mark.VirtualStorage (with_record c Mark.VirtualStorage x)
  virtual_storage_more x lt q t =
      let w : at ≡ records_end (virtual_storage_end file) c.virtual_storages (aggregate_start file c.nodes c.edges c.aggregates) = h.stands ∙ ap (records_end (virtual_storage_end file) c.virtual_storages) h.virtual_storages in
      let d = virtual_storage_end_lem file c.nodes at x t.2 in
      record {
        left = h.left - 1;
        enough = omega (arith, h.enough, d);
        from = read_on_lem _ x 3 lt (ap (after (network_of file c) file at) q)
            ∙ ap (λ (net : Network). read_records (h.left - 1) file (record { network = net; at = x; stage = 3 })) (with_virtual_storage_lem file c.nodes c.edges c.aggregates c.virtual_storages at x w);
        virtual_storages = h.virtual_storages;
        stands = d ∙ ap (virtual_storage_end file) h.stands ∙ sym (end_more (virtual_storage_end file) c.virtual_storages c.virtual_storages_at);
        no_edges = λ l. absurd (omega (arith, l));
        no_aggregates = λ l. absurd (omega (arith, l));
        no_virtual_storages = λ l. absurd (omega (arith, l));
        few_nodes = h.few_nodes;
        few_edges = h.few_edges;
        few_aggregates_lem = h.few_aggregates_lem;
        few_virtual_storages_lem = omega (arith, ltb-true _ _ t.1);
        inside = t.3;
        nodes_pass = h.nodes_pass;
        edges_pass = h.edges_pass;
        aggregates_pass = h.aggregates_pass;
        virtual_storages_pass = one_pass (λ i. check_virtual_storage file c.nodes) (virtual_storage_end file) c.virtual_storages c.virtual_storages_at at x h.virtual_storages_pass h.stands d t.2;
      }

  -- one record more, whatever its mark
  pub record_more : (r : Record) → at < length file → check_record file at c stage ≡ Ok r → RecordPassed file at c stage (Ok r) → ScanInvariant file r.end r.mark (with_record c r.mark r.end)
  record_more r = by_mark r.mark r.end
    where
      by_mark : (mark : Mark) (x : ℕ) → at < length file → check_record file at c stage ≡ Ok (record { mark = mark; end = x })
          → RecordPassed file at c stage (Ok (record { mark = mark; end = x })) → ScanInvariant file x mark (with_record c mark x)
      by_mark Mark.Node = node_more
      by_mark Mark.Edge = edge_more
      by_mark Mark.Aggregate = aggregate_more
      by_mark Mark.VirtualStorage = virtual_storage_more

  -- a refusal ends the scan
  pub refusal : (r : Refusal) → at < length file → check_record file at c stage ≡ Err r → read_records (length file) file start ≡ refused r.number r.place
  unfolding ◌>>=◌
  refusal r lt q =
      h.from ∙ ap (λ (k : ℕ). read_records k file (reading file at stage c)) (more_left lt)
      ∙ records_next file (reading file at stage c) (h.left - 1) lt
      ∙ ap (λ (r : Result Reading). r >>= λ next. read_records (h.left - 1) file next) (record_law file at stage c ∙ ap (after (network_of file c) file at) q)

  -- the file's end
  pub accepted : length file ≤ at → read_records (length file) file start ≡ value (network_of file c)
  accepted le = h.from ∙ records_end_lem file (reading file at stage c) h.left le

  pub placed : length file ≤ at → Placed file (Ok c)
  placed le =
      let f : 20 * c.nodes + 6 * c.edges ≤ records_end (aggregate_end file) c.aggregates (20 * c.nodes + 6 * c.edges) = end_after (aggregate_end file) (aggregate_after file) c.aggregates (20 * c.nodes + 6 * c.edges) in
      let g : c.virtual_storages_at ≤ records_end (virtual_storage_end file) c.virtual_storages c.virtual_storages_at = end_after (virtual_storage_end file) (λ y. omega arith) c.virtual_storages c.virtual_storages_at in
      let w : at ≡ length file = omega (arith, le, h.inside) in
      record {
        few_nodes = h.few_nodes;
        few_edges = h.few_edges;
        few_aggregates_lem = h.few_aggregates_lem;
        few_virtual_storages_lem = h.few_virtual_storages_lem;
        fixed = subst (λ (y : ℕ). 20 * c.nodes + 6 * c.edges ≤ y) (sym h.virtual_storages) f;
        inside = subst (λ (y : ℕ). c.virtual_storages_at ≤ y) (sym h.stands ∙ w) g;
        virtual_storages = h.virtual_storages;
        ends = sym h.stands ∙ w;
        nodes_pass = h.nodes_pass;
        edges_pass = h.edges_pass;
        aggregates_pass = h.aggregates_pass;
        virtual_storages_pass = h.virtual_storages_pass;
      }

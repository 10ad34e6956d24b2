-- The walk over the edges that gives them their columns. Assumes nothing.
use Prim.Native.Nat.{ℕ, zero, suc, ◌+◌, ◌*◌, ◌-◌, ◌<◌, ◌≤◌}
use mathlib.Core.Path.{◌≡◌, refl, ap, ◌∙◌}
use mathlib.Core.Logic.{◌⊎◌, inl, inr, ◌≢◌}
use mathlib.Core.List.{List, [], ◌∷◌, map}
use mathlib.Core.Bool.{Bool, true, false, cond}
use mathlib.Core.Option.{Option, none, some}
use native.Mathlib.Omega.{arith}
use native.Mathlib.Numerals.{add-one}
use lib.ListN.{length, get_or, take, drop, set, replicate, length-replicate, drop_of_length-le}
use borrow.Author.Tests.{eq-eqb, ne_eqb}
use lib.Seq.{drop-cons}
use lib.Dec.{eqb}
use Rattle.pywr.specs.Bytes.{byte, le16}
use Rattle.pywr.specs.Network.{link, Edge, Network, source, target, edges_with, incoming, outgoing}
use Rattle.pywr.specs.ColEdgeMap.{Columns, columns, column_at, put, put_new, add_simple_edge, add_equal_edges, single, shares_with, place_edge, place_edges}
use Rattle.pywr.proofs.UnionLaws.{unite_cases}
use Rattle.pywr.proofs.ColumnLaws.{put_length, Kept, under_united, none_there}
use Rattle.pywr.proofs.LinkLaws.{many, single_is}
use Rattle.network_edge.specs.Edge.{edge_at}
use Rattle.network_laws.specs.NetworkAt.{edge_records, network_at}
use Rattle.network_laws.proofs.Index.{edge_count, edge_index}
use Rattle.network_laws.proofs.RecordReaders.{kind_law}
use Rattle.laws.specs.Linked.{Linked}
use Rattle.build_incident_edges.specs.declared.EdgeLists.{EdgeLists}
use Rattle.build_incident_edges.specs.IncidentEdges.{EdgesListed}
use Rattle.build_col_edge_map.specs.Mapped.{code, Mapped, only, shares_across}
use Rattle.build_col_edge_map.proofs.MappedLaws.{mapped_at}

-- ---- the one edge of a list

pub only_none : (size : ℕ) (next : List ℕ) (first : ℕ) (js : List ℕ) → Linked size next first js → first ≡ 0 → 0 ≡ code (only js)
only_none size next first [] l z = refl
only_none size next first (j ∷ js) l z = absurd (omega (arith, l.0))

pub only_one : (size : ℕ) (next : List ℕ) (first : ℕ) (js : List ℕ) → Linked size next first js → first ≢ 0 → get_or next (first - 1) 0 ≡ 0 → first ≡ code (only js)
only_one size next first [] l f z = absurd (f l)
only_one size next first (j ∷ []) l f z = l.0
only_one size next first (j ∷ k ∷ js) l f z =
    let q : first - 1 ≡ j = omega (arith, l.0) in
    absurd (let y : get_or next j 0 ≡ 0 = rw q at z in omega (arith, l.3.0))

pub only_more : (size : ℕ) (next : List ℕ) (first : ℕ) (js : List ℕ) → Linked size next first js → first ≢ 0 → get_or next (first - 1) 0 ≢ 0 → 0 ≡ code (only js)
only_more size next first [] l f g = refl
only_more size next first (j ∷ []) l f g =
    let q : first - 1 ≡ j = omega (arith, l.0) in
    absurd (g (rw q l.3))
only_more size next first (j ∷ k ∷ js) l f g = refl

-- ---- the edge that an edge shares with

no_out : (into out : List ℕ) → code (only out) ≡ 0 → single into out ≡ none
unfolding single
no_out [] out z = refl
no_out (i ∷ []) [] z = refl
no_out (i ∷ []) (o ∷ []) z = absurd (omega arith)
no_out (i ∷ []) (o ∷ p ∷ out) z = rw (many o p out)
no_out (i ∷ j ∷ into) out z = rw (many i j into)

one_out : (into out : List ℕ) → code (only out) ≢ 0 → single into out ≡ only into
unfolding single
one_out [] out f = refl
one_out (i ∷ []) [] f = absurd (f refl)
one_out (i ∷ []) (o ∷ []) f = refl
one_out (i ∷ []) (o ∷ p ∷ out) f = absurd (f refl)
one_out (i ∷ j ∷ into) out f = rw (many i j into)

module _ (kind : ℕ) (into out : List ℕ) where
  pub not_link : kind ≢ 2 → 0 ≡ code (shares_across kind into out)
  not_link f = rw (ne_eqb kind 2 f)

  pub not_one_out : kind ≡ 2 → code (only out) ≡ 0 → 0 ≡ code (shares_across kind into out)
  not_one_out q z = rw (eq-eqb kind 2 q, no_out into out z)

  pub across : kind ≡ 2 → code (only out) ≢ 0 → code (only into) ≡ code (shares_across kind into out)
  across q f = rw (eq-eqb kind 2 q, one_out into out f)

  -- it is one of the edges in
  in_under : (size : ℕ) (next : List ℕ) (first before : ℕ) → Linked size next first into → suc before ≡ code (shares_across kind into out) → before < size
  in_under size next first before l q = go (eqb kind link) (single into out) refl q
    where
      go : (b : Bool) (o : Option ℕ) → single into out ≡ o → suc before ≡ code (cond b o none) → before < size
      go false o s e = absurd (omega arith)
      go true none s e = absurd (omega arith)
      go true (some p) s e = let m : Linked size next first (p ∷ []) = rw (single_is into out p s).into_is at l in omega (arith, m.1)

pub code_none : (o : Option ℕ) → code o ≡ 0 → o ≡ none
code_none none q = refl
code_none (some n) q = absurd (omega arith)

pub code_some : (o : Option ℕ) (k : ℕ) → suc k ≡ code o → o ≡ some k
code_some none k q = absurd (omega arith)
code_some (some n) k q = let e : n ≡ k = omega arith in ap {B = Option ℕ} some e

-- ---- the walk

-- each column's number is under the count
abbrev pub Below : Columns → Type 0
Below c = (x k : ℕ) → column_at c x ≡ some k → k < c.count

set_was : (os : List (Option ℕ)) (e k x j : ℕ) → get_or (set os e (some k)) x none ≡ some j → (j ≡ k) ⊎ (get_or os x none ≡ some j)
set_was [] e k x j h = inr h
set_was (o ∷ os) zero k zero j h = inl (cc)
set_was (o ∷ os) zero k (suc x) j h = inr h
set_was (o ∷ os) (suc e) k zero j h = inr h
set_was (o ∷ os) (suc e) k (suc x) j h = set_was os e k x j h

module _ (size : ℕ) where
  put_kept : (e k : ℕ) (c : Columns) → k < c.count → Kept Below size c → Kept Below size (put e k c)
  unfolding put column_at
  put_kept e k c h kept = record { long = put_length c e k ∙ kept.long; holds = λ x j q. go x j (set_was c.of e k x j q) }
    where
      go : (x j : ℕ) → (j ≡ k) ⊎ (get_or c.of x none ≡ some j) → j < c.count
      go x j (inl q) = omega arith
      go x j (inr q) = kept.holds x j q

  new_kept : (e : ℕ) (c : Columns) → Kept Below size c → Kept Below size (put_new e c)
  unfolding put_new put column_at
  new_kept e c kept =
      put_kept e c.count (record { of = c.of; count = suc c.count }) (omega arith) (record { long = kept.long; holds = λ x j q. let h = kept.holds x j q in omega arith })

  -- an edge's turn keeps the table's length, and each number under the count
  place_kept : (o : Option ℕ) (e : ℕ) (c : Columns) → Kept Below size c → Kept Below size (place_edge o e c)
  unfolding place_edge add_simple_edge add_equal_edges put_new
  place_kept none e c kept = go (column_at c e)
    where
      go : (o : Option ℕ) → Kept Below size (add_simple_edge o e c)
      go none = new_kept e c kept
      go (some k) = kept
  place_kept (some p) e c kept = go (column_at c e) (column_at c p) refl refl
    where
      go : (o r : Option ℕ) → column_at c e ≡ o → column_at c p ≡ r → Kept Below size (add_equal_edges o r e p c)
      go none none q s = put_kept p c.count (put_new e c) (omega arith) (new_kept e c kept)
      go none (some k) q s = put_kept e k c (kept.holds p k s) kept
      go (some k) none q s = put_kept p k c (kept.holds e k q) kept
      go (some k) (some j) q s =
          unite_cases (Kept Below size) k j c (λ r. kept) (λ d f l n u. record { long = l ∙ kept.long; holds = under_united u e p q s f kept.holds })

place_next : (net : Network) (es : List Edge) (e : ℕ) (c : Columns) (o : Option ℕ) (x d : Edge) → e < length es → get_or es e d ≡ x → shares_with net x ≡ o
    → place_edges net e (drop e es) c ≡ place_edges net (e + 1) (drop (e + 1) es) (place_edge o e c)
unfolding place_edges
place_next net es e c o x d h q s =
    rw (drop-cons es e d h, q, add-one e) (ap (λ (p : Option ℕ). place_edges net (suc e) (drop (suc e) es) (place_edge p e c)) s)

zeros_taken : (k n : ℕ) → k ≤ n → take (length (replicate {A = Option ℕ} k none)) (replicate {A = ℕ} n 0) ≡ map code (replicate k none)
zeros_taken zero n h = refl
zeros_taken (suc k) zero h = absurd (omega arith)
zeros_taken (suc k) (suc n) h = ap (λ (l : List ℕ). 0 ∷ l) (zeros_taken k n (omega arith))

module _ (file : List ℕ) (nodes edges : ℕ) where
  -- the edge that edge e shares with, read where the nodes and edges stand
  abbrev pub shared_by : ℕ → Option ℕ
  shared_by e =
      let from : ℕ = le16 file (20 * nodes + 6 * e + 2) in
      shares_across (byte file (20 * from + 2)) (edges_with target from 0 (edge_records file nodes edges)) (edges_with source from 0 (edge_records file nodes edges))

  module _ {incoming outgoing : EdgeLists} (ins : EdgesListed target file nodes edges incoming) (outs : EdgesListed source file nodes edges outgoing) where
    pub shared_read : (e from before : ℕ) → from ≡ le16 file (20 * nodes + 6 * e + 2)
        → ((size : ℕ) (into out : List ℕ) → Linked size incoming.next (get_or incoming.first from 0) into → Linked size outgoing.next (get_or outgoing.first from 0) out
        → before ≡ code (shares_across (byte file (20 * from + 2)) into out))
        → before ≡ code (shared_by e)
    shared_read e from before q h =
        let n : ℕ = le16 file (20 * nodes + 6 * e + 2) in
        (rw q at h) edges (edges_with target n 0 (edge_records file nodes edges)) (edges_with source n 0 (edge_records file nodes edges)) (ins.listed n) (outs.listed n)

  -- it is an edge
  pub shared_under : {lists : EdgeLists} → EdgesListed target file nodes edges lists → (e before : ℕ) → suc before ≡ code (shared_by e) → before < edges
  shared_under {lists} ins e before q =
      let n : ℕ = le16 file (20 * nodes + 6 * e + 2) in
      in_under (byte file (20 * n + 2)) (edges_with target n 0 (edge_records file nodes edges)) (edges_with source n 0 (edge_records file nodes edges)) edges lists.next (get_or lists.first n 0) before (ins.listed n) q

  shared_is : (a v e : ℕ) → le16 file (20 * nodes + 6 * e + 2) < nodes → shares_with (network_at file nodes edges a v) (edge_at file (20 * nodes + 6 * e)) ≡ shared_by e
  unfolding shares_with incoming outgoing network_at
  shared_is a v e h =
      let from : ℕ = le16 file (20 * nodes + 6 * e + 2) in
      ap (λ (kind : ℕ). shares_across kind (edges_with target from 0 (edge_records file nodes edges)) (edges_with source from 0 (edge_records file nodes edges))) (kind_law file nodes from h)

  edge_is : (e : ℕ) → e < edges → get_or (edge_records file nodes edges) e (edge_at file 0) ≡ edge_at file (20 * nodes + 6 * e)
  unfolding network_at
  edge_is e h = edge_index file nodes edges 0 0 e (edge_at file 0) h

  -- the columns after the first e edges, as they stand in the table
  pub record Placed (e count : ℕ) (table : List ℕ) : Type 0 where
    pub now_columns : Columns
    pub few : e ≤ edges
    pub few_columns : count ≤ e
    pub kept : Kept Below edges now_columns
    pub mapped : Mapped now_columns table count
    pub rest : (a v : ℕ) → columns (network_at file nodes edges a v) ≡ place_edges (network_at file nodes edges a v) e (drop e (edge_records file nodes edges)) now_columns

  edges_long : length (edge_records file nodes edges) ≡ edges
  unfolding network_at
  edges_long = edge_count file nodes edges 0 0

  pub none_placed : edges ≤ 512 → Placed 0 0 (replicate 512 0)
  unfolding columns network_at
  none_placed h =
      record {
        now_columns = record { of = replicate (length (edge_records file nodes edges)) none; count = 0 };
        few = omega arith;
        few_columns = omega arith;
        kept = record { long = length-replicate (length (edge_records file nodes edges)) none ∙ edges_long; holds = λ x k q. none_there (length (edge_records file nodes edges)) x k q };
        mapped = record { table_is = zeros_taken (length (edge_records file nodes edges)) 512 (omega (arith, edges_long)); count_is = refl };
        rest = λ a v. refl;
      }

  -- no number in the table is over the count
  pub number_most : {e count : ℕ} {table : List ℕ} → Placed e count table → (x : ℕ) → x < edges → get_or table x 0 ≤ count
  number_most {count} {table} h x lt = rw (mapped_at h.now_columns table count h.mapped x (omega (arith, h.kept.long))) (go (column_at h.now_columns x) refl)
    where
      go : (o : Option ℕ) → column_at h.now_columns x ≡ o → code o ≤ count
      go none q = omega arith
      go (some k) q = omega (arith, h.kept.holds x k q, h.mapped.count_is)

  module _ (e count r : ℕ) (table table' : List ℕ) (h : Placed e count table) (lt : e < edges) (from : le16 file (20 * nodes + 6 * e + 2) < nodes) (few : r ≤ count + 1) where
    placed : (o : Option ℕ) → shared_by e ≡ o → Mapped (place_edge o e h.now_columns) table' r → Placed (e + 1) r table'
    placed o q m =
        record {
          now_columns = place_edge o e h.now_columns;
          few = omega arith;
          few_columns = omega (arith, h.few_columns);
          kept = place_kept edges o e h.now_columns h.kept;
          mapped = m;
          rest = λ a v.
              h.rest a v
              ∙ place_next (network_at file nodes edges a v) (edge_records file nodes edges) e h.now_columns o _ (edge_at file 0) (omega (arith, edges_long)) (edge_is e lt) (shared_is a v e from ∙ q);
        }

    pub simple_placed : code (shared_by e) ≡ 0 → Mapped (add_simple_edge (column_at h.now_columns e) e h.now_columns) table' r → Placed (e + 1) r table'
    unfolding place_edge
    simple_placed q m = placed none (code_none (shared_by e) q) m

    pub equal_placed : (before : ℕ) → suc before ≡ code (shared_by e)
        → Mapped (add_equal_edges (column_at h.now_columns e) (column_at h.now_columns before) e before h.now_columns) table' r → Placed (e + 1) r table'
    unfolding place_edge
    equal_placed before q m = placed (some before) (code_some (shared_by e) before q) m

  pub all_placed : (e count : ℕ) (table : List ℕ) → Placed e count table → edges ≤ e → (a v : ℕ) → Mapped (columns (network_at file nodes edges a v)) table count
  unfolding place_edges
  all_placed e count table h le a v =
      let all : columns (network_at file nodes edges a v) ≡ h.now_columns =
      h.rest a v ∙ rw (drop_of_length-le (edge_records file nodes edges) {i = e} (omega (arith, edges_long))) in
      rw all h.mapped

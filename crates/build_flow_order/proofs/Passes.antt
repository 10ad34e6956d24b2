-- A pass over the edges in index order, which follows each that passes a test. Assumes nothing.
use Prim.Native.Nat.{ℕ, suc, ◌+◌, ◌<◌, ◌≤◌}
use mathlib.Core.Path.{◌≡◌, refl, sym, ap, ◌∙◌}
use mathlib.Core.Logic.{◌≢◌}
use mathlib.Core.List.{List, []}
use mathlib.Core.Bool.{Bool, true, false, cond}
use mathlib.Core.Option.{Option, none, some}
use native.Mathlib.Omega.{arith}
use native.Mathlib.Numerals.{add-one}
use lib.ListN.{length, drop, drop_of_length-le}
use lib.Seq.{drop-cons}
use Rattle.pywr.specs.Network.{Edge, Network}
use Rattle.pywr.specs.ColEdgeMap.{shares_with}
use Rattle.pywr.specs.FlowOrder.{no_edge, edge_numbered, follow, is_none, starts_path, follow_all, paths, flow_order}
use Rattle.network_laws.specs.NetworkAt.{network_at}
use Rattle.network_laws.proofs.Index.{edge_count}
use Rattle.build_col_edge_map.specs.Mapped.{code, number_of}
use Rattle.pywr.specs.declared.EdgeIndex.{EdgeIndex}
use Rattle.std.specs.Prelude as declared
use Rattle.build_flow_order.specs.Ordered.{Ordered, Marked}

-- ---- how `follow_all` goes on

module _ (n : Network) (test : Edge → Bool) (e : ℕ) (order : List ℕ) where
  abbrev after : ℕ → List ℕ → List ℕ
  after k taken = follow_all n test k (drop k n.edges) taken

  next_edge : e < length n.edges → (b : Bool) → test (edge_numbered n e) ≡ b
      → after e order ≡ after (e + 1) (cond b (follow n (length n.edges) (some e) order) order)
  unfolding follow_all
  next_edge lt b q =
      rw (drop-cons n.edges e no_edge lt, add-one e)
      (ap (λ (c : Bool). after (suc e) (cond c (follow n (length n.edges) (some e) order) order)) q)

-- ---- a pass over the edges of a file

-- `whole` is the order at hand, with what follows from the edges from e on
pub record Reached (n : Network) (test : Edge → Bool) (edges : ℕ) (whole shape₀ shape : List ℕ) (seen : List Bool) (count e : ℕ) : Type 0 where
  pub order : List ℕ
  pub held : Ordered edges shape₀ order shape seen count
  pub rest : whole ≡ follow_all n test e (drop e n.edges) order

module _ (file : List ℕ) (nodes edges : ℕ) where
  abbrev net : ℕ → ℕ → Network
  net a v = network_at file nodes edges a v

  module _ (test : Network → Edge → Bool) (first whole : Network → List ℕ) where
    -- the edges before e had their turn in the pass that makes of the order `first` the order `whole`
    pub record PassedTo (seen₀ : List Bool) (shape₀ : List ℕ) (count₀ : ℕ) (seen : List Bool) (shape : List ℕ) (count e : ℕ) : Type 0 where
      pub few : e ≤ edges
      pub marked : Marked edges seen count
      pub long : length shape ≡ length shape₀
      pub reached : (a v : ℕ) (base : List ℕ) → Ordered edges base (first (net a v)) shape₀ seen₀ count₀
          → Reached (net a v) (test (net a v)) edges (whole (net a v)) base shape seen count e

    none_passed : ((n : Network) → whole n ≡ follow_all n (test n) 0 n.edges (first n))
        → (seen : List Bool) (shape : List ℕ) (count : ℕ) → Marked edges seen count → PassedTo seen shape count seen shape count 0
    none_passed is seen shape count m =
        record { few = omega arith; marked = m; long = refl; reached = λ a v base o. record { order = first (net a v); held = o; rest = is (net a v) } }

    module _ {seen₀ : List Bool} {shape₀ : List ℕ} {count₀ : ℕ} {seen : List Bool} {shape : List ℕ} {count e : ℕ}
        (h : PassedTo seen₀ shape₀ count₀ seen shape count e) where
      pub pass_whole : edges ≤ e → (a v : ℕ) (base : List ℕ) → Ordered edges base (first (net a v)) shape₀ seen₀ count₀
          → Ordered edges base (whole (net a v)) shape seen count
      unfolding follow_all
      pass_whole le a v base o =
          let n : Network = net a v in
          let r = h.reached a v base o in
          let all : whole n ≡ r.order = r.rest ∙ rw (drop_of_length-le n.edges {i = e} (omega (arith, edge_count file nodes edges a v))) in
          rw all r.held

      module _ (lt : e < edges) where
        -- an edge that does not pass the test
        pub edge_left : ((a v : ℕ) → test (net a v) (edge_numbered (net a v) e) ≡ false) → PassedTo seen₀ shape₀ count₀ seen shape count (e + 1)
        edge_left t =
            record {
              few = omega arith;
              marked = h.marked;
              long = h.long;
              reached = λ a v base o.
                  let n : Network = net a v in
                  let r = h.reached a v base o in
                  let size : length n.edges ≡ edges = edge_count file nodes edges a v in
                  record { order = r.order; held = r.held; rest = r.rest ∙ next_edge n (test n) e r.order (omega (arith, size)) false (t a v) };
            }

        -- one that does; k is its number as `follow` is given it
        pub edge_followed : {seen' : List Bool} {shape' : List ℕ} {count' : ℕ} (k : ℕ) → ((a v : ℕ) → test (net a v) (edge_numbered (net a v) e) ≡ true)
            → k ≡ e → length shape' ≡ length shape → Marked edges seen' count'
            → ((a v : ℕ) (base order : List ℕ) → Ordered edges base order shape seen count
            → Ordered edges base (follow (net a v) edges (some k) order) shape' seen' count')
            → PassedTo seen₀ shape₀ count₀ seen' shape' count' (e + 1)
        edge_followed k t q l m f =
            record {
              few = omega arith;
              marked = m;
              long = l ∙ h.long;
              reached = λ a v base o.
                  let n : Network = net a v in
                  let r = h.reached a v base o in
                  let size : length n.edges ≡ edges = edge_count file nodes edges a v in
                  record {
                    order = follow n edges (some e) r.order;
                    held = (rw q at f) a v base r.order r.held;
                    rest =
                        r.rest
                        ∙ next_edge n (test n) e r.order (omega (arith, size)) true (t a v)
                        ∙ ap (λ (most : ℕ). follow_all n (test n) (e + 1) (drop (e + 1) n.edges) (follow n most (some e) r.order)) size;
                  };
            }

  -- ---- the two passes

  module _ (seen : List Bool) (shape : List ℕ) where
    pub no_paths : (count : ℕ) → Marked edges seen count → PassedTo starts_path (λ n. []) paths seen shape count seen shape count 0
    unfolding paths
    no_paths count m = none_passed starts_path (λ n. []) paths (λ n. refl) seen shape count m

    pub no_rings : (count : ℕ) → Marked edges seen count → PassedTo (λ n edge. true) paths flow_order seen shape count seen shape count 0
    unfolding flow_order
    no_rings count m = none_passed (λ n edge. true) paths flow_order (λ n. refl) seen shape count m

-- ---- whether a path starts

pub none_number : (edge : declared.Option EdgeIndex) → declared.is_some edge ≡ false → number_of edge ≡ 0
none_number declared.None q = refl
none_number (declared.Some edge) q = absurd (cc)

pub some_number : (edge : declared.Option EdgeIndex) → declared.is_some edge ≡ true → number_of edge ≢ 0
some_number declared.None q z = cc
some_number (declared.Some edge) q z = omega arith

none_before : (o : Option ℕ) → code o ≡ 0 → is_none o ≡ true
unfolding is_none
none_before none q = refl
none_before (some x) q = absurd (omega arith)

one_before : (o : Option ℕ) → code o ≢ 0 → is_none o ≡ false
unfolding is_none
one_before none f = absurd (f refl)
one_before (some x) f = refl

module _ (n : Network) (edge : Edge) (before : ℕ) (q : before ≡ code (shares_with n edge)) where
  pub path_starts : before ≡ 0 → starts_path n edge ≡ true
  unfolding starts_path
  path_starts z = none_before (shares_with n edge) (sym q ∙ z)

  pub path_goes_on : before ≢ 0 → starts_path n edge ≡ false
  unfolding starts_path
  path_goes_on f = one_before (shares_with n edge) (λ z. f (q ∙ z))

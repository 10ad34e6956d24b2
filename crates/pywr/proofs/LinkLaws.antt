-- Links: the edge that an edge shares its column with, and that no edge is shared by two. Assumes nothing.
use mathlib.Core.Path.{◌≡◌, refl, sym, ap, ◌∙◌, subst}
use mathlib.Core.Logic.{◌⊎◌, inl, inr, ◌≢◌}
use Prim.Native.Nat.{ℕ, zero, suc, ◌+◌, ◌<◌, ◌≤◌, zero-le, suc-le-suc}
use native.Mathlib.Nat.{add-zero, add-suc, suc-add, zero-add}
use native.Mathlib.Omega.{arith}
use mathlib.Core.Bool.{Bool, true, false, cond}
use mathlib.Core.List.{List, [], ◌∷◌, Memᴰ}
use mathlib.Core.Option.{Option, none, some}
use lib.ListN.{length, get_elem?, length-replicate}
use lib.Dec.{T, eqb, eqb→eq, eqb_refl}
use borrow.Author.Tests.{ne_eqb}
use Rattle.laws.proofs.Tests.{cond_yes}
use Rattle.pywr.specs.Network.{link, Edge, Network, kind_of, keep_if, source, target, edges_with, incoming, outgoing}
use Rattle.pywr.specs.ColEdgeMap.{columns, Columns, column_at, single, shares_with}
use Rattle.pywr.proofs.ColumnLaws.{Inside, Closed, Kept, places_kept, start, Paths, paths_closed, paths_start, Equivalence, Related, related_closed, related_start, Even, same_amount}

-- the edge that edge e shares its column with
pub share_at : Network → Option Edge → Option ℕ
share_at net none = none
share_at net (some x) = shares_with net x

pub prev_of : Network → ℕ → Option ℕ
prev_of net e = share_at net (get_elem? net.edges e)

-- ---- lists of edge numbers

pub below_length : (es : List Edge) (j : ℕ) (x : Edge) → get_elem? es j ≡ some x → j < length es
below_length [] j x h = let z : ◌≡◌ {A = ℕ} 0 1 = cc in absurd (omega arith)
below_length (e ∷ es) zero x h = suc-le-suc zero-le
below_length (e ∷ es) (suc j) x h = suc-le-suc (below_length es j x h)

-- what a number found in a list of edges says
pub record Ends (n p i : ℕ) (end : Edge → ℕ) (es : List Edge) : Type 0 where
  pub at : ℕ
  pub where_at : p ≡ i + at
  pub edge : Edge
  pub found : get_elem? es at ≡ some edge
  pub ends : end edge ≡ n

later : (n p i : ℕ) (end : Edge → ℕ) (e : Edge) (es : List Edge) → Ends n p (suc i) end es → Ends n p i end (e ∷ es)
later n p i end e es r = record { at = suc r.at; where_at = r.where_at ∙ suc-add i r.at ∙ sym (add-suc i r.at); edge = r.edge; found = r.found; ends = r.ends }

kept_cases : (b : Bool) (x p : ℕ) (xs : List ℕ) → Memᴰ p (keep_if b x xs) → (T b × (p ≡ x)) ⊎ Memᴰ p xs
unfolding keep_if
kept_cases true x p xs m = go (mathlib.Core.List.Memᴰ.cases_cons m)
  where
    go : (p ≡ x) ⊎ Memᴰ p xs → (T true × (p ≡ x)) ⊎ Memᴰ p xs
    go (inl q) = inl (tt, q)
    go (inr q) = inr q
kept_cases false x p xs m = inr m

pub ends_sound : (end : Edge → ℕ) (n i p : ℕ) (es : List Edge) → Memᴰ p (edges_with end n i es) → Ends n p i end es
unfolding edges_with
ends_sound end n i p [] m = absurd (mathlib.Core.List.Memᴰ.not-nil m)
ends_sound end n i p (e ∷ es) m = go (λ r. ends_sound end n (suc i) p es r) (kept_cases (eqb (end e) n) i p (edges_with end n (suc i) es) m)
  where
    go : (Memᴰ p (edges_with end n (suc i) es) → Ends n p (suc i) end es) → (T (eqb (end e) n) × (p ≡ i)) ⊎ Memᴰ p (edges_with end n (suc i) es) → Ends n p i end (e ∷ es)
    go ih (inl q) = record { at = 0; where_at = q.1 ∙ sym (add-zero i); edge = e; found = refl; ends = eqb→eq (end e) n q.0 }
    go ih (inr q) = later n p i end e es (ih q)

keep_there : (b : Bool) (x p : ℕ) (xs : List ℕ) → Memᴰ p xs → Memᴰ p (keep_if b x xs)
unfolding keep_if
keep_there true x p xs m = mathlib.Core.List.Memᴰ.tail m
keep_there false x p xs m = m

keep_here : (b : Bool) (x p : ℕ) (xs : List ℕ) → T b → p ≡ x → Memᴰ p (keep_if b x xs)
unfolding keep_if
keep_here true x p xs t q = mathlib.Core.List.Memᴰ.head q
keep_here false x p xs t q = absurd t

pub ends_complete : (end : Edge → ℕ) (n i j : ℕ) (es : List Edge) (x : Edge) → get_elem? es j ≡ some x → end x ≡ n → Memᴰ (i + j) (edges_with end n i es)
unfolding edges_with
ends_complete end n i j [] x h q = let z : ◌≡◌ {A = ℕ} 0 1 = cc in absurd (omega arith)
ends_complete end n i zero (e ∷ es) x h q =
    let same : e ≡ x = cc in
    keep_here (eqb (end e) n) i (i + 0) (edges_with end n (suc i) es) (subst (λ (k : ℕ). T (eqb (end e) k)) (ap end same ∙ q) (eqb_refl (end e))) (add-zero i)
ends_complete end n i (suc j) (e ∷ es) x h q =
    keep_there (eqb (end e) n) i (i + suc j) (edges_with end n (suc i) es)
    (mathlib.Core.List.Memᴰ.cast (add-suc i j ∙ sym (suc-add i j)) (ends_complete end n (suc i) j es x h q))

-- ---- a single link

pub record Single (into out : List ℕ) (p : ℕ) : Type 0 where
  pub exit : ℕ
  pub into_is : into ≡ p ∷ []
  pub out_is : out ≡ exit ∷ []

-- two edges or more are not one
pub many : (a b : ℕ) (rest : List ℕ) → eqb (length (a ∷ b ∷ rest)) 1 ≡ false
many a b rest = ne_eqb (suc (suc (length rest))) 1 (λ q. omega arith)

pub single_is : (into out : List ℕ) (p : ℕ) → single into out ≡ some p → Single into out p
unfolding single
single_is [] out p h = let z : ◌≡◌ {A = ℕ} 0 1 = cc in absurd (omega arith)
single_is (i ∷ []) [] p h = let z : ◌≡◌ {A = ℕ} 0 1 = cc in absurd (omega arith)
single_is (i ∷ []) (o ∷ []) p h = let q : i ≡ p = cc in record { exit = o; into_is = ap (λ (k : ℕ). k ∷ []) q; out_is = refl }
single_is (i ∷ []) (o ∷ o' ∷ out) p h = let g = rw (many o o' out) at h in let z : ◌≡◌ {A = ℕ} 0 1 = cc in absurd (omega arith)
single_is (i ∷ j ∷ into) out p h = let g = rw (many i j into) at h in let z : ◌≡◌ {A = ℕ} 0 1 = cc in absurd (omega arith)

shares_single : (net : Network) (x : Edge) (p : ℕ) → shares_with net x ≡ some p → T (eqb (kind_of net.nodes x.from) link) × Single (incoming net x.from) (outgoing net x.from) p
unfolding shares_with
shares_single net x p h = go (eqb (kind_of net.nodes x.from) link) h
  where
    go : (b : Bool) → cond b (single (incoming net x.from) (outgoing net x.from)) none ≡ some p → T b × Single (incoming net x.from) (outgoing net x.from) p
    go true q = (tt, single_is (incoming net x.from) (outgoing net x.from) p q)
    go false q = let z : ◌≡◌ {A = ℕ} 0 1 = cc in absurd (omega arith)

-- what it takes for edge e to share with edge p
pub record Shares (net : Network) (e p : ℕ) : Type 0 where
  pub edge : Edge
  pub found : get_elem? net.edges e ≡ some edge
  pub is_link : T (eqb (kind_of net.nodes edge.from) link)
  pub alone : Single (incoming net edge.from) (outgoing net edge.from) p

pub shares : (net : Network) (e p : ℕ) → prev_of net e ≡ some p → Shares net e p
unfolding prev_of share_at
shares net e p h = go (get_elem? net.edges e) refl h
  where
    go : (o : Option Edge) → get_elem? net.edges e ≡ o → share_at net o ≡ some p → Shares net e p
    go none q r = let z : ◌≡◌ {A = ℕ} 0 1 = cc in absurd (omega arith)
    go (some x) q r = let s = shares_single net x p r in record { edge = x; found = q; is_link = s.0; alone = s.1 }

-- the shared edge ends where the other starts
entry : (net : Network) (e p : ℕ) (s : Shares net e p) → Ends s.edge.from p 0 target net.edges
unfolding incoming
entry net e p s =
    ends_sound target s.edge.from 0 p net.edges
    (subst (λ (l : List ℕ). Memᴰ p l) (sym s.alone.into_is) (mathlib.Core.List.Memᴰ.head refl))

-- edge e is the link's one edge out
pub exit_is : (net : Network) (e p : ℕ) (s : Shares net e p) → e ≡ s.alone.exit
unfolding outgoing
exit_is net e p s =
    mathlib.Core.List.Memᴰ.eq_of_singleton
    (subst (λ (l : List ℕ). Memᴰ e l) s.alone.out_is
    (mathlib.Core.List.Memᴰ.cast (sym (zero-add e)) (ends_complete source s.edge.from 0 e net.edges s.edge s.found refl)))

pub prev_once : (net : Network) (a b p : ℕ) → prev_of net a ≡ some p → prev_of net b ≡ some p → a ≡ b
prev_once net a b p ha hb =
    let sa : Shares net a p = shares net a p ha in
    let sb : Shares net b p = shares net b p hb in
    let ea = entry net a p sa in
    let eb = entry net b p sb in
    let at : ea.at ≡ eb.at = (let x = ea.where_at in let y = eb.where_at in omega arith) in
    let same : some ea.edge ≡ some eb.edge = sym ea.found ∙ ap (get_elem? net.edges) at ∙ eb.found in
    let one : ea.edge ≡ eb.edge = (let f = same in cc) in
    let node : sa.edge.from ≡ sb.edge.from = sym ea.ends ∙ ap target one ∙ eb.ends in
    let outs : sa.alone.exit ∷ [] ≡ sb.alone.exit ∷ [] = sym sa.alone.out_is ∙ ap (outgoing net) node ∙ sb.alone.out_is in
    let exits : sa.alone.exit ≡ sb.alone.exit = cc in
    exit_is net a p sa ∙ exits ∙ sym (exit_is net b p sb)

-- "to itself" is refused
abbrev pub NoSelf : Network → Type 0
NoSelf net = (e : ℕ) (x : Edge) → get_elem? net.edges e ≡ some x → x.from ≢ x.to

pub prev_inside : (net : Network) → NoSelf net → Inside (prev_of net) (length net.edges)
prev_inside net noself e p h =
    let s : Shares net e p = shares net e p h in
    let r = entry net e p s in
    let at : p ≡ r.at = r.where_at ∙ zero-add r.at in
    let there : get_elem? net.edges p ≡ some r.edge = ap (get_elem? net.edges) at ∙ r.found in (
      below_length net.edges p r.edge there,
      λ q. let g : get_elem? net.edges e ≡ some r.edge = ap (get_elem? net.edges) (sym q)
          ∙ there in let f = s.found in let one : s.edge ≡ r.edge = cc in noself e s.edge f (sym r.ends ∙ ap target (sym one)),
    )

-- ---- the columns of a network

pub own_share : (net : Network) (i : ℕ) (x : Edge) → get_elem? net.edges i ≡ some x → prev_of net (0 + i) ≡ shares_with net x
unfolding prev_of share_at
own_share net i x h = ap (λ (k : ℕ). share_at net (get_elem? net.edges k)) (zero-add i) ∙ ap (share_at net) h

pub columns_kept : (net : Network) → NoSelf net → (Q : Columns → Type 0) → Closed (prev_of net) Q → Q (start (length net.edges)) → Kept Q (length net.edges) (columns net)
unfolding columns
columns_kept net noself Q closed begin =
    places_kept (prev_of net) Q closed (length net.edges) (prev_inside net noself) net net.edges 0 (start (length net.edges))
    (own_share net)
    (omega arith)
    (record { long = length-replicate (length net.edges) none; holds = begin })

pub columns_paths : (net : Network) → NoSelf net → Paths (prev_of net) (columns net)
columns_paths net noself =
    (columns_kept net noself (Paths (prev_of net)) (paths_closed (prev_of net) (prev_once net)) (paths_start (prev_of net) (length net.edges))).holds

-- what holds between an edge and the edge that it shares with holds between any two edges of a column
pub columns_related : (net : Network) → NoSelf net → (R : ℕ → ℕ → Type 0) → Equivalence R → ((e p : ℕ) → prev_of net e ≡ some p → R e p) → Related R (columns net)
columns_related net noself R r passes =
    (columns_kept net noself (Related R) (related_closed (prev_of net) R r passes) (related_start (prev_of net) R r passes (length net.edges))).holds

-- edges of a column carry one amount, where each edge carries what the edge that it shares with carries
pub columns_even : (net : Network) → NoSelf net → (amount : ℕ → ℕ) → ((e p : ℕ) → prev_of net e ≡ some p → amount e ≡ amount p) → Even amount (columns net)
columns_even net noself amount passes = columns_related net noself _ (same_amount amount) passes

-- ---- edge numbers rise

least : (end : Edge → ℕ) (n i p : ℕ) (es : List Edge) → Memᴰ p (edges_with end n i es) → i ≤ p
least end n i p es m = let r = ends_sound end n i p es m in let q = r.where_at in omega arith

pub rising : (end : Edge → ℕ) (n i a b : ℕ) (rest : List ℕ) (es : List Edge) → edges_with end n i es ≡ a ∷ b ∷ rest → a < b
unfolding edges_with keep_if
rising end n i a b rest [] h = let z : ◌≡◌ {A = ℕ} 0 1 = cc in absurd (omega arith)
rising end n i a b rest (e ∷ es) h = go (λ q. rising end n (suc i) a b rest es q) (eqb (end e) n) h
  where
    go : (edges_with end n (suc i) es ≡ a ∷ b ∷ rest → a < b) → (t : Bool) → keep_if t i (edges_with end n (suc i) es) ≡ a ∷ b ∷ rest → a < b
    go ih true q =
        let first : i ≡ a = cc in
        let others : edges_with end n (suc i) es ≡ b ∷ rest = cc in
        let l = least end n (suc i) b es (subst (λ (k : List ℕ). Memᴰ b k) (sym others) (mathlib.Core.List.Memᴰ.head refl)) in
        omega arith
    go ih false q = ih q

-- ---- a link whose edges all lie in one column has one edge in and one out

single_back : (into out : List ℕ) (p : ℕ) → Single into out p → single into out ≡ some p
unfolding single
single_back into out p s = rw (s.into_is, s.out_is)

-- an edge out of a link with one edge in and one out shares with the edge in
pub shares_back : (net : Network) (n e p : ℕ) (x : Edge) → get_elem? net.edges e ≡ some x → x.from ≡ n → T (eqb (kind_of net.nodes n) link) → Single (incoming net n) (outgoing net n) p → prev_of net e ≡ some p
unfolding prev_of share_at shares_with
shares_back net n e p x found from is_link s =
    ap (share_at net) found
    ∙ ap (λ (k : ℕ). cond (eqb (kind_of net.nodes k) link) (single (incoming net k) (outgoing net k)) none) from
    ∙ cond_yes (eqb (kind_of net.nodes n) link) _ _ is_link
    ∙ single_back (incoming net n) (outgoing net n) p s

found_ends : (end : Edge → ℕ) (n p : ℕ) (es : List Edge) (x : Edge) → Memᴰ p (edges_with end n 0 es) → get_elem? es p ≡ some x → end x ≡ n
found_ends end n p es x m h =
    let r = ends_sound end n 0 p es m in
    let f : get_elem? es p ≡ some r.edge = ap (get_elem? es) (r.where_at ∙ zero-add r.at) ∙ r.found in
    let one : x ≡ r.edge = cc in
    ap end one ∙ r.ends

-- an edge that shares across node n makes it a single link
across_in : (net : Network) (n x a : ℕ) → prev_of net x ≡ some a → Memᴰ a (incoming net n) → single (incoming net n) (outgoing net n) ≡ some a
unfolding incoming outgoing
across_in net n x a h m =
    let s : Shares net x a = shares net x a h in
    let e = entry net x a s in
    let f : get_elem? net.edges a ≡ some e.edge = ap (get_elem? net.edges) (e.where_at ∙ zero-add e.at) ∙ e.found in
    let node : s.edge.from ≡ n = sym e.ends ∙ found_ends target n a net.edges e.edge m f in
    ap (λ (k : ℕ). single (incoming net k) (outgoing net k)) (sym node) ∙ single_back (incoming net s.edge.from) (outgoing net s.edge.from) a s.alone

across_out : (net : Network) (n x a : ℕ) → prev_of net x ≡ some a → Memᴰ x (outgoing net n) → single (incoming net n) (outgoing net n) ≡ some a
unfolding incoming outgoing
across_out net n x a h m =
    let s : Shares net x a = shares net x a h in
    let node : s.edge.from ≡ n = found_ends source n x net.edges s.edge m s.found in
    ap (λ (k : ℕ). single (incoming net k) (outgoing net k)) (sym node) ∙ single_back (incoming net s.edge.from) (outgoing net s.edge.from) a s.alone

some_not_none : {X : Type 0} (o : Option ℕ) (a : ℕ) → o ≡ some a → o ≡ none → X
some_not_none o a p q = let z : ◌≡◌ {A = ℕ} 0 1 = cc in absurd (omega arith)

module _ (net : Network) (noself : NoSelf net) (n k : ℕ)
    (ins : (e : ℕ) → Memᴰ e (incoming net n) → column_at (columns net) e ≡ some k)
    (outs : (e : ℕ) → Memᴰ e (outgoing net n) → column_at (columns net) e ≡ some k) where
  ps : Paths (prev_of net) (columns net)
  ps = columns_paths net noself

  -- no edge shares across n: then it has one edge in at most, and one out at most
  one_in : single (incoming net n) (outgoing net n) ≡ none → (a b : ℕ) (rest : List ℕ) → incoming net n ≡ a ∷ b ∷ rest → ⊥
  unfolding incoming
  one_in q a b rest h =
      let ma : Memᴰ a (incoming net n) = subst (λ (l : List ℕ). Memᴰ a l) (sym h) (mathlib.Core.List.Memᴰ.head refl) in
      let mb : Memᴰ b (incoming net n) = subst (λ (l : List ℕ). Memᴰ b l) (sym h) (mathlib.Core.List.Memᴰ.tail (mathlib.Core.List.Memᴰ.head refl)) in
      let same : a ≡ b =
      ps.one_tail a b k (ins a ma) (ins b mb)
      (λ x p i. some_not_none (single (incoming net n) (outgoing net n)) a (across_in net n x a p ma) q)
      (λ x p i. some_not_none (single (incoming net n) (outgoing net n)) b (across_in net n x b p mb) q) in
      let r = rising target n 0 a b rest net.edges h in
      omega arith

  one_out : single (incoming net n) (outgoing net n) ≡ none → (a b : ℕ) (rest : List ℕ) → outgoing net n ≡ a ∷ b ∷ rest → ⊥
  unfolding outgoing
  one_out q a b rest h =
      let ma : Memᴰ a (outgoing net n) = subst (λ (l : List ℕ). Memᴰ a l) (sym h) (mathlib.Core.List.Memᴰ.head refl) in
      let mb : Memᴰ b (outgoing net n) = subst (λ (l : List ℕ). Memᴰ b l) (sym h) (mathlib.Core.List.Memᴰ.tail (mathlib.Core.List.Memᴰ.head refl)) in
      let same : a ≡ b =
      ps.one_head a b k (outs a ma) (outs b mb)
      (λ x p i. some_not_none (single (incoming net n) (outgoing net n)) x (across_out net n a x p ma) q)
      (λ x p i. some_not_none (single (incoming net n) (outgoing net n)) x (across_out net n b x p mb) q) in
      let r = rising source n 0 a b rest net.edges h in
      omega arith

  -- a link has an edge in and an edge out (refusal 8)
  pub one_column_single : (a b : ℕ) (more-in more-out : List ℕ) → incoming net n ≡ a ∷ more-in → outgoing net n ≡ b ∷ more-out → (p : ℕ) × Single (incoming net n) (outgoing net n) p
  one_column_single a b more-in more-out hi ho = go (single (incoming net n) (outgoing net n)) refl more-in more-out hi ho
    where
      go : (o : Option ℕ) → single (incoming net n) (outgoing net n) ≡ o → (mi mo : List ℕ) → incoming net n ≡ a ∷ mi → outgoing net n ≡ b ∷ mo → (p : ℕ) × Single (incoming net n) (outgoing net n) p
      go (some p) q mi mo hi ho = (p, single_is (incoming net n) (outgoing net n) p q)
      go none q [] [] hi ho = (a, record { exit = b; into_is = hi; out_is = ho })
      go none q [] (c ∷ mo) hi ho = absurd (one_out q b c mo ho)
      go none q (c ∷ mi) mo hi ho = absurd (one_in q a c mi hi)

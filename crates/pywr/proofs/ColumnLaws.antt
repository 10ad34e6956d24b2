-- The edges of one column are a path or a ring: at most one of them lacks the edge before it in the column, and at most one lacks the edge after it.
-- `prev` is the incoming edge whose column an edge shares, and no edge is that of two. Assumes nothing.
use mathlib.Core.Path.{◌≡◌, refl, sym, ap, ◌∙◌, subst}
use mathlib.Core.Logic.{◌⊎◌, inl, inr, ◌≢◌}
use Prim.Native.Nat.{ℕ, zero, suc, ◌+◌, ◌<◌, ◌≤◌}
use native.Mathlib.Decide.{ℕ_discrete}
use native.Mathlib.Omega.{arith}
use mathlib.Core.List.{List, [], ◌∷◌}
use mathlib.Core.Option.{Option, none, some}
use native.Mathlib.Nat.{add-zero, add-suc, suc-add}
use lib.ListN.{length, get_or, get_elem?, replicate, length-set}
use lib.Seq.{get_or-set_same, get_or-set_other}
use Rattle.pywr.specs.Network.{Edge, Network}
use Rattle.pywr.specs.ColEdgeMap.{Columns, column_at, put, put_new, add_simple_edge, add_equal_edges, shares_with, place_edge, place_edges}
use Rattle.pywr.proofs.UnionLaws.{Unites, swap_unites, unite_cases}

-- edge e goes into column k, and nothing else changes
pub record Grows (c d : Columns) (e k : ℕ) : Type 0 where
  pub was : column_at c e ≡ none
  pub now : column_at d e ≡ some k
  pub rest : (x : ℕ) → x ≢ e → column_at d x ≡ column_at c x

module _ {c d : Columns} {e k : ℕ} (g : Grows c d e k) where
  pub grown : (x j : ℕ) → column_at d x ≡ some j → ((x ≡ e) × (j ≡ k)) ⊎ (column_at c x ≡ some j)
  grown x j h = go (ℕ_discrete x e)
    where
      go : Dec (x ≡ e) → ((x ≡ e) × (j ≡ k)) ⊎ (column_at c x ≡ some j)
      go (yes p) = inl (p, let q : column_at d e ≡ some j = rw p at h in let n = g.now in cc)
      go (no f) = inr (sym (g.rest x f) ∙ h)

  pub kept : (x j : ℕ) → column_at c x ≡ some j → column_at d x ≡ some j
  kept x j h = go (ℕ_discrete x e)
    where
      go : Dec (x ≡ e) → column_at d x ≡ some j
      go (yes p) = let q : column_at c e ≡ some j = rw p at h in let n = g.was in let z : ◌≡◌ {A = ℕ} 0 1 = cc in absurd (omega arith)
      go (no f) = g.rest x f ∙ h

-- ---- one side of an edge: `Beside e x` says that x is the edge there

module _ (Beside : ℕ → ℕ → Type 0) where
  -- of an edge that lies in column k: the edge beside it does not
  abbrev pub Lacks : Columns → ℕ → ℕ → Type 0
  Lacks c k e = (x : ℕ) → Beside e x → column_at c x ≡ some k → ⊥

  abbrev pub OneLacks : Columns → Type 0
  OneLacks c = (a b k : ℕ) → column_at c a ≡ some k → column_at c b ≡ some k → Lacks c k a → Lacks c k b → a ≡ b

-- edge e joins the column of p
module _ {c d : Columns} {e k : ℕ} (p : ℕ) (g : Grows c d e k) (there : column_at c p ≡ some k) where
  -- on the side of e where p lies, e lacks nothing
  near : (Beside : ℕ → ℕ → Type 0) → Beside e p → OneLacks Beside c → OneLacks Beside d
  near Beside by one a b j ia ib la lb = go (grown g a j ia) (grown g b j ib)
    where
      never : (x : ℕ) → (x ≡ e) × (j ≡ k) → Lacks Beside d j x → ⊥
      never x q l = l p (subst (λ (y : ℕ). Beside y p) (sym q.0) by) (kept g p j (there ∙ ap {B = Option ℕ} some (sym q.1)))

      go : ((a ≡ e) × (j ≡ k)) ⊎ (column_at c a ≡ some j) → ((b ≡ e) × (j ≡ k)) ⊎ (column_at c b ≡ some j) → a ≡ b
      go (inl q) y = absurd (never a q la)
      go (inr x) (inl q) = absurd (never b q lb)
      go (inr x) (inr y) = one a b j x y (λ q h i. la q h (kept g q j i)) (λ q h i. lb q h (kept g q j i))

  -- on the side of p where e lies, an old edge of the column that lacks the edge there would be p, which has e
  far : (Beside : ℕ → ℕ → Type 0) → Beside p e → ((x : ℕ) → Beside p x → x ≡ e) → OneLacks Beside c → OneLacks Beside d
  far Beside by only one a b j ia ib la lb = go (grown g a j ia) (grown g b j ib)
    where
      old : (x : ℕ) → j ≡ k → column_at c x ≡ some j → Lacks Beside d j x → ⊥
      old x q i l =
          let same : x ≡ p =
          one x p k (i ∙ ap {B = Option ℕ} some q) there (λ y h m. l y h (kept g y j (m ∙ ap {B = Option ℕ} some (sym q))))
          (λ y h m. let r : y ≡ e = only y h in let m' : column_at c e ≡ some k = rw r at m in let w = g.was in let z : ◌≡◌ {A = ℕ} 0 1 = cc in omega arith) in
          l e (subst (λ (y : ℕ). Beside y e) (sym same) by) (g.now ∙ ap {B = Option ℕ} some (sym q))

      go : ((a ≡ e) × (j ≡ k)) ⊎ (column_at c a ≡ some j) → ((b ≡ e) × (j ≡ k)) ⊎ (column_at c b ≡ some j) → a ≡ b
      go (inl x) (inl y) = x.0 ∙ sym y.0
      go (inl x) (inr y) = absurd (old b x.1 y lb)
      go (inr x) (inl y) = absurd (old a y.1 x la)
      go (inr x) (inr y) = one a b j x y (λ q h i. la q h (kept g q j i)) (λ q h i. lb q h (kept g q j i))

  under : d.count ≡ c.count → ((x j : ℕ) → column_at c x ≡ some j → j < c.count) → (x j : ℕ) → column_at d x ≡ some j → j < d.count
  under n below x j i = go (grown g x j i)
    where
      go : ((x ≡ e) × (j ≡ k)) ⊎ (column_at c x ≡ some j) → j < d.count
      go (inl q) = let h = below p k there in let r = q.1 in omega arith
      go (inr y) = let h = below x j y in omega arith

-- the columns of x and y unite, y the one edge beside x
module _ {c d : Columns} {a b : ℕ} (u : Unites c d a b) (x y : ℕ) (ix : column_at c x ≡ some a) (iy : column_at c y ≡ some b) (apart : a ≢ b) where
  -- in its own column only x lacked the edge there, and it has y now: what lacks one lies in the other column
  meet : (Beside : ℕ → ℕ → Type 0) → Beside x y → ((z : ℕ) → Beside x z → z ≡ y) → OneLacks Beside c → OneLacks Beside d
  meet Beside by only one p q j ip iq lp lq = go (u.was p j ip) (u.was q j iq)
    where
      old : (z k : ℕ) → u.to k ≡ j → Lacks Beside d j z → Lacks Beside c k z
      old z k e l w h i = l w h (u.now w k i ∙ ap {B = Option ℕ} some e)

      never : (z : ℕ) → column_at c z ≡ some a → u.to a ≡ j → Lacks Beside d j z → ⊥
      never z i e l =
          let same : z ≡ x =
          one z x a i ix (old z a e l)
          (λ w h m. let r : w ≡ y = only w h in let m' : column_at c y ≡ some a = rw r at m in apart (let n = iy in cc)) in
          l y (subst (λ (w : ℕ). Beside w y) (sym same) by) (u.now y b iy ∙ ap {B = Option ℕ} some (sym u.one ∙ e))

      go : (k : ℕ) × (column_at c p ≡ some k) × (u.to k ≡ j) → (l : ℕ) × (column_at c q ≡ some l) × (u.to l ≡ j) → p ≡ q
      go (k, i, e) (l, m, f) = which (u.only k l (e ∙ sym f))
        where
          which : (k ≡ l) ⊎ (((k ≡ a) × (l ≡ b)) ⊎ ((k ≡ b) × (l ≡ a))) → p ≡ q
          which (inl r) = one p q k i (m ∙ ap {B = Option ℕ} some (sym r)) (old p k e lp) (old q k (ap u.to r ∙ f) lq)
          which (inr (inl r)) = absurd (never p (i ∙ ap {B = Option ℕ} some r.0) (ap u.to (sym r.0) ∙ e) lp)
          which (inr (inr r)) = absurd (never q (m ∙ ap {B = Option ℕ} some r.1) (ap u.to (sym r.1) ∙ f) lq)

  pub under_united : ((z k : ℕ) → column_at c z ≡ some k → k < c.count) → (z j : ℕ) → column_at d z ≡ some j → j < d.count
  under_united below z j i =
      let r = u.was z j i in
      let h = u.under r.0 (below z r.0 r.1) (below x a ix) (below y b iy) in
      let q = r.2 in
      omega arith

module _ (prev : ℕ → Option ℕ) where
  -- the edge before an edge, and the edge after it
  abbrev pub Before : ℕ → ℕ → Type 0
  Before e p = prev e ≡ some p

  abbrev pub After : ℕ → ℕ → Type 0
  After e x = prev x ≡ some e

  pub record Paths (c : Columns) : Type 0 where
    pub below : (e k : ℕ) → column_at c e ≡ some k → k < c.count
    pub one_head : OneLacks Before c
    pub one_tail : OneLacks After c

module _ (prev : ℕ → Option ℕ) (once : (a b p : ℕ) → prev a ≡ some p → prev b ≡ some p → a ≡ b) where
  -- an edge joins the column of the edge before it
  pub join_next : {c d : Columns} {e k : ℕ} (p : ℕ) → Grows c d e k → d.count ≡ c.count → prev e ≡ some p → column_at c p ≡ some k → Paths prev c → Paths prev d
  join_next {e} p g n before there ps =
      record {
        below = under p g there n ps.below;
        one_head = near p g there (Before prev) before ps.one_head;
        one_tail = far p g there (After prev) before (λ x h. once x e p h before) ps.one_tail;
      }

  -- the edge before an edge joins its column
  pub join_prev : {c d : Columns} {p k : ℕ} (e : ℕ) → Grows c d p k → d.count ≡ c.count → prev e ≡ some p → column_at c e ≡ some k → Paths prev c → Paths prev d
  join_prev {p} e g n before there ps =
      record {
        below = under e g there n ps.below;
        one_head = far e g there (Before prev) before (λ x h. let q : some x ≡ some p = sym h ∙ before in cc) ps.one_head;
        one_tail = near e g there (After prev) before ps.one_tail;
      }

  -- the columns of an edge and of the edge before it unite
  pub join_both : {c d : Columns} {a b : ℕ} (e p : ℕ) → Unites c d a b → a ≢ b → prev e ≡ some p → column_at c e ≡ some a → column_at c p ≡ some b → Paths prev c → Paths prev d
  join_both e p u apart before ie ip ps =
      record {
        below = under_united u e p ie ip apart ps.below;
        one_head = meet u e p ie ip apart (Before prev) before (λ z h. let q : some z ≡ some p = sym h ∙ before in cc) ps.one_head;
        one_tail = meet (swap_unites u) p e ip ie (λ q. apart (sym q)) (After prev) before (λ z h. once z e p h before) ps.one_tail;
      }

  -- an edge takes a new column
  module _ {c d : Columns} {e : ℕ} (g : Grows c d e c.count) (n : d.count ≡ suc c.count) (ps : Paths prev c) where
    clash : {X : Type 0} (x j : ℕ) → j ≡ c.count → column_at c x ≡ some j → X
    clash x j q i = let h = ps.below x j i in absurd (omega arith)

    pub join_new : Paths prev d
    join_new =
        record {
          below = λ x j i. go_below x j (grown g x j i);
          one_head = λ a b j ia ib la lb. go a b j (λ x y. ps.one_head a b j x y (λ q h i. la q h (kept g q j i)) (λ q h i. lb q h (kept g q j i))) (grown g a j ia) (grown g b j ib);
          one_tail = λ a b j ia ib la lb. go a b j (λ x y. ps.one_tail a b j x y (λ q h i. la q h (kept g q j i)) (λ q h i. lb q h (kept g q j i))) (grown g a j ia) (grown g b j ib);
        }
      where
        go_below : (x j : ℕ) → ((x ≡ e) × (j ≡ c.count)) ⊎ (column_at c x ≡ some j) → j < d.count
        go_below x j (inl q) = let r = q.1 in omega arith
        go_below x j (inr y) = let h = ps.below x j y in omega arith

        go : (a b j : ℕ) → (column_at c a ≡ some j → column_at c b ≡ some j → a ≡ b) → ((a ≡ e) × (j ≡ c.count)) ⊎ (column_at c a ≡ some j) → ((b ≡ e) × (j ≡ c.count)) ⊎ (column_at c b ≡ some j) → a ≡ b
        go a b j old (inl x) (inl y) = x.0 ∙ sym y.0
        go a b j old (inl x) (inr y) = clash b j x.1 y
        go a b j old (inr x) (inl y) = clash a j y.1 x
        go a b j old (inr x) (inr y) = old x y

-- ---- the fold

pub put_grows : (c : Columns) (e k : ℕ) → e < length c.of → column_at c e ≡ none → Grows c (put e k c) e k
unfolding put column_at
put_grows c e k h was =
    record { was = was; now = get_or-set_same c.of e (some k) none h; rest = λ x f. get_or-set_other c.of e x (some k) none f }

pub new_grows : (c : Columns) (e : ℕ) → e < length c.of → column_at c e ≡ none → Grows c (put_new e c) e c.count
unfolding put_new column_at
new_grows c e h was =
    record { was = was; now = get_or-set_same c.of e (some c.count) none h; rest = λ x f. get_or-set_other c.of e x (some c.count) none f }

pub put_length : (c : Columns) (e k : ℕ) → length (put e k c).of ≡ length c.of
unfolding put
put_length c e k = length-set c.of e (some k)

pub new_length : (c : Columns) (e : ℕ) → length (put_new e c).of ≡ length c.of
unfolding put_new
new_length c e = length-set c.of e (some c.count)

-- ---- a property that the three ways of growing and the union keep is kept by the fold

pub record Closed (prev : ℕ → Option ℕ) (Q : Columns → Type 0) : Type 0 where
  pub new : (c d : Columns) (e : ℕ) → Grows c d e c.count → d.count ≡ suc c.count → Q c → Q d
  pub next : (c d : Columns) (e k p : ℕ) → Grows c d e k → d.count ≡ c.count → prev e ≡ some p → column_at c p ≡ some k → Q c → Q d
  pub back : (c d : Columns) (p k e : ℕ) → Grows c d p k → d.count ≡ c.count → prev e ≡ some p → column_at c e ≡ some k → Q c → Q d
  pub both : (c d : Columns) (e p a b : ℕ) → Unites c d a b → a ≢ b → prev e ≡ some p → column_at c e ≡ some a → column_at c p ≡ some b → Q c → Q d

-- the table's length, and the property
pub record Kept (Q : Columns → Type 0) (size : ℕ) (c : Columns) : Type 0 where
  pub long : length c.of ≡ size
  pub holds : Q c

-- the edge that e shares with is an edge, and another one
abbrev pub Inside : (ℕ → Option ℕ) → ℕ → Type 0
Inside prev size = (e p : ℕ) → prev e ≡ some p → (p < size) × (p ≢ e)

module _ (prev : ℕ → Option ℕ) (Q : Columns → Type 0) (closed : Closed prev Q) (size : ℕ) (inside : Inside prev size) where
  simple_kept : (e : ℕ) (o : Option ℕ) (c : Columns) → e < size → column_at c e ≡ o → Kept Q size c → Kept Q size (add_simple_edge o e c)
  unfolding add_simple_edge put_new
  simple_kept e (some k) c h q kept = kept
  simple_kept e none c h q kept =
      record { long = new_length c e ∙ kept.long; holds = closed.new c (put_new e c) e (new_grows c e (let l = kept.long in omega arith) q) refl kept.holds }

  equal_kept : (e p : ℕ) (o r : Option ℕ) (c : Columns) → e < size → prev e ≡ some p → column_at c e ≡ o → column_at c p ≡ r → Kept Q size c
      → Kept Q size (add_equal_edges o r e p c)
  unfolding add_equal_edges put put_new
  equal_kept e p (some k) (some j) c h b qe qp kept =
      unite_cases (Kept Q size) k j c (λ q. kept)
      (λ d f l n u. record { long = l ∙ kept.long; holds = closed.both c d e p k j u f b qe qp kept.holds })
  equal_kept e p none (some k) c h b qe qp kept =
      record { long = put_length c e k ∙ kept.long; holds = closed.next c (put e k c) e k p (put_grows c e k (let l = kept.long in omega arith) qe) refl b qp kept.holds }
  equal_kept e p (some k) none c h b qe qp kept =
      record {
        long = put_length c p k ∙ kept.long;
        holds = closed.back c (put p k c) p k e (put_grows c p k (let l = kept.long in let i = inside e p b in omega arith) qp) refl b qe kept.holds;
      }
  equal_kept e p none none c h b qe qp kept =
      let l : length c.of ≡ size = kept.long in
      let i : (p < size) × (p ≢ e) = inside e p b in
      let g : Grows c (put_new e c) e c.count = new_grows c e (omega arith) qe in
      let lm : length (put_new e c).of ≡ size = new_length c e ∙ l in
      record {
        long = put_length (put_new e c) p c.count ∙ lm;
        holds =
            closed.back (put_new e c) (put p c.count (put_new e c)) p c.count e (put_grows (put_new e c) p c.count (omega arith) (g.rest p i.1 ∙ qp)) refl b g.now
            (closed.new c (put_new e c) e g refl kept.holds);
      }

  pub place_kept : (e : ℕ) (o : Option ℕ) (c : Columns) → e < size → prev e ≡ o → Kept Q size c → Kept Q size (place_edge o e c)
  unfolding place_edge
  place_kept e none c h b kept = simple_kept e (column_at c e) c h refl kept
  place_kept e (some p) c h b kept = equal_kept e p (column_at c e) (column_at c p) c h b refl refl kept

  pub places_kept : (net : Network) (xs : List Edge) (e : ℕ) (c : Columns) → ((i : ℕ) (x : Edge) → get_elem? xs i ≡ some x → prev (e + i) ≡ shares_with net x)
      → e + length xs ≤ size → Kept Q size c → Kept Q size (place_edges net e xs c)
  unfolding place_edges
  places_kept net [] e c own h kept = kept
  places_kept net (x ∷ xs) e c own h kept =
      places_kept net xs (suc e) (place_edge (shares_with net x) e c)
      (λ i y q. ap prev (suc-add e i ∙ sym (add-suc e i)) ∙ own (suc i) y q)
      (omega arith)
      (place_kept e (shares_with net x) c (omega arith) (ap prev (sym (add-zero e)) ∙ own 0 x refl) kept)

-- ---- the start

empty_at : (n e : ℕ) → get_or (replicate {A = Option ℕ} n none) e none ≡ none
empty_at zero e = refl
empty_at (suc n) zero = refl
empty_at (suc n) (suc e) = empty_at n e

abbrev pub start : ℕ → Columns
start n = record { of = replicate n none; count = 0 }

pub none_there : {X : Type 0} (n e k : ℕ) → column_at (start n) e ≡ some k → X
unfolding column_at
none_there n e k h = let z = empty_at n e in let q : ◌≡◌ {A = ℕ} 0 1 = cc in absurd (omega arith)

-- ---- the paths

pub paths_closed : (prev : ℕ → Option ℕ) → ((a b p : ℕ) → prev a ≡ some p → prev b ≡ some p → a ≡ b) → Closed prev (Paths prev)
paths_closed prev once =
    record {
      new = λ c d e g n ps. join_new prev once g n ps;
      next = λ c d e k p g n b t ps. join_next prev once p g n b t ps;
      back = λ c d p k e g n b t ps. join_prev prev once e g n b t ps;
      both = λ c d e p a b u f h ie ip ps. join_both prev once e p u f h ie ip ps;
    }

pub paths_start : (prev : ℕ → Option ℕ) (n : ℕ) → Paths prev (start n)
paths_start prev n =
    record { below = λ e k h. none_there n e k h; one_head = λ a b k h i l m. none_there n a k h; one_tail = λ a b k h i l m. none_there n a k h }

-- ---- what holds between an edge and the edge before it holds between any two edges of a column

pub record Equivalence (R : ℕ → ℕ → Type 0) : Type 0 where
  pub itself : (a : ℕ) → R a a
  pub back : (a b : ℕ) → R a b → R b a
  pub on : (a b c : ℕ) → R a b → R b c → R a c

pub record Related (R : ℕ → ℕ → Type 0) (c : Columns) : Type 0 where
  pub below : (e k : ℕ) → column_at c e ≡ some k → k < c.count
  pub same : (a b k : ℕ) → column_at c a ≡ some k → column_at c b ≡ some k → R a b

module _ (prev : ℕ → Option ℕ) (R : ℕ → ℕ → Type 0) (r : Equivalence R) (passes : (e p : ℕ) → prev e ≡ some p → R e p) where
  equal : (a b : ℕ) → a ≡ b → R a b
  equal a b q = subst (R a) q (r.itself a)

  -- e joins the column of an edge m that it is related to
  related_join : (c d : Columns) (e k m : ℕ) → Grows c d e k → d.count ≡ c.count → column_at c m ≡ some k → R e m → Related R c → Related R d
  related_join c d e k m g n there with-m ev =
      record { below = λ x j h. go_below x j (grown g x j h); same = λ a b j h i. go a b j (grown g a j h) (grown g b j i) }
    where
      go_below : (x j : ℕ) → ((x ≡ e) × (j ≡ k)) ⊎ (column_at c x ≡ some j) → j < d.count
      go_below x j (inl q) = let h = ev.below m k there in let w = q.1 in omega arith
      go_below x j (inr y) = let h = ev.below x j y in omega arith

      old : (x y j : ℕ) → y ≡ e → j ≡ k → column_at c x ≡ some j → R x y
      old x y j p q i = r.on x e y (r.on x m e (ev.same x m k (i ∙ ap {B = Option ℕ} some q) there) (r.back e m with-m)) (equal e y (sym p))

      go : (a b j : ℕ) → ((a ≡ e) × (j ≡ k)) ⊎ (column_at c a ≡ some j) → ((b ≡ e) × (j ≡ k)) ⊎ (column_at c b ≡ some j) → R a b
      go a b j (inl x) (inl y) = equal a b (x.0 ∙ sym y.0)
      go a b j (inl x) (inr y) = r.back b a (old b a j x.0 x.1 y)
      go a b j (inr x) (inl y) = old a b j y.0 y.1 x
      go a b j (inr x) (inr y) = ev.same a b j x y

  -- the columns of e and p, which are related, unite
  related_both : (c d : Columns) (e p a b : ℕ) → Unites c d a b → a ≢ b → column_at c e ≡ some a → column_at c p ≡ some b → R e p → Related R c → Related R d
  related_both c d e p a b u apart ie ip with-p ev =
      record { below = under_united u e p ie ip apart ev.below; same = λ x y j h i. go x y (u.was x j h) (u.was y j i) }
    where
      across : (x y : ℕ) → column_at c x ≡ some a → column_at c y ≡ some b → R x y
      across x y h i = r.on x e y (ev.same x e a h ie) (r.on e p y with-p (ev.same p y b ip i))

      go : {j : ℕ} (x y : ℕ) → (k : ℕ) × (column_at c x ≡ some k) × (u.to k ≡ j) → (l : ℕ) × (column_at c y ≡ some l) × (u.to l ≡ j) → R x y
      go x y (k, h, m) (l, i, n) = which (u.only k l (m ∙ sym n))
        where
          which : (k ≡ l) ⊎ (((k ≡ a) × (l ≡ b)) ⊎ ((k ≡ b) × (l ≡ a))) → R x y
          which (inl q) = ev.same x y k h (i ∙ ap {B = Option ℕ} some (sym q))
          which (inr (inl q)) = across x y (h ∙ ap {B = Option ℕ} some q.0) (i ∙ ap {B = Option ℕ} some q.1)
          which (inr (inr q)) = r.back y x (across y x (i ∙ ap {B = Option ℕ} some q.1) (h ∙ ap {B = Option ℕ} some q.0))

  related_new : (c d : Columns) (e : ℕ) → Grows c d e c.count → d.count ≡ suc c.count → Related R c → Related R d
  related_new c d e g n ev =
      record { below = λ x j h. go_below x j (grown g x j h); same = λ a b j h i. go a b j (grown g a j h) (grown g b j i) }
    where
      go_below : (x j : ℕ) → ((x ≡ e) × (j ≡ c.count)) ⊎ (column_at c x ≡ some j) → j < d.count
      go_below x j (inl q) = let w = q.1 in omega arith
      go_below x j (inr y) = let h = ev.below x j y in omega arith

      clash_new : {X : Type 0} (x j : ℕ) → j ≡ c.count → column_at c x ≡ some j → X
      clash_new x j q i = let h = ev.below x j i in absurd (omega arith)

      go : (a b j : ℕ) → ((a ≡ e) × (j ≡ c.count)) ⊎ (column_at c a ≡ some j) → ((b ≡ e) × (j ≡ c.count)) ⊎ (column_at c b ≡ some j) → R a b
      go a b j (inl x) (inl y) = equal a b (x.0 ∙ sym y.0)
      go a b j (inl x) (inr y) = clash_new b j x.1 y
      go a b j (inr x) (inl y) = clash_new a j y.1 x
      go a b j (inr x) (inr y) = ev.same a b j x y

  pub related_closed : Closed prev (Related R)
  related_closed =
      record {
        new = related_new;
        next = λ c d e k p g n b t ev. related_join c d e k p g n t (passes e p b) ev;
        back = λ c d p k e g n b t ev. related_join c d p k e g n t (r.back e p (passes e p b)) ev;
        both = λ c d e p a b u f h ie ip ev. related_both c d e p a b u f ie ip (passes e p h) ev;
      }

  pub related_start : (n : ℕ) → Related R (start n)
  related_start n = record { below = λ e k h. none_there n e k h; same = λ a b k h i. none_there n a k h }

-- where an edge carries what the edge before it carries, a column carries one amount
abbrev pub SameAmount : (ℕ → ℕ) → ℕ → ℕ → Type 0
SameAmount amount a b = amount a ≡ amount b

abbrev pub Even : (ℕ → ℕ) → Columns → Type 0
Even amount = Related (SameAmount amount)

pub same_amount : (amount : ℕ → ℕ) → Equivalence (SameAmount amount)
same_amount amount = record { itself = λ a. refl; back = λ a b q. sym q; on = λ a b c q p. q ∙ p }

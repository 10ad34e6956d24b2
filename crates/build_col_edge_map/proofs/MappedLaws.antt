-- What `add_simple_edge`, `add_equal_edges` and `unite` do to the columns, as they stand in the table. Assumes nothing.
use Prim.Native.Nat.{ℕ, zero, suc, ◌+◌, ◌-◌, ◌<◌, ◌≤◌}
use mathlib.Core.Path.{◌≡◌, refl, sym, ap, ◌∙◌}
use mathlib.Core.Logic.{◌≢◌}
use mathlib.Core.List.{List, [], ◌∷◌, ◌++◌, map}
use mathlib.Core.Option
use mathlib.Core.Option.{Option, none, some}
use native.Mathlib.Omega.{arith}
use native.Mathlib.Numerals.{add-one}
use lib.ListN.{length, get_or, take, drop, set, length-set, length-map, get_or-map}
use lib.Seq.{get_or-take, take-set-lt}
use borrow.Author.Tests.{lt-ltb, le-ltb, eq-eqb, ne_eqb}
use Rattle.pywr.specs.ColEdgeMap.{Columns, column_at, put, put_new, add_simple_edge, united, unite_under, unite, add_equal_edges}
use Rattle.pywr.proofs.UnionLaws.{Renamed, goes, falls, stays, renamed}
use Rattle.build_col_edge_map.specs.Mapped.{code, Mapped}

map_set : {A B : Type 0} (f : A → B) (xs : List A) (i : ℕ) (x : A) → map f (set xs i x) ≡ set (map f xs) i (f x)
map_set f [] i x = refl
map_set f (y ∷ ys) zero x = refl
map_set {B} f (y ∷ ys) (suc i) x = ap (λ (l : List B). f y ∷ l) (map_set f ys i x)

module _ (c : Columns) (table : List ℕ) (count : ℕ) (h : Mapped c table count) (e : ℕ) (under : e < length c.of) where
  -- what stands at an edge
  pub mapped_at : get_or table e 0 ≡ code (column_at c e)
  unfolding column_at
  mapped_at = sym (get_or-take (length c.of) table e 0 under) ∙ ap (λ (l : List ℕ). get_or l e 0) h.table_is ∙ get_or-map code c.of e none

  -- an edge is stored
  pub mapped_put : (k : ℕ) → Mapped (put e k c) (set table e (suc k)) count
  unfolding put
  mapped_put k =
      record {
        table_is = rw (length-set c.of e (some k), take-set-lt (length c.of) table e (suc k) under, h.table_is, map_set code c.of e (some k));
        count_is = h.count_is;
      }

  pub mapped_new : Mapped (put_new e c) (set table e (count + 1)) (count + 1)
  unfolding put put_new
  mapped_new =
      let q : count + 1 ≡ suc c.count = omega (arith, h.count_is) in
      rw q (record { table_is = (mapped_put c.count).table_is; count_is = refl })

-- ---- two columns unite

pub united_is : {low high k new : ℕ} → Renamed low high k new → united low high k ≡ new
unfolding united
united_is {high} {k} (goes p q) = rw (eq-eqb k high p) (sym q)
united_is {high} {k} (falls p q) = rw (ne_eqb k high (λ r. omega arith), lt-ltb high k p) (omega arith)
united_is {high} {k} (stays p q) = rw (ne_eqb k high (λ r. omega arith), le-ltb high k (omega arith)) (sym q)

-- the numbers of the table unite as the columns do
code_united : (low high : ℕ) (o : Option ℕ) → united (suc low) (suc high) (code o) ≡ code (Option.map (united low high) o)
code_united low high none = united_is (stays (omega arith) refl)
code_united low high (some k) = go (renamed low high k)
  where
    go : {new : ℕ} → Renamed low high k new → united (suc low) (suc high) (suc k) ≡ suc new
    go (goes p q) = united_is (goes (omega arith) (omega arith))
    go (falls p q) = united_is (falls (omega arith) (omega arith))
    go (stays p q) = united_is (stays (omega arith) (omega arith))

codes_united : (low high : ℕ) (os : List (Option ℕ)) → map (united (suc low) (suc high)) (map code os) ≡ map code (map (Option.map (united low high)) os)
codes_united low high [] = refl
codes_united low high (o ∷ os) = rw (code_united low high o, codes_united low high os)

-- the entries before e are united
abbrev pub united_to : ℕ → ℕ → ℕ → List ℕ → List ℕ
united_to low high e table = map (united low high) (take e table) ++ drop e table

module _ (low high : ℕ) where
  one_united : (e : ℕ) (table : List ℕ) → set (united_to low high e table) e (united low high (get_or (united_to low high e table) e 0)) ≡ united_to low high (suc e) table
  one_united zero [] = refl
  one_united zero (x ∷ table) = refl
  one_united (suc e) [] = refl
  one_united (suc e) (x ∷ table) = ap (λ (l : List ℕ). united low high x ∷ l) (one_united e table)

  pub next_united : (e v : ℕ) (table₀ table : List ℕ) → table ≡ united_to low high e table₀ → v ≡ united low high (get_or table e 0) → set table e v ≡ united_to low high (e + 1) table₀
  next_united e v table₀ table is new = rw (add-one e, new, is) (one_united e table₀)

  taken_united : (e : ℕ) (table : List ℕ) → take e (united_to low high e table) ≡ map (united low high) (take e table)
  taken_united zero table = refl
  taken_united (suc e) [] = refl
  taken_united (suc e) (x ∷ table) = ap (λ (l : List ℕ). united low high x ∷ l) (taken_united e table)

  pub all_united : (e edges : ℕ) (table₀ table : List ℕ) → table ≡ united_to low high e table₀ → e ≤ edges → edges ≤ e → take edges table ≡ map (united low high) (take edges table₀)
  all_united e edges table₀ table is le ge = let all : edges ≡ e = omega arith in rw (all, is) (taken_united e table₀)

pub mapped_united : (c : Columns) (table table' : List ℕ) (count edges low high : ℕ) → Mapped c table count → length c.of ≡ edges
    → take edges table' ≡ map (united (suc low) (suc high)) (take edges table) → Mapped (unite_under low high c) table' (count - 1)
unfolding unite_under
mapped_united c table table' count edges low high h long q =
    record {
      table_is = rw (length-map c.of (Option.map (united low high)), long, q, ← long, h.table_is) (codes_united low high c.of);
      count_is = ap (λ (n : ℕ). n - 1) h.count_is;
    }

-- ---- each arm, told by what stands in the table

module _ (c : Columns) (table : List ℕ) (count : ℕ) (h : Mapped c table count) (e : ℕ) (under : e < length c.of) where
  pub simple_new : get_or table e 0 ≡ 0 → Mapped (add_simple_edge (column_at c e) e c) (set table e (count + 1)) (count + 1)
  unfolding add_simple_edge
  simple_new z = go (column_at c e) (sym (mapped_at c table count h e under) ∙ z)
    where
      go : (o : Option ℕ) → code o ≡ 0 → Mapped (add_simple_edge o e c) (set table e (count + 1)) (count + 1)
      go none q = mapped_new c table count h e under
      go (some k) q = absurd (omega arith)

  pub simple_has : get_or table e 0 ≢ 0 → Mapped (add_simple_edge (column_at c e) e c) table count
  unfolding add_simple_edge
  simple_has f = go (column_at c e) (λ q. f (mapped_at c table count h e under ∙ q))
    where
      go : (o : Option ℕ) → code o ≢ 0 → Mapped (add_simple_edge o e c) table count
      go none q = absurd (q refl)
      go (some k) q = h

  module _ (b : ℕ) (there : b < length c.of) where
    at_edge : get_or table e 0 ≡ code (column_at c e)
    at_edge = mapped_at c table count h e under

    at_before : get_or table b 0 ≡ code (column_at c b)
    at_before = mapped_at c table count h b there

    pub equal_new : get_or table e 0 ≡ 0 → get_or table b 0 ≡ 0 → Mapped (add_equal_edges (column_at c e) (column_at c b) e b c) (set (set table e (count + 1)) b (count + 1)) (count + 1)
    unfolding add_equal_edges put_new
    equal_new y z = go (column_at c e) (column_at c b) (sym at_edge ∙ y) (sym at_before ∙ z)
      where
        go : (o r : Option ℕ) → code o ≡ 0 → code r ≡ 0 → Mapped (add_equal_edges o r e b c) (set (set table e (count + 1)) b (count + 1)) (count + 1)
        go none none q s =
            let new : count + 1 ≡ suc c.count = omega (arith, h.count_is) in
            let long : length (put_new e c).of ≡ length c.of = length-set c.of e (some c.count) in
            rw new (rw new at (mapped_put (put_new e c) (set table e (count + 1)) (count + 1) (mapped_new c table count h e under) b (omega arith) c.count))
        go none (some k) q s = absurd (omega arith)
        go (some k) r q s = absurd (omega arith)

    pub equal_edge : get_or table e 0 ≡ 0 → get_or table b 0 ≢ 0 → Mapped (add_equal_edges (column_at c e) (column_at c b) e b c) (set table e (get_or table b 0)) count
    unfolding add_equal_edges
    equal_edge y f = rw at_before (go (column_at c e) (column_at c b) (sym at_edge ∙ y) (λ q. f (at_before ∙ q)))
      where
        go : (o r : Option ℕ) → code o ≡ 0 → code r ≢ 0 → Mapped (add_equal_edges o r e b c) (set table e (code r)) count
        go none none q s = absurd (s refl)
        go none (some k) q s = mapped_put c table count h e under k
        go (some k) r q s = absurd (omega arith)

    pub equal_before : get_or table e 0 ≢ 0 → get_or table b 0 ≡ 0 → Mapped (add_equal_edges (column_at c e) (column_at c b) e b c) (set table b (get_or table e 0)) count
    unfolding add_equal_edges
    equal_before f z = rw at_edge (go (column_at c e) (column_at c b) (λ q. f (at_edge ∙ q)) (sym at_before ∙ z))
      where
        go : (o r : Option ℕ) → code o ≢ 0 → code r ≡ 0 → Mapped (add_equal_edges o r e b c) (set table b (code o)) count
        go none r q s = absurd (q refl)
        go (some k) none q s = mapped_put c table count h b there k
        go (some k) (some j) q s = absurd (omega arith)

    pub equal_both : {table' : List ℕ} {r : ℕ} → get_or table e 0 ≢ 0 → get_or table b 0 ≢ 0
        → ((k j : ℕ) → get_or table e 0 ≡ suc k → get_or table b 0 ≡ suc j → Mapped (unite k j c) table' r)
        → Mapped (add_equal_edges (column_at c e) (column_at c b) e b c) table' r
    unfolding add_equal_edges
    equal_both {table'} {r} f g u = go (column_at c e) (column_at c b) at_edge at_before
      where
        go : (o p : Option ℕ) → get_or table e 0 ≡ code o → get_or table b 0 ≡ code p → Mapped (add_equal_edges o p e b c) table' r
        go none p q s = absurd (f q)
        go (some k) none q s = absurd (g s)
        go (some k) (some j) q s = u k j q s

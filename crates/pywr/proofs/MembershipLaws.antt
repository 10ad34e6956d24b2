-- Exclusive sets and the nodes that they list, both ways: a set's number lists a node exactly if the set does, and a node is exclusive exactly if
-- a distinct exclusive set lists it. Assumes nothing.
use mathlib.Core.Path.{◌≡◌, refl, sym, ◌∙◌, subst}
use mathlib.Core.Logic.{◌⊎◌, inl, inr}
use Prim.Native.Nat.{ℕ, zero, suc, ◌+◌}
use native.Mathlib.Nat.{add-zero, add-suc, suc-add, zero-add}
use mathlib.Core.Bool.{Bool, true, false, cond, not, ◌&&◌, ◌||◌}
use mathlib.Core.List.Memᴰ
use mathlib.Core.List.{List, [], ◌∷◌, ◌++◌, Memᴰ}
use mathlib.Core.Option.{some}
use lib.ListN.{get_elem?}
use lib.Dec.{T, T_not, not_T, eqb, eqb→eq, eqb_refl}
use lib.Ieee.Fits.{and_i, and_l, and_r}
use Rattle.laws.proofs.Tests.{or_l, or_r, or_elim}
use Rattle.pywr.specs.Network.{Aggregate, Network, keep_if, listed, any_listed, is_exclusive}
use Rattle.pywr.specs.ExclusiveSets.{has_set, add_sets, sets_from, exclusive_sets, set_number, times_in, sets_with_node}
use Rattle.pywr.proofs.SetLaws.{number_at, listed_known}
use Rattle.pywr.proofs.ListLaws.{not_found, same_some, found_mem}

-- ---- a list's members

pub listed_mem : (n : ℕ) (s : List ℕ) → T (listed n s) → Memᴰ n s
unfolding listed
listed_mem n [] h = absurd h
listed_mem n (y ∷ ys) h = or_elim (eqb n y) (listed n ys) h (λ t. Memᴰ.head (eqb→eq n y t)) (λ t. Memᴰ.tail (listed_mem n ys t))

pub mem_listed : (n : ℕ) (s : List ℕ) → Memᴰ n s → T (listed n s)
unfolding listed
mem_listed n [] m = absurd (Memᴰ.not-nil m)
mem_listed n (y ∷ ys) m = go (λ k. mem_listed n ys k) (Memᴰ.cases_cons m)
  where
    go : (Memᴰ n ys → T (listed n ys)) → (n ≡ y) ⊎ Memᴰ n ys → T (eqb n y || listed n ys)
    go ih (inl e) = or_l (eqb n y) (listed n ys) (subst (λ (k : ℕ). T (eqb n k)) e (eqb_refl n))
    go ih (inr k) = or_r (eqb n y) (listed n ys) (ih k)

pub record Membership (n : ℕ) (ss : List (List ℕ)) : Type 0 where
  pub set : List ℕ
  pub among : Memᴰ set ss
  pub member : Memᴰ n set

any_listed_lem : (n : ℕ) (ss : List (List ℕ)) → T (any_listed n ss) → Membership n ss
unfolding any_listed
any_listed_lem n [] h = absurd h
any_listed_lem n (s ∷ ss) h =
    or_elim (listed n s) (any_listed n ss) h
    (λ t. record { set = s; among = Memᴰ.head refl; member = listed_mem n s t })
    (λ t. let r = any_listed_lem n ss t in record { set = r.set; among = Memᴰ.tail r.among; member = r.member })

listed_any : (n : ℕ) (s : List ℕ) (ss : List (List ℕ)) → Memᴰ s ss → Memᴰ n s → T (any_listed n ss)
unfolding any_listed
listed_any n s [] m k = absurd (Memᴰ.not-nil m)
listed_any n s (t ∷ ts) m k = go (λ j. listed_any n s ts j k) (Memᴰ.cases_cons m)
  where
    go : (Memᴰ s ts → T (any_listed n ts)) → (s ≡ t) ⊎ Memᴰ s ts → T (listed n t || any_listed n ts)
    go ih (inl e) = or_l (listed n t) (any_listed n ts) (mem_listed n t (subst (λ (l : List ℕ). Memᴰ n l) e k))
    go ih (inr j) = or_r (listed n t) (any_listed n ts) (ih j)

-- ---- an exclusive aggregate that has the set

pub record From (ags : List Aggregate) (s : List ℕ) : Type 0 where
  pub aggregate : Aggregate
  pub known : Memᴰ aggregate ags
  pub exclusive : T aggregate.exclusive
  pub has : Memᴰ s aggregate.sets

from_later : (a : Aggregate) (ags : List Aggregate) (s : List ℕ) → From ags s → From (a ∷ ags) s
from_later a ags s f = record { aggregate = f.aggregate; known = Memᴰ.tail f.known; exclusive = f.exclusive; has = f.has }

pub exclusive_lists : (ags : List Aggregate) (n : ℕ) → T (is_exclusive ags n) → (s : List ℕ) × From ags s × Memᴰ n s
unfolding is_exclusive
exclusive_lists [] n h = absurd h
exclusive_lists (a ∷ rest) n h =
    or_elim (a.exclusive && any_listed n a.sets) (is_exclusive rest n) h
    (λ t.
    let l = any_listed_lem n a.sets (and_r a.exclusive (any_listed n a.sets) t) in
    (l.set, record { aggregate = a; known = Memᴰ.head refl; exclusive = and_l a.exclusive (any_listed n a.sets) t; has = l.among }, l.member))
    (λ t. let r = exclusive_lists rest n t in (r.0, from_later a rest r.0 r.1, r.2))

pub lists_exclusive : (ags : List Aggregate) (n : ℕ) (s : List ℕ) → From ags s → Memᴰ n s → T (is_exclusive ags n)
unfolding is_exclusive
lists_exclusive ags n s f k = go ags f.known
  where
    here : (b : Aggregate) → f.aggregate ≡ b → T (b.exclusive && any_listed n b.sets)
    here b e =
        subst (λ (c : Aggregate). T (c.exclusive && any_listed n c.sets)) e
        (and_i f.aggregate.exclusive (any_listed n f.aggregate.sets) f.exclusive (listed_any n s f.aggregate.sets f.has k))

    one : (b : Aggregate) (bs : List Aggregate) → (Memᴰ f.aggregate bs → T (is_exclusive bs n)) → (f.aggregate ≡ b) ⊎ Memᴰ f.aggregate bs
        → T ((b.exclusive && any_listed n b.sets) || is_exclusive bs n)
    one b bs ih (inl e) = or_l (b.exclusive && any_listed n b.sets) (is_exclusive bs n) (here b e)
    one b bs ih (inr j) = or_r (b.exclusive && any_listed n b.sets) (is_exclusive bs n) (ih j)

    go : (bs : List Aggregate) → Memᴰ f.aggregate bs → T (is_exclusive bs n)
    go [] m = absurd (Memᴰ.not-nil m)
    go (b ∷ bs) m = one b bs (λ j. go bs j) (Memᴰ.cases_cons m)

-- ---- the distinct sets come from exclusive aggregates

adds_back : (s : List ℕ) (ss known : List (List ℕ)) → Memᴰ s (add_sets known ss) → Memᴰ s known ⊎ Memᴰ s ss
unfolding add_sets
adds_back s [] known m = inl m
adds_back s (t ∷ ts) known m = next (adds_back s ts (cond (has_set t known) known (known ++ (t ∷ []))) m)
  where
    old : (b : Bool) → Memᴰ s (cond b known (known ++ (t ∷ []))) → Memᴰ s known ⊎ Memᴰ s (t ∷ ts)
    old true k = inl k
    old false k = cases (Memᴰ.append_cases known k)
      where
        cases : Memᴰ s known ⊎ Memᴰ s (t ∷ []) → Memᴰ s known ⊎ Memᴰ s (t ∷ ts)
        cases (inl j) = inl j
        cases (inr j) = inr (Memᴰ.head (Memᴰ.eq_of_singleton j))

    next : Memᴰ s (cond (has_set t known) known (known ++ (t ∷ []))) ⊎ Memᴰ s ts → Memᴰ s known ⊎ Memᴰ s (t ∷ ts)
    next (inl k) = old (has_set t known) k
    next (inr k) = inr (Memᴰ.tail k)

from_back : (s : List ℕ) (ags : List Aggregate) (known : List (List ℕ)) → Memᴰ s (sets_from known ags) → Memᴰ s known ⊎ From ags s
unfolding sets_from
from_back s [] known m = inl m
from_back s (a ∷ rest) known m = next (from_back s rest (cond a.exclusive (add_sets known a.sets) known) m)
  where
    added : T a.exclusive → Memᴰ s known ⊎ Memᴰ s a.sets → Memᴰ s known ⊎ From (a ∷ rest) s
    added t (inl k) = inl k
    added t (inr k) = inr (record { aggregate = a; known = Memᴰ.head refl; exclusive = t; has = k })

    old : (b : Bool) → (T b → T a.exclusive) → Memᴰ s (cond b (add_sets known a.sets) known) → Memᴰ s known ⊎ From (a ∷ rest) s
    old true t k = added (t tt) (adds_back s a.sets known k)
    old false t k = inl k

    next : Memᴰ s (cond a.exclusive (add_sets known a.sets) known) ⊎ From rest s → Memᴰ s known ⊎ From (a ∷ rest) s
    next (inl k) = old a.exclusive (λ t. t) k
    next (inr f) = inr (from_later a rest s f)

pub set_from : (net : Network) (s : List ℕ) → Memᴰ s (exclusive_sets net) → From net.aggregates s
unfolding exclusive_sets
set_from net s m = go (from_back s net.aggregates [] m)
  where
    go : Memᴰ s [] ⊎ From net.aggregates s → From net.aggregates s
    go (inl k) = absurd (Memᴰ.not-nil k)
    go (inr f) = f

-- and every set of an exclusive aggregate has its number
pub from_known : (net : Network) (s : List ℕ) → From net.aggregates s → T (has_set s (exclusive_sets net))
unfolding exclusive_sets
from_known net s f = listed_known s f.aggregate net.aggregates [] f.known f.exclusive f.has

pub from_at : (net : Network) (s : List ℕ) → From net.aggregates s → get_elem? (exclusive_sets net) (set_number s (exclusive_sets net)) ≡ some s
from_at net s f = number_at s (exclusive_sets net) (from_known net s f)

-- ---- the numbers of the sets that list a node

times_sound : (n k j : ℕ) (ms : List ℕ) → Memᴰ j (times_in n k ms) → (j ≡ k) × Memᴰ n ms
unfolding times_in keep_if
times_sound n k j [] m = absurd (Memᴰ.not-nil m)
times_sound n k j (x ∷ xs) m = go (eqb x n) refl (λ i. times_sound n k j xs i) m
  where
    cases : x ≡ n → (Memᴰ j (times_in n k xs) → (j ≡ k) × Memᴰ n xs) → (j ≡ k) ⊎ Memᴰ j (times_in n k xs) → (j ≡ k) × Memᴰ n (x ∷ xs)
    cases e ih (inl q) = (q, Memᴰ.head (sym e))
    cases e ih (inr i) = let r = ih i in (r.0, Memᴰ.tail r.1)

    go : (b : Bool) → eqb x n ≡ b → (Memᴰ j (times_in n k xs) → (j ≡ k) × Memᴰ n xs) → Memᴰ j (keep_if b k (times_in n k xs)) → (j ≡ k) × Memᴰ n (x ∷ xs)
    go true e ih i = cases (eqb→eq x n (subst T (sym e) tt)) ih (Memᴰ.cases_cons i)
    go false e ih i = let r = ih i in (r.0, Memᴰ.tail r.1)

times_complete : (n k : ℕ) (ms : List ℕ) → Memᴰ n ms → Memᴰ k (times_in n k ms)
unfolding times_in keep_if
times_complete n k [] m = absurd (Memᴰ.not-nil m)
times_complete n k (x ∷ xs) m = go (eqb x n) refl (λ i. times_complete n k xs i) (Memᴰ.cases_cons m)
  where
    go : (b : Bool) → eqb x n ≡ b → (Memᴰ n xs → Memᴰ k (times_in n k xs)) → (n ≡ x) ⊎ Memᴰ n xs → Memᴰ k (keep_if b k (times_in n k xs))
    go true e ih c = Memᴰ.head refl
    go false e ih (inl q) = absurd (subst T e (subst (λ (y : ℕ). T (eqb y n)) q (eqb_refl n)))
    go false e ih (inr i) = ih i

pub record Numbered (n start k : ℕ) (ss : List (List ℕ)) : Type 0 where
  pub at : ℕ
  pub where_at : k ≡ start + at
  pub set : List ℕ
  pub found : get_elem? ss at ≡ some set
  pub member : Memᴰ n set

pub membership_sound : (n start k : ℕ) (ss : List (List ℕ)) → Memᴰ k (sets_with_node n start ss) → Numbered n start k ss
unfolding sets_with_node
membership_sound n start k [] m = absurd (Memᴰ.not-nil m)
membership_sound n start k (s ∷ ss) m = go (λ j. membership_sound n (suc start) k ss j) (Memᴰ.append_cases (times_in n start s) m)
  where
    go : (Memᴰ k (sets_with_node n (suc start) ss) → Numbered n (suc start) k ss) → Memᴰ k (times_in n start s) ⊎ Memᴰ k (sets_with_node n (suc start) ss) → Numbered n start k (s ∷ ss)
    go ih (inl j) = let r = times_sound n start k s j in record { at = 0; where_at = r.0 ∙ sym (add-zero start); set = s; found = refl; member = r.1 }
    go ih (inr j) = let r = ih j in record { at = suc r.at; where_at = r.where_at ∙ suc-add start r.at ∙ sym (add-suc start r.at); set = r.set; found = r.found; member = r.member }

pub membership_complete : (n start i : ℕ) (ss : List (List ℕ)) (s : List ℕ) → get_elem? ss i ≡ some s → Memᴰ n s → Memᴰ (start + i) (sets_with_node n start ss)
unfolding sets_with_node
membership_complete n start i [] s e m = not_found s e
membership_complete n start zero (t ∷ ts) s e m =
    Memᴰ.append_left (sets_with_node n (suc start) ts)
    (subst (λ (k : ℕ). Memᴰ k (times_in n start t)) (sym (add-zero start)) (times_complete n start t (subst (λ (l : List ℕ). Memᴰ n l) (sym (same_some t s e)) m)))
membership_complete n start (suc i) (t ∷ ts) s e m =
    Memᴰ.append_right (times_in n start t) (subst (λ (k : ℕ). Memᴰ k (sets_with_node n (suc start) ts)) (suc-add start i ∙ sym (add-suc start i)) (membership_complete n (suc start) i ts s e m))

-- ---- a node is exclusive exactly if a distinct set lists it

pub membership_exclusive : (net : Network) (n k : ℕ) → Memᴰ k (sets_with_node n 0 (exclusive_sets net)) → T (is_exclusive net.aggregates n)
membership_exclusive net n k m =
    let r = membership_sound n 0 k (exclusive_sets net) m in
    lists_exclusive net.aggregates n r.set (set_from net r.set (found_mem (exclusive_sets net) r.at r.set r.found)) r.member

pub unlisted : (net : Network) (n : ℕ) → T (not (is_exclusive net.aggregates n)) → sets_with_node n 0 (exclusive_sets net) ≡ []
unlisted net n h = go (sets_with_node n 0 (exclusive_sets net)) refl
  where
    go : (l : List ℕ) → sets_with_node n 0 (exclusive_sets net) ≡ l → l ≡ []
    go [] e = refl
    go (k ∷ ks) e = absurd (T_not (is_exclusive net.aggregates n) h (membership_exclusive net n k (subst (λ (l : List ℕ). Memᴰ k l) (sym e) (Memᴰ.head refl))))

pub exclusive_listed : (net : Network) (n : ℕ) (s : List ℕ) → From net.aggregates s → Memᴰ n s → Memᴰ (set_number s (exclusive_sets net)) (sets_with_node n 0 (exclusive_sets net))
exclusive_listed net n s f m =
    subst (λ (k : ℕ). Memᴰ k (sets_with_node n 0 (exclusive_sets net))) (zero-add (set_number s (exclusive_sets net)))
    (membership_complete n 0 (set_number s (exclusive_sets net)) (exclusive_sets net) s (from_at net s f) m)

-- a node that no set lists is not exclusive
pub listed_none : (net : Network) (n : ℕ) → sets_with_node n 0 (exclusive_sets net) ≡ [] → T (not (is_exclusive net.aggregates n))
listed_none net n q =
    not_T (is_exclusive net.aggregates n)
    (λ u.
    let r = exclusive_lists net.aggregates n u in
    Memᴰ.not-nil (subst (λ (l : List ℕ). Memᴰ (set_number r.0 (exclusive_sets net)) l) q (exclusive_listed net n r.0 r.1 r.2)))

-- The memberships of every node: one more member in front of them, and one more set. Assumes nothing.
use Prim.Native.Nat.{ℕ, suc, ◌+◌, ◌*◌, ◌<◌, ◌≤◌}
use mathlib.Core.Path.{◌≡◌, refl, sym, ◌∙◌, subst}
use mathlib.Core.Logic.{◌⊎◌, inl, inr}
use mathlib.Core.List.{List, ◌∷◌, ◌++◌}
use mathlib.Core.Bool.{Bool, true, false}
use native.Mathlib.Omega.{arith}
use native.Mathlib.Numerals.{add-one}
use borrow.Author.Tests.{eqb-true, eqb-false}
use lib.Dec.{eqb}
use lib.ListN.{length, get_or, set, drop, drop_of_length-le, length-set}
use lib.Seq.{get_or-set_same, get_or-set_other}
use Rattle.laws.proofs.Runs.{drop_next}
use Rattle.pywr.specs.Bytes.{byte, le16}
use Rattle.pywr.specs.Network.{keep_if}
use Rattle.network_aggregate.specs.AggregatedNode.{aggregate_set_at}
use Rattle.laws.specs.Linked.{Later, Linked}
use Rattle.build_exclusive_sets.specs.Sets.{sets_at, places_in, memberships_of, MembershipsFrom}
use Rattle.laws.proofs.LinkedLaws.{linked_store, linked_put}
use Rattle.build_exclusive_sets.proofs.SameSet.{set_length, member_at}
use Rattle.build_exclusive_sets.proofs.SetNumber.{sets_next, sets_end}

module _ (first next : List ℕ) where
  memberships_same : (low : ℕ) (of of' : ℕ → List ℕ) → ((n : ℕ) → of n ≡ of' n) → MembershipsFrom low first next of → MembershipsFrom low first next of'
  memberships_same low of of' e h = record {
    long_first = h.long_first;
    long_next = h.long_next;
    linked = λ n l. subst (λ (js : List ℕ). Linked 2048 next (get_or first n 0) js) (e n) (h.linked n l);
    behind = h.behind;
  }

  lower : (low low' f : ℕ) → low' ≤ low → (f ≡ 0) ⊎ (low < f) → (f ≡ 0) ⊎ (low' < f)
  lower low low' f h (inl e) = inl e
  lower low low' f h (inr l) = inr (omega arith)

  memberships_lower : (low low' : ℕ) (of : ℕ → List ℕ) → low' ≤ low → MembershipsFrom low first next of → MembershipsFrom low' first next of
  memberships_lower low low' of l h = record {
    long_first = h.long_first;
    long_next = h.long_next;
    linked = h.linked;
    behind = λ n k. lower low low' (get_or first n 0) l (h.behind n k);
  }

  -- membership j of node m
  module _ (j m : ℕ) (of : ℕ → List ℕ) (h : MembershipsFrom (j + 1) first next of) (few : m < 256) (small : j < 2048) where
    later : (n : ℕ) → n < 256 → Later j (get_or first n 0)
    later n l = subst (λ (k : ℕ). (get_or first n 0 ≡ 0) ⊎ (k < get_or first n 0)) (add-one j) (h.behind n l)

    stored : (n : ℕ) → eqb m n ≡ true → get_or (set first m (j + 1)) n 0 ≡ suc j
    stored n e =
        let q : m ≡ n = eqb-true m n e in
        let l : m < length first = omega (arith, h.long_first) in
        rw (← q) (get_or-set_same first m (j + 1) 0 l ∙ add-one j)

    kept : (n : ℕ) → eqb m n ≡ false → get_or (set first m (j + 1)) n 0 ≡ get_or first n 0
    kept n e = get_or-set_other first m n (j + 1) 0 (λ q. eqb-false m n e (sym q))

    put : (n : ℕ) → n < 256 → (b : Bool) → eqb m n ≡ b → Linked 2048 (set next j (get_or first m 0)) (get_or (set first m (j + 1)) n 0) (keep_if b j (of n))
    unfolding keep_if
    put n l true e =
        let q : m ≡ n = eqb-true m n e in
        rw (stored n e)
        (subst (λ (x : ℕ). Linked 2048 (set next j (get_or first x 0)) (suc j) (j ∷ of n)) (sym q)
        (linked_put 2048 next j (get_or first n 0) (of n) small (omega (arith, h.long_next)) (later n l) (h.linked n l)))
    put n l false e = rw (kept n e) (linked_store 2048 next j (get_or first m 0) (get_or first n 0) (of n) (later n l) (h.linked n l))

    over : (n : ℕ) → n < 256 → (b : Bool) → eqb m n ≡ b → (get_or (set first m (j + 1)) n 0 ≡ 0) ⊎ (j < get_or (set first m (j + 1)) n 0)
    over n l true e = inr (let q = stored n e in omega arith)
    over n l false e = rw (kept n e) (lower (j + 1) j (get_or first n 0) (omega arith) (h.behind n l))

    memberships_put : MembershipsFrom j (set first m (j + 1)) (set next j (get_or first m 0)) (λ n. keep_if (eqb m n) j (of n))
    memberships_put = record {
      long_first = length-set first m (j + 1) ∙ h.long_first;
      long_next = length-set next j (get_or first m 0) ∙ h.long_next;
      linked = λ n l. put n l (eqb m n) refl;
      behind = λ n l. over n l (eqb m n) refl;
    }

keep_append : (b : Bool) (j : ℕ) (xs ys : List ℕ) → keep_if b j (xs ++ ys) ≡ keep_if b j xs ++ ys
unfolding keep_if
keep_append true j xs ys = refl
keep_append false j xs ys = refl

-- the members of the set numbered k, whose record stands at `at`
module _ (file : List ℕ) (k at : ℕ) (of : ℕ → List ℕ) where
  -- with those from i on
  abbrev pub with_members : ℕ → ℕ → List ℕ
  with_members i n = places_in n (16 * k + i) (drop i (aggregate_set_at file at)) ++ of n

  module _ (first next : List ℕ) where
    pub members_none : (size : ℕ) → size ≡ byte file at → size ≤ 16 → MembershipsFrom (16 * k + 16) first next of → MembershipsFrom (16 * k + size) first next (with_members size)
    unfolding places_in
    members_none size e l h =
        memberships_same first next (16 * k + size) of (with_members size)
        (λ n. rw (drop_of_length-le (aggregate_set_at file at) {i = size} (omega (arith, set_length file at))))
        (memberships_lower first next (16 * k + 16) (16 * k + size) of (omega arith) h)

    member_opened : (i n : ℕ) → i < byte file at → keep_if (eqb (le16 file (at + 1 + 2 * i)) n) (16 * k + i) (with_members (i + 1) n) ≡ with_members i n
    unfolding places_in
    member_opened i n l =
        let e : suc (16 * k + i) ≡ 16 * k + (i + 1) = omega arith in
        rw (drop_next (aggregate_set_at file at) i 0 (omega (arith, set_length file at)), member_at file at i l, e)
        (keep_append (eqb (le16 file (at + 1 + 2 * i)) n) (16 * k + i) (places_in n (16 * k + (i + 1)) (drop (i + 1) (aggregate_set_at file at))) (of n))

    pub members_more : (i m : ℕ) → i < byte file at → m ≡ le16 file (at + 1 + 2 * i) → m < 256 → 16 * k + i < 2048 → MembershipsFrom (16 * k + (i + 1)) first next (with_members (i + 1))
        → MembershipsFrom (16 * k + i) (set first m (16 * k + i + 1)) (set next (16 * k + i) (get_or first m 0)) (with_members i)
    members_more i m l q few small h =
        let e : 16 * k + (i + 1) ≡ 16 * k + i + 1 = omega arith in
        memberships_same (set first m (16 * k + i + 1)) (set next (16 * k + i) (get_or first m 0)) (16 * k + i) (λ n. keep_if (eqb m n) (16 * k + i) (with_members (i + 1) n)) (with_members i)
        (λ n. rw q (member_opened i n l))
        (memberships_put first next (16 * k + i) m (with_members (i + 1)) (subst (λ (low : ℕ). MembershipsFrom low first next (with_members (i + 1))) e h) few small)

    pub members_all : (i : ℕ) → i ≤ 0 → MembershipsFrom (16 * k + i) first next (with_members i) → MembershipsFrom (16 * k) first next (λ n. places_in n (16 * k) (aggregate_set_at file at) ++ of n)
    members_all i l h =
        let e : 16 * k + i ≡ 16 * k = omega arith in
        let z : i ≡ 0 = omega arith in
        memberships_same first next (16 * k) (with_members i) (λ n. places_in n (16 * k) (aggregate_set_at file at) ++ of n)
        (λ n. rw (e, z))
        (memberships_lower first next (16 * k + i) (16 * k) (with_members i) (omega arith) h)

-- the memberships in the sets numbered from k
abbrev pub from_set : List ℕ → List ℕ → ℕ → ℕ → ℕ → List ℕ
from_set file places count k n = memberships_of n k (drop k (sets_at file places count))

module _ (file places : List ℕ) (count : ℕ) (long : count ≤ length places) (first next : List ℕ) where
  pub sets_none : length first ≡ 256 → length next ≡ 2048 → ((n : ℕ) → n < 256 → get_or first n 0 ≡ 0) → MembershipsFrom (16 * count) first next (from_set file places count count)
  unfolding memberships_of
  sets_none lf ln z = record {
    long_first = lf;
    long_next = ln;
    linked = λ n l. rw (sets_end file places count long count (omega arith)) (z n l);
    behind = λ n l. inl (z n l);
  }

  pub sets_more : (k at : ℕ) → k < count → at ≡ get_or places k 0 → MembershipsFrom (16 * k) first next (λ n. places_in n (16 * k) (aggregate_set_at file at) ++ from_set file places count (k + 1) n)
      → MembershipsFrom (16 * k) first next (from_set file places count k)
  unfolding memberships_of
  sets_more k at l q h =
      memberships_same first next (16 * k) (λ n. places_in n (16 * k) (aggregate_set_at file at) ++ from_set file places count (k + 1) n) (from_set file places count k)
      (λ n. rw (sets_next file places count long k l, q, add-one k)) h

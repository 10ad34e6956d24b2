-- Exclusive sets: every listed set is among the distinct ones, at its number; and an exclusivity row's sum is the count of the sets that are on. Assumes nothing.
use mathlib.Core.Path.{◌≡◌, refl, sym, ap, ap₂, ◌∙◌, subst}
use mathlib.Core.Logic.{◌⊎◌, inl, inr}
use Prim.Native.Nat.{ℕ, suc, ◌+◌, ◌-◌, ◌*◌, ◌^◌, ◌<◌}
use native.Mathlib.Nat.{zero-add, add-mul, zero-mul, one-mul}
use native.Mathlib.Omega.{arith}
use mathlib.Core.Bool.{Bool, true, false, cond, not, ◌||◌}
use mathlib.Core.List.Memᴰ
use mathlib.Core.List.{List, [], ◌∷◌, ◌++◌, Memᴰ}
use mathlib.Core.Option.{Option, some}
use lib.ListN.{length, get_or, get_elem?}
use lib.IntN.{ℤ, pos, ◌+ℤ◌, ◌*ℤ◌, +ℤ_assoc, +ℤ_comm, +ℤ_idl, *ℤ-zero}
use lib.Dec.{T, not_T, eqb, ltb, eqb→eq, eqb_refl, ltb→lt}
use lib.Ieee.Fits.{and_i, and_l, and_r}
use Rattle.laws.proofs.Tests.{to_true, or_l, or_r, or_elim, cond_no}
use Rattle.doubles.proofs.Integers.{mul-addℤ}
use Rattle.pywr.specs.Numbers.{one64}
use Rattle.pywr.specs.Network.{Aggregate}
use Rattle.pywr.specs.ExclusiveSets.{same_set, has_set, add_sets, sets_from, set_number}
use Rattle.pywr.specs.Rows.{Element, add_element, ColumnMap, add_active}
use Rattle.pywr.specs.Plans.{exact, Plan, units_in_one}
use Rattle.pywr.specs.Allows.{on_count}
use Rattle.pywr.specs.Admits.{on_column, row_sum}
use Rattle.pywr.proofs.SumLaws.{AllUpto, row_weighed, add_element_lem, add_element_upto}
use Rattle.pywr.proofs.AmountLaws.{one_upto}
use Rattle.pywr.proofs.ListLaws.{found_get}

-- ---- sets

pub same_set_lem : (a b : List ℕ) → T (same_set a b) → a ≡ b
unfolding same_set
same_set_lem [] [] h = refl
same_set_lem [] (y ∷ ys) h = absurd h
same_set_lem (x ∷ xs) [] h = absurd h
same_set_lem (x ∷ xs) (y ∷ ys) h = ap₂ (λ (n : ℕ) (l : List ℕ). n ∷ l) (eqb→eq x y (and_l (eqb x y) (same_set xs ys) h)) (same_set_lem xs ys (and_r (eqb x y) (same_set xs ys) h))

same_self : (a : List ℕ) → T (same_set a a)
unfolding same_set
same_self [] = tt
same_self (x ∷ xs) = and_i (eqb x x) (same_set xs xs) (eqb_refl x) (same_self xs)

pub number_at : (s : List ℕ) (sets : List (List ℕ)) → T (has_set s sets) → get_elem? sets (set_number s sets) ≡ some s
unfolding has_set set_number
number_at s [] h = absurd h
number_at s (t ∷ ts) h = go (same_set t s) refl h (λ k. number_at s ts k)
  where
    go : (b : Bool) → same_set t s ≡ b → T (b || has_set s ts) → (T (has_set s ts) → get_elem? ts (set_number s ts) ≡ some s) → get_elem? (t ∷ ts) (cond b 0 (suc (set_number s ts))) ≡ some s
    go true e k ih = ap {B = Option (List ℕ)} some (same_set_lem t s (subst T (sym e) tt))
    go false e k ih = ih k

pub number_found : (s : List ℕ) (sets : List (List ℕ)) → T (has_set s sets) → get_or sets (set_number s sets) [] ≡ s
number_found s sets h = found_get sets (set_number s sets) s [] (number_at s sets h)

has_append : (s : List ℕ) (a b : List (List ℕ)) → T (has_set s a) → T (has_set s (a ++ b))
unfolding has_set
has_append s [] b h = absurd h
has_append s (t ∷ ts) b h =
    or_elim (same_set t s) (has_set s ts) h (λ k. or_l (same_set t s) (has_set s (ts ++ b)) k) (λ k. or_r (same_set t s) (has_set s (ts ++ b)) (has_append s ts b k))

has_last : (s : List ℕ) (a : List (List ℕ)) → T (has_set s (a ++ (s ∷ [])))
unfolding has_set
has_last s [] = or_l (same_set s s) false (same_self s)
has_last s (t ∷ ts) = or_r (same_set t s) (has_set s (ts ++ (s ∷ []))) (has_last s ts)

-- one set taken in
taken_keeps : (s t : List ℕ) (known : List (List ℕ)) → T (has_set s known) → T (has_set s (cond (has_set t known) known (known ++ (t ∷ []))))
taken_keeps s t known h = go (has_set t known)
  where
    go : (b : Bool) → T (has_set s (cond b known (known ++ (t ∷ []))))
    go true = h
    go false = has_append s known (t ∷ []) h

taken_has : (t : List ℕ) (known : List (List ℕ)) → T (has_set t (cond (has_set t known) known (known ++ (t ∷ []))))
taken_has t known = go (has_set t known) refl
  where
    go : (b : Bool) → has_set t known ≡ b → T (has_set t (cond b known (known ++ (t ∷ []))))
    go true e = subst T (sym e) tt
    go false e = has_last t known

adds_keeps : (s : List ℕ) (ss known : List (List ℕ)) → T (has_set s known) → T (has_set s (add_sets known ss))
unfolding add_sets
adds_keeps s [] known h = h
adds_keeps s (t ∷ ts) known h = adds_keeps s ts _ (taken_keeps s t known h)

adds_has : (s : List ℕ) (ss known : List (List ℕ)) → Memᴰ s ss → T (has_set s (add_sets known ss))
unfolding add_sets
adds_has s [] known m = absurd (Memᴰ.not-nil m)
adds_has s (t ∷ ts) known m = go (λ k. adds_has s ts _ k) (Memᴰ.cases_cons m)
  where
    next : List (List ℕ)
    next = cond (has_set t known) known (known ++ (t ∷ []))

    go : (Memᴰ s ts → T (has_set s (add_sets next ts))) → (s ≡ t) ⊎ Memᴰ s ts → T (has_set s (add_sets next ts))
    go ih (inl e) = adds_keeps s ts next (subst (λ (u : List ℕ). T (has_set u next)) (sym e) (taken_has t known))
    go ih (inr k) = ih k

from_keeps : (s : List ℕ) (ags : List Aggregate) (known : List (List ℕ)) → T (has_set s known) → T (has_set s (sets_from known ags))
unfolding sets_from
from_keeps s [] known h = h
from_keeps s (a ∷ rest) known h = from_keeps s rest _ (go a.exclusive)
  where
    go : (b : Bool) → T (has_set s (cond b (add_sets known a.sets) known))
    go true = adds_keeps s a.sets known h
    go false = h

-- "one 0..1 integer column per distinct exclusive set": a listed set is one of them
pub listed_known : (s : List ℕ) (a : Aggregate) (ags : List Aggregate) (known : List (List ℕ)) → Memᴰ a ags → T a.exclusive → Memᴰ s a.sets → T (has_set s (sets_from known ags))
unfolding sets_from
listed_known s a [] known m x k = absurd (Memᴰ.not-nil m)
listed_known s a (b ∷ rest) known m x k = go (λ j. listed_known s a rest _ j x k) (Memᴰ.cases_cons m)
  where
    next : List (List ℕ)
    next = cond b.exclusive (add_sets known b.sets) known

    here : a ≡ b → T (has_set s next)
    here e = subst (λ (c : Bool). T (has_set s (cond c (add_sets known b.sets) known)))
        (sym (to_true b.exclusive (subst (λ (y : Aggregate). T y.exclusive) e x))) (adds_has s b.sets known (subst (λ (y : Aggregate). Memᴰ s y.sets) e k))

    go : (Memᴰ a rest → T (has_set s (sets_from next rest))) → (a ≡ b) ⊎ Memᴰ a rest → T (has_set s (sets_from next rest))
    go ih (inl e) = from_keeps s rest next (here e)
    go ih (inr j) = ih j

-- ---- the exclusivity row

-- a set's column carries 1 or 0
pub set_column_lem : (f : ColumnMap) (plan : Plan) (k : ℕ) → on_column f plan (f.edge_columns + k) ≡ cond (plan.on (get_or f.sets k [])) units_in_one 0
unfolding on_column
set_column_lem f plan k =
    let c : ℕ = f.edge_columns in
    let back : c + k - c ≡ k = omega arith in
    cond_no (ltb (c + k) c) _ _ (not_under c k) ∙ ap (λ (n : ℕ). cond (plan.on (get_or f.sets n [])) units_in_one 0) back
  where
    not_under : (c k : ℕ) → T (not (ltb (c + k) c))
    not_under c k = not_T (ltb (c + k) c) (λ t. let l = ltb→lt (c + k) c t in omega arith)

pub data Known (sets : List (List ℕ)) : List (List ℕ) → Type 0 where
  none : Known sets []
  more : {s : List ℕ} {ss : List (List ℕ)} → T (has_set s sets) → Known sets ss → Known sets (s ∷ ss)

count_times : (b : Bool) (n : ℕ) → (cond b 1 0 + n) * units_in_one ≡ cond b units_in_one 0 + n * units_in_one
count_times true n = add-mul 1 n units_in_one ∙ ap (λ (k : ℕ). k + n * units_in_one) (one-mul units_in_one)
count_times false n = ap (λ (k : ℕ). k * units_in_one) (zero-add n) ∙ sym (zero-add (n * units_in_one))

module _ (f : ColumnMap) (plan : Plan) where
  pub active_sum : (ss : List (List ℕ)) → Known f.sets ss → (b : ℕ) (row : List Element) → AllUpto 0 b row → b + length ss < 2 ^ 53
      → row_sum f plan (add_active f ss row) ≡ exact one64 *ℤ pos (on_count plan ss * units_in_one) +ℤ row_sum f plan row
  unfolding add_active on_count
  active_sum [] none b row us h = sym (ap (λ (z : ℤ). z +ℤ row_sum f plan row) (ap (λ (k : ℕ). exact one64 *ℤ pos k) (zero-mul units_in_one) ∙ *ℤ-zero (exact one64)) ∙ +ℤ_idl (row_sum f plan row))
  active_sum (s ∷ ss) (more k ks) b row us h =
      let c : ℕ = f.edge_columns + set_number s f.sets in
      let r : ℤ = row_sum f plan row in
      let one : ℤ = exact one64 in
      let carry : on_column f plan c ≡ cond (plan.on s) units_in_one 0 = set_column_lem f plan (set_number s f.sets) ∙ ap (λ (x : List ℕ). cond (plan.on x) units_in_one 0) (number_found s f.sets k) in
      let row_added : row_sum f plan (add_element c one64 row) ≡ one *ℤ pos (on_column f plan c) +ℤ r =
      row_weighed f plan (add_element c one64 row) ∙ add_element_lem (on_column f plan) c one64 b 1 (omega arith) one_upto row us
      ∙ ap (λ (z : ℤ). one *ℤ pos (on_column f plan c) +ℤ z) (sym (row_weighed f plan row)) in
      active_sum ss ks (b + 1) (add_element c one64 row) (add_element_upto c one64 b 1 (omega arith) one_upto row us) (omega arith)
      ∙ ap (λ (z : ℤ). one *ℤ pos (on_count plan ss * units_in_one) +ℤ z) (row_added ∙ ap (λ (n : ℕ). one *ℤ pos n +ℤ r) carry)
      ∙ sym (+ℤ_assoc (one *ℤ pos (on_count plan ss * units_in_one)) (one *ℤ pos (cond (plan.on s) units_in_one 0)) r)
      ∙ ap (λ (z : ℤ). z +ℤ r)
      (+ℤ_comm (one *ℤ pos (on_count plan ss * units_in_one)) (one *ℤ pos (cond (plan.on s) units_in_one 0))
      ∙ sym (mul-addℤ one (pos (cond (plan.on s) units_in_one 0)) (pos (on_count plan ss * units_in_one)))
      ∙ ap (λ (n : ℕ). one *ℤ pos n) (sym (count_times (plan.on s) (on_count plan ss))))

-- Records that stand one behind the other: how many, where each stands, and checked in turn. Assumes nothing.
use Rattle.std.proofs.Common.{◌≡◌, ℕ, zero, suc, ◌+◌, ◌-◌, ◌*◌, ◌<◌, ◌≤◌, List, [], ◌∷◌, ◌++◌, length, get_or, sym, refl, ap, ◌∙◌, subst, ⊎_elim, eq-or-lt_of_le, add-one, arith}
use Rattle.fields.specs.Records.{records_at, records_end, check_each, AllPass}
use Rattle.std.specs.Prelude.{Result, Ok, Err}
use Rattle.pywr.specs.declared.Refusal.{Refusal}
use Rattle.fields.proofs.Left.{left_more, left_none}
use Rattle.fields.proofs.Within.{ok_same, check_next, flag_byte, byte_within, node_within, active_within, factor_within}

module _ {A : Type 0} (read : ℕ → A) (end : ℕ → ℕ) where
  pub records_length : (k at : ℕ) → length (records_at read end k at) ≡ k
  unfolding records_at
  records_length zero at = refl
  records_length (suc k) at = ap suc (records_length k (end at))

  records_suc : (k at : ℕ) → records_at read end (suc k) at ≡ records_at read end k at ++ (read (records_end end k at) ∷ [])
  unfolding records_at records_end
  records_suc zero at = refl
  records_suc (suc k) at = ap (λ (l : List A). read at ∷ l) (records_suc k (end at))

  -- one record more
  pub records_more : (k at : ℕ) → records_at read end (k + 1) at ≡ records_at read end k at ++ (read (records_end end k at) ∷ [])
  records_more k at = rw (add-one k) (records_suc k at)

  -- record i of k
  pub records_get : (k at i : ℕ) (d : A) → i < k → get_or (records_at read end k at) i d ≡ read (records_end end i at)
  unfolding records_at records_end
  records_get zero at i d h = absurd (omega arith)
  records_get (suc k) at zero d h = refl
  records_get (suc k) at (suc i) d h = records_get k (end at) i d (omega arith)

-- records of one length
pub end_fixed : (size k at : ℕ) → records_end (λ at. at + size) k at ≡ at + size * k
unfolding records_end
end_fixed size zero at = omega arith
end_fixed size (suc k) at = end_fixed size k (at + size) ∙ omega arith

module _ (end : ℕ → ℕ) where
  end_suc : (k at : ℕ) → records_end end (suc k) at ≡ end (records_end end k at)
  unfolding records_end
  end_suc zero at = refl
  end_suc (suc k) at = end_suc k (end at)

  pub end_more : (k at : ℕ) → records_end end (k + 1) at ≡ end (records_end end k at)
  end_more k at = rw (add-one k) (end_suc k at)

  pub end_none : (k at : ℕ) → k ≡ 0 → records_end end k at ≡ at
  unfolding records_end
  end_none k at q = rw q

  -- no end is before its start
  module _ (rising : (x : ℕ) → x ≤ end x) where
    pub end_after : (k at : ℕ) → at ≤ records_end end k at
    unfolding records_end
    end_after zero at = omega arith
    end_after (suc k) at = let i = end_after k (end at) in let j = rising at in omega (arith, i, j)

-- what is left of the records after i of them: the next one, and those behind it
module _ (end : ℕ → ℕ) (count i at : ℕ) (lt : i < count) where
  pub end_left : records_end end (count - i) at ≡ records_end end (count - (i + 1)) (end at)
  unfolding records_end
  end_left = rw (left_more count i lt)

  pub records_left : {A : Type 0} (read : ℕ → A) → records_at read end (count - i) at ≡ read at ∷ records_at read end (count - (i + 1)) (end at)
  unfolding records_at
  records_left read = rw (left_more count i lt)

-- none is left after the last
module _ (end : ℕ → ℕ) (count i at : ℕ) (le : count ≤ i) where
  pub end_over : records_end end (count - i) at ≡ at
  unfolding records_end
  end_over = rw (left_none count i le)

  pub records_over : {A : Type 0} (read : ℕ → A) → records_at read end (count - i) at ≡ []
  unfolding records_at
  records_over read = rw (left_none count i le)

-- records checked in turn: a turn of the loop, and each way out
module _ (check : ℕ → Result ℕ Refusal) (count i at : ℕ) where
  pub each_more : (x : ℕ) → i < count → check at ≡ Ok x → check_each check (count - i) at ≡ check_each check (count - (i + 1)) x
  unfolding check_each
  each_more x lt e = rw (left_more count i lt, e)

  pub each_refused : (r : Refusal) → i < count → check at ≡ Err r → check_each check (count - i) at ≡ Err r
  unfolding check_each
  each_refused r lt e = rw (left_more count i lt, e)

  pub each_end : count ≤ i → check_each check (count - i) at ≡ Ok at
  unfolding check_each
  each_end le = rw (left_none count i le)

-- no record, and one record more
pub none_pass : (check : ℕ → ℕ → Result ℕ Refusal) (end : ℕ → ℕ) (k start : ℕ) → k ≡ 0 → AllPass check end k start
none_pass check end k start q i lt = absurd (omega (arith, q, lt))

pub one_pass : (check : ℕ → ℕ → Result ℕ Refusal) (end : ℕ → ℕ) (k start at x : ℕ) → AllPass check end k start → at ≡ records_end end k start → x ≡ end at → check k at ≡ Ok x
    → AllPass check end (k + 1) start
one_pass check end k start at x p q r s i lt =
    let le : i ≤ k = omega (arith, lt) in
    ⊎_elim
    (λ (w : i ≡ k). subst (λ (j : ℕ). check j (records_end end j start) ≡ Ok (records_end end (j + 1) start)) (sym w)
    (ap (check k) (sym q) ∙ s ∙ ap (λ (y : ℕ). Ok y) (r ∙ ap end q ∙ sym (end_more end k start))))
    (λ (w : i < k). p i w)
    (eq-or-lt_of_le le)

-- where the whole check passed, each record did
module _ (check : ℕ → Result ℕ Refusal) (end : ℕ → ℕ) (ends : (at x : ℕ) → check at ≡ Ok x → x ≡ end at) where
  pub each_ends : (count at x : ℕ) → check_each check count at ≡ Ok x → x ≡ records_end end count at
  unfolding check_each records_end
  each_ends zero at x e = sym (ok_same e)
  each_ends (suc count) at x e =
      let t = check_next (check at) _ x e in
      each_ends count t.0 x t.2 ∙ ap (records_end end count) (ends at t.0 t.1)

  pub each_pass : (count at x : ℕ) → check_each check count at ≡ Ok x → AllPass (λ i. check) end count at
  unfolding check_each records_end
  each_pass zero at x e i lt = absurd (omega arith)
  each_pass (suc count) at x e zero lt = let t = check_next (check at) _ x e in t.1 ∙ ap (λ (y : ℕ). Ok y) (ends at t.0 t.1)
  each_pass (suc count) at x e (suc i) lt =
      let t = check_next (check at) _ x e in
      let q = ends at t.0 t.1 in
      let h = each_pass count t.0 x t.2 i (omega arith) in
      subst (λ (y : ℕ). check (records_end end i y) ≡ Ok (records_end end (i + 1) y)) q h ∙ ap (λ (y : ℕ). Ok y) (rw (add-one i, add-one (suc i)))

-- each that passes ends within `most`, and so does the last
pub each_within : (check : ℕ → Result ℕ Refusal) (most : ℕ) → ((at x : ℕ) → check at ≡ Ok x → x ≤ most) → (count at x : ℕ) → at ≤ most → check_each check count at ≡ Ok x → x ≤ most
unfolding check_each
each_within check most within zero at x le e = subst (λ (y : ℕ). y ≤ most) (ok_same e) le
each_within check most within (suc count) at x le e =
    let t = check_next (check at) _ x e in
    each_within check most within count t.0 x (within at t.0 t.1) t.2

-- for a function that checks fields, or records in turn
pub ruleset checked_in_turn = (flag_byte, byte_within, node_within, active_within, factor_within, each_more, each_refused, each_end)

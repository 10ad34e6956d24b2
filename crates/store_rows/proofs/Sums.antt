-- Sums over the numbers from one on, and the loop that adds them up. Assumes nothing.
use mathlib.Core.Path.{◌≡◌, refl, sym, ◌∙◌}
use Prim.Native.Nat.{ℕ, zero, suc, ◌+◌, ◌-◌, ◌≤◌, ◌<◌, zero-le}
use native.Mathlib.Nat.{add-zero, zero-add, add_assoc, sub-zero, sub-eq-zero_of_le}
use native.Mathlib.Omega.{arith}
use mathlib.Core.Bool.{Bool, ◌&&◌, and_assoc}
use mathlib.Core.List.{List}
use lib.ListN.{get_or}
use Rattle.pywr.specs.Misshapen.{all_entries}
use Rattle.store_rows.specs.Falls.{fall, fall_at, sum_from}

pub sum_append : (f : ℕ → ℕ) (i m n : ℕ) → sum_from f i (m + n) ≡ sum_from f i m + sum_from f (i + m) n
unfolding sum_from
sum_append f i zero n = rw (zero-add n, zero-add, add-zero)
sum_append f i (suc m) n =
    let e : suc m + n ≡ suc (m + n) = omega arith in
    let q : i + 1 + m ≡ i + suc m = omega arith in
    rw (e, sum_append f (i + 1) m n, q) (sym (add_assoc (f i) (sum_from f (i + 1) m) (sum_from f (i + suc m) n)))

pub all_append : (test : ℕ → Bool) (i m n : ℕ) → all_entries test 1 i (m + n) ≡ (all_entries test 1 i m && all_entries test 1 (i + m) n)
unfolding all_entries
all_append test i zero n = rw (zero-add n, add-zero)
all_append test i (suc m) n =
    let e : suc m + n ≡ suc (m + n) = omega arith in
    let q : i + 1 + m ≡ i + suc m = omega arith in
    rw (e, all_append test (i + 1) m n, q) (sym (and_assoc (test i) (all_entries test 1 (i + 1) m) (all_entries test 1 (i + suc m) n)))

-- ---- the loop

module _ (f : ℕ → ℕ) (n : ℕ) where
  pub record Summed (sum i : ℕ) : Type 0 where
    pub small : sum ≤ i
    pub so_far : sum_from f 0 n ≡ sum + sum_from f i (n - i)

  pub summed_none : Summed 0 0
  summed_none = record { small = zero-le; so_far = rw (sub-zero, zero-add) }

module _ {f : ℕ → ℕ} {n sum i : ℕ} (h : Summed f n sum i) where
  pub summed_more : (x : ℕ) → x ≡ f i → x ≤ 1 → i < n → Summed f n (sum + x) (i + 1)
  unfolding sum_from
  summed_more x e le lt =
      let q : n - i ≡ suc (n - (i + 1)) = omega arith in
      record { small = omega (arith, h.small); so_far = h.so_far ∙ rw (q, e) (sym (add_assoc sum (f i) (sum_from f (i + 1) (n - (i + 1))))) }

  pub summed_all : n ≤ i → sum ≡ sum_from f 0 n
  unfolding sum_from
  summed_all le = sym (h.so_far ∙ rw (sub-eq-zero_of_le le) (add-zero sum))

-- ---- falls

module _ (columns : List ℕ) where
  -- the first column falls from nothing, so that the loop starts at the second
  pub falls_none : (n : ℕ) → Summed (fall_at columns) n 0 1
  unfolding sum_from fall_at
  falls_none zero = record { small = zero-le; so_far = refl }
  falls_none (suc n) = let q : suc n - 1 ≡ n = omega arith in record { small = zero-le; so_far = rw q }

  pub fall_is : (i : ℕ) → 1 ≤ i → fall_at columns i ≡ fall (get_or columns (i - 1) 0) (get_or columns i 0)
  unfolding fall_at
  fall_is zero h = absurd (omega arith)
  fall_is (suc i) h = let q : suc i - 1 ≡ i = omega arith in rw q

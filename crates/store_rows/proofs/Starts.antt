-- The test of the row starts: its loop, and what a store that passes it has. Assumes nothing.
use mathlib.Core.Path.{◌≡◌, refl, sym, ◌∙◌}
use Prim.Native.Nat.{ℕ, zero, suc, ◌+◌, ◌-◌, ◌≤◌, ◌<◌, zero-le}
use native.Mathlib.Nat.{add-zero, zero-add, le_antisymm, sub-zero, sub-eq-zero_of_le}
use native.Mathlib.Omega.{arith}
use mathlib.Core.Bool.{Bool, true, false, ◌&&◌}
use mathlib.Core.List.{List, []}
use lib.ListN.{get_or}
use lib.Dec.{T, leb, eqb, leb→le, eqb→eq}
use lib.Ieee.Fits.{and_l, and_r}
use Rattle.laws.proofs.Tests.{of_true}
use Rattle.pywr.specs.Store.{Store, elements_kept, start_of}
use Rattle.pywr.specs.Misshapen.{starts_rise}
use Rattle.store_rows.specs.Starts.{StartsRise}

-- a store of which only these three runs are read
abbrev pub of_runs : List ℕ → List ℕ → List ℕ → Store
of_runs columns row_starts shape =
    record { col_lower = []; col_upper = []; col_obj_coef = []; row_lower = []; row_upper = []; elements = []; columns = columns; row_starts = row_starts; shape = shape }

pub starts_same : (s t : Store) → s.row_starts ≡ t.row_starts → s.shape ≡ t.shape → (r n : ℕ) → starts_rise s r n ≡ starts_rise t r n
unfolding starts_rise
starts_same s t er es r zero = rw (er, es)
starts_same s t er es r (suc n) = rw (starts_same s t er es (r + 1) n, er)

-- ---- the loop

module _ (s : Store) (rows : ℕ) where
  pub record Risen (good : Bool) (r : ℕ) : Type 0 where
    pub few : r ≤ rows
    pub so_far : (eqb (start_of s 0) 0 && starts_rise s 0 rows) ≡ (good && starts_rise s r (rows - r))

  pub risen_none : Risen (eqb (start_of s 0) 0) 0
  risen_none = record { few = zero-le; so_far = rw sub-zero }

module _ {s : Store} {rows : ℕ} {good : Bool} {r : ℕ} (h : Risen s rows good r) where
  pub risen_more : r < rows → Risen s rows (good && leb (start_of s r) (start_of s (r + 1))) (r + 1)
  unfolding starts_rise
  risen_more lt = record { few = omega arith; so_far = h.so_far ∙ next good }
    where
      next : (b : Bool) → (b && starts_rise s r (rows - r)) ≡ (b && leb (start_of s r) (start_of s (r + 1)) && starts_rise s (r + 1) (rows - (r + 1)))
      next true = let e : rows - r ≡ suc (rows - (r + 1)) = omega arith in rw e
      next false = refl

  pub risen_all : rows ≤ r → (good && eqb (start_of s rows) (elements_kept s)) ≡ (eqb (start_of s 0) 0 && starts_rise s 0 rows)
  unfolding starts_rise
  risen_all le = let e : rows ≡ r = le_antisymm le h.few in sym (h.so_far ∙ rw (sub-eq-zero_of_le le, e))

-- ---- what passed

module _ (s : Store) where
  rise_at : (r n : ℕ) → T (starts_rise s r n) → (k : ℕ) → k < n → start_of s (r + k) ≤ start_of s (r + k + 1)
  unfolding starts_rise
  rise_at r zero t k h = absurd (omega arith)
  rise_at r (suc n) t zero h = rw add-zero (leb→le (start_of s r) (start_of s (r + 1)) (and_l (leb (start_of s r) (start_of s (r + 1))) (starts_rise s (r + 1) n) t))
  rise_at r (suc n) t (suc k) h =
      let e : r + suc k ≡ r + 1 + k = omega arith in
      rw e (rise_at (r + 1) n (and_r (leb (start_of s r) (start_of s (r + 1))) (starts_rise s (r + 1) n) t) k (omega arith))

  last_at : (r n : ℕ) → T (starts_rise s r n) → start_of s (r + n) ≡ elements_kept s
  unfolding starts_rise
  last_at r zero t = rw add-zero (eqb→eq (start_of s r) (elements_kept s) t)
  last_at r (suc n) t =
      let e : r + suc n ≡ r + 1 + n = omega arith in
      rw e (last_at (r + 1) n (and_r (leb (start_of s r) (start_of s (r + 1))) (starts_rise s (r + 1) n) t))

  pub starts_told : (rows : ℕ) → (eqb (start_of s 0) 0 && starts_rise s 0 rows) ≡ true → StartsRise s.row_starts rows (elements_kept s)
  starts_told rows e =
      let t = of_true (eqb (start_of s 0) 0 && starts_rise s 0 rows) e in
      let u = and_r (eqb (start_of s 0) 0) (starts_rise s 0 rows) t in
      record {
        first = eqb→eq (start_of s 0) 0 (and_l (eqb (start_of s 0) 0) (starts_rise s 0 rows) t);
        rise = λ r lt. rw zero-add at (rise_at 0 rows u r lt);
        last = rw zero-add at (last_at 0 rows u);
      }

module _ {row_starts : List ℕ} {rows kept : ℕ} (h : StartsRise row_starts rows kept) where
  under_from : (k r : ℕ) → r + k ≡ rows → get_or row_starts r 0 ≤ kept
  under_from zero r e = let q : r ≡ rows = omega arith in rw q (omega (arith, h.last))
  under_from (suc k) r e = omega (arith, h.rise r (omega arith), under_from k (r + 1) (omega arith))

  pub start_under : (r : ℕ) → r ≤ rows → get_or row_starts r 0 ≤ kept
  start_under r le = under_from (rows - r) r (omega arith)

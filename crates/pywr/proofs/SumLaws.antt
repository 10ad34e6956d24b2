-- Sums of multiples of 1 / 2 ^ g are exact below 2 ^ 53 of these, and so a row's elements, each times a weight of its
-- column, sum to what was added to the row. Assumes nothing.
use mathlib.Core.Path.{◌≡◌, refl, sym, ap, ap₂, ◌∙◌}
use Prim.Native.Nat.{ℕ, suc, ◌+◌, ◌-◌, ◌*◌, ◌^◌, ◌<◌, ◌≤◌}
use native.Mathlib.Nat.{le_trans, le_of_eq, le_of_lt, add-le-add, add-mul, mul-le-mul_right, zero-mul, suc-mul, add_comm}
use native.Mathlib.Omega.{arith}
use mathlib.Core.List.{List, [], ◌∷◌}
use lib.IntN.{ℤ, pos, ◌+ℤ◌, ◌*ℤ◌, +ℤ_assoc, +ℤ_comm, *ℤ-zero, +ℤ_idl}
use lib.ListN.{length}
use lib.Ieee.{Float, binary64, add}
use Rattle.doubles.specs.Units.{mag, rank}
use Rattle.doubles.specs.Sums.{Grain, Summed}
use Rattle.doubles.proofs.Integers.{add-mulℤ, mul-addℤ}
use Rattle.doubles.proofs.Sums.{add_grains, zero_grain, zero_mag}
use Rattle.pywr.specs.Numbers.{zero64}
use Rattle.pywr.specs.Rows.{Element, element, add_element, add_on, ColumnMap}
use Rattle.pywr.specs.Plans.{exact, Plan}
use Rattle.pywr.specs.Admits.{on_column, row_sum}
use Rattle.pywr.proofs.ElementLaws.{add_none, add_cases}
use Rattle.pywr.proofs.ExactLaws.{exact_rank, add_zero_exact}

-- 1 / 2 ^ g is 2 ^ grid g units; with g = 0 it is 1.0
abbrev pub grid : ℕ → ℕ
grid g = 1074 - g

-- a multiple of 1 / 2 ^ g, at most n of these from 0
pub record Upto (g n : ℕ) (x : Float) : Type 0 where
  pub grain : Grain binary64 (grid g) x
  pub most : mag binary64 x ≤ n * 2 ^ grid g

pub data AllUpto (g n : ℕ) : List Element → Type 0 where
  none : AllUpto g n []
  more : {e : Element} {es : List Element} → Upto g n e.value → AllUpto g n es → AllUpto g n (e ∷ es)

-- ---- add is exact

module _ {g : ℕ} (a b : ℕ) (x y : Float) (room : a + b < 2 ^ 53) (u : Upto g a x) (v : Upto g b y) where
  together : mag binary64 x + mag binary64 y ≤ (a + b) * 2 ^ grid g
  together = le_trans (add-le-add u.most v.most) (le_of_eq (sym (add-mul a b (2 ^ grid g))))

  added : Summed binary64 (grid g) (rank binary64 x +ℤ rank binary64 y) (mag binary64 x + mag binary64 y) (add binary64 x y)
  added = add_grains binary64 (grid g) x y (omega arith) u.grain v.grain (le_trans together (mul-le-mul_right (2 ^ grid g) (le_of_lt room)))

  exact_add : exact (add binary64 x y) ≡ exact x +ℤ exact y
  exact_add =
      exact_rank (add binary64 x y) added.grain.fit added.grain.is_finite
      ∙ added.total
      ∙ sym (ap₂ (λ (k l : ℤ). k +ℤ l) (exact_rank x u.grain.fit u.grain.is_finite) (exact_rank y v.grain.fit v.grain.is_finite))

  add_upto : Upto g (a + b) (add binary64 x y)
  add_upto = record { grain = added.grain; most = le_trans added.within together }

-- ---- a row's elements, each times the weight of its column

unfoldable pub weighed : (ℕ → ℕ) → List Element → ℤ
weighed weight [] = pos 0
weighed weight (e ∷ es) = exact e.value *ℤ pos (weight e.column) +ℤ weighed weight es

-- a row's sum is weighed by what its columns carry
pub row_weighed : (f : ColumnMap) (plan : Plan) (row : List Element) → row_sum f plan row ≡ weighed (on_column f plan) row
unfolding row_sum weighed
row_weighed f plan [] = refl
row_weighed f plan (e ∷ es) = ap (λ (z : ℤ). exact e.value *ℤ pos (on_column f plan e.column) +ℤ z) (row_weighed f plan es)

module _ {g : ℕ} (weight : ℕ → ℕ) (c : ℕ) (x : Float) (b n : ℕ) (room : b + n < 2 ^ 53) (u : Upto g n x) where
  -- the term of an element
  abbrev term : Float → ℕ → ℤ
  term y k = exact y *ℤ pos (weight k)

  pub add_element_lem : (row : List Element) → AllUpto g b row → weighed weight (add_element c x row) ≡ term x c +ℤ weighed weight row
  unfolding weighed
  add_element_lem [] none = rw (add_none c x) (ap (λ (y : ℤ). y *ℤ pos (weight c) +ℤ pos 0) (add_zero_exact x u.grain.fit u.grain.is_finite))
  add_element_lem (e ∷ es) (more ue us) =
      add_cases c x e es (λ (row : List Element). weighed weight row ≡ term x c +ℤ weighed weight (e ∷ es))
      (λ h. ap (λ (y : ℤ). y *ℤ pos (weight c) +ℤ weighed weight (e ∷ es)) (add_zero_exact x u.grain.fit u.grain.is_finite))
      at
      (λ h. over (add_element_lem es us))
    where
      at : c ≡ e.column → weighed weight (element c (add binary64 e.value x) ∷ es) ≡ term x c +ℤ weighed weight (e ∷ es)
      at same =
          ap (λ (y : ℤ). y *ℤ pos (weight c) +ℤ weighed weight es)
          (exact_add b n e.value x room ue u)
          ∙ ap (λ (y : ℤ). y +ℤ weighed weight es) (add-mulℤ (exact e.value) (exact x) (pos (weight c)) ∙ +ℤ_comm (term e.value c) (term x c))
          ∙ +ℤ_assoc (term x c) (term e.value c) (weighed weight es)
          ∙ ap (λ (k : ℕ). term x c +ℤ (term e.value k +ℤ weighed weight es)) same

      over : weighed weight (add_element c x es) ≡ term x c +ℤ weighed weight es → weighed weight (e ∷ add_element c x es) ≡ term x c +ℤ weighed weight (e ∷ es)
      over ih =
          ap (λ (y : ℤ). term e.value e.column +ℤ y) ih
          ∙ sym (+ℤ_assoc (term e.value e.column) (term x c) (weighed weight es))
          ∙ ap (λ (y : ℤ). y +ℤ weighed weight es) (+ℤ_comm (term e.value e.column) (term x c))
          ∙ +ℤ_assoc (term x c) (term e.value e.column) (weighed weight es)

-- ---- the steps of a row's elements after an addition

pub wider : {g : ℕ} (a b : ℕ) (x : Float) → a ≤ b → Upto g a x → Upto g b x
wider {g} a b x h u = record { grain = u.grain; most = le_trans u.most (mul-le-mul_right (2 ^ grid g) h) }

pub all_wider : {g : ℕ} (a b : ℕ) (row : List Element) → a ≤ b → AllUpto g a row → AllUpto g b row
all_wider a b [] h none = none
all_wider a b (e ∷ es) h (more u us) = more (wider a b e.value h u) (all_wider a b es h us)

pub zero_upto : (g : ℕ) → Upto g 0 zero64
unfolding zero64
zero_upto g = record { grain = zero_grain binary64 (grid g); most = le_of_eq (zero_mag binary64 ∙ sym (zero-mul (2 ^ grid g))) }

module _ {g : ℕ} (c : ℕ) (x : Float) (b n : ℕ) (room : b + n < 2 ^ 53) (u : Upto g n x) where
  new_upto : Upto g (b + n) (add binary64 zero64 x)
  new_upto = wider (0 + n) (b + n) (add binary64 zero64 x) (omega arith) (add_upto 0 n zero64 x (omega arith) (zero_upto g) u)

  pub add_element_upto : (row : List Element) → AllUpto g b row → AllUpto g (b + n) (add_element c x row)
  add_element_upto [] none = rw (add_none c x) (more new_upto none)
  add_element_upto (e ∷ es) (more ue us) =
      add_cases c x e es (AllUpto g (b + n))
      (λ h. more new_upto (more (wider b (b + n) e.value (omega arith) ue) (all_wider b (b + n) es (omega arith) us)))
      (λ h. more (add_upto b n e.value x room ue u) (all_wider b (b + n) es (omega arith) us))
      (λ h. more (wider b (b + n) e.value (omega arith) ue) (add_element_upto es us))

-- ---- one factor on a list of columns

module _ (weight : ℕ → ℕ) where
  unfoldable pub on_columns : List ℕ → ℕ
  on_columns [] = 0
  on_columns (c ∷ cs) = weight c + on_columns cs

  pub add_on_lem : {g : ℕ} (cs : List ℕ) (x : Float) (n : ℕ) → Upto g n x → (b : ℕ) (row : List Element) → AllUpto g b row → b + length cs * n < 2 ^ 53
      → weighed weight (add_on cs x row) ≡ exact x *ℤ pos (on_columns cs) +ℤ weighed weight row
  unfolding add_on on_columns
  add_on_lem [] x n u b row us h = sym (ap (λ (z : ℤ). z +ℤ weighed weight row) (*ℤ-zero (exact x)) ∙ +ℤ_idl (weighed weight row))
  add_on_lem (c ∷ cs) x n u b row us h =
      let m : suc (length cs) * n ≡ n + length cs * n = suc-mul (length cs) n ∙ add_comm (length cs * n) n in
      add_on_lem cs x n u (b + n) (add_element c x row) (add_element_upto c x b n (omega arith) u row us) (omega arith)
      ∙ ap (λ (z : ℤ). exact x *ℤ pos (on_columns cs) +ℤ z) (add_element_lem weight c x b n (omega arith) u row us)
      ∙ sym (+ℤ_assoc (exact x *ℤ pos (on_columns cs)) (exact x *ℤ pos (weight c)) (weighed weight row))
      ∙ ap (λ (z : ℤ). z +ℤ weighed weight row)
      (+ℤ_comm (exact x *ℤ pos (on_columns cs)) (exact x *ℤ pos (weight c)) ∙ sym (mul-addℤ (exact x) (pos (weight c)) (pos (on_columns cs))))

pub add_on_upto : {g : ℕ} (cs : List ℕ) (x : Float) (n : ℕ) → Upto g n x → (b : ℕ) (row : List Element) → AllUpto g b row → b + length cs * n < 2 ^ 53
    → AllUpto g (b + length cs * n) (add_on cs x row)
unfolding add_on
add_on_upto [] x n u b row us h = all_wider b (b + 0 * n) row (omega arith) us
add_on_upto (c ∷ cs) x n u b row us h =
    let m : suc (length cs) * n ≡ n + length cs * n = suc-mul (length cs) n ∙ add_comm (length cs * n) n in
    all_wider (b + n + length cs * n) (b + suc (length cs) * n) (add_on cs x (add_element c x row)) (omega arith)
    (add_on_upto cs x n u (b + n) (add_element c x row) (add_element_upto c x b n (omega arith) u row us) (omega arith))

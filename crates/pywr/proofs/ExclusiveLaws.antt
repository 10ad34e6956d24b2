-- An exclusive node's rows: a coefficient put on the set's column, over every edge column, adds exactly itself where the set is on. Assumes nothing.
use mathlib.Core.Path.{◌≡◌, refl, sym, ap, ◌∙◌}
use Prim.Native.Nat.{ℕ, ◌+◌, ◌<◌}
use native.Mathlib.Omega.{arith}
use mathlib.Core.Bool.{Bool, cond}
use mathlib.Core.List.{List, [], ◌∷◌}
use lib.IntN.{ℤ, pos, ◌+ℤ◌, ◌*ℤ◌, +ℤ_assoc, +ℤ_comm}
use lib.Dec.{T, eqb, eqb_refl}
use lib.Ieee.{Float, binary64, fits, add}
use lib.Ieee.Scale.{finite}
use borrow.Author.Tests.{ne_eqb}
use Rattle.laws.proofs.Tests.{to_true}
use Rattle.pywr.specs.Numbers.{zero64}
use Rattle.pywr.specs.Rows.{Element, element, add_element, ColumnMap}
use Rattle.pywr.specs.Step.{change_coefficient}
use Rattle.pywr.specs.Plans.{exact, Plan}
use Rattle.pywr.specs.Admits.{on_column, row_sum}
use Rattle.pywr.proofs.ElementLaws.{add_none, add_over, add_cases}
use Rattle.pywr.proofs.ExactLaws.{add_zero_exact}

pub data Under (c : ℕ) : List Element → Type 0 where
  none : Under c []
  more : {e : Element} {es : List Element} → e.column < c → Under c es → Under c (e ∷ es)

pub coefficient_sum : (f : ColumnMap) (plan : Plan) (c : ℕ) (x : Float) → T (fits binary64 x) → T (finite x) → (row : List Element) → Under c row
    → row_sum f plan (add_element c x row) ≡ exact x *ℤ pos (on_column f plan c) +ℤ row_sum f plan row
unfolding row_sum
coefficient_sum f plan c x h fx [] none = rw (add_none c x) (ap (λ (y : ℤ). y *ℤ pos (on_column f plan c) +ℤ pos 0) (add_zero_exact x h fx))
coefficient_sum f plan c x h fx (e ∷ es) (more l us) =
    let a : ℤ = exact e.value *ℤ pos (on_column f plan e.column) in
    let b : ℤ = exact x *ℤ pos (on_column f plan c) in
    ap (row_sum f plan) (add_over c x e es l)
    ∙ ap (λ (y : ℤ). a +ℤ y) (coefficient_sum f plan c x h fx es us)
    ∙ sym (+ℤ_assoc a b (row_sum f plan es))
    ∙ ap (λ (y : ℤ). y +ℤ row_sum f plan es) (+ℤ_comm a b)
    ∙ +ℤ_assoc b a (row_sum f plan es)

-- and so does one that is set there, whatever stood there before
pub set_sum : (f : ColumnMap) (plan : Plan) (c : ℕ) (y v : Float) (row : List Element) → Under c row
    → row_sum f plan (change_coefficient c (λ held. v) (add_element c y row)) ≡ exact v *ℤ pos (on_column f plan c) +ℤ row_sum f plan row
unfolding row_sum change_coefficient
set_sum f plan c y v [] none =
    rw (add_none c y) (ap (λ (b : Bool). row_sum f plan (cond b (element c v ∷ []) (element c (add binary64 zero64 y) ∷ []))) (to_true (eqb c c) (eqb_refl c)))
set_sum f plan c y v (e ∷ es) (more l us) =
    let a : ℤ = exact e.value *ℤ pos (on_column f plan e.column) in
    let b : ℤ = exact v *ℤ pos (on_column f plan c) in
    let apart : ¬ (e.column ≡ c) = (λ same. absurd (omega arith)) in
    ap (λ (l : List Element). row_sum f plan (change_coefficient c (λ held. v) l)) (add_over c y e es l)
    ∙ ap (λ (t : Bool). row_sum f plan (cond t (element c v ∷ add_element c y es) (e ∷ change_coefficient c (λ held. v) (add_element c y es)))) (ne_eqb e.column c apart)
    ∙ ap (λ (z : ℤ). a +ℤ z) (set_sum f plan c y v es us)
    ∙ sym (+ℤ_assoc a b (row_sum f plan es))
    ∙ ap (λ (z : ℤ). z +ℤ row_sum f plan es) (+ℤ_comm a b)
    ∙ +ℤ_assoc b a (row_sum f plan es)

-- a row under a column has no element there
pub change_absent : (n k : ℕ) (change : Float → Float) (row : List Element) → Under n row → change_coefficient (n + k) change row ≡ row
unfolding change_coefficient
change_absent n k change [] none = refl
change_absent n k change (e ∷ es) (more h under) =
    let apart : ¬ (e.column ≡ n + k) = (λ same. absurd (omega arith)) in
    ap (λ (b : Bool). cond b (element (n + k) (change e.value) ∷ es) (e ∷ change_coefficient (n + k) change es)) (ne_eqb e.column (n + k) apart)
    ∙ ap (λ (l : List Element). e ∷ l) (change_absent n k change es under)

-- edge columns stay under the edge columns' count
pub under_add : (n c : ℕ) (x : Float) (row : List Element) → c < n → Under n row → Under n (add_element c x row)
under_add n c x [] h none = rw (add_none c x) (more h none)
under_add n c x (e ∷ es) h (more l us) = add_cases c x e es (Under n) (λ q. more h (more l us)) (λ q. more h us) (λ q. more l (under_add n c x es h us))

-- Rows whose columns have other numbers: an element added to both on the same column keeps them alike, and two such pairs count as one row in both or in neither.
-- Assumes nothing.
use mathlib.Core.Path.{◌≡◌, refl, sym, ap, ap₂, ◌∙◌, subst, subst₂}
use Prim.Native.Nat.{ℕ}
use native.Mathlib.Decide.{ℕ_discrete}
use mathlib.Core.List.{List, []}
use mathlib.Core.Option.{Option}
use lib.ListN.{length}
use lib.Dec.{T}
use lib.Ieee.{Float, eq}
use Rattle.laws.proofs.Tests.{same_test}
use Rattle.pywr.specs.Rows.{Element, add_element}
use Rattle.pywr.specs.VariableRows.{same_row}
use Rattle.theorem_file_order.specs.ProgrammeOrder.{value_on}
use Rattle.theorem_file_order.proofs.Lookup.{added, one_more, value_off, Match, Rises, rises_none, rises_add, value_added, length_added, equal_row, equal_values}

-- every column has a new number, and every number is some column's
pub record Renumbering : Type 0 where
  pub to : ℕ → ℕ
  pub from : ℕ → ℕ
  pub to_from : (c : ℕ) → to (from c) ≡ c
  pub from_to_lem : (c : ℕ) → from (to c) ≡ c

module _ (new : Renumbering) where
  pub record Alike (r s : List Element) : Type 0 where
    pub elements : length r ≡ length s
    pub values : (c : ℕ) → value_on (new.to c) s ≡ value_on c r
    pub first : Rises r
    pub second : Rises s

module _ {new : Renumbering} where
  pub none_alike : Alike new [] []
  unfolding value_on
  none_alike = record { elements = refl; values = λ c. refl; first = rises_none; second = rises_none }

  pub add_alike : (c : ℕ) (x : Float) {r s : List Element} → Alike new r s → Alike new (add_element c x r) (add_element (new.to c) x s)
  add_alike c x {r} {s} h =
      record {
        elements = length_added c x r h.first ∙ ap₂ one_more (sym (h.values c)) h.elements ∙ sym (length_added (new.to c) x s h.second);
        values = λ k. go k (ℕ_discrete c k);
        first = rises_add c x r h.first;
        second = rises_add (new.to c) x s h.second;
      }
    where
      go : (k : ℕ) → Dec (c ≡ k) → value_on (new.to k) (add_element (new.to c) x s) ≡ value_on k (add_element c x r)
      go k (yes q) =
          subst (λ (j : ℕ). value_on (new.to j) (add_element (new.to c) x s) ≡ value_on j (add_element c x r)) q
          (value_added (new.to c) x s h.second ∙ ap (λ (o : Option Float). added o x) (h.values c) ∙ sym (value_added c x r h.first))
      go k (no q) =
          value_off (new.to c) (new.to k) x s (λ e. q (sym (new.from_to_lem c) ∙ ap new.from e ∙ new.from_to_lem k)) ∙ h.values k ∙ sym (value_off c k x r q)

  pub same_row_alike : {r s r' s' : List Element} → Alike new r s → Alike new r' s' → same_row r r' ≡ same_row s s'
  same_row_alike {r} {s} {r'} {s'} h k =
      same_test (same_row r r') (same_row s s') (
        λ t. equal_row s s' h.second k.second (λ c.
            subst (λ (j : ℕ). Match (λ (x y : Float). T (eq x y)) (value_on j s) (value_on j s')) (new.to_from c)
            (subst₂ (Match (λ (x y : Float). T (eq x y))) (sym (h.values (new.from c))) (sym (k.values (new.from c))) (equal_values r r' t (new.from c)))),
        λ t. equal_row r r' h.first k.first (λ c. subst₂ (Match (λ (x y : Float). T (eq x y))) (h.values c) (k.values c) (equal_values s s' t (new.to c))),
      )

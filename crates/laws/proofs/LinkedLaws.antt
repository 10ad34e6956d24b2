-- Lists that two tables hold: walking one, a store that leaves it as it is, and a store that puts a number at its head. Assumes nothing.
use Prim.Native.Nat.{ℕ, suc, ◌-◌, ◌<◌, ◌≤◌}
use mathlib.Core.Path.{◌≡◌, refl}
use mathlib.Core.Logic.{inl, inr, ◌≢◌}
use mathlib.Core.List.{List, [], ◌∷◌}
use native.Mathlib.Omega.{arith}
use lib.ListN.{length, get_or, set}
use lib.Seq.{get_or-set_same, get_or-set_other}
use Rattle.laws.specs.Linked.{Later, Linked}

-- one step of a walk: the number at hand is `first - 1`
pub record Walk (size : ℕ) (next : List ℕ) (first : ℕ) (js : List ℕ) : Type 0 where
  pub rest : List ℕ
  pub is : js ≡ (first - 1) ∷ rest
  pub under : first - 1 < size
  pub later : Later (first - 1) (get_or next (first - 1) 0)
  pub linked : Linked size next (get_or next (first - 1) 0) rest

pub walk : (size : ℕ) (next : List ℕ) (first : ℕ) (js : List ℕ) → Linked size next first js → first ≢ 0 → Walk size next first js
walk size next first [] l h = absurd (h l)
walk size next first (j ∷ js) l h =
    let e : first - 1 ≡ j = omega (arith, l.0) in
    record { rest = js; is = rw e; under = rw e l.1; later = rw e l.2; linked = rw e l.3 }

-- there is no number exactly if `first` is 0
pub walk_end : (size : ℕ) (next : List ℕ) (first : ℕ) (js : List ℕ) → Linked size next first js → first ≡ 0 → js ≡ []
walk_end size next first [] l h = refl
walk_end size next first (j ∷ js) l h = absurd (omega (arith, l.0))

pub none_linked : (size : ℕ) (next : List ℕ) (first : ℕ) (js : List ℕ) → Linked size next first js → js ≡ [] → first ≡ 0
none_linked size next first [] l h = l
none_linked size next first (j ∷ js) l h = absurd (let z : ◌≡◌ {A = ℕ} 0 1 = cc in omega arith)

pub first_most : (size : ℕ) (next : List ℕ) (first : ℕ) (js : List ℕ) → Linked size next first js → first ≤ size
first_most size next first [] l = omega (arith, l)
first_most size next first (j ∷ js) l = omega (arith, l.0, l.1)

pub linked_size : (a b : ℕ) (next : List ℕ) (first : ℕ) (js : List ℕ) → a ≤ b → Linked a next first js → Linked b next first js
linked_size a b next first [] h l = l
linked_size a b next first (j ∷ js) h l = (l.0, omega (arith, l.1), l.2, linked_size a b next (get_or next j 0) js h l.3)

-- ---- stores

later_still : (i j x : ℕ) → j < i → Later i x → Later j x
later_still i j x h (inl e) = inl e
later_still i j x h (inr l) = inr (omega arith)

under_first : (i j x : ℕ) → Later j x → x ≡ suc i → j < i
under_first i j x (inl e) q = absurd (omega arith)
under_first i j x (inr l) q = omega arith

module _ (size : ℕ) (next : List ℕ) (j : ℕ) where
  -- a store at a number under every one of the list changes nothing of it
  pub linked_store : (v first : ℕ) (js : List ℕ) → Later j first → Linked size next first js → Linked size (set next j v) first js
  linked_store v first [] h l = l
  linked_store v first (i ∷ js) h l =
      let under = under_first i j first h l.0 in
      let same : get_or (set next j v) i 0 ≡ get_or next i 0 = get_or-set_other next j i v 0 (λ q. omega arith) in
      rw same (l.0, l.1, l.2, linked_store v (get_or next i 0) js (later_still i j (get_or next i 0) under l.2) l.3)

  pub linked_put : (first : ℕ) (js : List ℕ) → j < size → j < length next → Later j first → Linked size next first js → Linked size (set next j first) (suc j) (j ∷ js)
  linked_put first js small within h l = rw (get_or-set_same next j first 0 within) (refl, small, h, linked_store first first js h l)

-- What a row that rises has on a column: an element that is added changes its own column alone, and the values on all columns tell the row. Assumes nothing.
use mathlib.Core.Path.{◌≡◌, refl, sym, ap, ap₂, ◌∙◌, subst}
use mathlib.Core.Logic.{◌≢◌}
use Prim.Native.Nat.{ℕ, suc, ◌+◌, ◌<◌, zero-le}
use native.Mathlib.Nat.{le_refl}
use native.Mathlib.Decide.{ℕ_discrete}
use native.Mathlib.Omega.{arith}
use mathlib.Core.Bool.{Bool, true, false, cond, ◌&&◌}
use mathlib.Core.List.{List, [], ◌∷◌}
use mathlib.Core.Option.{Option, none, some, get_or}
use lib.ListN.{length}
use lib.Dec.{T, eqb, ltb, eqb→eq}
use lib.Ieee.{Float, binary64, add, eq}
use lib.Ieee.Fits.{and_i, and_l, and_r, eq→eqb}
use borrow.Author.Tests.{ltb-true, ltb-false, eq-eqb, ne_eqb}
use Rattle.pywr.specs.Numbers.{zero64}
use Rattle.pywr.specs.Rows.{Element, element, add_element}
use Rattle.pywr.specs.VariableRows.{same_row}
use Rattle.pywr.proofs.ListLaws.{not_found, same_some}
use Rattle.pywr.proofs.ElementLaws.{add_none, add_cases}
use Rattle.pywr.proofs.ShapeLaws.{Rising, rising_add, rising_more}
use Rattle.theorem_file_order.specs.ProgrammeOrder.{value_on}

-- ---- the first element, and the others

here : (c : ℕ) (e : Element) (es : List Element) → e.column ≡ c → value_on c (e ∷ es) ≡ some e.value
unfolding value_on
here c e es q = rw (eq-eqb e.column c q)

later : (c : ℕ) (e : Element) (es : List Element) → e.column ≢ c → value_on c (e ∷ es) ≡ value_on c es
unfolding value_on
later c e es q = rw (ne_eqb e.column c q)

behind : (c : ℕ) (e : Element) (es fs : List Element) → value_on c es ≡ value_on c fs → value_on c (e ∷ es) ≡ value_on c (e ∷ fs)
unfolding value_on
behind c e es fs h = rw h

nothing : (c : ℕ) → value_on c [] ≡ none
unfolding value_on
nothing c = refl

-- a row that rises has nothing under its least column
absent : (n least c : ℕ) (row : List Element) → Rising n least row → c < least → value_on c row ≡ none
absent n least c [] Rising.none h = nothing c
absent n least c (e ∷ es) (Rising.more a b r) h = later c e es (λ q. omega arith) ∙ absent n (e.column + 1) c es r (omega arith)

-- ---- an element that is added

-- an addition to what a column has, from 0.0
abbrev pub added : Option Float → Float → Option Float
added held x = some (add binary64 (get_or held zero64) x)

-- one element more where the column had none
unfoldable pub one_more : Option Float → ℕ → ℕ
one_more none n = suc n
one_more (some x) n = n

value_at : (n least c : ℕ) (x : Float) (row : List Element) → Rising n least row → value_on c (add_element c x row) ≡ added (value_on c row) x
value_at n least c x [] Rising.none = rw (add_none c x, nothing c) (here c (element c _) [] refl)
value_at n least c x (e ∷ es) (Rising.more a b r) =
    add_cases c x e es (λ (row : List Element). value_on c row ≡ added (value_on c (e ∷ es)) x)
    (λ k. here c (element c _) (e ∷ es) refl ∙ ap (λ (o : Option Float). added o x) (sym (absent n e.column c (e ∷ es) (Rising.more (le_refl _) b r) k)))
    (λ k. here c (element c _) es refl ∙ ap (λ (o : Option Float). added o x) (sym (here c e es (sym k))))
    (λ k. let apart : e.column ≢ c = (λ q. omega arith) in
    later c e (add_element c x es) apart ∙ value_at n (e.column + 1) c x es r ∙ ap (λ (o : Option Float). added o x) (sym (later c e es apart)))

length_at : (n least c : ℕ) (x : Float) (row : List Element) → Rising n least row → length (add_element c x row) ≡ one_more (value_on c row) (length row)
unfolding one_more
length_at n least c x [] Rising.none = rw (add_none c x, nothing c)
length_at n least c x (e ∷ es) (Rising.more a b r) =
    add_cases c x e es (λ (row : List Element). length row ≡ one_more (value_on c (e ∷ es)) (suc (length es)))
    (λ k. rw (absent n e.column c (e ∷ es) (Rising.more (le_refl _) b r) k))
    (λ k. rw (here c e es (sym k)))
    (λ k. rw (length_at n (e.column + 1) c x es r, later c e es (λ q. omega arith)) (more (value_on c es)))
  where
    more : (o : Option Float) → suc (one_more o (length es)) ≡ one_more o (suc (length es))
    more none = refl
    more (some y) = refl

pub value_off : (c k : ℕ) (x : Float) (row : List Element) → c ≢ k → value_on k (add_element c x row) ≡ value_on k row
value_off c k x [] q = rw (add_none c x) (later k (element c _) [] q)
value_off c k x (e ∷ es) q =
    add_cases c x e es (λ (row : List Element). value_on k row ≡ value_on k (e ∷ es))
    (λ h. later k (element c _) (e ∷ es) q)
    (λ h. later k (element c _) es q ∙ sym (later k e es (λ f. q (h ∙ f))))
    (λ h. behind k e (add_element c x es) es (value_off c k x es q))

-- ---- two rows whose values match on every column match element for element

-- both columns have a value, and R holds of the two, or neither has
pub Match : (Float → Float → Type 0) → Option Float → Option Float → Type 0
Match R none none = Unit
Match R none (some y) = ⊥
Match R (some x) none = ⊥
Match R (some x) (some y) = R x y

module _ (R : Float → Float → Type 0) (P : List Element → List Element → Type 0) (no_more : P [] [])
    (first : (x y : Element) (xs ys : List Element) → x.column ≡ y.column → R x.value y.value → P xs ys → P (x ∷ xs) (y ∷ ys)) where
  by_values : (n l m k : ℕ) (r s : List Element) → Rising n l r → Rising m k s → ((c : ℕ) → Match R (value_on c r) (value_on c s)) → P r s
  unfolding Match
  by_values n l m k [] [] Rising.none Rising.none h = no_more
  by_values n l m k [] (y ∷ ys) Rising.none b h = absurd (rw (nothing y.column, here y.column y ys refl) at (h y.column))
  by_values n l m k (x ∷ xs) [] a Rising.none h = absurd (rw (nothing x.column, here x.column x xs refl) at (h x.column))
  by_values n l m k (x ∷ xs) (y ∷ ys) (Rising.more a b r) (Rising.more c d s) h =
      go (ltb x.column y.column) refl (ltb y.column x.column) refl (λ t. by_values n (x.column + 1) m (y.column + 1) xs ys r s t)
    where
      rest : x.column ≡ y.column → (c : ℕ) → Dec (x.column ≡ c) → Match R (value_on c xs) (value_on c ys)
      rest q c (yes e) = rw (absent n (x.column + 1) c xs r (omega arith), absent m (y.column + 1) c ys s (omega arith)) tt
      rest q c (no e) = rw (later c x xs e, later c y ys (λ f. e (q ∙ f))) at (h c)

      go : (t : Bool) → ltb x.column y.column ≡ t → (u : Bool) → ltb y.column x.column ≡ u
          → (((c : ℕ) → Match R (value_on c xs) (value_on c ys)) → P xs ys) → P (x ∷ xs) (y ∷ ys)
      go true p u q ih =
          absurd (rw (here x.column x xs refl, absent m y.column x.column (y ∷ ys) (Rising.more (le_refl _) d s) (ltb-true _ _ p)) at (h x.column))
      go false p true q ih =
          absurd (rw (here y.column y ys refl, absent n x.column y.column (x ∷ xs) (Rising.more (le_refl _) b r) (ltb-true _ _ q)) at (h y.column))
      go false p false q ih =
          let e : x.column ≡ y.column = (let i = ltb-false x.column y.column p in let j = ltb-false y.column x.column q in omega arith) in
          first x y xs ys e (rw (here x.column x xs refl, here x.column y ys (sym e)) at (h x.column)) (ih (λ c. rest e c (ℕ_discrete x.column c)))

-- ---- rows that rise under some count

abbrev pub Rises : List Element → Type 0
Rises row = (n : ℕ) × Rising n 0 row

pub rises_none : Rises []
rises_none = (0, Rising.none)

module _ (c : ℕ) (x : Float) (row : List Element) (rises : Rises row) where
  pub rises_add : Rises (add_element c x row)
  rises_add =
      let n : ℕ = rises.0 + suc c in
      (n, rising_add n c x 0 row zero-le (omega arith) (rising_more rises.0 n 0 row (omega arith) rises.1))

  pub value_added : value_on c (add_element c x row) ≡ added (value_on c row) x
  value_added = value_at rises.0 0 c x row rises.1

  pub length_added : length (add_element c x row) ≡ one_more (value_on c row) (length row)
  length_added = length_at rises.0 0 c x row rises.1

-- the values tell the row
same_values : (r s : List Element) → Rises r → Rises s → ((c : ℕ) → value_on c r ≡ value_on c s) → r ≡ s
unfolding Match
same_values r s a b h =
    by_values (λ (x y : Float). x ≡ y) (λ (p q : List Element). p ≡ q) refl
    (λ x y xs ys p q t. ap₂ (λ (e : Element) (es : List Element). e ∷ es) (ap₂ element p q) t)
    a.0 0 b.0 0 r s a.1 b.1 (λ c. equal (value_on c r) (value_on c s) (h c))
  where
    equal : (o p : Option Float) → o ≡ p → Match (λ (x y : Float). x ≡ y) o p
    equal none none e = tt
    equal none (some y) e = not_found y e
    equal (some x) none e = not_found x (sym e)
    equal (some x) (some y) e = same_some x y e

-- two elements with one value can be added in either order
pub either_order : (c d : ℕ) (x : Float) (row : List Element) → Rises row → add_element c x (add_element d x row) ≡ add_element d x (add_element c x row)
either_order c d x row rises =
    same_values _ _ (rises_add c x _ (rises_add d x row rises)) (rises_add d x _ (rises_add c x row rises))
    (λ k. go k (ℕ_discrete c d) (ℕ_discrete c k) (ℕ_discrete d k))
  where
    -- what the first column has, whether it is added first or last
    alone : (c d : ℕ) → c ≢ d → value_on c (add_element c x (add_element d x row)) ≡ value_on c (add_element d x (add_element c x row))
    alone c d e =
        value_added c x (add_element d x row) (rises_add d x row rises)
        ∙ ap (λ (o : Option Float). added o x) (value_off d c x row (λ q. e (sym q)))
        ∙ sym (value_added c x row rises)
        ∙ sym (value_off d c x (add_element c x row) (λ q. e (sym q)))

    go : (k : ℕ) → Dec (c ≡ d) → Dec (c ≡ k) → Dec (d ≡ k) → value_on k (add_element c x (add_element d x row)) ≡ value_on k (add_element d x (add_element c x row))
    go k (yes e) p q = ap₂ (λ (i j : ℕ). value_on k (add_element i x (add_element j x row))) e (sym e)
    go k (no e) (yes p) q = subst (λ (j : ℕ). value_on j (add_element c x (add_element d x row)) ≡ value_on j (add_element d x (add_element c x row))) p (alone c d e)
    go k (no e) (no p) (yes q) =
        subst (λ (j : ℕ). value_on j (add_element c x (add_element d x row)) ≡ value_on j (add_element d x (add_element c x row))) q (sym (alone d c (λ f. e (sym f))))
    go k (no e) (no p) (no q) =
        value_off c k x (add_element d x row) p ∙ value_off d k x row q ∙ sym (value_off c k x row p) ∙ sym (value_off d k x (add_element c x row) q)

-- ---- rows that count as one

-- on every column both have equal values, or neither has one
abbrev pub EqualValues : (ℕ → Option Float) → (ℕ → Option Float) → Type 0
EqualValues f g = (c : ℕ) → Match (λ (x y : Float). T (eq x y)) (f c) (g c)

pub equal_row : (r s : List Element) → Rises r → Rises s → EqualValues (λ c. value_on c r) (λ c. value_on c s) → T (same_row r s)
unfolding same_row
equal_row r s a b h =
    by_values (λ (x y : Float). T (eq x y)) (λ (p q : List Element). T (same_row p q)) tt
    (λ x y xs ys p q t. and_i (eqb x.column y.column && eq x.value y.value) (same_row xs ys)
    (and_i (eqb x.column y.column) (eq x.value y.value) (eq→eqb p) q) t)
    a.0 0 b.0 0 r s a.1 b.1 h

pub equal_values : (r s : List Element) → T (same_row r s) → EqualValues (λ c. value_on c r) (λ c. value_on c s)
unfolding same_row value_on Match
equal_values [] [] t c = tt
equal_values [] (y ∷ ys) t c = absurd t
equal_values (x ∷ xs) [] t c = absurd t
equal_values (x ∷ xs) (y ∷ ys) t c =
    let both = and_l (eqb x.column y.column && eq x.value y.value) (same_row xs ys) t in
    let q = eqb→eq x.column y.column (and_l (eqb x.column y.column) (eq x.value y.value) both) in
    let v = and_r (eqb x.column y.column) (eq x.value y.value) both in
    rw q (go (eqb y.column c) v (equal_values xs ys (and_r (eqb x.column y.column && eq x.value y.value) (same_row xs ys) t) c))
  where
    go : (b : Bool) → T (eq x.value y.value) → Match (λ (u v : Float). T (eq u v)) (value_on c xs) (value_on c ys)
        → Match (λ (u v : Float). T (eq u v)) (cond b (some x.value) (value_on c xs)) (cond b (some y.value) (value_on c ys))
    go true v h = v
    go false v h = h

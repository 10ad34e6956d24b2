-- Lists of numbers in which none stands twice. Assumes nothing.
use mathlib.Core.Logic.{◌≢◌}
use mathlib.Core.Path.{◌≡◌, refl, sym, ap, ◌∙◌, subst}
use Prim.Native.Nat.{ℕ, zero, suc, ◌+◌, ◌<◌, ◌≤◌}
use native.Mathlib.Nat.{not-suc-le-zero}
use native.Mathlib.Omega.{arith}
use mathlib.Core.Bool.{Bool, true, false, ◌||◌}
use mathlib.Core.List.{List, [], ◌∷◌, ◌++◌}
use mathlib.Core.List.Permᴰ
use mathlib.Core.List.{Permᴰ}
use lib.ListN.{length, length-append}
use lib.Dec.{T, T_not, eqb, eqb→eq, eqb_refl}
use Rattle.laws.proofs.Tests.{or_l, or_r, or_elim, by_cases}
use Rattle.pywr.specs.Network.{listed}
use Rattle.pywr.specs.FlowOrder.{numbers_from}

-- ---- a number that a list has

pub listed_append : (x : ℕ) (xs ys : List ℕ) → listed x (xs ++ ys) ≡ listed x xs || listed x ys
unfolding listed
listed_append x [] ys = refl
listed_append x (y ∷ xs) ys = ap (λ (b : Bool). eqb x y || b) (listed_append x xs ys) ∙ or_assoc (eqb x y) (listed x xs) (listed x ys)
  where
    or_assoc : (a b c : Bool) → a || (b || c) ≡ (a || b) || c
    or_assoc true b c = refl
    or_assoc false b c = refl

pub listed_left : (x : ℕ) (xs ys : List ℕ) → T (listed x xs) → T (listed x (xs ++ ys))
listed_left x xs ys t = subst T (sym (listed_append x xs ys)) (or_l (listed x xs) (listed x ys) t)

pub listed_right : (x : ℕ) (xs ys : List ℕ) → T (listed x ys) → T (listed x (xs ++ ys))
listed_right x xs ys t = subst T (sym (listed_append x xs ys)) (or_r (listed x xs) (listed x ys) t)

pub listed_either : {X : Type 0} (x : ℕ) (xs ys : List ℕ) → T (listed x (xs ++ ys)) → (T (listed x xs) → X) → (T (listed x ys) → X) → X
listed_either x xs ys t f g = or_elim (listed x xs) (listed x ys) (subst T (listed_append x xs ys) t) f g

pub listed_here : (x : ℕ) (xs : List ℕ) → T (listed x (x ∷ xs))
unfolding listed
listed_here x xs = or_l (eqb x x) (listed x xs) (eqb_refl x)

pub listed_there : (x y : ℕ) (xs : List ℕ) → T (listed x xs) → T (listed x (y ∷ xs))
unfolding listed
listed_there x y xs t = or_r (eqb x y) (listed x xs) t

pub listed_cons : {X : Type 0} (x y : ℕ) (xs : List ℕ) → T (listed x (y ∷ xs)) → (x ≡ y → X) → (T (listed x xs) → X) → X
unfolding listed
listed_cons x y xs t f g = or_elim (eqb x y) (listed x xs) t (λ u. f (eqb→eq x y u)) g

pub listed_nil : {X : Type 0} (x : ℕ) → T (listed x []) → X
unfolding listed
listed_nil x t = absurd t

-- in a list with y put behind it
pub listed_snoc : {X : Type 0} (x y : ℕ) (xs : List ℕ) → T (listed x (xs ++ y ∷ [])) → (T (listed x xs) → X) → (x ≡ y → X) → X
listed_snoc x y xs t f g = listed_either x xs (y ∷ []) t f (λ u. listed_cons x y [] u g (λ v. listed_nil x v))

pub listed_last : (x : ℕ) (xs : List ℕ) → T (listed x (xs ++ x ∷ []))
listed_last x xs = listed_right x xs (x ∷ []) (listed_here x [])

-- ---- no number stands twice

pub data Once : List ℕ → Type 0 where
  nothing : Once []
  more : {x : ℕ} {xs : List ℕ} → (T (listed x xs) → ⊥) → Once xs → Once (x ∷ xs)

pub once_snoc : (x : ℕ) (xs : List ℕ) → (T (listed x xs) → ⊥) → Once xs → Once (xs ++ x ∷ [])
once_snoc x [] f nothing = more (λ t. listed_nil x t) nothing
once_snoc x (y ∷ xs) f (more g o) =
    more (λ t. listed_snoc y x xs t g (λ q. f (subst (λ (z : ℕ). T (listed x (z ∷ xs))) (sym q) (listed_here x xs))))
    (once_snoc x xs (λ t. f (listed_there x y xs t)) o)

record Split (x : ℕ) (xs : List ℕ) : Type 0 where
  before : List ℕ
  after : List ℕ
  is : xs ≡ before ++ x ∷ after

split : (x : ℕ) (xs : List ℕ) → T (listed x xs) → Split x xs
split x [] t = listed_nil x t
split x (y ∷ xs) t =
    listed_cons x y xs t
    (λ q. record { before = []; after = xs; is = ap (λ (z : ℕ). z ∷ xs) (sym q) })
    (λ u. let r = split x xs u in record { before = y ∷ r.before; after = r.after; is = ap (λ (l : List ℕ). y ∷ l) r.is })

once_rest : (x : ℕ) (ys zs : List ℕ) → Once (ys ++ x ∷ zs) → Once (ys ++ zs) × (T (listed x (ys ++ zs)) → ⊥)
once_rest x [] zs (more f o) = (o, f)
once_rest x (y ∷ ys) zs (more f o) =
    let r = once_rest x ys zs o in (
      more (λ t. f (listed_either y ys zs t (listed_left y ys (x ∷ zs)) (λ u. listed_right y ys (x ∷ zs) (listed_there y x zs u)))) r.0,
      λ t. listed_cons x y (ys ++ zs) t (λ q. f (subst (λ (k : ℕ). T (listed k (ys ++ x ∷ zs))) q (listed_right x ys (x ∷ zs) (listed_here x zs)))) r.1,
    )

-- what is listed without x, in the list
with_split : (x y : ℕ) (xs : List ℕ) (s : Split x xs) → T (listed y (s.before ++ s.after)) → T (listed y xs)
with_split x y xs s t =
    subst (λ (l : List ℕ). T (listed y l)) (sym s.is)
    (listed_either y s.before s.after t (listed_left y s.before (x ∷ s.after))
    (λ u. listed_right y s.before (x ∷ s.after) (listed_there y x s.after u)))

-- numbers under n, none twice: at most n of them
pub once_few : (n : ℕ) (xs : List ℕ) → Once xs → ((x : ℕ) → T (listed x xs) → x < n) → length xs ≤ n
once_few zero [] o h = omega arith
once_few zero (x ∷ xs) o h = absurd (not-suc-le-zero (h x (listed_here x xs)))
once_few (suc n) xs o h =
    by_cases (listed n xs)
    (λ t.
    let s = split n xs t in
    let r = once_rest n s.before s.after (subst Once s.is o) in
    let few = once_few n (s.before ++ s.after) r.0
    (λ x u.
    let i = h x (with_split n x xs s u) in
    let f : x ≢ n = (λ q. r.1 (subst (λ (k : ℕ). T (listed k (s.before ++ s.after))) q u)) in
    omega arith) in
    let a = ap length s.is in
    let b = length-append s.before (n ∷ s.after) in
    let c = length-append s.before s.after in
    omega arith)
    (λ f.
    let few = once_few n xs o (λ x u. let i = h x u in let g : x ≢ n = (λ q. T_not (listed n xs) f (subst (λ (k : ℕ). T (listed k xs)) q u)) in omega arith) in
    omega arith)

-- ---- all numbers from i on, n of them, once each

numbers_length_lem : (n i : ℕ) → length (numbers_from i n) ≡ n
unfolding numbers_from
numbers_length_lem zero i = refl
numbers_length_lem (suc n) i = ap suc (numbers_length_lem n (suc i))

perm_length : {A : Type 0} {xs ys : List A} → Permᴰ xs ys → length xs ≡ length ys
perm_length Permᴰ.nil = refl
perm_length (Permᴰ.cons e p) = ap suc (perm_length p)
perm_length (Permᴰ.swap e f) = refl
perm_length (Permᴰ.trans p q) = perm_length p ∙ perm_length q

pub all_once : (n i : ℕ) (xs : List ℕ) → Once xs → ((x : ℕ) → T (listed x xs) → (i ≤ x) × (x < i + n)) → ((x : ℕ) → i ≤ x → x < i + n → T (listed x xs))
    → Permᴰ (numbers_from i n) xs
unfolding numbers_from
all_once zero i [] o only all = Permᴰ.nil
all_once zero i (y ∷ ys) o only all = let h = only y (listed_here y ys) in let a = h.0 in let b = h.1 in absurd (omega arith)
all_once (suc n) i xs o only all =
    let s = split i xs (all i (omega arith) (omega arith)) in
    let r = once_rest i s.before s.after (subst Once s.is o) in
    let without : List ℕ = s.before ++ s.after in
    let p = all_once n (suc i) without r.0
    (λ x t.
    let h = only x (with_split i x xs s t) in
    let a = h.0 in
    let b = h.1 in
    let f : x ≢ i = (λ q. r.1 (subst (λ (k : ℕ). T (listed k without)) q t)) in (omega arith, omega arith))
    (λ x a b.
    listed_either x s.before (i ∷ s.after) (subst (λ (l : List ℕ). T (listed x l)) s.is (all x (omega arith) (omega arith)))
    (listed_left x s.before s.after)
    (λ u. listed_cons x i s.after u (λ q. absurd (omega arith)) (listed_right x s.before s.after))) in
    subst (Permᴰ (i ∷ numbers_from (suc i) n)) (sym s.is) (Permᴰ.trans (Permᴰ.cons refl p) (Permᴰ.symm (Permᴰ.middle i s.before s.after)))

pub numbers_perm_length : (n : ℕ) (xs : List ℕ) → Permᴰ (numbers_from 0 n) xs → length xs ≡ n
numbers_perm_length n xs p = sym (perm_length p) ∙ numbers_length_lem n 0

-- Laws of a run that a loop fills from the front, at any element type. Assumes nothing.
use Prim.Native.Nat.{ℕ, zero, suc, ◌+◌, ◌<◌, ◌≤◌}
use mathlib.Core.Path.{◌≡◌, refl, sym, ◌∙◌, ap}
use mathlib.Core.List.{List, [], ◌∷◌, ◌++◌, map, flat_map, append_assoc, append-nil}
use native.Mathlib.Numerals.{add-one}
use native.Mathlib.Omega.{arith}
use lib.ListN.{length, get_or, take, drop, set, replicate, length-append, length-drop, replicate-append-replicate}
use lib.Seq.{drop-cons, set_at, append_snoc, take-suc, get_or_at}

module _ {A : Type 0} where
  -- p stands at the front of d, and v is stored behind it
  pub put_more : (p d : List A) (v : A) (i : ℕ) → length p ≡ i → i < length d → set (p ++ drop i d) i v ≡ (p ++ (v ∷ [])) ++ drop (i + 1) d
  put_more p d v i e h = rw (drop-cons d i v h, set_at p (get_or d i v) (drop (suc i) d) v i e, add-one i, append_snoc p v (drop (suc i) d))

  pub put_length : (p d : List A) (i : ℕ) → length p ≡ i → i ≤ length d → length (p ++ drop i d) ≡ length d
  put_length p d i e h = rw (length-append p (drop i d), length-drop i d) (omega arith)

  pub replicate_more : (n : ℕ) (a : A) → replicate n a ++ (a ∷ []) ≡ replicate (n + 1) a
  replicate_more n a = replicate-append-replicate n 1 a

  pub take_more : (l : List A) (i : ℕ) (z : A) → i < length l → take i l ++ (get_or l i z ∷ []) ≡ take (i + 1) l
  take_more l i z h = rw (add-one i) (sym (take-suc l i z h))

  -- a turn of the loop: d is p at the front of d₀, and v comes behind p
  pub put_step : (p p' d d₀ : List A) (v : A) (i : ℕ) → length p ≡ i → i < length d₀ → d ≡ p ++ drop i d₀ → p ++ (v ∷ []) ≡ p' → set d i v ≡ p' ++ drop (i + 1) d₀
  put_step p p' d d₀ v i e h r s = ap (λ (l : List A). set l i v) r ∙ put_more p d₀ v i e h ∙ ap (λ (l : List A). l ++ drop (i + 1) d₀) s

  -- what stands next behind the front
  pub next_at : (p d : List A) (i : ℕ) (z : A) → length p ≡ i → i < length d → get_or (p ++ drop i d) i z ≡ get_or d i z
  next_at p d i z e h = rw (drop-cons d i z h) (get_or_at p (get_or d i z) (drop (suc i) d) z i e)

  -- the head of what is left, with the next place written as the code writes it
  pub drop_next : (l : List A) (i : ℕ) (z : A) → i < length l → drop i l ≡ get_or l i z ∷ drop (i + 1) l
  drop_next l i z h = rw (add-one i) (drop-cons l i z h)

-- within a list, what stands for a missing element does not matter
pub get_d_any : {A : Type 0} (l : List A) (i : ℕ) (a b : A) → i < length l → get_or l i a ≡ get_or l i b
get_d_any [] i a b h = absurd (omega arith)
get_d_any (x ∷ l) zero a b h = refl
get_d_any (x ∷ l) (suc i) a b h = get_d_any l i a b (omega arith)

pub map_snoc : {A B : Type 0} (f : A → B) (xs : List A) (v : A) → map f (xs ++ (v ∷ [])) ≡ map f xs ++ (f v ∷ [])
map_snoc f [] v = refl
map_snoc {B} f (x ∷ xs) v = ap (λ (t : List B). f x ∷ t) (map_snoc f xs v)

pub flat_append : {A B : Type 0} (f : A → List B) (xs ys : List A) → flat_map f (xs ++ ys) ≡ flat_map f xs ++ flat_map f ys
unfolding flat_map
flat_append f [] ys = refl
flat_append {B} f (x ∷ xs) ys = ap (λ (l : List B). f x ++ l) (flat_append f xs ys) ∙ sym (append_assoc (f x) (flat_map f xs) (flat_map f ys))

pub flat_snoc : {A B : Type 0} (f : A → List B) (xs : List A) (y : A) → flat_map f (xs ++ (y ∷ [])) ≡ flat_map f xs ++ f y
unfolding flat_map
flat_snoc {B} f xs y = flat_append f xs (y ∷ []) ∙ ap (λ (l : List B). flat_map f xs ++ l) (append-nil (f y))

-- Columns of two kinds, one behind the other. Assumes nothing.
use Prim.Native.Nat.{ℕ, suc, zero, ◌+◌}
use mathlib.Core.Path.{◌≡◌, refl, sym, ◌∙◌, ap}
use mathlib.Core.List.{List, [], ◌∷◌, ◌++◌, map}
use native.Mathlib.Nat.{add-zero}
use native.Mathlib.Omega.{arith}
use lib.ListN.{length, replicate, set, length-replicate}
use lib.Seq.{sets}
use lib.Ieee.{Float, binary64, of_bits}
use Rattle.pywr.specs.declared.Sentinel.{Sentinel}
use Rattle.pywr.specs.Numbers.{zero64, one64, high}
use Rattle.pywr.specs.Programme.{Column}
use Rattle.pywr.specs.Build.{edge_column, set_column}
use Rattle.build_write.specs.declared.Sizes.{Sizes}
use Rattle.build_write.specs.Lp.{columns_of}

module _ {A : Type 0} where
  pub sets_append : (l xs ys : List A) (at : ℕ) → sets l at (xs ++ ys) ≡ sets (sets l at xs) (at + length xs) ys
  sets_append l [] ys at = rw (add-zero at)
  sets_append l (x ∷ xs) ys at =
      let e : suc at + length xs ≡ at + suc (length xs) = omega arith in
      sets_append (set l at x) xs ys (suc at) ∙ ap (λ (k : ℕ). sets (sets (set l at x) (suc at) xs) k ys) e

  replicate_sum : (n m : ℕ) (a : A) → replicate (n + m) a ≡ replicate n a ++ replicate m a
  replicate_sum zero m a = let e : 0 + m ≡ m = omega arith in ap (λ (k : ℕ). replicate k a) e
  replicate_sum (suc n) m a = let e : suc n + m ≡ suc (n + m) = omega arith in ap (λ (k : ℕ). replicate k a) e ∙ ap (λ (l : List A). a ∷ l) (replicate_sum n m a)

  -- a fill, and another behind it
  two_fills : (l : List A) (n m : ℕ) (a b : A) → sets (sets l 0 (replicate n a)) n (replicate m b) ≡ sets l 0 (replicate n a ++ replicate m b)
  two_fills l n m a b =
      let e : n ≡ 0 + length (replicate n a) = omega (arith, length-replicate n a) in
      ap (λ (k : ℕ). sets (sets l 0 (replicate n a)) k (replicate m b)) e ∙ sym (sets_append l (replicate n a) (replicate m b) 0)

  one_fill : (l : List A) (n m : ℕ) (a : A) → sets l 0 (replicate (n + m) a) ≡ sets l 0 (replicate n a ++ replicate m a)
  one_fill l n m a = ap (sets l 0) (replicate_sum n m a)

map_replicate : {A B : Type 0} (f : A → B) (n : ℕ) (a : A) → map f (replicate n a) ≡ replicate n (f a)
map_replicate f zero a = refl
map_replicate {B} f (suc n) a = ap (λ (l : List B). f a ∷ l) (map_replicate f n a)

map-append : {A B : Type 0} (f : A → B) (xs ys : List A) → map f (xs ++ ys) ≡ map f xs ++ map f ys
map-append f [] ys = refl
map-append {B} f (x ∷ xs) ys = ap (λ (l : List B). f x ∷ l) (map-append f xs ys)

-- a field of every column
of_columns : {A B : Type 0} (f : A → B) (n m : ℕ) (a b : A) → map f (replicate n a ++ replicate m b) ≡ replicate n (f a) ++ replicate m (f b)
of_columns f n m a b = map-append f (replicate n a) (replicate m b) ∙ rw (map_replicate f n a, map_replicate f m b)

-- the literals 0.0 and 1.0
zero_literal : of_bits binary64 0 ≡ zero64
unfolding of_bits zero64
zero_literal = refl

one_literal : of_bits binary64 0x3ff0000000000000 ≡ one64
unfolding of_bits one64
one_literal = refl

module _ (s : Sentinel) (z : Sizes) where
  pub lowers_are : (l l' : List Float) → l' ≡ sets l 0 (replicate (z.edge_columns + z.sets) (of_bits binary64 0)) → l' ≡ sets l 0 (map (λ (c : Column). c.lower) (columns_of s z))
  unfolding edge_column set_column
  lowers_are l l' e =
      e ∙ one_fill l z.edge_columns z.sets (of_bits binary64 0) ∙ rw (of_columns (λ (c : Column). c.lower) z.edge_columns z.sets (edge_column s) set_column, zero_literal)

  pub costs_are : (l l' : List Float) → l' ≡ sets l 0 (replicate (z.edge_columns + z.sets) (of_bits binary64 0)) → l' ≡ sets l 0 (map (λ (c : Column). c.cost) (columns_of s z))
  unfolding edge_column set_column
  costs_are l l' e =
      e ∙ one_fill l z.edge_columns z.sets (of_bits binary64 0) ∙ rw (of_columns (λ (c : Column). c.cost) z.edge_columns z.sets (edge_column s) set_column, zero_literal)

  pub uppers_are : (l l₁ l₂ : List Float) (h : Float) → h ≡ high s → l₁ ≡ sets l 0 (replicate z.edge_columns h)
      → l₂ ≡ sets l₁ z.edge_columns (replicate z.sets (of_bits binary64 0x3ff0000000000000))
      → l₂ ≡ sets l 0 (map (λ (c : Column). c.upper) (columns_of s z))
  unfolding edge_column set_column
  uppers_are l l₁ l₂ h eh e₁ e₂ =
      e₂ ∙ rw (
        e₁,
        eh,
        two_fills l z.edge_columns z.sets (high s) (of_bits binary64 0x3ff0000000000000),
        of_columns (λ (c : Column). c.upper)
            z.edge_columns z.sets (edge_column s) set_column,
        one_literal,
      )

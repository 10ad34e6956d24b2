-- Lists of rows with one row more, a gathered row's columns and factors, and parts of a run. Assumes nothing.
use mathlib.Core.Path.{◌≡◌, refl, sym, ap, ap₂, ◌∙◌}
use Prim.Native.Nat.{ℕ, zero, suc, ◌+◌, ◌-◌, ◌≤◌}
use native.Mathlib.Nat.{add-zero}
use native.Mathlib.Omega.{arith}
use mathlib.Core.Bool.{Bool, true, false, ◌&&◌}
use mathlib.Core.List.{List, [], ◌∷◌, ◌++◌, map, flat_map, append_assoc, append-nil}
use lib.ListN.{length, take, drop, set}
use lib.Seq.{sets, take-take, take-add, drop-drop, drop-set-lt, length-take-le}
use lib.Ieee.{Float}
use Rattle.laws.specs.Part.{part}
use Rattle.pywr.specs.Rows.{Element}
use Rattle.pywr.specs.Programme.{Row}
use Rattle.pywr.specs.Build.{element_count}
use Rattle.pywr.specs.Written.{starts_from}
use Rattle.pywr.specs.Store.{elements_of}
use Rattle.build_row.specs.RowBuilder.{gathered}

-- ---- parts of a run

module _ {A : Type 0} where
  pub part_take : (a n b : ℕ) (l : List A) → a + n ≤ b → part a n (take b l) ≡ part a n l
  part_take zero n b l h = take-take n b l (omega arith)
  part_take (suc a) n zero l h = absurd (omega arith)
  part_take (suc a) n (suc b) [] h = refl
  part_take (suc a) n (suc b) (x ∷ xs) h = part_take a n b xs (omega arith)

  -- runs that agree up to b have the same parts there
  pub part_agrees : (a n b : ℕ) (l l' : List A) → a + n ≤ b → take b l' ≡ take b l → part a n l' ≡ part a n l
  part_agrees a n b l l' h e = sym (part_take a n b l' h) ∙ ap (part a n) e ∙ part_take a n b l h

  -- runs that agree from b on have the same parts there
  pub part_behind : (a n b : ℕ) (l l' : List A) → b ≤ a → drop b l' ≡ drop b l → part a n l' ≡ part a n l
  part_behind a n b l l' h e =
      let q : b + (a - b) ≡ a = omega arith in
      rw (← q, ← (drop-drop (a - b) b l'), ← (drop-drop (a - b) b l), e)

  -- a part and the part behind it
  pub part_more : (l xs ys : List A) (at m b n k : ℕ) → at + m ≡ b → m + n ≡ k → part at m l ≡ xs → part b n l ≡ ys → part at k l ≡ xs ++ ys
  part_more l xs ys at m b n k eb ek ex ey =
      ap (λ (j : ℕ). part at j l) (sym ek) ∙ take-add m n (drop at l) ∙ ap₂ (λ (u v : List A). u ++ v) ex (ap (take n) (drop-drop m at l ∙ ap (λ (j : ℕ). drop j l) eb) ∙ ey)

  pub drop_sets : (l vs : List A) (b a : ℕ) → b + length vs ≤ a → drop a (sets l b vs) ≡ drop a l
  drop_sets l [] b a h = refl
  drop_sets l (v ∷ vs) b a h = drop_sets (set l b v) vs (suc b) a (omega arith) ∙ drop-set-lt a l b v (omega arith)

-- ---- one row more

pub flat_append : {A B : Type 0} (f : A → List B) (xs ys : List A) → flat_map f (xs ++ ys) ≡ flat_map f xs ++ flat_map f ys
unfolding flat_map
flat_append f [] ys = refl
flat_append {B} f (x ∷ xs) ys = ap (λ (l : List B). f x ++ l) (flat_append f xs ys) ∙ sym (append_assoc (f x) (flat_map f xs) (flat_map f ys))

pub flat_snoc : {A B : Type 0} (f : A → List B) (xs : List A) (y : A) → flat_map f (xs ++ (y ∷ [])) ≡ flat_map f xs ++ f y
unfolding flat_map
flat_snoc {B} f xs y = flat_append f xs (y ∷ []) ∙ ap (λ (l : List B). flat_map f xs ++ l) (append-nil (f y))

pub starts_snoc : (at : ℕ) (rows : List Row) (row : Row) → starts_from at (rows ++ (row ∷ [])) ≡ starts_from at rows ++ ((at + element_count rows + length row.elements) ∷ [])
unfolding starts_from element_count
starts_snoc at [] row = ap (λ (k : ℕ). at ∷ (k + length row.elements) ∷ []) (sym (add-zero at))
starts_snoc at (r ∷ rs) row =
    let e : at + length r.elements + element_count rs + length row.elements ≡ at + (length r.elements + element_count rs) + length row.elements = omega arith in
    ap (λ (l : List ℕ). at ∷ l) (starts_snoc (at + length r.elements) rs row ∙ ap (λ (k : ℕ). starts_from (at + length r.elements) rs ++ (k ∷ [])) e)

-- ---- a gathered row

columns_of : (cs : List ℕ) (xs : List Float) → length cs ≡ length xs → map (λ (e : Element). e.column) (elements_of cs xs) ≡ cs
unfolding elements_of
columns_of [] xs h = refl
columns_of (c ∷ cs) [] h = absurd (omega arith)
columns_of (c ∷ cs) (x ∷ xs) h = ap (λ (l : List ℕ). c ∷ l) (columns_of cs xs (omega arith))

values_of : (cs : List ℕ) (xs : List Float) → length cs ≡ length xs → map (λ (e : Element). e.value) (elements_of cs xs) ≡ xs
unfolding elements_of
values_of [] [] h = refl
values_of [] (x ∷ xs) h = absurd (omega arith)
values_of (c ∷ cs) [] h = absurd (omega arith)
values_of (c ∷ cs) (x ∷ xs) h = ap (λ (l : List Float). x ∷ l) (values_of cs xs (omega arith))

count_of : (cs : List ℕ) (xs : List Float) → length cs ≡ length xs → length (elements_of cs xs) ≡ length cs
unfolding elements_of
count_of [] xs h = refl
count_of (c ∷ cs) [] h = absurd (omega arith)
count_of (c ∷ cs) (x ∷ xs) h = ap suc (count_of cs xs (omega arith))

module _ (columns : List ℕ) (elements : List Float) (n : ℕ) (hc : n ≤ length columns) (he : n ≤ length elements) where
  both_long : length (take n columns) ≡ length (take n elements)
  both_long = length-take-le n columns hc ∙ sym (length-take-le n elements he)

  pub gathered_columns : map (λ (e : Element). e.column) (gathered columns elements n) ≡ take n columns
  unfolding gathered
  gathered_columns = columns_of (take n columns) (take n elements) both_long

  pub gathered_values : map (λ (e : Element). e.value) (gathered columns elements n) ≡ take n elements
  unfolding gathered
  gathered_values = values_of (take n columns) (take n elements) both_long

  pub gathered_length : length (gathered columns elements n) ≡ n
  unfolding gathered
  gathered_length = count_of (take n columns) (take n elements) both_long ∙ length-take-le n columns hc

-- a row from its columns and factors
pub elements_back : (es : List Element) → elements_of (map (λ (e : Element). e.column) es) (map (λ (e : Element). e.value) es) ≡ es
unfolding elements_of
elements_back [] = refl
elements_back (e ∷ es) = ap (λ (l : List Element). e ∷ l) (elements_back es)

pub both_true : (a b : Bool) → (a && b) ≡ true → (a ≡ true) × (b ≡ true)
both_true true b e = (refl, e)
both_true false b e = absurd (let z : ◌≡◌ {A = ℕ} 0 1 = cc in omega arith)

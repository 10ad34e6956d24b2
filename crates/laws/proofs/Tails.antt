-- A tail of a run, lent and written: what is written at k of it is written at a + k of the run, where the tail starts at a. Assumes nothing.
use Prim.Native.Nat.{ℕ, suc, ◌+◌, ◌-◌, ◌≤◌}
use mathlib.Core.Path.{◌≡◌, refl, ◌∙◌, ap}
use mathlib.Core.List.{List, [], ◌∷◌, ◌++◌, append-nil}
use native.Mathlib.Omega.{arith}
use lib.ListN.{length, take, drop, set, length-drop, drop_of_length-le, take-append-drop}
use lib.Seq.{sets, take_all, drop_at, drop-drop, drop-set-add, length-take-le}
use borrow.Rule.Slice.PartMut.{mid_of, put_mid, same_len_mid}
use Rattle.laws.specs.Part.{part}
use Rattle.laws.proofs.Sets.{part_before}

drop_sets_add : {A : Type 0} (a : ℕ) (xs : List A) (k : ℕ) (vs : List A) → drop a (sets xs (a + k) vs) ≡ sets (drop a xs) k vs
drop_sets_add a xs k [] = refl
drop_sets_add {A} a xs k (v ∷ vs) =
    let e : suc (a + k) ≡ a + suc k = omega arith in
    ap (λ (j : ℕ). drop a (sets (set xs (a + k) v) j vs)) e ∙ drop_sets_add a (set xs (a + k) v) (suc k) vs ∙ ap (λ (l : List A). sets l (suc k) vs) (drop-set-add a xs k v)

module _ {A : Type 0} (a : ℕ) (xs : List A) where
  -- the tail, and the run with ys in its place
  abbrev pub tail : List A
  tail = mid_of a (length xs - a) xs

  abbrev pub put_tail : List A → List A
  put_tail ys = put_mid a (length xs - a) xs ys

  short : length (drop a xs) ≤ length xs - a
  short = omega (arith, length-drop a xs)

  tail_is : tail ≡ drop a xs
  tail_is = take_all (length xs - a) (drop a xs) short

  pub tail_length : length tail ≡ length xs - a
  tail_length = ap length tail_is ∙ length-drop a xs

  pub tail_kept : (ys : List A) → length ys ≡ length tail → length (put_tail ys) ≡ length xs
  tail_kept ys e = same_len_mid a (length xs - a) xs ys e

  -- a tail that was lent comes back
  pub tail_back : (ys : List A) → a ≤ length xs → drop a (put_tail ys) ≡ ys
  tail_back ys h =
      let none : drop (length xs - a) (drop a xs) ≡ [] = drop_of_length-le (drop a xs) short in
      drop_at (take a xs) (ys ++ drop (length xs - a) (drop a xs)) a (length-take-le a xs h) ∙ ap (λ (l : List A). ys ++ l) none ∙ append-nil ys

  pub tail_part : (k n : ℕ) → part k n tail ≡ part (a + k) n xs
  tail_part k n = ap (part k n) tail_is ∙ ap (take n) (drop-drop k a xs)

  pub tail_sets : (k : ℕ) (vs : List A) → put_tail (sets tail k vs) ≡ sets xs (a + k) vs
  tail_sets k vs =
      rw (tail_is, drop_of_length-le (drop a xs) short, append-nil, ← (drop_sets_add a xs k vs), ← (part_before xs vs (a + k) 0 a (omega arith))) (take-append-drop a (sets xs (a + k) vs))

  -- the same, of a tail that comes back as ys
  pub tail_written : (k at : ℕ) (ys vs : List A) → a + k ≡ at → ys ≡ sets tail k vs → put_tail ys ≡ sets xs at vs
  tail_written k at ys vs e w = ap put_tail w ∙ tail_sets k vs ∙ ap (λ (j : ℕ). sets xs j vs) e

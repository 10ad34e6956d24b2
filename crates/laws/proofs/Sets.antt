-- Laws of `sets`, and of a part of a run that was written elsewhere. Assumes nothing.
use Prim.Native.Nat.{ℕ, suc, ◌+◌, ◌-◌, ◌<◌, ◌≤◌}
use mathlib.Core.Path.{◌≡◌, refl, sym, ◌∙◌, ap}
use mathlib.Core.List.{List, [], ◌∷◌, ◌++◌, append-nil, append_assoc}
use native.Mathlib.Numerals.{add-one}
use native.Mathlib.Nat.{add-zero}
use native.Mathlib.Omega.{arith}
use lib.ListN.{length, get_or, take, drop, set, length-drop}
use lib.Seq.{sets, sets-eq, take-suc, drop-cons, drop_at, take-append_seam, length-take-le, take_all, drop-set-add, take-set-le, drop-set-lt, drop-length, get_or-take, get_or-drop}
use Rattle.laws.specs.Part.{part}

module _ {A : Type 0} where
  pub sets_snoc : (l : List A) (i : ℕ) (xs : List A) (v : A) → sets l i (xs ++ (v ∷ [])) ≡ set (sets l i xs) (i + length xs) v
  sets_snoc l i [] v = rw (add-zero i)
  sets_snoc l i (x ∷ xs) v =
      let e : suc i + length xs ≡ i + suc (length xs) = omega arith in
      sets_snoc (set l i x) (suc i) xs v ∙ ap (λ (k : ℕ). set (sets (set l i x) (suc i) xs) k v) e

  -- a list stored right behind a list
  pub sets_behind : (l xs ys : List A) (b k : ℕ) → b + length xs ≡ k → sets (sets l b xs) k ys ≡ sets l b (xs ++ ys)
  sets_behind l [] ys b k e = let q : k ≡ b = omega (arith, e) in ap (λ (j : ℕ). sets l j ys) q
  sets_behind l (x ∷ xs) ys b k e = sets_behind (set l b x) xs ys (suc b) k (omega (arith, e))

  -- a turn of any loop that writes the list xs into a run from place b on
  pub sets_next : (d d₀ xs : List A) (b i : ℕ) (v z : A) → i < length xs → get_or xs i z ≡ v → d ≡ sets d₀ b (take i xs)
      → set d (b + i) v ≡ sets d₀ b (take (i + 1) xs)
  sets_next d d₀ xs b i v z h g e =
      rw (add-one i, take-suc xs i z h, sets_snoc d₀ b (take i xs) (get_or xs i z), g, length-take-le i xs (omega arith), e)

  pub front_next : (d d₀ xs : List A) (i : ℕ) (v z : A) → i < length xs → get_or xs i z ≡ v → d ≡ sets d₀ 0 (take i xs)
      → set d i v ≡ sets d₀ 0 (take (i + 1) xs)
  front_next d d₀ xs i v z h g e = let k : i ≡ 0 + i = omega arith in ap (λ (j : ℕ). set d j v) k ∙ sets_next d d₀ xs 0 i v z h g e

  -- what was written stands there
  pub part_same : (l vs : List A) (at n : ℕ) → length vs ≡ n → at + n ≤ length l → part at n (sets l at vs) ≡ vs
  part_same l vs at n e h =
      rw (← e) (ap (part at (length vs)) (sets-eq vs l at (omega (arith, e)))
      ∙ rw (append_assoc, drop_at (take at l) (vs ++ drop (at + length vs) l) at (length-take-le at l (omega (arith, e))), take-append_seam))

  -- a part in front of what is written, and one behind it
  pub part_before : (l vs : List A) (b a n : ℕ) → a + n ≤ b → part a n (sets l b vs) ≡ part a n l
  part_before l [] b a n h = refl
  part_before l (v ∷ vs) b a n h =
      let e : b ≡ a + (b - a) = omega arith in
      part_before (set l b v) vs (suc b) a n (omega arith)
      ∙ ap (λ (k : ℕ). part a n (set l k v)) e
      ∙ ap (take n) (drop-set-add a l (b - a) v)
      ∙ take-set-le n (drop a l) (b - a) v (omega arith)

  pub part_after : (l vs : List A) (b a n : ℕ) → b + length vs ≤ a → part a n (sets l b vs) ≡ part a n l
  part_after l [] b a n h = refl
  part_after l (v ∷ vs) b a n h =
      part_after (set l b v) vs (suc b) a n (omega arith) ∙ ap (take n) (drop-set-lt a l b v (omega arith))

  pub length_part : (l : List A) (at n : ℕ) → at + n ≤ length l → length (part at n l) ≡ n
  length_part l at n h = length-take-le n (drop at l) (omega (arith, length-drop at l))

  -- element i of the part of s from `at` on
  pub part_at : (s : List A) (at n i : ℕ) (z : A) → i < n → get_or (part at n s) i z ≡ get_or s (at + i) z
  part_at s at n i z lt = get_or-take n (drop at s) i z lt ∙ get_or-drop at s i z

  -- a part of two
  pub part_two : (l : List A) (at : ℕ) (z : A) → at + 2 ≤ length l → part at 2 l ≡ get_or l at z ∷ get_or l (at + 1) z ∷ []
  part_two l at z h =
      ap (take 2) (drop-cons l at z (omega arith) ∙ ap (λ (k : List A). get_or l at z ∷ k) (drop-cons l (suc at) z (omega arith)))
      ∙ ap (λ (k : ℕ). get_or l at z ∷ get_or l k z ∷ []) (sym (add-one at))

  -- a turn of a loop that copies a part of s to the front of a run, and its end
  pub copy_next : (d d₀ s : List A) (at n i : ℕ) (z : A) → at + n ≤ length s → i < n → d ≡ sets d₀ 0 (take i (part at n s))
      → set d i (get_or s (at + i) z) ≡ sets d₀ 0 (take (i + 1) (part at n s))
  copy_next d d₀ s at n i z h lt e =
      front_next d d₀ (part at n s) i (get_or s (at + i) z) z (omega (arith, length_part s at n h)) (part_at s at n i z lt) e

  pub take_whole : (xs : List A) (n i : ℕ) → length xs ≡ n → n ≤ i → take i xs ≡ xs
  take_whole xs n i e h = take_all i xs (omega (arith, e))

  -- a run that is written whole
  pub sets_whole : (l xs : List A) → length xs ≡ length l → sets l 0 xs ≡ xs
  sets_whole l xs e =
      let k : 0 + length xs ≡ length l = omega (arith, e) in
      sets-eq xs l 0 (omega (arith, e)) ∙ ap (λ (j : ℕ). xs ++ drop j l) k ∙ rw (drop-length l, append-nil xs)

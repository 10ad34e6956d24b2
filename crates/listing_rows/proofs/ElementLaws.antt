-- The elements from one index up to another, of which the runs hold fewer, and the bytes of their lines. Assumes nothing.
use Prim.Native.Nat.{ℕ, zero, suc, ◌+◌, ◌-◌, ◌<◌, ◌≤◌, min}
use mathlib.Core.Path.{◌≡◌, refl, sym, ◌∙◌, ap}
use mathlib.Core.List.{List, [], ◌∷◌, ◌++◌, append-nil}
use native.Mathlib.Nat.{lt_of_not-le}
use native.Mathlib.Numerals.{add-one}
use native.Mathlib.Decide.{dec_le}
use native.Mathlib.Omega.{arith}
use lib.ListN.{length, get_or, take, drop, drop_of_length-le}
use lib.Seq.{slice, slice-cons, slice_empty, length-slice, take_all}
use lib.Ieee.{Float, nan}
use Rattle.pywr.specs.Rows.{Element, element}
use Rattle.pywr.specs.Store.{elements_of}
use Rattle.listing_lines.specs.Lines.{element_line}
use Rattle.listing_rows.specs.Rows.{element_text, elements_text}

-- the elements from i up to `end`
abbrev pub elements_from : List ℕ → List Float → ℕ → ℕ → List Element
elements_from columns elements i end = elements_of (slice i end columns) (slice i end elements)

abbrev pub text_from : List ℕ → List Float → ℕ → ℕ → List ℕ
text_from columns elements i end = elements_text (elements_from columns elements i end)

pub text_none : (columns : List ℕ) (elements : List Float) (end : ℕ) → text_from columns elements end end ≡ []
unfolding elements_text elements_of
text_none columns elements end = rw (slice_empty end columns)

pub text_more : (columns : List ℕ) (elements : List Float) (i end column : ℕ) → i < end → end ≤ length columns → end ≤ length elements → column ≡ get_or columns i 0
    → text_from columns elements i end ≡ element_line column (get_or elements i nan) ++ text_from columns elements (i + 1) end
unfolding element_text elements_text elements_of
text_more columns elements i end column h hc he e = rw (e, add-one i, slice-cons i end columns 0 h hc, slice-cons i end elements nan h he)

-- nothing is left of the text
pub text_all : (columns : List ℕ) (elements : List Float) (i end : ℕ) (before whole : List ℕ) → i ≡ end → before ++ text_from columns elements i end ≡ whole → before ≡ whole
text_all columns elements i end before whole e split =
    sym (append-nil before) ∙ ap (λ l. before ++ l) (sym (text_none columns elements end)) ∙ ap (λ n. before ++ text_from columns elements n end) (sym e) ∙ split

-- ---- clipping to what the runs hold

held_take : (n : ℕ) (cs : List ℕ) (xs : List Float) → elements_of (take n cs) (take n xs) ≡ take n (elements_of cs xs)
unfolding elements_of
held_take zero cs xs = refl
held_take (suc n) [] xs = refl
held_take (suc n) (c ∷ cs) [] = refl
held_take (suc n) (c ∷ cs) (x ∷ xs) = ap (λ (l : List Element). element c x ∷ l) (held_take n cs xs)

held_drop : (n : ℕ) (cs : List ℕ) (xs : List Float) → elements_of (drop n cs) (drop n xs) ≡ drop n (elements_of cs xs)
unfolding elements_of
held_drop zero cs xs = refl
held_drop (suc n) [] xs = refl
held_drop (suc n) (c ∷ cs) [] = none (drop n cs)
  where
    none : (l : List ℕ) → elements_of l [] ≡ []
    none [] = refl
    none (x ∷ l) = refl
held_drop (suc n) (c ∷ cs) (x ∷ xs) = held_drop n cs xs

held_length : (cs : List ℕ) (xs : List Float) → length (elements_of cs xs) ≡ min (length cs) (length xs)
unfolding elements_of
held_length [] xs = omega arith
held_length (c ∷ cs) [] = omega arith
held_length (c ∷ cs) (x ∷ xs) = let e = held_length cs xs in omega arith

held_from_lem : (i end : ℕ) (cs : List ℕ) (xs : List Float) → elements_from cs xs i end ≡ slice i end (elements_of cs xs)
held_from_lem i end cs xs = held_drop i (take end cs) (take end xs) ∙ ap (drop i) (held_take end cs xs)

module _ {A : Type 0} where
  take_clip : (b t : ℕ) (l : List A) → t ≡ min b (length l) → take b l ≡ take t l
  take_clip b t l e = go (dec_le b (length l))
    where
      go : Dec (b ≤ length l) → take b l ≡ take t l
      go (yes h) = let p : b ≡ t = omega arith in ap (λ (n : ℕ). take n l) p
      go (no f) = let h = lt_of_not-le f in take_all b l (omega arith) ∙ sym (take_all t l (omega arith))

  drop_clip : (a f : ℕ) (l : List A) → f ≡ min a (length l) → drop a l ≡ drop f l
  drop_clip a f l e = go (dec_le a (length l))
    where
      go : Dec (a ≤ length l) → drop a l ≡ drop f l
      go (yes h) = let p : a ≡ f = omega arith in ap (λ (n : ℕ). drop n l) p
      go (no g) =
          let h = lt_of_not-le g in
          let p : length l ≤ a = omega arith in
          let q : length l ≤ f = omega arith in
          drop_of_length-le l p ∙ sym (drop_of_length-le l q)

module _ (cs : List ℕ) (xs : List Float) (a b known last first : ℕ) (ek : known ≡ min (length cs) (length xs)) (el : last ≡ min b known) (ef : first ≡ min a last) where
  enough : last ≤ length (elements_of cs xs)
  enough = let e = held_length cs xs in omega arith

  pub clipped : elements_from cs xs a b ≡ elements_from cs xs first last
  clipped =
      let e : last ≡ min b (length (elements_of cs xs)) = rw (held_length cs xs, ← ek) el in
      let n : length (take last (elements_of cs xs)) ≡ last = length-slice 0 last (elements_of cs xs) enough ∙ omega arith in
      held_from_lem a b cs xs
      ∙ ap (drop a) (take_clip b last (elements_of cs xs) e)
      ∙ drop_clip a first (take last (elements_of cs xs)) (rw n ef)
      ∙ sym (held_from_lem first last cs xs)

  pub clipped_length : length (elements_from cs xs first last) ≡ last - first
  clipped_length = ap length (held_from_lem first last cs xs) ∙ length-slice first last (elements_of cs xs) enough

-- Two files with the same first n bytes: a field within those bytes reads the same in both. Assumes nothing.
use mathlib.Core.Path.{◌≡◌, refl, ap, ◌∙◌}
use Prim.Native.Nat.{ℕ, ◌+◌, ◌<◌, ◌≤◌}
use native.Mathlib.Omega.{arith}
use mathlib.Core.List.{List}
use lib.ListN.{length, take}
use lib.Seq.{take_all, length-take-le, get_or-take}
use lib.Dec.{leb, leb→le, nleb→lt}
use borrow.Author.Tests.{le-leb}
use Rattle.laws.proofs.Tests.{by_cases}
use Rattle.pywr.specs.Result.{value, Result, refused, ◌>>=◌}
use Rattle.pywr.specs.NetworkFile.{Read}
use Rattle.pywr.proofs.ReadLaws.{same_value}
use Rattle.pywr.specs.Bytes.{byte, le16, le32, le64, within, mark_is, u8, u16, u32, bits64}

-- ---- a reading in two steps

bind_same : {A B : Type 0} (r : Result A) (k l : A → Result B) → ((a : A) → r ≡ value a → k a ≡ l a) → (r >>= k) ≡ (r >>= l)
unfolding ◌>>=◌
bind_same (value a) k l f = f a refl
bind_same (refused n p) k l f = refl

pub bind_both : {A B : Type 0} {r q : Result A} {k l : A → Result B} → r ≡ q → ((a : A) → r ≡ value a → k a ≡ l a) → (r >>= k) ≡ (q >>= l)
bind_both {A} {B} {r} {q} {k} {l} e f = bind_same r k l f ∙ ap (λ (x : Result A). x >>= l) e

-- where a record that was read ends
pub ends : {A : Type 0} (q r : Read A) → value q ≡ value r → q.next ≡ r.next
ends {A} q r e = ap (λ (x : Read A). x.next) (same_value q r e)

-- ---- two files

pub record Same (n : ℕ) (f g : List ℕ) : Type 0 where
  pub long : n ≤ length f
  pub long' : n ≤ length g
  pub bytes : (i : ℕ) → i < n → byte f i ≡ byte g i

pub same_take : (n m : ℕ) (file : List ℕ) → n ≤ m → m ≤ length file → Same n (take m file) file
same_take n m file h k =
    let l = length-take-le m file k in
    record { long = omega (arith, l); long' = omega arith; bytes = λ i lt. get_or-take m file i 0 (omega arith) }

-- what depends on the first n bytes alone, where there are so many, is the same of the first m bytes, n ≤ m, and of the file
pub by_prefix : {X : Type 0} (of : List ℕ → X) (n : ℕ) → ((f g : List ℕ) → Same n f g → of f ≡ of g) → (m : ℕ) (file : List ℕ) → n ≤ m → of (take m file) ≡ of file
by_prefix of n law m file h =
    by_cases (leb (length file) m)
    (λ t. ap of (take_all m file (leb→le (length file) m t)))
    (λ t. let k = nleb→lt (length file) m t in law (take m file) file (same_take n m file h (omega arith)))

-- ---- fields

module _ {n : ℕ} {f g : List ℕ} (h : Same n f g) where
  pub within_same : (at k : ℕ) → at + k ≤ n → within f at k ≡ within g at k
  within_same at k le = rw (le-leb (at + k) (length f) (omega (arith, h.long)), le-leb (at + k) (length g) (omega (arith, h.long')))

  le16_same : (at : ℕ) → at + 2 ≤ n → le16 f at ≡ le16 g at
  le16_same at le = rw (h.bytes at (omega arith), h.bytes (at + 1) (omega arith))

  le32_same : (at : ℕ) → at + 4 ≤ n → le32 f at ≡ le32 g at
  le32_same at le = rw (le16_same at (omega arith), le16_same (at + 2) (omega arith))

  le64_same : (at : ℕ) → at + 8 ≤ n → le64 f at ≡ le64 g at
  le64_same at le = rw (le32_same at (omega arith), le32_same (at + 4) (omega arith))

  pub mark_same : (at a b : ℕ) → at + 2 ≤ n → mark_is f at a b ≡ mark_is g at a b
  mark_same at a b le = rw (h.bytes at (omega arith), h.bytes (at + 1) (omega arith))

  module _ (place short : ℕ) where
    pub u8_same : (at : ℕ) → at + 1 ≤ n → u8 f place short at ≡ u8 g place short at
    unfolding u8
    u8_same at le = rw (within_same at 1 le, h.bytes at (omega arith))

    pub u16_same : (at : ℕ) → at + 2 ≤ n → u16 f place short at ≡ u16 g place short at
    unfolding u16
    u16_same at le = rw (within_same at 2 le, le16_same at le)

    pub u32_same : (at : ℕ) → at + 4 ≤ n → u32 f place short at ≡ u32 g place short at
    unfolding u32
    u32_same at le = rw (within_same at 4 le, le32_same at le)

    pub bits64_same : (at : ℕ) → at + 8 ≤ n → bits64 f place short at ≡ bits64 g place short at
    unfolding bits64
    bits64_same at le = rw (within_same at 8 le, le64_same at le)

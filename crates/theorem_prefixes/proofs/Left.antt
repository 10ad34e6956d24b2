-- What is read at a place of a file, from the list of the bytes that are left there. Assumes nothing.
use mathlib.Core.Path.{◌≡◌, sym, ap, ◌∙◌}
use Prim.Native.Nat.{ℕ, zero, suc, ◌+◌, ◌*◌, ◌<◌, ◌≤◌}
use native.Mathlib.Nat.{add_assoc, add_comm, mul-zero, mul-suc}
use native.Mathlib.Omega.{arith}
use mathlib.Core.Bool.{Bool, true, false}
use mathlib.Core.List.{List, [], ◌++◌, append_assoc}
use lib.ListN.{length, get_or, drop, length-drop, length-append}
use lib.Seq.{get_or-drop, drop-drop, drop-append_seam}
use borrow.Author.Tests.{le-leb}
use Rattle.pywr.specs.Result.{value, Result, refused, ◌>>=◌, need}
use Rattle.pywr.specs.Bytes.{byte, le16, le32, le64, within, u8, u16, u32, bits64, checked}

-- ---- a reading that goes on

pub then_value : {A B : Type 0} (r : Result A) (k : A → Result B) (y : Result B) (x : A) → r ≡ value x → k x ≡ y → (r >>= k) ≡ y
unfolding ◌>>=◌
then_value {A} r k y x e f = ap (λ (q : Result A). q >>= k) e ∙ f

pub then_refused : {A B : Type 0} (r : Result A) (k : A → Result B) (n p : ℕ) → r ≡ refused n p → (r >>= k) ≡ refused n p
unfolding ◌>>=◌
then_refused {A} r k n p e = ap (λ (q : Result A). q >>= k) e

pub need_false : {A : Type 0} (ok : Bool) (n p : ℕ) (x : A) → ok ≡ false → need ok n p x ≡ refused n p
unfolding need
need_false ok n p x e = rw e

pub need_true : {A : Type 0} (ok : Bool) (n p : ℕ) (x : A) → ok ≡ true → need ok n p x ≡ value x
unfolding need
need_true ok n p x e = rw e

pub checked_true : (n p : ℕ) (ok : ℕ → Bool) {field : Result ℕ} (x : ℕ) → field ≡ value x → ok x ≡ true → checked n p ok field ≡ value x
unfolding checked
checked_true n p ok x e t = then_value _ _ _ x e (need_true (ok x) n p x t)

-- ---- the same bytes n times

unfoldable pub times : ℕ → List ℕ → List ℕ
times zero q = []
times (suc n) q = q ++ times n q

pub nothing_more : (q rest l : List ℕ) → l ≡ times zero q ++ rest → l ≡ rest
unfolding times
nothing_more q rest l e = e

pub times_left : (n : ℕ) (q rest l : List ℕ) → l ≡ times (suc n) q ++ rest → l ≡ q ++ (times n q ++ rest)
unfolding times
times_left n q rest l e = e ∙ append_assoc q (times n q) rest

pub times_length : (n : ℕ) (q : List ℕ) → length (times n q) ≡ length q * n
unfolding times
times_length zero q = sym (mul-zero (length q))
times_length (suc n) q = length-append q (times n q) ∙ rw (times_length n q, mul-suc) (add_comm (length q) (length q * n))

-- ---- the bytes l are left at `at`

pub left_next : (file : List ℕ) (at : ℕ) (q rest : List ℕ) → drop at file ≡ q ++ rest → drop (at + length q) file ≡ rest
left_next file at q rest e = sym (drop-drop (length q) at file) ∙ ap (drop (length q)) e ∙ drop-append_seam q rest

module _ (file : List ℕ) (at : ℕ) (l : List ℕ) (e : drop at file ≡ l) where
  pub left_room : (k : ℕ) → 0 < k → k ≤ length l → at + k ≤ length file
  left_room k some le = omega (arith, length-drop at file, ap length e)

  byte_left : (k : ℕ) → byte file (at + k) ≡ byte l k
  byte_left k = sym (get_or-drop at file k 0) ∙ ap (λ (x : List ℕ). get_or x k 0) e

  pub first_left : byte file at ≡ byte l 0
  first_left = ap (byte file) (let k : at ≡ at + 0 = omega arith in k) ∙ byte_left 0

  pub second_left : byte file (at + 1) ≡ byte l 1
  second_left = byte_left 1

  le16_left : (k : ℕ) → le16 file (at + k) ≡ le16 l k
  le16_left k = rw (byte_left k, add_assoc at k 1, byte_left (k + 1))

  le32_left : (k : ℕ) → le32 file (at + k) ≡ le32 l k
  le32_left k =
      let second : le16 file (at + k + 2) ≡ le16 l (k + 2) = ap (le16 file) (add_assoc at k 2) ∙ le16_left (k + 2) in
      ap (λ (x : ℕ). x + 65536 * le16 file (at + k + 2)) (le16_left k) ∙ ap (λ (x : ℕ). le16 l k + 65536 * x) second

  le64_left : (k : ℕ) → le64 file (at + k) ≡ le64 l k
  le64_left k =
      let second : le32 file (at + k + 4) ≡ le32 l (k + 4) = ap (le32 file) (add_assoc at k 4) ∙ le32_left (k + 4) in
      ap (λ (x : ℕ). x + 4294967296 * le32 file (at + k + 4)) (le32_left k) ∙ ap (λ (x : ℕ). le32 l k + 4294967296 * x) second

  pub within_left : (k n : ℕ) → 0 < n → k + n ≤ length l → within file (at + k) n ≡ true
  within_left k n some le = le-leb (at + k + n) (length file) (let h = left_room (k + n) (omega arith) le in omega arith)

  module _ (place short : ℕ) where
    pub u8_left : (k : ℕ) → k + 1 ≤ length l → u8 file place short (at + k) ≡ value (byte l k)
    unfolding u8
    u8_left k le = need_true _ short place _ (within_left k 1 (omega arith) le) ∙ ap value (byte_left k)

    pub u16_left : (k : ℕ) → k + 2 ≤ length l → u16 file place short (at + k) ≡ value (le16 l k)
    unfolding u16
    u16_left k le = need_true _ short place _ (within_left k 2 (omega arith) le) ∙ ap value (le16_left k)

    pub u32_left : (k : ℕ) → k + 4 ≤ length l → u32 file place short (at + k) ≡ value (le32 l k)
    unfolding u32
    u32_left k le = need_true _ short place _ (within_left k 4 (omega arith) le) ∙ ap value (le32_left k)

    pub bits64_left : (k : ℕ) → k + 8 ≤ length l → bits64 file place short (at + k) ≡ value (le64 l k)
    unfolding bits64
    bits64_left k le = need_true _ short place _ (within_left k 8 (omega arith) le) ∙ ap value (le64_left k)

-- The definition's readers against the checks, one field at a time: where the check goes on the reader has read the item, and a refusal is the same.
-- Assumes nothing.
use Prim.Native.Nat.{ℕ, ◌+◌}
use mathlib.Core.Path.{◌≡◌, refl, sym, ◌∙◌, ap}
use mathlib.Core.List.{List}
use mathlib.Core.Bool.{Bool, true, false, cond}
use lib.Dec.{ltb}
use Rattle.pywr.specs.Result.{Result, value, refused, ◌>>=◌, need}
use Rattle.pywr.specs.Bytes.{within, byte, le16, le32, le64, u8, u16, u32, bits64, checked}
use Rattle.pywr.specs.Numbers.{is_small}
use Rattle.pywr.specs.NetworkFile.{Read, between, active_fits, constant_fits}
use Rattle.std.specs.Prelude.{Ok, Err}
use Rattle.pywr.specs.declared.Reason.{Reason}
use Rattle.pywr.specs.declared.Refusal.{Refusal}
use Rattle.pywr.specs.Answers.{number_of_reason, refusal_at}
use Rattle.fields.specs.Field.{Checked, byte_field, node_field, active_field, check_factor, check_then}
use Rattle.network_node.specs.Node.{check_bound}

-- the item, with the offset that the check answers
abbrev pub answer : {A : Type 0} → A → Checked → Result (Read A)
answer item (Ok at) = value (record { item = item; next = at })
answer item (Err refusal) = refused refusal.number refusal.place

module _ {A : Type 0} (item : A) (K : ℕ → Result (Read A)) (S : ℕ → Checked) where
  -- y is what the check answers of x
  tested : (c : Bool) (x y : ℕ) (r : Refusal) → (c ≡ true → K x ≡ answer item (S y)) → (need c r.number r.place x >>= K) ≡ answer item (check_then (cond c (Ok y) (Err r)) S)
  unfolding need ◌>>=◌
  tested true x y r h = h refl
  tested false x y r h = refl

  tested_then : (b : Bool) (ok : ℕ → Bool) (x y : ℕ) (r : Reason) (p : ℕ) → (ok x ≡ true → K x ≡ answer item (S y))
      → (checked (number_of_reason r) p ok (need b 1 p x) >>= K) ≡ answer item (check_then (cond b (cond (ok x) (Ok y) (Err (refusal_at r p))) (Err (refusal_at Reason.FileEnds p))) S)
  unfolding need ◌>>=◌ checked
  tested_then true ok x y r p h = tested (ok x) x y (refusal_at r p) h
  tested_then false ok x y r p h = refl

  module _ (file : List ℕ) (place at : ℕ) where
    pub byte_then : (least most : ℕ) → K (byte file at) ≡ answer item (S (byte file at))
        → (checked 3 place (between least most) (u8 file place 1 at) >>= K) ≡ answer item (check_then (byte_field file place at least most) S)
    unfolding u8 byte_field
    byte_then least most h = tested_then (within file at 1) (between least most) (byte file at) (byte file at) Reason.OutOfRange place (λ _. h)

    pub node_then : (nodes : ℕ) → (ltb (le16 file at) nodes ≡ true → K (le16 file at) ≡ answer item (S (le16 file at)))
        → (checked 4 place (λ n. ltb n nodes) (u16 file place 1 at) >>= K) ≡ answer item (check_then (node_field file place at nodes) S)
    unfolding u16 node_field
    node_then nodes h = tested_then (within file at 2) (λ n. ltb n nodes) (le16 file at) (le16 file at) Reason.NoSuchNode place h

    pub active_then : (kind least : ℕ) → K (le32 file at) ≡ answer item (S (le32 file at))
        → (checked 3 place (active_fits kind least) (u32 file place 1 at) >>= K) ≡ answer item (check_then (active_field file place at kind least) S)
    unfolding u32 active_field
    active_then kind least h = tested_then (within file at 4) (active_fits kind least) (le32 file at) (le32 file at) Reason.OutOfRange place (λ _. h)

    pub bound_then : (constant : ℕ) → K (le64 file at) ≡ answer item (S (at + 8))
        → (checked 3 place (constant_fits constant) (bits64 file place 1 at) >>= K) ≡ answer item (check_then (check_bound file place at constant) S)
    unfolding bits64 check_bound
    bound_then constant h = tested_then (within file at 8) (constant_fits constant) (le64 file at) (at + 8) Reason.OutOfRange place (λ _. h)

    pub coefficient_then : K (le64 file at) ≡ answer item (S (at + 8))
        → (checked 3 place is_small (bits64 file place 1 at) >>= K) ≡ answer item (check_then (check_factor file place at) S)
    unfolding bits64 check_factor
    coefficient_then h = tested_then (within file at 8) is_small (le64 file at) (at + 8) Reason.OutOfRange place (λ _. h)

-- a byte in a group of fields, with T behind the group
then_then : (f : Checked) (S T : ℕ → Checked) → check_then (check_then f S) T ≡ check_then f (λ x. check_then (S x) T)
then_then (Ok x) S T = refl
then_then (Err r) S T = refl

pub byte_through : {A : Type 0} (item : A) (K : ℕ → Result (Read A)) (S T : ℕ → Checked) (file : List ℕ) (place at least most : ℕ)
    → K (byte file at) ≡ answer item (check_then (S (byte file at)) T)
    → (checked 3 place (between least most) (u8 file place 1 at) >>= K) ≡ answer item (check_then (check_then (byte_field file place at least most) S) T)
byte_through item K S T file place at least most h =
    byte_then item K (λ x. check_then (S x) T) file place at least most h ∙ ap (λ (s : Checked). answer item s) (sym (then_then (byte_field file place at least most) S T))

-- a reader behind a reader
pub read_then : {A B : Type 0} (part : A) (item : B) (st : Checked) (K : Read A → Result (Read B)) (S : ℕ → Checked)
    → ((x : ℕ) → st ≡ Ok x → K (record { item = part; next = x }) ≡ answer item (S x)) → (answer part st >>= K) ≡ answer item (check_then st S)
unfolding ◌>>=◌
read_then part item (Ok x) K S h = h x refl
read_then part item (Err r) K S h = refl

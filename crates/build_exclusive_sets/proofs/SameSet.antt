-- A set read where it stands, and two sets compared member by member. Assumes nothing.
use Prim.Native.Nat.{ℕ, suc, ◌+◌, ◌*◌, ◌<◌, ◌≤◌}
use mathlib.Core.Path.{◌≡◌, refl, ap, ◌∙◌}
use mathlib.Core.List.{List, [], ◌∷◌}
use mathlib.Core.Bool.{Bool, true, false, ◌&&◌}
use native.Mathlib.Omega.{arith}
use borrow.Author.Tests.{eq-eqb, ne_eqb}
use lib.Dec.{eqb}
use lib.ListN.{length, get_or, drop, drop_of_length-le}
use Rattle.laws.proofs.Runs.{drop_next}
use Rattle.pywr.specs.Bytes.{byte, le16}
use Rattle.pywr.specs.ExclusiveSets.{same_set}
use Rattle.network_aggregate.specs.AggregatedNode.{aggregate_set_at}
use Rattle.fields.proofs.RecordLaws.{records_length, records_get, end_fixed}

module _ (file : List ℕ) (at : ℕ) where
  pub set_length : length (aggregate_set_at file at) ≡ byte file at
  set_length = records_length (le16 file) (λ at. at + 2) (byte file at) (at + 1)

  pub member_at : (i : ℕ) → i < byte file at → get_or (aggregate_set_at file at) i 0 ≡ le16 file (at + 1 + 2 * i)
  member_at i h = records_get (le16 file) (λ at. at + 2) (byte file at) (at + 1) i 0 h ∙ ap (le16 file) (end_fixed 2 i (at + 1))

and_no : (a b : Bool) → b ≡ false → (a && b) ≡ false
and_no true b e = e
and_no false b e = refl

pub other_size : (xs ys : List ℕ) → (length xs ≡ length ys → ⊥) → same_set xs ys ≡ false
unfolding same_set
other_size [] [] ne = absurd (ne refl)
other_size [] (y ∷ ys) ne = refl
other_size (x ∷ xs) [] ne = refl
other_size (x ∷ xs) (y ∷ ys) ne = and_no (eqb x y) (same_set xs ys) (other_size xs ys (λ e. ne (ap suc e)))

module _ (file : List ℕ) (a b i : ℕ) where
  abbrev rest : ℕ → Bool
  rest j = same_set (drop j (aggregate_set_at file a)) (drop j (aggregate_set_at file b))

  module _ (ha : i < byte file a) (hb : i < byte file b) where
    opened : rest i ≡ (eqb (le16 file (a + 1 + 2 * i)) (le16 file (b + 1 + 2 * i)) && rest (i + 1))
    unfolding same_set
    opened =
        rw (drop_next (aggregate_set_at file a) i 0 (omega (arith, set_length file a)), drop_next (aggregate_set_at file b) i 0 (omega (arith, set_length file b)), member_at file a i ha, member_at file b i hb)

    pub same_more : le16 file (a + 1 + 2 * i) ≡ le16 file (b + 1 + 2 * i) → rest i ≡ rest (i + 1)
    same_more e = opened ∙ rw (eq-eqb _ _ e)

    pub same_not : (le16 file (a + 1 + 2 * i) ≡ le16 file (b + 1 + 2 * i) → ⊥) → rest i ≡ false
    same_not ne = opened ∙ rw (ne_eqb _ _ ne)

  pub same_end : byte file a ≤ i → byte file b ≤ i → rest i ≡ true
  unfolding same_set
  same_end ha hb = rw (drop_of_length-le (aggregate_set_at file a) {i = i} (omega (arith, set_length file a)), drop_of_length-le (aggregate_set_at file b) {i = i} (omega (arith, set_length file b)))

-- A row's maker when one more has asked for a row. Assumes nothing.
use mathlib.Core.Path.{◌≡◌, refl, sym, ap, ◌∙◌}
use mathlib.Core.Logic.{◌≢◌}
use Prim.Native.Nat.{ℕ, suc, ◌+◌, ◌≤◌}
use native.Mathlib.Omega.{arith}
use mathlib.Core.Bool.{Bool, true, false}
use mathlib.Core.List.{List, [], ◌∷◌, ◌++◌, append-nil}
use lib.ListN.{length, set, length-append}
use Rattle.std.proofs.lemmas.List.{set-get_or}
use lib.Seq.{sets}
use lib.Dec.{eqb}
use borrow.Author.Tests.{eq-eqb, ne_eqb}
use Rattle.layout.specs.Layout.{maker_kind, maker_index, maker_shared_by}
use Rattle.pywr.specs.Network.{keep_if}
use Rattle.pywr.specs.Programme.{Maker}
use Rattle.pywr.specs.Makers.{Asker, sharers_of, first_of, maker_of}
use Rattle.pywr.specs.Written.{maker_words}
use Rattle.pywr.proofs.AskerLaws.{first_count}
use Rattle.build_makers.proofs.Entries.{three_words}
use Rattle.build_sharers.specs.Sharers.{one_more}

sharers_more : (r : ℕ) (all : List Asker) (a : Asker) → sharers_of r (all ++ (a ∷ [])) ≡ sharers_of r all ++ keep_if (eqb a.row r) a []
unfolding sharers_of keep_if
sharers_more r [] a = refl
sharers_more r (x ∷ all) a = go (eqb x.row r) (sharers_more r all a)
  where
    go : (b : Bool) → sharers_of r (all ++ (a ∷ [])) ≡ sharers_of r all ++ keep_if (eqb a.row r) a []
        → keep_if b x (sharers_of r (all ++ (a ∷ []))) ≡ keep_if b x (sharers_of r all) ++ keep_if (eqb a.row r) a []
    go true e = ap (λ (l : List Asker). x ∷ l) e
    go false e = e

first_more : (sharers : List Asker) (a : Asker) → first_of (sharers ++ (a ∷ [])) ≡ one_more a.kind a.index (first_of sharers)
unfolding first_of one_more
first_more [] a = refl
first_more (x ∷ rest) a =
    let e : suc (length (rest ++ (a ∷ []))) ≡ suc (length rest) + 1 = omega (arith, length-append rest (a ∷ [])) in
    rw (ne_eqb (suc (length rest)) 0 (λ q. absurd (omega (arith, q))), e)

module _ (all : List Asker) (a : Asker) (r : ℕ) where
  pub more_same : a.row ≡ r → maker_of (all ++ (a ∷ [])) r ≡ one_more a.kind a.index (maker_of all r)
  unfolding maker_of keep_if
  more_same e = ap first_of (sharers_more r all a ∙ rw (eq-eqb a.row r e)) ∙ first_more (sharers_of r all) a

  pub more_other : a.row ≢ r → maker_of (all ++ (a ∷ [])) r ≡ maker_of all r
  unfolding maker_of keep_if
  more_other h = ap first_of (sharers_more r all a ∙ rw (ne_eqb a.row r h, append-nil (sharers_of r all)))

-- no row is shared by more than have asked
sharers_most : (r : ℕ) (all : List Asker) → length (sharers_of r all) ≤ length all
unfolding sharers_of keep_if
sharers_most r [] = omega arith
sharers_most r (x ∷ all) = go (eqb x.row r) (sharers_most r all)
  where
    go : (b : Bool) → length (sharers_of r all) ≤ length all → length (keep_if b x (sharers_of r all)) ≤ suc (length all)
    go true h = omega arith
    go false h = omega arith

pub shared_most : (all : List Asker) (r : ℕ) → (maker_of all r).shared_by ≤ length all
unfolding maker_of
shared_most all r = omega (arith, first_count (sharers_of r all), sharers_most r all)

-- the words of an entry with one more: the first is its maker, and a later one is counted
module _ (kind index : ℕ) (m : Maker) where
  pub first_words : m.shared_by ≡ 0 → maker_words (one_more kind index m) ≡ kind ∷ index ∷ 1 ∷ []
  unfolding maker_words one_more
  first_words e = rw (eq-eqb m.shared_by 0 e)

  pub later_words : m.shared_by ≢ 0 → maker_words (one_more kind index m) ≡ m.kind ∷ m.index ∷ (m.shared_by + 1) ∷ []
  unfolding maker_words one_more
  later_words h = rw (ne_eqb m.shared_by 0 h)

-- one is counted in the table: the kind and the index stay
pub counted_words : (kind index : ℕ) (shape : List ℕ) (at : ℕ) → let m : Maker = record { kind = maker_kind shape at; index = maker_index shape at; shared_by = maker_shared_by shape at } in
    m.shared_by ≢ 0 → set shape (at + 2) (m.shared_by + 1) ≡ sets shape at (maker_words (one_more kind index m))
counted_words kind index shape at h =
    let m : Maker = record { kind = maker_kind shape at; index = maker_index shape at; shared_by = maker_shared_by shape at } in
    let kept : set (set shape at m.kind) (at + 1) m.index ≡ shape = rw (set-get_or shape at 0, set-get_or shape (at + 1) 0) in
    ap (λ (l : List ℕ). set l (at + 2) (m.shared_by + 1)) (sym kept)
    ∙ three_words shape at m.kind m.index (m.shared_by + 1)
    ∙ ap (sets shape at) (sym (later_words kind index m h))

-- Entries of the table of makers, one behind the other. Assumes nothing.
use mathlib.Core.Path.{◌≡◌, refl, sym, ap, ◌∙◌}
use Prim.Native.Nat.{ℕ, suc, ◌+◌, ◌*◌, ◌-◌, ◌<◌, ◌≤◌}
use native.Mathlib.Omega.{arith}
use mathlib.Core.List.{List, [], ◌∷◌, ◌++◌, flat_map}
use lib.ListN.{length, set, replicate, length-replicate}
use lib.Seq.{sets, length-sets}
use Rattle.layout.specs.Layout.{makers_at}
use Rattle.laws.proofs.Runs.{flat_snoc, replicate_more}
use Rattle.laws.proofs.Sets.{sets_behind}
use Rattle.pywr.specs.Programme.{Row, Maker}
use Rattle.pywr.specs.Makers.{made_by}
use Rattle.pywr.specs.Written.{maker_words}
use Rattle.pywr.proofs.StoreLaws.{maker_wide, flat_length}

-- three words stored one behind the other
pub three_words : (l : List ℕ) (at a b c : ℕ) → set (set (set l at a) (at + 1) b) (at + 2) c ≡ sets l at (a ∷ b ∷ c ∷ [])
three_words l at a b c =
    let one : at + 1 ≡ suc at = omega arith in
    let two : at + 2 ≡ suc (suc at) = omega arith in
    rw (one, two)

pub table_length : (ms : List Maker) → length (flat_map maker_words ms) ≡ 3 * length ms
table_length ms = omega (arith, flat_length maker_words 3 maker_wide ms)

-- rows of one maker: as many entries as rows
pub made_by_lem : (kind index : ℕ) (rows : List Row) → made_by kind index rows ≡ replicate (length rows) (record { kind = kind; index = index; shared_by = 1 })
unfolding made_by
made_by_lem kind index [] = refl
made_by_lem kind index (r ∷ rows) = ap (λ (l : List Maker). record { kind = kind; index = index; shared_by = 1 } ∷ l) (made_by_lem kind index rows)

-- ---- a loop that puts the same entry for each row from `first` on

pub record Put (m : Maker) (shape₀ : List ℕ) (first end : ℕ) (shape : List ℕ) (row : ℕ) : Type 0 where
  pub from : first ≤ row
  pub few : row ≤ end
  pub run : shape ≡ sets shape₀ (makers_at + 3 * first) (flat_map maker_words (replicate (row - first) m))
  pub long : length shape ≡ length shape₀

module _ (m : Maker) (shape₀ : List ℕ) (first end : ℕ) where
  pub put_none : first ≤ end → Put m shape₀ first end shape₀ first
  unfolding flat_map
  put_none h = let z : first - first ≡ 0 = omega arith in record { from = omega arith; few = h; run = rw z; long = refl }

  pub put_more : (shape shape' : List ℕ) (row : ℕ) → row < end → Put m shape₀ first end shape row → shape' ≡ sets shape (makers_at + 3 * row) (maker_words m)
      → Put m shape₀ first end shape' (row + 1)
  put_more shape shape' row lt p e =
      let k : ℕ = row - first in
      let before : List ℕ = flat_map maker_words (replicate k m) in
      let long : length before ≡ 3 * k = table_length (replicate k m) ∙ ap (λ (j : ℕ). 3 * j) (length-replicate k m) in
      let place : makers_at + 3 * first + length before ≡ makers_at + 3 * row = omega (arith, long, p.from) in
      let next : k + 1 ≡ row + 1 - first = omega (arith, p.from) in
      record {
        from = omega (arith, p.from);
        few = omega arith;
        run =
            e
            ∙ ap (λ (l : List ℕ). sets l (makers_at + 3 * row) (maker_words m)) p.run
            ∙ sets_behind shape₀ before (maker_words m) (makers_at + 3 * first) (makers_at + 3 * row) place
            ∙ ap (sets shape₀ (makers_at + 3 * first)) (one_more k ∙ ap (λ (j : ℕ). flat_map maker_words (replicate j m)) next);
        long = ap length e ∙ length-sets shape (makers_at + 3 * row) (maker_words m) ∙ p.long;
      }
    where
      one_more : (k : ℕ) → flat_map maker_words (replicate k m) ++ maker_words m ≡ flat_map maker_words (replicate (k + 1) m)
      one_more k = sym (flat_snoc maker_words (replicate k m) m) ∙ ap (flat_map maker_words) (replicate_more k m)

  pub put_all : (shape : List ℕ) (row : ℕ) → end ≤ row → Put m shape₀ first end shape row
      → shape ≡ sets shape₀ (makers_at + 3 * first) (flat_map maker_words (replicate (end - first) m))
  put_all shape row h p = let e : row ≡ end = omega (arith, p.few) in p.run ∙ ap (λ (k : ℕ). sets shape₀ (makers_at + 3 * first) (flat_map maker_words (replicate (k - first) m))) e

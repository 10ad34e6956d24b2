-- The place of a column among columns that rise. Assumes nothing.
use Prim.Native.Nat.{ℕ, ◌-◌, ◌<◌, ◌≤◌}
use mathlib.Core.Path.{◌≡◌}
use mathlib.Core.Bool.{true}
use mathlib.Core.Logic.{⊎_elim}
use mathlib.Core.List.{List}
use native.Mathlib.Omega.{arith}
use native.Mathlib.Nat.{eq-or-lt_of_le}
use lib.ListN.{length, get_or}
use Rattle.std.specs.Prelude.{Result, Ok, Err}
use Rattle.std.specs.Result.{MatchResult}
use Rattle.std.specs.Ordering.{nat_cmp}
use Rattle.std.specs.List.Sorted.{IsBinarySearchResult}
use Rattle.std.proofs.lemmas.List.Sorted.{searched}
use Rattle.pywr.specs.Misshapen.{columns_rise}
use Rattle.build_row.specs.RowBuilder.{Stands, Belongs}
use Rattle.build_row.proofs.Rise.{rise_order}

module _ (columns : List ℕ) (c : ℕ) (rising : columns_rise 640 0 columns ≡ true) where
  ordered : (i j : ℕ) → i ≤ j → j < length columns → get_or columns i 0 ≤ get_or columns j 0
  ordered i j h l =
      ⊎_elim (λ (e : i ≡ j). rw e (omega arith)) (λ (e : i < j). let o = rise_order 640 0 columns rising i j e l in omega arith) (eq-or-lt_of_le h)

  pub place_searched : (r : Result ℕ ℕ) → IsBinarySearchResult (λ y. nat_cmp y c) columns r → MatchResult r (Stands columns c) (Belongs columns c)
  place_searched (Ok p) h =
      let s = searched columns c (Ok p) h ordered in
      record { within = s.0; is = s.1; under = λ k l. let o = rise_order 640 0 columns rising k p l s.0 in omega (arith, s.1) }
  place_searched (Err p) h =
      let s = searched columns c (Err p) h ordered in
      record { within = s.0; under = s.1; over = λ l. s.2 p (omega arith) l }

  -- a column over the last one
  pub place_last : (0 < length columns → get_or columns (length columns - 1) 0 < c) → Belongs columns c (length columns)
  place_last u =
      record {
        within = omega arith;
        under = λ k l. let o = ordered k (length columns - 1) (omega arith) (omega arith) in let h = u (omega arith) in omega arith;
        over = λ l. absurd (omega arith);
      }

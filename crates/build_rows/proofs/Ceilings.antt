-- Refusal 11 of a build, from the rows that the work runs hold or cannot hold. Assumes nothing.
use mathlib.Core.Path.{◌≡◌, refl, sym, ◌∙◌}
use Prim.Native.Nat.{ℕ, ◌+◌, ◌<◌, ◌≤◌}
use mathlib.Core.List.{List, [], ◌∷◌, ◌++◌}
use mathlib.Core.Bool.{Bool, true, false, ◌&&◌}
use native.Mathlib.Omega.{arith}
use borrow.Author.Tests.{le-leb, lt-leb}
use lib.ListN.{length, length-append}
use lib.Dec.{leb}
use Rattle.pywr.specs.declared.Sentinel.{Sentinel}
use Rattle.pywr.specs.Result.{value, refused, ◌>>=◌, need}
use Rattle.pywr.specs.Network.{Network}
use Rattle.pywr.specs.NetworkFile.{parse_network}
use Rattle.pywr.specs.ExclusiveSets.{exclusive_sets}
use Rattle.pywr.specs.Rows.{column_map}
use Rattle.pywr.specs.Programme.{Row, Programme}
use Rattle.pywr.specs.Build.{programme_of, element_count, under_ceilings, build}
use Rattle.pywr.specs.Written.{rows_of}
use Rattle.build_append.specs.LpBuilder.{within_ceilings}

pub count_append : (xs ys : List Row) → element_count (xs ++ ys) ≡ element_count xs + element_count ys
unfolding element_count
count_append [] ys = let e : element_count ys ≡ 0 + element_count ys = omega arith in e
count_append (x ∷ xs) ys = let ih = count_append xs ys in omega (arith, ih)

and_no : (a b : Bool) → b ≡ false → (a && b) ≡ false
and_no true b e = e
and_no false b e = refl

module _ (net : Network) (p : Programme) where
  rows_are : within_ceilings (rows_of p) ≡ (leb (length p.varying + length p.fixed) 1024 && leb (element_count p.varying + element_count p.fixed) 4096)
  unfolding within_ceilings rows_of
  rows_are = rw (length-append p.varying p.fixed, count_append p.varying p.fixed)

  -- rows over the ceilings, sets over theirs, and neither
  pub rows_over : within_ceilings (rows_of p) ≡ false → under_ceilings (column_map net) p ≡ false
  unfolding under_ceilings column_map
  rows_over e = assoc (leb (length (exclusive_sets net)) 128) (leb (length p.varying + length p.fixed) 1024) (leb (element_count p.varying + element_count p.fixed) 4096) (sym rows_are ∙ e)
    where
      assoc : (a b d : Bool) → (b && d) ≡ false → (a && b && d) ≡ false
      assoc true b d q = q
      assoc false b d q = refl

  pub sets_over : 128 < length (exclusive_sets net) → under_ceilings (column_map net) p ≡ false
  unfolding under_ceilings column_map
  sets_over h = rw (lt-leb (length (exclusive_sets net)) 128 h)

  pub none_over : length (exclusive_sets net) ≤ 128 → within_ceilings (rows_of p) ≡ true → under_ceilings (column_map net) p ≡ true
  unfolding under_ceilings column_map
  none_over h e = rw (le-leb (length (exclusive_sets net)) 128 h) (sym rows_are ∙ e)

module _ (s : Sentinel) (file : List ℕ) (net : Network) (parsed : parse_network file ≡ value net) where
  pub eleven : under_ceilings (column_map net) (programme_of s net).programme ≡ false → build s file ≡ refused 11 0
  unfolding build ◌>>=◌ need
  eleven e = rw (parsed, e)

  pub accepted : under_ceilings (column_map net) (programme_of s net).programme ≡ true → build s file ≡ value (programme_of s net)
  unfolding build ◌>>=◌ need
  accepted e = rw (parsed, e)

-- a file that is refused
pub not_read : (s : Sentinel) (file : List ℕ) (n p : ℕ) → parse_network file ≡ refused n p → build s file ≡ refused n p
unfolding build ◌>>=◌
not_read s file n p e = rw e

-- The bytes of the columns listed and of the whole listing, from the runs that the code reads. Assumes nothing.
use Prim.Native.Nat.{ℕ, ◌+◌}
use mathlib.Core.Path.{◌≡◌, refl, ◌∙◌, ap}
use mathlib.Core.List.{[], ◌++◌}
use native.Mathlib.Numerals.{add-one}
use native.Mathlib.Omega.{arith}
use lib.ListN.{length, length-append}
use Rattle.pywr.specs.Store.{Store, column_count, row_count, varying_count, elements_kept}
use Rattle.listing_lines.specs.Lines.{programme_line}
use Rattle.listing_stored.specs.Stored.{column_text}
use Rattle.listing_rows.specs.Rows.{rows_text, listed_rows}
use Rattle.listing.specs.Listing.{columns_text, listed_columns, programme_text}

pub columns_none : (s : Store) → columns_text s 0 ≡ []
unfolding columns_text
columns_none s = refl

pub columns_more : (s : Store) (i : ℕ) → columns_text s (i + 1) ≡ columns_text s i ++ column_text s i
unfolding columns_text
columns_more s i = rw (add-one i)

pub columns_longer : (s : Store) (i : ℕ) → length (columns_text s (i + 1)) ≡ length (columns_text s i) + length (column_text s i)
columns_longer s i = ap length (columns_more s i) ∙ length-append (columns_text s i) (column_text s i)

pub listing_text : (s : Store)
    → programme_text s ≡ programme_line (column_count s) (row_count s) (varying_count s) (elements_kept s) ++ (columns_text s (listed_columns s) ++ rows_text s (listed_rows s))
unfolding programme_text
listing_text s = refl

pub listing_bytes : (s : Store)
    → length (programme_text s)
    ≡ length (programme_line (column_count s) (row_count s) (varying_count s) (elements_kept s)) + length (columns_text s (listed_columns s)) + length (rows_text s (listed_rows s))
unfolding programme_text
listing_bytes s =
    let p = programme_line (column_count s) (row_count s) (varying_count s) (elements_kept s) in
    let c = columns_text s (listed_columns s) in
    let r = rows_text s (listed_rows s) in
    omega (arith, length-append p (c ++ r), length-append c r)

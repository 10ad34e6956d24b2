-- The bytes of a row's lines and of the rows listed, from the runs that the code reads. Assumes nothing.
use Prim.Native.Nat.{ℕ, ◌+◌, ◌-◌, min}
use mathlib.Core.Path.{◌≡◌, refl, ◌∙◌, ap}
use mathlib.Core.List.{[], ◌++◌}
use native.Mathlib.Numerals.{add-one}
use lib.ListN.{length, get_or, length-append}
use Rattle.pywr.specs.Store.{Store, row_entry, columns_of_row}
use Rattle.listing_stored.specs.Stored.{row_text}
use Rattle.listing_rows.specs.Rows.{row_lines, rows_text}
use Rattle.listing_rows.proofs.ElementLaws.{elements_from, text_from, clipped, clipped_length}

module _ (s : Store) (row known last first : ℕ) (ek : known ≡ min (length s.columns) (length s.elements))
    (el : last ≡ min (get_or s.row_starts (row + 1) 0) known) (ef : first ≡ min (get_or s.row_starts row 0) last) where
  row_elements : (row_entry s row).elements ≡ elements_from s.columns s.elements first last
  unfolding row_entry columns_of_row
  row_elements = clipped s.columns s.elements (get_or s.row_starts row 0) (get_or s.row_starts (row + 1) 0) known last first ek el ef

  pub row_text_lem : row_lines s row ≡ row_text s row (last - first) ++ text_from s.columns s.elements first last
  unfolding row_lines
  row_text_lem = rw (row_elements, clipped_length s.columns s.elements (get_or s.row_starts row 0) (get_or s.row_starts (row + 1) 0) known last first ek el ef)

  pub row_bytes : length (row_lines s row) ≡ length (row_text s row (last - first)) + length (text_from s.columns s.elements first last)
  row_bytes = ap length row_text_lem ∙ length-append (row_text s row (last - first)) (text_from s.columns s.elements first last)

pub rows_none : (s : Store) → rows_text s 0 ≡ []
unfolding rows_text
rows_none s = refl

pub rows_more : (s : Store) (i : ℕ) → rows_text s (i + 1) ≡ rows_text s i ++ row_lines s i
unfolding rows_text
rows_more s i = rw (add-one i)

pub rows_longer : (s : Store) (i : ℕ) → length (rows_text s (i + 1)) ≡ length (rows_text s i) + length (row_lines s i)
rows_longer s i = ap length (rows_more s i) ∙ length-append (rows_text s i) (row_lines s i)

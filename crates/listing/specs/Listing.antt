-- The listing of the programme in a store, as bytes. Document 01, "The lister": "`P` comes first, then every `C`, then each `R` followed by its `E` lines."
-- Assumes nothing.
use Rattle.std.specs.Prelude.{ℕ, zero, suc, min, List, [], ◌++◌, length}
use Rattle.pywr.specs.Store.{Store, column_count, row_count, varying_count, elements_kept}
use Rattle.listing_lines.specs.Lines.{programme_line}
use Rattle.listing_stored.specs.Stored.{column_text}
use Rattle.listing_rows.specs.Rows.{rows_text, listed_rows}

-- the first k columns
unfoldable pub columns_text : Store → ℕ → List ℕ
columns_text s zero = []
columns_text s (suc k) = columns_text s k ++ column_text s k

-- all columns; of a misshapen store, those that its runs hold
unfoldable pub listed_columns : Store → ℕ
listed_columns s = min (min (column_count s) (length s.col_lower)) (min (length s.col_upper) (length s.col_obj_coef))

unfoldable pub programme_text : Store → List ℕ
programme_text s =
    programme_line (column_count s) (row_count s) (varying_count s) (elements_kept s)
    ++ (columns_text s (listed_columns s) ++ rows_text s (listed_rows s))

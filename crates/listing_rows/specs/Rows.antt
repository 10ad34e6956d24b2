-- The rows of a listing, as bytes. Document 01, "The lister": "`P` comes first, then every `C`, then each `R` followed by its `E` lines."
-- Assumes nothing.
use Rattle.std.specs.Prelude.{ℕ, zero, suc, ◌-◌, min, cond, List, [], ◌∷◌, ◌++◌, ltb, length, Option}
use Rattle.std.specs.Io.KnownBytes.{Appends, append_known}
use Rattle.pywr.specs.Rows.{Element}
use Rattle.pywr.specs.Store.{Store, row_count, row_entry}
use Rattle.listing_lines.specs.Lines.{line_room, element_line}
use Rattle.listing_stored.specs.Stored.{row_text}

-- Behind what a writer holds, if that is known, the first bytes of a buffer come to it next: the text stands behind these and those that were there before.
pub record Gathers (old : Option (List ℕ)) (before : List ℕ) (new : Option (List ℕ)) (now text : List ℕ) : Type 0 where
  pub known : Appends (append_known old before) (append_known new now) text

-- where the next line goes in a buffer of so many bytes: at its front where fewer than `line_room` are left
unfoldable pub line_at : ℕ → ℕ → ℕ
line_at room at = cond (ltb (room - at) line_room) 0 at

unfoldable pub element_text : Element → List ℕ
element_text e = element_line e.column e.value

unfoldable pub elements_text : List Element → List ℕ
elements_text [] = []
elements_text (e ∷ es) = element_text e ++ elements_text es

-- the line of a row and, behind it, those of its elements
unfoldable pub row_lines : Store → ℕ → List ℕ
row_lines s r = row_text s r (length (row_entry s r).elements) ++ elements_text (row_entry s r).elements

-- the first k rows
unfoldable pub rows_text : Store → ℕ → List ℕ
rows_text s zero = []
rows_text s (suc k) = rows_text s k ++ row_lines s k

-- all rows; of a misshapen store, those whose bounds, start and end its runs hold
unfoldable pub listed_rows : Store → ℕ
listed_rows s = min (min (row_count s) (length s.row_starts - 1)) (min (length s.row_lower) (length s.row_upper))

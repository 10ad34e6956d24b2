-- The lines of a listing, as bytes. Document 01, "The lister": "`P` columns, rows, varying rows, elements; `C` index, c or i, lower, upper, cost;
-- `R` index, 1 varying or 0, lower, upper, element count; `E` column, value .. A refusal prints `N`, number, place." Document 02, L5: "The lister's `R` line ends
-- with the three", a row's first maker's kind and index, and how many makers share it. Assumes nothing.
use Rattle.std.specs.Prelude.{ℕ, List, [], ◌∷◌, ◌++◌, Bool, cond, Float}
use Rattle.pywr.specs.Programme.{Maker}
use Rattle.listing_fields.specs.Fields.{number_field, double_field, letter_field, bounds_fields, head_fields}
use Rattle.listing_lines.specs.declared.RowMaker.{RowMaker}

-- no line is longer
abbrev pub line_room : ℕ
line_room = 192

abbrev pub line_end : List ℕ
line_end = 10 ∷ []

unfoldable pub programme_line : ℕ → ℕ → ℕ → ℕ → List ℕ
programme_line columns rows varying elements = head_fields 80 columns ++ (number_field rows ++ (number_field varying ++ (number_field elements ++ line_end)))

-- "c or i": continuous or integer
unfoldable pub kind_letter : Bool → ℕ
kind_letter integer = cond integer 105 99

unfoldable pub column_line : ℕ → Bool → Float → Float → Float → List ℕ
column_line index integer lower upper cost = head_fields 67 index ++ (letter_field (kind_letter integer) ++ (bounds_fields lower upper ++ (double_field cost ++ line_end)))

-- "1 varying or 0"
unfoldable pub varying_flag : Bool → ℕ
varying_flag varying = cond varying 1 0

-- the code's value as that of the definitions
abbrev pub to_maker : RowMaker → Maker
to_maker m = record { kind = m.kind; index = m.index; shared_by = m.shared_by }

unfoldable pub maker_fields : Maker → List ℕ
maker_fields m = number_field m.kind ++ (number_field m.index ++ number_field m.shared_by)

unfoldable pub row_line : ℕ → Bool → Float → Float → ℕ → Maker → List ℕ
row_line index varying lower upper elements maker =
    head_fields 82 index ++ (number_field (varying_flag varying) ++ (bounds_fields lower upper ++ (number_field elements ++ (maker_fields maker ++ line_end))))

unfoldable pub element_line : ℕ → Float → List ℕ
element_line column value = head_fields 69 column ++ (double_field value ++ line_end)

unfoldable pub refusal_line : ℕ → ℕ → List ℕ
refusal_line number place = head_fields 78 number ++ (number_field place ++ line_end)

-- the line in front of the programme after step k
unfoldable pub step_line : ℕ → List ℕ
step_line k = head_fields 83 k ++ line_end

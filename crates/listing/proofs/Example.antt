-- The listing of document 01's example, "Varying input, output constant 0..48.5, edge 0→1", by computing the definitions. Assumes nothing.
use Prim.Native.Nat.{ℕ}
use mathlib.Core.Path.{◌≡◌, refl}
use mathlib.Core.List.{List, [], ◌∷◌, ◌++◌}
use mathlib.Core.Bool.{false}
use lib.Ieee.{fin}
use lib.IntN.{negsuc}
use lib.ListN.{replicate}
use Rattle.layout.specs.Layout.{numbers_length, words_length}
use Rattle.pywr.specs.declared.Sentinel.TheVariants.{Infinity}
use Rattle.pywr.specs.Numbers.{zero64}
use Rattle.pywr.specs.Network.{input, output}
use Rattle.pywr.specs.Store.{Store}
use Rattle.pywr.specs.Calls.{build_store}
use Rattle.pywr.specs.FileBytes.{varying, constant, edge}
use Rattle.pywr.specs.Compute.{computing}
use Rattle.pywr.specs.Cases.{blank}
use Rattle.text.specs.Text.{sixteen_digits}
use Rattle.listing_fields.specs.Fields.{decimal_within, decimal, number_field, double_field, letter_field, bounds_fields, head_fields}
use Rattle.listing_lines.specs.Lines.{programme_line, kind_letter, column_line, varying_flag, maker_fields, row_line, element_line}
use Rattle.listing_stored.specs.Stored.{column_text, row_text}
use Rattle.listing_rows.specs.Rows.{element_text, elements_text, row_lines, rows_text, listed_rows}
use Rattle.listing.specs.Listing.{columns_text, listed_columns, programme_text}

built : Store
built =
    build_store Infinity (varying input ++ constant output zero64 (fin false 97 (negsuc 0)) ++ edge 0 1) blank (replicate words_length 0) (replicate numbers_length zero64)

-- P 1 2 1 2
programme : List ℕ
programme = 80 ∷ 32 ∷ 49 ∷ 32 ∷ 50 ∷ 32 ∷ 49 ∷ 32 ∷ 50 ∷ 10 ∷ []

-- C 0 c 0000000000000000 7ff0000000000000 0000000000000000
column : List ℕ
column = 67 ∷ 32 ∷ 48 ∷ 32 ∷ 99 ∷ 32 ∷ 48 ∷ 48 ∷ 48 ∷ 48 ∷ 48 ∷ 48 ∷ 48 ∷ 48 ∷ 48 ∷ 48 ∷ 48 ∷ 48 ∷ 48 ∷ 48 ∷ 48 ∷ 48 ∷ 32 ∷ 55 ∷ 102 ∷ 102 ∷ 48 ∷ 48 ∷ 48 ∷ 48
    ∷ 48 ∷ 48 ∷ 48 ∷ 48 ∷ 48 ∷ 48 ∷ 48 ∷ 48 ∷ 48 ∷ 32 ∷ 48 ∷ 48 ∷ 48 ∷ 48 ∷ 48 ∷ 48 ∷ 48 ∷ 48 ∷ 48 ∷ 48 ∷ 48 ∷ 48 ∷ 48 ∷ 48 ∷ 48 ∷ 48 ∷ 10 ∷ []

-- R 0 1 0000000000000000 7ff0000000000000 1 1 0 1
first_row : List ℕ
first_row = 82 ∷ 32 ∷ 48 ∷ 32 ∷ 49 ∷ 32 ∷ 48 ∷ 48 ∷ 48 ∷ 48 ∷ 48 ∷ 48 ∷ 48 ∷ 48 ∷ 48 ∷ 48 ∷ 48 ∷ 48 ∷ 48 ∷ 48 ∷ 48 ∷ 48 ∷ 32 ∷ 55 ∷ 102 ∷ 102 ∷ 48 ∷ 48 ∷ 48 ∷ 48
    ∷ 48 ∷ 48 ∷ 48 ∷ 48 ∷ 48 ∷ 48 ∷ 48 ∷ 48 ∷ 48 ∷ 32 ∷ 49 ∷ 32 ∷ 49 ∷ 32 ∷ 48 ∷ 32 ∷ 49 ∷ 10 ∷ []

-- E 0 3ff0000000000000
element : List ℕ
element = 69 ∷ 32 ∷ 48 ∷ 32 ∷ 51 ∷ 102 ∷ 102 ∷ 48 ∷ 48 ∷ 48 ∷ 48 ∷ 48 ∷ 48 ∷ 48 ∷ 48 ∷ 48 ∷ 48 ∷ 48 ∷ 48 ∷ 48 ∷ 10 ∷ []

-- R 1 0 0000000000000000 4048400000000000 1 1 1 1
second_row : List ℕ
second_row = 82 ∷ 32 ∷ 49 ∷ 32 ∷ 48 ∷ 32 ∷ 48 ∷ 48 ∷ 48 ∷ 48 ∷ 48 ∷ 48 ∷ 48 ∷ 48 ∷ 48 ∷ 48 ∷ 48 ∷ 48 ∷ 48 ∷ 48 ∷ 48 ∷ 48 ∷ 32 ∷ 52 ∷ 48 ∷ 52 ∷ 56 ∷ 52 ∷ 48 ∷ 48
    ∷ 48 ∷ 48 ∷ 48 ∷ 48 ∷ 48 ∷ 48 ∷ 48 ∷ 48 ∷ 48 ∷ 32 ∷ 49 ∷ 32 ∷ 49 ∷ 32 ∷ 49 ∷ 32 ∷ 49 ∷ 10 ∷ []

document : programme_text built ≡ programme ++ column ++ first_row ++ element ++ second_row ++ element
unfolding computing blank sixteen_digits decimal_within decimal number_field double_field letter_field bounds_fields head_fields programme_line kind_letter
    column_line varying_flag maker_fields row_line element_line column_text row_text element_text elements_text row_lines
    rows_text listed_rows columns_text listed_columns programme_text built programme column first_row element second_row
document = refl

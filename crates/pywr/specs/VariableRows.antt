-- "Varying rows with equal columns and elements are one row" (builder.rs, add_variable_row). Assumes nothing.
use Rattle.std.specs.Prelude.{ℕ, suc, List, [], ◌∷◌, ◌++◌, Bool, true, false, cond, ◌&&◌, length, eqb, ltb}
use Rattle.std.specs.Float.Ieee.{eq}
use Rattle.pywr.specs.Rows.{Element}

-- the same columns with equal elements
unfoldable pub same_row : List Element → List Element → Bool
same_row [] [] = true
same_row [] (y ∷ ys) = false
same_row (x ∷ xs) [] = false
same_row (x ∷ xs) (y ∷ ys) = eqb x.column y.column && eq x.value y.value && same_row xs ys

-- where the first equal row stands; the count of rows if there is none
unfoldable pub position : List Element → List (List Element) → ℕ
position row [] = 0
position row (other ∷ others) = cond (same_row other row) 0 (suc (position row others))

-- the distinct rows so far, and for each row asked for the number of the row that it became
pub record Joined : Type 0 where
  pub rows : List (List Element)
  pub places : List ℕ

unfoldable pub add_variable_row : List Element → Joined → Joined
add_variable_row row joined =
    record {
      rows = cond (ltb (position row joined.rows) (length joined.rows)) joined.rows (joined.rows ++ (row ∷ []));
      places = joined.places ++ (position row joined.rows ∷ []);
    }

unfoldable pub add_variable_rows : List (List Element) → Joined → Joined
add_variable_rows [] joined = joined
add_variable_rows (row ∷ rows) joined = add_variable_rows rows (add_variable_row row joined)

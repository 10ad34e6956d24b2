-- The lines of the columns and rows of the programme in a store. Assumes nothing.
use Rattle.std.specs.Prelude.{ℕ, List, ltb}
use Rattle.pywr.specs.Store.{Store, column_count, row_count, varying_count, elements_kept, column_entry, row_entry, row_maker}
use Rattle.listing_lines.specs.Lines.{programme_line, column_line, row_line}
use Rattle.listing_stored.specs.declared.StoreView.{StoreView}

-- the runs that are lent, as the store of the definitions
abbrev pub store_of : StoreView → Store
store_of v =
    record {
      col_lower = v.col_lower.now;
      col_upper = v.col_upper.now;
      col_obj_coef = v.col_obj_coef.now;
      row_lower = v.row_lower.now;
      row_upper = v.row_upper.now;
      elements = v.elements.now;
      columns = v.columns.now;
      row_starts = v.row_starts.now;
      shape = v.shape.now;
    }

-- the P line
abbrev pub counts_text : Store → List ℕ
counts_text s = programme_line (column_count s) (row_count s) (varying_count s) (elements_kept s)

unfoldable pub column_text : Store → ℕ → List ℕ
column_text s c = column_line c (column_entry s c).integer (column_entry s c).lower (column_entry s c).upper (column_entry s c).cost

-- a row with so many elements
unfoldable pub row_text : Store → ℕ → ℕ → List ℕ
row_text s row elements = row_line row (ltb row (varying_count s)) (row_entry s row).lower (row_entry s row).upper elements (row_maker s row)

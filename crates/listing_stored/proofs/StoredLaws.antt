-- Lines of a store, from the runs that the code reads. Assumes nothing.
use mathlib.Core.Path.{◌≡◌}
use mathlib.Core.List.{List}
use Prim.Native.Nat.{ℕ, ◌+◌, ◌*◌, ◌<◌}
use lib.Dec.{ltb, leb}
use lib.ListN.{length, get_or}
use lib.Ieee.{nan}
use Rattle.layout.specs.Layout.{makers_at, maker_width}
use Rattle.laws.proofs.Runs.{get_d_any}
use Rattle.pywr.specs.Numbers.{zero64}
use Rattle.pywr.specs.Store.{Store, column_entry, row_entry, maker_entry, row_maker}
use Rattle.listing_lines.specs.Lines.{column_line, to_maker, row_line}
use Rattle.listing_lines.specs.declared.RowMaker.{RowMaker}
use Rattle.listing_stored.specs.Stored.{column_text, row_text}

pub column_text_lem : (s : Store) (c edges : ℕ) → c < length s.col_lower → c < length s.col_upper → c < length s.col_obj_coef → edges ≡ get_or s.shape 3 0
    → column_line c (leb edges c) (get_or s.col_lower c nan) (get_or s.col_upper c nan) (get_or s.col_obj_coef c nan) ≡ column_text s c
unfolding column_text column_entry
column_text_lem s c edges hl hu hc e =
    rw (e, get_d_any s.col_lower c zero64 nan hl, get_d_any s.col_upper c zero64 nan hu, get_d_any s.col_obj_coef c zero64 nan hc)

pub maker_read : (s : Store) (shape : List ℕ) (row kind index shared : ℕ) → kind ≡ get_or shape (makers_at + maker_width * row) 0
    → index ≡ get_or shape (makers_at + maker_width * row + 1) 0 → shared ≡ get_or shape (makers_at + maker_width * row + 2) 0 → s.shape ≡ shape
    → to_maker (record { kind = kind; index = index; shared_by = shared }) ≡ row_maker s row
unfolding row_maker maker_entry
maker_read s shape row kind index shared ek ei eh es = rw (ek, ei, eh, es)

pub row_text_lem : (s : Store) (row varying elements : ℕ) (maker : RowMaker) → row < length s.row_lower → row < length s.row_upper
    → varying ≡ get_or s.shape 5 0 → to_maker maker ≡ row_maker s row
    → row_line row (ltb row varying) (get_or s.row_lower row nan) (get_or s.row_upper row nan) elements (to_maker maker) ≡ row_text s row elements
unfolding row_text row_entry
row_text_lem s row varying elements maker hl hu e em =
    rw (em, e, get_d_any s.row_lower row zero64 nan hl, get_d_any s.row_upper row zero64 nan hu)

-- The words of a maker's line by its tests, and the bytes of the lines of the first rows. Assumes nothing.
use Prim.Native.Nat.{ℕ, ◌+◌, ◌<◌, ◌≤◌}
use mathlib.Core.Path.{◌≡◌, refl, sym, ◌∙◌, ap}
use mathlib.Core.List.{List, [], ◌++◌, append-nil}
use native.Mathlib.Numerals.{add-one}
use native.Mathlib.Omega.{arith}
use borrow.Author.Tests.{eq-eqb, ne_eqb, lt-ltb, le-ltb}
use lib.ListN.{length, take, length-append}
use Rattle.layout.specs.Layout.{varying_in, fixed_in}
use Rattle.pywr.specs.Programme.{Maker}
use Rattle.pywr.specs.Store.{Store, row_count, row_maker}
use Rattle.text.specs.Text.{Put}
use Rattle.text.proofs.Placed.{put_as}
use Rattle.listing_fields.specs.Fields.{PutWithin, number_field}
use Rattle.listing_lines.specs.Lines.{refusal_line}
use Rattle.listing_makers.specs.Makers.{shared, shared_words, maker_line, makers_text, maker_text}

-- nothing is put
pub put_nothing : {most : ℕ} {text out : List ℕ} {at : ℕ} → [] ≡ text → PutWithin most text out at out at
put_nothing {most} {text} {out} {at} e =
    let p : Put [] out at out at = record { next = omega arith; written = sym (append-nil (take at out)) } in
    record { put = put_as e p; end = omega arith }

-- ---- how many share a row

pub one_maker : (count : ℕ) → count ≡ 1 → [] ≡ shared_words count
unfolding shared_words
one_maker count e = rw (eq-eqb count 1 e)

pub more_makers : (count : ℕ) → (count ≡ 1 → ⊥) → shared ++ number_field count ≡ shared_words count
unfolding shared_words
more_makers count h = rw (ne_eqb count 1 h)

-- ---- the first rows, and one row

pub makers_none : (s : Store) → makers_text s 0 ≡ []
unfolding makers_text
makers_none s = refl

pub makers_more : (s : Store) (i : ℕ) (m : Maker) → m ≡ row_maker s i → makers_text s (i + 1) ≡ makers_text s i ++ maker_line i m
unfolding makers_text
makers_more s i m e = rw (add-one i, e)

pub makers_longer : (s : Store) (i : ℕ) (m : Maker) → m ≡ row_maker s i → length (makers_text s (i + 1)) ≡ length (makers_text s i) + length (maker_line i m)
makers_longer s i m e = ap length (makers_more s i m e) ∙ length-append (makers_text s i) (maker_line i m)

pub rows_counted : (s : Store) (shape : List ℕ) (n : ℕ) → n ≡ varying_in shape + fixed_in shape → s.shape ≡ shape → n ≡ row_count s
rows_counted s shape n e es = rw es e

pub there : (s : Store) (row : ℕ) (m : Maker) → m ≡ row_maker s row → row < row_count s → maker_line row m ≡ maker_text s row
unfolding maker_text
there s row m e h = rw (lt-ltb row (row_count s) h, e)

pub not_there : (s : Store) (row : ℕ) → row_count s ≤ row → refusal_line 18 row ≡ maker_text s row
unfolding maker_text
not_there s row h = rw (le-ltb row (row_count s) h)

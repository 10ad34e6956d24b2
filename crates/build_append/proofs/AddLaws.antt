-- The gathered row becomes the last row that the work runs hold, or the rows are over the ceilings. Assumes nothing.
use mathlib.Core.Path.{◌≡◌, refl, sym, ap, ◌∙◌, subst}
use Prim.Native.Nat.{ℕ, ◌+◌, ◌<◌, ◌≤◌}
use native.Mathlib.Omega.{arith}
use mathlib.Core.Bool.{false}
use Rattle.std.specs.Prelude.{Result, Ok, Err}
use mathlib.Core.List.{List, [], ◌∷◌, ◌++◌, map, flat_map}
use lib.ListN.{length, take, drop, set, length-append, length-drop, length-set}
use lib.Seq.{sets, length-sets, length-take-le, drop-set-lt}
use lib.Ieee.{Float}
use Rattle.layout.specs.Layout.{numbers_length, shape_made_at, words_length}
use Rattle.laws.specs.Part.{part}
use Rattle.laws.proofs.Sets.{part_same, part_before, part_after}
use Rattle.laws.proofs.Runs.{map_snoc}
use Rattle.pywr.specs.Programme.{Row}
use Rattle.pywr.specs.Build.{element_count}
use Rattle.pywr.specs.Written.{starts_from, columns_in, values_in, lower_of, upper_of}
use Rattle.pywr.proofs.FitLaws.{elements_append}
use Rattle.build_row.specs.RowBuilder.{gathered}
use Rattle.build_append.specs.LpBuilder.{RowsHeld, within_ceilings, AfterRows}
use Rattle.build_append.specs.declared.Filled.{Filled}
use Rattle.build_exclusive_sets.specs.declared.ProgrammeFull.{ProgrammeFull}
use Rattle.build_append.proofs.RowLaws.{part_more, drop_sets, flat_snoc, starts_snoc, gathered_length, gathered_columns, gathered_values}
use Rattle.build_append.proofs.RowsHeldLaws.{held_few, over_rows, over_elements}

-- ---- the answer's two cases

rows_full : (rows : List Row) (words : List ℕ) (numbers : List Float) (full : ProgrammeFull) → within_ceilings rows ≡ false → AfterRows rows words (Err full) words numbers
rows_full rows words numbers full over = record { held = λ f e. absurd (cc); full = λ full e. over; kept = refl }

rows_done : (rows : List Row) (words words' : List ℕ) (numbers : List Float) (f : Filled) → RowsHeld rows words' numbers f → drop shape_made_at words' ≡ drop shape_made_at words
    → AfterRows rows words (Ok f) words' numbers
rows_done rows words words' numbers f held kept =
    record { held = λ g e. subst (RowsHeld rows words' numbers) (same f g e) held; full = λ full e. absurd (cc); kept = kept }
  where
    same : (f g : Filled) → ◌≡◌ {A = Result Filled ProgrammeFull} (Ok f) (Ok g) → f ≡ g
    same f g e = cc

-- ---- the gathered row behind the rows held

module _ (rows : List Row) (lower upper : Float) (columns words : List ℕ) (numbers : List Float) (f : Filled) (n : ℕ) (held : RowsHeld rows words numbers f) where
  abbrev r : ℕ
  r = f.rows

  abbrev e : ℕ
  e = f.elements

  abbrev row : Row
  row = record { lower = lower; upper = upper; elements = gathered columns (drop (2048 + e) numbers) n }

  abbrev more : List Row
  more = rows ++ (row ∷ [])

  pub rows_over : (full : ProgrammeFull) → 1024 ≤ r → AfterRows more words (Err full) words numbers
  rows_over full h = rows_full more words numbers full (over_rows more (omega (arith, length-append rows (row ∷ []), held.row_count)))

  module _ (long_numbers : numbers_length ≤ length numbers) (long_columns : 640 ≤ length columns) (few : n ≤ 640) where
    behind : n ≤ length (drop (2048 + e) numbers)
    behind = omega (arith, length-drop (2048 + e) numbers, held_few rows words numbers f held)

    count : length row.elements ≡ n
    count = gathered_length columns (drop (2048 + e) numbers) n (omega arith) behind

    pub elements_over : (full : ProgrammeFull) → 4096 < e + n → AfterRows more words (Err full) words numbers
    unfolding element_count
    elements_over full h = rows_full more words numbers full (over_elements more (omega (arith, elements_append rows (row ∷ []), held.elements_count, count)))

    module _ (long_words : words_length ≤ length words) (few_rows : r < 1024) (fits : e + n ≤ 4096) where
      abbrev cs : List ℕ
      cs = take n columns

      abbrev with_columns : List ℕ
      with_columns = sets words e cs

      abbrev with_row : List ℕ
      with_row = set with_columns (4096 + r + 1) (e + n)

      abbrev with_lower : List Float
      with_lower = set numbers r lower

      abbrev with_bounds : List Float
      with_bounds = set with_lower (1024 + r) upper

      cs_length : length cs ≡ n
      cs_length = length-take-le n columns (omega arith)

      columns_are : cs ≡ columns_in row
      unfolding columns_in
      columns_are = sym (gathered_columns columns (drop (2048 + e) numbers) n (omega arith) behind)

      values_are : part (2048 + e) n numbers ≡ values_in row
      unfolding values_in
      values_are = sym (gathered_values columns (drop (2048 + e) numbers) n (omega arith) behind)

      row_held : RowsHeld more with_row with_bounds (record { rows = r + 1; elements = e + n })
      unfolding element_count lower_of upper_of
      row_held =
          let er : r ≡ length rows = held.row_count in
          let ee : e ≡ element_count rows = held.elements_count in
          let lengths : length rows + 1 ≡ length more = sym (length-append rows (row ∷ [])) in
          let counts : e + n ≡ element_count more = omega (arith, elements_append rows (row ∷ []), count) in
          let start : List ℕ = (e + n) ∷ [] in
          record {
            row_count = omega arith;
            elements_count = counts;
            few_rows = omega arith;
            few_elements = omega arith;
            columns =
                part_more with_row (flat_map columns_in rows) cs 0 e e n (element_count more) (omega arith) counts
                (part_before with_columns start (4096 + r + 1) 0 e (omega arith) ∙ part_before words cs e 0 e (omega arith) ∙ rw ee held.columns)
                (part_before with_columns start (4096 + r + 1) e n (omega arith) ∙ part_same words cs e n cs_length (omega arith))
                ∙ ap (λ (l : List ℕ). flat_map columns_in rows ++ l) columns_are
                ∙ sym (flat_snoc columns_in rows row);
            starts =
                part_more with_row (starts_from 0 rows) start 4096 (length rows + 1) (4096 + r + 1) 1 (length more + 1) (omega arith) (omega arith)
                (part_before with_columns start (4096 + r + 1) 4096 (length rows + 1) (omega arith) ∙ part_after words cs e 4096 (length rows + 1) (omega (arith, cs_length)) ∙ held.starts)
                (part_same with_columns start (4096 + r + 1) 1 refl (omega (arith, length-sets words e cs)))
                ∙ (let k : e + n ≡ 0 + element_count rows + length row.elements = omega (arith, count) in ap (λ (j : ℕ). starts_from 0 rows ++ (j ∷ [])) k)
                ∙ sym (starts_snoc 0 rows row);
            lowers =
                part_more with_bounds (map lower_of rows) (lower ∷ []) 0 (length rows) r 1 (length more) (omega arith) lengths
                (part_before with_lower (upper ∷ []) (1024 + r) 0 (length rows) (omega arith) ∙ part_before numbers (lower ∷ []) r 0 (length rows) (omega arith) ∙ held.lowers)
                (part_before with_lower (upper ∷ []) (1024 + r) r 1 (omega arith) ∙ part_same numbers (lower ∷ []) r 1 refl (omega arith))
                ∙ sym (map_snoc lower_of rows row);
            uppers =
                part_more with_bounds (map upper_of rows) (upper ∷ []) 1024 (length rows) (1024 + r) 1 (length more) (omega arith) lengths
                (part_before with_lower (upper ∷ []) (1024 + r) 1024 (length rows) (omega arith) ∙ part_after numbers (lower ∷ []) r 1024 (length rows) (omega arith) ∙ held.uppers)
                (part_same with_lower (upper ∷ []) (1024 + r) 1 refl (omega (arith, length-set numbers r lower)))
                ∙ sym (map_snoc upper_of rows row);
            elements =
                part_more with_bounds (flat_map values_in rows) (values_in row) 2048 e (2048 + e) n (element_count more) refl counts
                (part_after with_lower (upper ∷ []) (1024 + r) 2048 e (omega arith) ∙ part_after numbers (lower ∷ []) r 2048 e (omega arith) ∙ rw ee held.elements)
                (part_after with_lower (upper ∷ []) (1024 + r) (2048 + e) n (omega arith) ∙ part_after numbers (lower ∷ []) r (2048 + e) n (omega arith) ∙ values_are)
                ∙ sym (flat_snoc values_in rows row);
          }

      -- the columns put, the next start and the two bounds written
      pub row_added : (words' : List ℕ) (next : ℕ) → words' ≡ with_columns → next ≡ e + n
          → AfterRows more words (Ok (record { rows = r + 1; elements = e + n })) (set words' (4096 + r + 1) next) with_bounds
      row_added words' next ew en =
          rw (ew, en)
          (rows_done more words with_row with_bounds (record { rows = r + 1; elements = e + n }) row_held
          (drop-set-lt shape_made_at with_columns (4096 + r + 1) (e + n) (omega arith) ∙ drop_sets words cs e shape_made_at (omega (arith, cs_length))))

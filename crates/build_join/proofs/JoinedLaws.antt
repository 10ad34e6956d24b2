-- Varying rows asked for in turn: one row more, rows over the ceilings, and what a loop that asks for them carries. Assumes nothing.
use mathlib.Core.Path.{◌≡◌, refl, sym, ap, ◌∙◌, subst}
use Prim.Native.Nat.{ℕ, ◌+◌, ◌*◌, ◌-◌, ◌<◌, ◌≤◌}
use native.Mathlib.Nat.{add-zero, mul-zero, mul-suc}
use native.Mathlib.Numerals.{add-one}
use native.Mathlib.Omega.{arith}
use mathlib.Core.Bool.{Bool, true, false, cond}
use Rattle.std.specs.Prelude.{Result, Ok, Err}
use mathlib.Core.List.{List, [], ◌∷◌, ◌++◌, map, map-append, append-nil, append_assoc}
use lib.ListN.{length, get_or, take, drop, length-append, length-map, take-append-drop}
use lib.Seq.{sets, take_all, length-take-le}
use lib.Dec.{ltb}
use lib.Ieee.{Float}
use Rattle.layout.specs.Layout.{shape_made_at}
use Rattle.laws.specs.Part.{part}
use Rattle.laws.proofs.Runs.{take_more}
use Rattle.laws.proofs.Sets.{part_same, part_before}
use Rattle.laws.proofs.Tails.{tail, put_tail, tail_written}
use Rattle.pywr.specs.declared.Sentinel.{Sentinel}
use Rattle.pywr.specs.Rows.{Element}
use Rattle.pywr.specs.VariableRows.{Joined, position, add_variable_row, add_variable_rows}
use Rattle.pywr.specs.VaryingRows.{fresh_row}
use Rattle.pywr.specs.Programme.{Row}
use Rattle.pywr.proofs.JoinLaws.{position_most}
use Rattle.build_append.specs.declared.Filled.{Filled}
use Rattle.build_exclusive_sets.specs.declared.ProgrammeFull.{ProgrammeFull}
use Rattle.build_append.specs.LpBuilder.{RowsHeld, within_ceilings}
use Rattle.build_join.specs.VariableRow.{AfterVariableRow}
use Rattle.build_append.proofs.RowLaws.{part_behind, part_more}
use Rattle.build_append.proofs.RowsHeldLaws.{held_agrees, over_more}
use Rattle.build_join.specs.JoinedRows.{joined, AfterVariableRows}

-- ---- rows asked for in turn

add_append : (asked more : List (List Element)) (j : Joined) → add_variable_rows (asked ++ more) j ≡ add_variable_rows more (add_variable_rows asked j)
unfolding add_variable_rows
add_append [] more j = refl
add_append (r ∷ rs) more j = add_append rs more (add_variable_row r j)

-- rows are only added, behind those that stand
pub record Longer (rows more : List (List Element)) : Type 0 where
  pub new : List (List Element)
  pub is : more ≡ rows ++ new

longer_or_same : (b : Bool) (rows : List (List Element)) (row : List Element) → Longer rows (cond b rows (rows ++ (row ∷ [])))
longer_or_same true rows row = record { new = []; is = sym (append-nil rows) }
longer_or_same false rows row = record { new = row ∷ []; is = refl }

pub longer : (asked : List (List Element)) (j : Joined) → Longer j.rows (add_variable_rows asked j).rows
unfolding add_variable_rows add_variable_row
longer [] j = record { new = []; is = sym (append-nil j.rows) }
longer (r ∷ rs) j =
    let one = longer_or_same (ltb (position r j.rows) (length j.rows)) j.rows r in
    let more = longer rs (add_variable_row r j) in
    record { new = one.new ++ more.new; is = more.is ∙ ap (λ (l : List (List Element)). l ++ more.new) one.is ∙ append_assoc j.rows one.new more.new }

-- each row asked for has a place
places_count : (asked : List (List Element)) (j : Joined) → length (add_variable_rows asked j).places ≡ length j.places + length asked
unfolding add_variable_rows add_variable_row
places_count [] j = sym (add-zero (length j.places))
places_count (r ∷ rs) j =
    let n = length-append j.places (position r j.rows ∷ []) in
    let m = places_count rs (add_variable_row r j) in
    omega (arith, n, m)

module _ (s : Sentinel) (asked rows : List (List Element)) where
  -- after i of the rows
  abbrev so_far : ℕ → Joined
  so_far i = joined (take i asked) rows

  so_far_more : (i : ℕ) (row : List Element) → i < length asked → get_or asked i [] ≡ row → so_far (i + 1) ≡ add_variable_row row (so_far i)
  unfolding add_variable_rows
  so_far_more i row h e = rw (← (take_more asked i [] h), e) (add_append (take i asked) (row ∷ []) (record { rows = rows; places = [] }))

  so_far_all : (i : ℕ) → length asked ≤ i → so_far i ≡ joined asked rows
  so_far_all i h = ap (λ (l : List (List Element)). joined l rows) (take_all i asked h)

  so_far_places : (i : ℕ) → i ≤ length asked → length (so_far i).places ≡ i
  so_far_places i h = places_count (take i asked) (record { rows = rows; places = [] }) ∙ omega (arith, length-take-le i asked h)

  -- rows that are over the ceilings after i of them stay over
  over_later : (i : ℕ) → within_ceilings (map (fresh_row s) (so_far i).rows) ≡ false → within_ceilings (map (fresh_row s) (joined asked rows).rows) ≡ false
  over_later i over =
      let more = longer (drop i asked) (so_far i) in
      let is : (joined asked rows).rows ≡ (so_far i).rows ++ more.new =
      ap (λ (l : List (List Element)). (joined l rows).rows) (sym (take-append-drop i asked)) ∙ ap (λ (j : Joined). j.rows) (add_append (take i asked)
      (drop i asked) (record { rows = rows; places = [] })) ∙ more.is in
      rw (is, map-append (fresh_row s) (so_far i).rows more.new) (over_more (map (fresh_row s) (so_far i).rows) (map (fresh_row s) more.new) over)

-- ---- parts of the words

held_sets : (rows : List Row) (words : List ℕ) (numbers : List Float) (f : Filled) (b : ℕ) (vs : List ℕ) → shape_made_at ≤ b → RowsHeld rows words numbers f → RowsHeld rows (sets words b vs) numbers f
held_sets rows words numbers f b vs hb h = held_agrees rows words (sets words b vs) numbers numbers f h (part_before words vs b 0 shape_made_at (omega arith)) refl

-- ---- the loop that asks for the rows

done_is : (f g : Filled) → ◌≡◌ {A = Result Filled ProgrammeFull} (Ok f) (Ok g) → f ≡ g
done_is f g e = cc

module _ (s : Sentinel) (asked : List (List Element)) (at width : ℕ) (table : List ℕ → List ℕ) (rows : List (List Element)) (words₀ : List ℕ) where
  -- after i rows: they are held, and the table of their places has `width` words for each
  pub record Asked (i : ℕ) (words : List ℕ) (numbers : List Float) (f : Filled) : Type 0 where
    pub held : RowsHeld (map (fresh_row s) (joined (take i asked) rows).rows) words numbers f
    pub placed : part at (width * i) words ≡ table (joined (take i asked) rows).places
    pub kept : part shape_made_at (at - shape_made_at) words ≡ part shape_made_at (at - shape_made_at) words₀

  pub asked_none : (numbers : List Float) (f : Filled) → table [] ≡ [] → RowsHeld (map (fresh_row s) rows) words₀ numbers f → Asked 0 words₀ numbers f
  unfolding add_variable_rows
  asked_none numbers f e h = record { held = h; placed = rw mul-zero (sym e); kept = refl }

  pub asked_all : (i : ℕ) (words : List ℕ) (numbers : List Float) (f : Filled) (size : ℕ) → length asked ≤ i → size ≡ width * i → Asked i words numbers f
      → AfterVariableRows s rows asked at size table words₀ (Ok f) words numbers
  asked_all i words numbers f size h e a =
      let all = so_far_all s asked rows i h in
      record {
        held = λ g q. subst (RowsHeld (map (fresh_row s) (joined asked rows).rows) words numbers) (done_is f g q) (rw all at a.held);
        placed = λ g q. rw (e, ← all) a.placed;
        full = λ full q. absurd (cc);
        kept = a.kept;
      }

  -- row i is asked for
  module _ (behind : shape_made_at ≤ at) (i : ℕ) (row : List Element) (words : List ℕ) (numbers : List Float) (f : Filled) (r : Result (ℕ × Filled) ProgrammeFull) (words' : List ℕ) (numbers' : List Float)
      (lt : i < length asked) (is : get_or asked i [] ≡ row) (a : Asked i words numbers f)
      (after : AfterVariableRow s (joined (take i asked) rows).rows row words r words' numbers') where
    rows_are : (add_variable_row row (record { rows = (joined (take i asked) rows).rows; places = [] })).rows ≡ (joined (take (i + 1) asked) rows).rows
    unfolding add_variable_row
    rows_are = sym (ap (λ (j : Joined). j.rows) (so_far_more s asked rows i row lt is))

    pub asked_full : (size : ℕ) (full : ProgrammeFull) → r ≡ Err full → AfterVariableRows s rows asked at size table words₀ (Err full) words' numbers'
    asked_full size full e =
        record {
          held = λ g q. absurd (cc);
          placed = λ g q. absurd (cc);
          full = λ full' q. over_later s asked rows (i + 1) (rw rows_are at (after.full full e));
          kept = part_behind shape_made_at (at - shape_made_at) shape_made_at words words' (omega arith) after.kept ∙ a.kept;
        }

    module _ (k : ℕ) (g : Filled) (e : r ≡ Ok (k, g)) where
      places_are : (joined (take (i + 1) asked) rows).places ≡ (joined (take i asked) rows).places ++ (k ∷ [])
      unfolding add_variable_row
      places_are =
          ap (λ (j : Joined). j.places) (so_far_more s asked rows i row lt is)
          ∙ ap (λ (p : ℕ). (joined (take i asked) rows).places ++ (p ∷ [])) (sym (after.place k g e))

      -- a row's number fits a word
      pub place_fits : k < 65536
      place_fits = omega (arith, after.place k g e, position_most row (joined (take i asked) rows).rows, a.held.few_rows, length-map (joined (take i asked) rows).rows (fresh_row s))

      -- its entry is written behind the others: the shape run's words come back as `shape`, with the entry at b
      pub asked_more : (b : ℕ) (entry shape : List ℕ) → shape_made_at + b ≡ at + width * i → length entry ≡ width → shape_made_at + b + width ≤ length words'
          → ((places : List ℕ) → length places ≡ i → table (places ++ (k ∷ [])) ≡ table places ++ entry)
          → shape ≡ sets (tail shape_made_at words') b entry → Asked (i + 1) (put_tail shape_made_at words' shape) numbers' g
      asked_more b₀ entry shape eb wide room more written =
          let b : ℕ = shape_made_at + b₀ in
          rw (tail_written shape_made_at words' b₀ b shape entry refl written)
          (record {
            held = held_sets (map (fresh_row s) (joined (take (i + 1) asked) rows).rows) words' numbers' g b entry (omega arith) (rw rows_are at (after.held k g e));
            placed =
                part_more (sets words' b entry) (table (joined (take i asked) rows).places) entry at (width * i) b width (width * (i + 1)) (sym eb) (rw (add-one, mul-suc))
                (part_before words' entry b at (width * i) (omega arith) ∙ part_behind at (width * i) shape_made_at words words' behind after.kept ∙ a.placed)
                (part_same words' entry b width wide room)
                ∙ sym (more (joined (take i asked) rows).places (so_far_places s asked rows i (omega arith)))
                ∙ ap table (sym places_are);
            kept = part_before words' entry b shape_made_at (at - shape_made_at) (omega arith) ∙ part_behind shape_made_at (at - shape_made_at) shape_made_at words words' (omega arith) after.kept ∙ a.kept;
          })

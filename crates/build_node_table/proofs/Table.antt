-- One node row more: its row joins an equal one or becomes the last, and its four words come behind the others. Assumes nothing.
use mathlib.Core.Path.{◌≡◌, refl, sym, ap, ◌∙◌, subst}
use Prim.Native.Nat.{ℕ, ◌+◌, ◌*◌, ◌-◌, ◌<◌, ◌≤◌}
use native.Mathlib.Omega.{arith}
use mathlib.Core.Bool.{false}
use Rattle.std.specs.Prelude.{Result, Ok, Err}
use mathlib.Core.List.{List, [], ◌∷◌, ◌++◌, map, flat_map}
use lib.ListN.{length, drop, set, length-append, length-map}
use lib.Seq.{sets}
use lib.Ieee.{Float}
use borrow.Rule.Slice.PartMut.{put_mid}
use Rattle.layout.specs.Layout.{node_rows_at, node_rows_made_at, numbers_length, shape_made_at}
use Rattle.laws.proofs.Sets.{part_same, part_before}
use Rattle.laws.proofs.Tails.{tail, put_tail, tail_written}
use Rattle.pywr.specs.declared.Sentinel.{Sentinel}
use Rattle.pywr.specs.Rows.{Element}
use Rattle.pywr.specs.VariableRows.{Joined, add_variable_row}
use Rattle.pywr.specs.VaryingRows.{RowRequest, fresh_row}
use Rattle.pywr.specs.Programme.{Row, RowType}
use Rattle.pywr.specs.Build.{placed_node_rows}
use Rattle.pywr.specs.Written.{node_row_words, row_type_word}
use Rattle.pywr.proofs.JoinLaws.{position_most}
use Rattle.build_row.specs.RowBuilder.{gathered}
use Rattle.build_append.specs.declared.Filled.{Filled}
use Rattle.build_append.specs.LpBuilder.{RowsHeld, within_ceilings}
use Rattle.build_join.specs.VariableRow.{AfterVariableRow}
use Rattle.build_append.proofs.RowLaws.{part_behind, part_more, flat_snoc}
use Rattle.build_append.proofs.RowsHeldLaws.{held_few, held_agrees, held_lent, lent_written}
use Rattle.build_node_table.specs.NodeTable.{joined, NodeRowsHeld, AfterRequests}
use Rattle.build_node_table.specs.NodeTable.{NodeRows}
use Rattle.build_exclusive_sets.specs.declared.ProgrammeFull.{ProgrammeFull}
use Rattle.build_node_table.proofs.Requests.{joined_more, joined_places, placed_at, placed_snoc, over_later}

held_sets : (rows : List Row) (words : List ℕ) (numbers : List Float) (f : Filled) (b : ℕ) (vs : List ℕ) → shape_made_at ≤ b → RowsHeld rows words numbers f → RowsHeld rows (sets words b vs) numbers f
held_sets rows words numbers f b vs hb h = held_agrees rows words (sets words b vs) numbers numbers f h (part_before words vs b 0 shape_made_at (omega arith)) refl

-- ---- the answer's two cases

ok_is : (x y : NodeRows) → ◌≡◌ {A = Result NodeRows ProgrammeFull} (Ok x) (Ok y) → x ≡ y
ok_is x y e = cc

pub requests_done : (s : Sentinel) (asks : List RowRequest) (words : List ℕ) (numbers : List Float) (r : NodeRows) → NodeRowsHeld s asks words numbers r
    → AfterRequests s asks (Ok r) words numbers
requests_done s asks words numbers r h = record { done = λ r' e. subst (NodeRowsHeld s asks words numbers) (ok_is r r' e) h; full = λ full e. absurd (cc) }

pub requests_full : (s : Sentinel) (asks : List RowRequest) (words : List ℕ) (numbers : List Float) (full : ProgrammeFull)
    → within_ceilings (map (fresh_row s) (joined asks).rows) ≡ false → AfterRequests s asks (Err full) words numbers
requests_full s asks words numbers full over = record { done = λ r' e. absurd (cc); full = λ full e. over }

-- ---- a row is asked for

-- a row's number fits a word
pub place_fits : (s : Sentinel) (rows : List (List Element)) (row : List Element) (words : List ℕ) (numbers : List Float) (f : Filled) (v : Result (ℕ × Filled) ProgrammeFull) (words₁ : List ℕ) (numbers₁ : List Float)
    → RowsHeld (map (fresh_row s) rows) words numbers f → AfterVariableRow s rows row words v words₁ numbers₁ → (k : ℕ) (g : Filled) → v ≡ Ok (k, g) → k < 65536
place_fits s rows row words numbers f v words₁ numbers₁ h after k g e = omega (arith, after.place k g e, position_most row rows, h.few_rows, length-map rows (fresh_row s))

module _ (s : Sentinel) (asks : List RowRequest) (a : RowRequest) (words : List ℕ) (numbers : List Float) (r : NodeRows) (v : Result (ℕ × Filled) ProgrammeFull) (words₁ : List ℕ) (numbers₁ : List Float)
    (h : NodeRowsHeld s asks words numbers r) (after : AfterVariableRow s (joined asks).rows a.row words v words₁ numbers₁) where
  rows_are : (add_variable_row a.row (record { rows = (joined asks).rows; places = [] })).rows ≡ (joined (asks ++ (a ∷ []))).rows
  unfolding add_variable_row
  rows_are = sym (ap (λ (j : Joined). j.rows) (joined_more asks a))

  pub row_full : (full : ProgrammeFull) → v ≡ Err full → AfterRequests s (asks ++ (a ∷ [])) (Err full) words₁ numbers₁
  row_full full e = requests_full s (asks ++ (a ∷ [])) words₁ numbers₁ full (rw rows_are at (after.full full e))

  module _ (k : ℕ) (f : Filled) (e : v ≡ Ok (k, f)) where
    placed : placed_node_rows (asks ++ (a ∷ [])) (joined (asks ++ (a ∷ []))).places ≡ placed_node_rows asks (joined asks).places ++ (placed_at a k ∷ [])
    unfolding add_variable_row
    placed =
        ap (λ (j : Joined). placed_node_rows (asks ++ (a ∷ [])) j.places) (joined_more asks a)
        ∙ ap (λ (p : ℕ). placed_node_rows (asks ++ (a ∷ [])) ((joined asks).places ++ (p ∷ []))) (sym (after.place k f e))
        ∙ placed_snoc asks (joined asks).places a k (joined_places asks)

    -- the shape run's words come back as `shape`, with the entry
    pub row_placed : (w t : ℕ) (shape : List ℕ) → w ≡ k → row_type_word a.row_type ≡ t → node_rows_made_at + 4 * r.count + 4 ≤ length words₁
        → shape ≡ sets (tail shape_made_at words₁) (node_rows_at + 4 * r.count) (a.node ∷ w ∷ t ∷ a.set ∷ [])
        → AfterRequests s (asks ++ (a ∷ [])) (Ok (record { filled = f; count = r.count + 1 })) (put_tail shape_made_at words₁ shape) numbers₁
    unfolding node_row_words
    row_placed w t shape ew et room written =
        let entry : List ℕ = node_row_words (placed_at a k) in
        let b : ℕ = node_rows_made_at + 4 * r.count in
        let words₂ : List ℕ = put_tail shape_made_at words₁ shape in
        let is : words₂ ≡ sets words₁ b entry = tail_written shape_made_at words₁ (node_rows_at + 4 * r.count) b shape entry (omega arith) (written ∙ rw (ew, ← et)) in
        let four : 4 * r.count + 4 ≡ 4 * (r.count + 1) = omega arith in
        requests_done s (asks ++ (a ∷ [])) words₂ numbers₁ (record { filled = f; count = r.count + 1 })
        (rw is
        (record {
          held = held_sets (map (fresh_row s) (joined (asks ++ (a ∷ []))).rows) words₁ numbers₁ f b entry (omega arith) (rw rows_are at (after.held k f e));
          counted = sym (length-append asks (a ∷ []) ∙ ap (λ (n : ℕ). n + 1) (sym h.counted));
          table =
              part_more (sets words₁ b entry) (flat_map node_row_words (placed_node_rows asks (joined asks).places)) entry node_rows_made_at (4 * r.count) b 4 (4 * (r.count + 1)) refl four
              (part_before words₁ entry b node_rows_made_at (4 * r.count) (omega arith) ∙ part_behind node_rows_made_at (4 * r.count) shape_made_at words words₁ (omega arith) after.kept ∙ h.table)
              (part_same words₁ entry b 4 refl room)
              ∙ sym (ap (flat_map node_row_words) placed ∙ flat_snoc node_row_words (placed_node_rows asks (joined asks).places) (placed_at a k));
        }))

-- ---- the row's elements are gathered in the part of numbers behind the rows held

-- where the next row's elements start
abbrev pub elements_end : NodeRows → ℕ
elements_end r = 2048 + r.filled.elements

module _ (s : Sentinel) (asks : List RowRequest) (words : List ℕ) (numbers ys : List Float) (r : NodeRows) (long : numbers_length ≤ length numbers) (h : NodeRowsHeld s asks words numbers r) where
  abbrev lent : List Float
  lent = put_mid (elements_end r) (length numbers - elements_end r) numbers ys

  within : elements_end r ≤ length numbers
  within = omega (arith, (held_few (map (fresh_row s) (joined asks).rows) words numbers r.filled h.held).1)

  pub rows_lent : NodeRowsHeld s asks words lent r
  rows_lent = record { held = held_lent numbers ys (elements_end r) within (map (fresh_row s) (joined asks).rows) words r.filled refl h.held; counted = h.counted; table = h.table }

  pub request_lent : (node set : ℕ) (t : RowType) (columns : List ℕ) (n : ℕ) (row : List Element) (v : Result NodeRows ProgrammeFull) (words' : List ℕ) (numbers' : List Float) → gathered columns ys n ≡ row
      → AfterRequests s (asks ++ (record { node = node; row_type = t; set = set; row = gathered columns (drop (elements_end r) lent) n } ∷ [])) v words' numbers'
      → AfterRequests s (asks ++ (record { node = node; row_type = t; set = set; row = row } ∷ [])) v words' numbers'
  request_lent node set t columns n row v words' numbers' e a =
      subst (λ (l : List Element). AfterRequests s (asks ++ (record { node = node; row_type = t; set = set; row = l } ∷ [])) v words' numbers')
      (ap (λ (l : List Float). gathered columns l n) (lent_written numbers ys (elements_end r) within) ∙ e) a

-- ---- requests behind others

-- once over the ceilings, later requests keep the rows over
pub full_later : (s : Sentinel) (asks more : List RowRequest) (v : Result NodeRows ProgrammeFull) (words : List ℕ) (numbers : List Float) → AfterRequests s asks v words numbers
    → (full : ProgrammeFull) → v ≡ Err full → AfterRequests s (asks ++ more) (Err full) words numbers
full_later s asks more v words numbers a full e = requests_full s (asks ++ more) words numbers full (over_later s asks more (a.full full e))

pub count_more : (s : Sentinel) (asks more : List RowRequest) (words words' : List ℕ) (numbers numbers' : List Float) (r r' : NodeRows) → NodeRowsHeld s asks words numbers r
    → NodeRowsHeld s (asks ++ more) words' numbers' r' → r'.count ≡ r.count + length more
count_more s asks more words words' numbers numbers' r r' h h' = omega (arith, h.counted, h'.counted, length-append asks more)

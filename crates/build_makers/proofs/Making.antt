-- Rows added behind those that the work runs hold, each with its maker: some are added, the rest are to come. Assumes nothing.
use mathlib.Core.Path.{◌≡◌, refl, sym, ap, ◌∙◌, subst}
use Prim.Native.Nat.{ℕ, ◌+◌, ◌*◌, ◌-◌, ◌≤◌}
use native.Mathlib.Omega.{arith}
use Rattle.std.specs.Prelude.{Result, Ok, Err}
use mathlib.Core.List.{List, [], ◌++◌, flat_map, append_assoc, append-nil}
use lib.ListN.{length, take, replicate, length-append}
use lib.Seq.{sets}
use lib.Ieee.{Float}
use Rattle.layout.specs.Layout.{makers_at, makers_made_at, shape_made_at, words_length}
use Rattle.laws.specs.Part.{part}
use Rattle.laws.proofs.Runs.{flat_append}
use Rattle.laws.proofs.Sets.{part_same, part_before}
use Rattle.laws.proofs.Tails.{tail, put_tail, tail_written}
use Rattle.pywr.specs.Programme.{Row, Maker}
use Rattle.pywr.specs.Makers.{made_by}
use Rattle.pywr.specs.Written.{maker_words}
use Rattle.pywr.proofs.MakerLaws.{made_length}
use Rattle.build_append.specs.LpBuilder.{RowsHeld, Holding, within_ceilings, AfterRows}
use Rattle.build_append.specs.declared.Filled.{Filled}
use Rattle.build_exclusive_sets.specs.declared.ProgrammeFull.{ProgrammeFull}
use Rattle.build_append.proofs.AddingRows.{Adds}
use Rattle.build_append.proofs.RowLaws.{part_behind, part_more}
use Rattle.build_append.proofs.RowsHeldLaws.{held_agrees, held_few, over_more}
use Rattle.build_makers.specs.MadeRows.{MadeHeld, AfterMade}
use Rattle.build_makers.proofs.Entries.{table_length, made_by_lem}

-- of the whole list of rows and that of their makers, all but the rest are held
pub record Making (whole rest : List Row) (makers others : List Maker) (words₀ words : List ℕ) (numbers : List Float) (f : Filled) : Type 0 where
  pub rows : List Row
  pub theirs : List Maker
  pub whole_is : whole ≡ rows ++ rest
  pub makers_is : makers ≡ theirs ++ others
  pub held : MadeHeld rows theirs words numbers f
  pub kept : part shape_made_at makers_at words ≡ part shape_made_at makers_at words₀

-- what adding these rows with these makers promises, whatever rows are held
abbrev pub Makes : List Row → List Maker → List ℕ → List Float → Filled → Result Filled ProgrammeFull → List ℕ → List Float → Type 0
Makes new theirs words numbers f r words' numbers' = (rows : List Row) (makers : List Maker) → MadeHeld rows makers words numbers f → AfterMade (rows ++ new) (makers ++ theirs) words r words' numbers'

pub making_first : (rows all : List Row) (makers theirs : List Maker) (words : List ℕ) (numbers : List Float) (f : Filled) → MadeHeld rows makers words numbers f
    → Making (rows ++ all) all (makers ++ theirs) theirs words words numbers f
making_first rows all makers theirs words numbers f h =
    record { rows = rows; theirs = makers; whole_is = refl; makers_is = refl; held = h; kept = refl }

-- rows are added, and their entries put
module _ (whole new rest : List Row) (makers others : List Maker) (kind index : ℕ) (words₀ words : List ℕ) (numbers : List Float) (f : Filled)
    (h : Making whole (new ++ rest) makers (made_by kind index new ++ others) words₀ words numbers f)
    (r : Result Filled ProgrammeFull) (words₁ : List ℕ) (numbers' : List Float) (added : Adds new words numbers f r words₁ numbers') where
  after : AfterRows (h.rows ++ new) words r words₁ numbers'
  after = added h.rows h.held.held

  is : whole ≡ (h.rows ++ new) ++ rest
  is = h.whole_is ∙ sym (append_assoc h.rows new rest)

  kept : part shape_made_at makers_at words₁ ≡ part shape_made_at makers_at words₀
  kept = part_behind shape_made_at makers_at shape_made_at words words₁ (omega arith) after.kept ∙ h.kept

  pub making_over : (full : ProgrammeFull) → r ≡ Err full → AfterMade whole makers words₀ (Err full) words₁ numbers'
  making_over full e =
      record {
        held = λ g q. absurd (cc);
        full = λ full' q. ap within_ceilings is ∙ over_more (h.rows ++ new) rest (after.full full e);
        kept = kept;
      }

  module _ (g : Filled) (e : r ≡ Ok g) where
    held₁ : RowsHeld (h.rows ++ new) words₁ numbers' g
    held₁ = after.held g e

    count : g.rows ≡ f.rows + length new
    count = omega (arith, held₁.row_count, h.held.held.row_count, length-append h.rows new)

    pub rows_rise : (f.rows ≤ g.rows) × (g.rows ≤ 1024)
    rows_rise = (omega (arith, count), (held_few (h.rows ++ new) words₁ numbers' g held₁).0)

    abbrev entries : List ℕ
    entries = flat_map maker_words (replicate (g.rows - f.rows) (record { kind = kind; index = index; shared_by = 1 }))

    entries_are : entries ≡ flat_map maker_words (made_by kind index new)
    entries_are =
        let k : g.rows - f.rows ≡ length new = omega (arith, count) in
        ap (λ (j : ℕ). flat_map maker_words (replicate j (record { kind = kind; index = index; shared_by = 1 }))) k ∙ ap (flat_map maker_words) (sym (made_by_lem kind index new))

    abbrev all : List Maker
    all = h.theirs ++ made_by kind index new

    all_long : length all ≡ length h.theirs + length new
    all_long = omega (arith, length-append h.theirs (made_by kind index new), made_length kind index new)

    theirs_long : length h.theirs ≡ f.rows
    theirs_long = h.held.each ∙ sym h.held.held.row_count

    module _ (shape : List ℕ) (room : words_length ≤ length words₁) (w : shape ≡ sets (tail shape_made_at words₁) (makers_at + 3 * f.rows) entries) where
      abbrev words₂ : List ℕ
      words₂ = put_tail shape_made_at words₁ shape

      abbrev place : ℕ
      place = makers_made_at + 3 * f.rows

      words₂-are : words₂ ≡ sets words₁ place (flat_map maker_words (made_by kind index new))
      words₂-are = tail_written shape_made_at words₁ (makers_at + 3 * f.rows) place shape entries (omega arith) w ∙ ap (sets words₁ place) entries_are

      held₂ : RowsHeld (h.rows ++ new) words₂ numbers' g
      held₂ =
          held_agrees (h.rows ++ new) words₁ words₂ numbers' numbers' g held₁
          (ap (take shape_made_at) words₂-are ∙ part_before words₁ (flat_map maker_words (made_by kind index new)) place 0 shape_made_at (omega arith)) refl

      before : part makers_made_at (3 * f.rows) words₂ ≡ flat_map maker_words h.theirs
      before =
          ap (part makers_made_at (3 * f.rows)) words₂-are
          ∙ part_before words₁ (flat_map maker_words (made_by kind index new)) place makers_made_at (3 * f.rows) (omega arith)
          ∙ part_behind makers_made_at (3 * f.rows) shape_made_at words words₁ (omega arith) after.kept
          ∙ ap (λ (k : ℕ). part makers_made_at (3 * k) words) (sym theirs_long)
          ∙ h.held.made

      behind : part place (3 * length new) words₂ ≡ flat_map maker_words (made_by kind index new)
      behind =
          ap (part place (3 * length new)) words₂-are
          ∙ part_same words₁ (flat_map maker_words (made_by kind index new)) place (3 * length new)
          (omega (arith, table_length (made_by kind index new), made_length kind index new)) (omega (arith, count, rows_rise.1))

      pub making_more : Making whole rest makers others words₀ words₂ numbers' g
      making_more =
          record {
            rows = h.rows ++ new;
            theirs = all;
            whole_is = is;
            makers_is = h.makers_is ∙ sym (append_assoc h.theirs (made_by kind index new) others);
            held =
                record {
                  held = held₂;
                  each = omega (arith, all_long, h.held.each, length-append h.rows new);
                  made =
                      part_more words₂ (flat_map maker_words h.theirs) (flat_map maker_words (made_by kind index new)) makers_made_at (3 * f.rows) place
                      (3 * length new) (3 * length all) refl (omega (arith, all_long, theirs_long)) before behind
                      ∙ sym (flat_append maker_words h.theirs (made_by kind index new));
                };
            kept =
                ap (part shape_made_at makers_at) words₂-are
                ∙ part_before words₁ (flat_map maker_words (made_by kind index new)) place shape_made_at makers_at (omega arith)
                ∙ kept;
          }

-- the last rows
module _ (whole rest : List Row) (makers others : List Maker) (words₀ words : List ℕ) (numbers : List Float) (f : Filled)
    (h : Making whole rest makers others words₀ words numbers f) where
  pub making_done : rest ≡ [] → others ≡ [] → AfterMade whole makers words₀ (Ok f) words numbers
  making_done er eo =
      let w : whole ≡ h.rows = h.whole_is ∙ ap (λ (l : List Row). h.rows ++ l) er ∙ append-nil h.rows in
      let m : makers ≡ h.theirs = h.makers_is ∙ ap (λ (l : List Maker). h.theirs ++ l) eo ∙ append-nil h.theirs in
      record {
        held = λ g e. let q : f ≡ g = cc in rw (w, m) (subst (MadeHeld h.rows h.theirs words numbers) q h.held);
        full = λ full e. absurd (cc);
        kept = h.kept;
      }

  pub making_holding : Holding words numbers f
  making_holding = record { rows = h.rows; held = h.held.held }

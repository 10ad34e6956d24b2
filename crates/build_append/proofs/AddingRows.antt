-- Rows added behind those that the work runs hold: some are added, the rest are to come. Assumes nothing.
use mathlib.Core.Path.{◌≡◌, refl, sym, ap, ◌∙◌, subst}
use Prim.Native.Nat.{ℕ}
use Rattle.std.specs.Prelude.{Result, Ok, Err}
use mathlib.Core.List.{List, [], ◌++◌, append_assoc, append-nil}
use lib.ListN.{drop}
use lib.Ieee.{Float}
use Rattle.layout.specs.Layout.{shape_made_at}
use Rattle.pywr.specs.Programme.{Row}
use Rattle.build_append.specs.LpBuilder.{RowsHeld, Holding, within_ceilings, AfterRows}
use Rattle.build_append.specs.declared.Filled.{Filled}
use Rattle.build_exclusive_sets.specs.declared.ProgrammeFull.{ProgrammeFull}
use Rattle.build_append.proofs.RowsHeldLaws.{over_more}

-- of the whole list of rows all but the rest are held
pub record Adding (whole rest : List Row) (words₀ words : List ℕ) (numbers : List Float) (f : Filled) : Type 0 where
  pub rows : List Row
  pub whole_is : whole ≡ rows ++ rest
  pub held : RowsHeld rows words numbers f
  pub kept : drop shape_made_at words ≡ drop shape_made_at words₀

-- what adding these rows promises, whatever rows are held
abbrev pub Adds : List Row → List ℕ → List Float → Filled → Result Filled ProgrammeFull → List ℕ → List Float → Type 0
Adds new words numbers f r words' numbers' = (rows : List Row) → RowsHeld rows words numbers f → AfterRows (rows ++ new) words r words' numbers'

pub adding_first : (rows all : List Row) (words : List ℕ) (numbers : List Float) (f : Filled) → RowsHeld rows words numbers f → Adding (rows ++ all) all words words numbers f
adding_first rows all words numbers f h = record { rows = rows; whole_is = refl; held = h; kept = refl }

-- no row more
pub adds_none : (words : List ℕ) (numbers : List Float) (f : Filled) → Adds [] words numbers f (Ok f) words numbers
adds_none words numbers f rows h =
    record {
      held = λ g e. let q : f ≡ g = cc in rw (append-nil rows) (subst (RowsHeld rows words numbers) q h);
      full = λ full e. absurd (cc);
      kept = refl;
    }

module _ (whole new rest : List Row) (words₀ words : List ℕ) (numbers : List Float) (f : Filled) (h : Adding whole (new ++ rest) words₀ words numbers f)
    (r : Result Filled ProgrammeFull) (words' : List ℕ) (numbers' : List Float) (added : Adds new words numbers f r words' numbers') where
  after : AfterRows (h.rows ++ new) words r words' numbers'
  after = added h.rows h.held

  is : whole ≡ (h.rows ++ new) ++ rest
  is = h.whole_is ∙ sym (append_assoc h.rows new rest)

  pub adding_more : (g : Filled) → r ≡ Ok g → Adding whole rest words₀ words' numbers' g
  adding_more g e = record { rows = h.rows ++ new; whole_is = is; held = after.held g e; kept = after.kept ∙ h.kept }

  pub adding_over : (full : ProgrammeFull) → r ≡ Err full → AfterRows whole words₀ (Err full) words' numbers'
  adding_over full e =
      record {
        held = λ g q. absurd (cc);
        full = λ full' q. ap within_ceilings is ∙ over_more (h.rows ++ new) rest (after.full full e);
        kept = after.kept ∙ h.kept;
      }

-- the last rows
module _ (whole new : List Row) (words₀ words : List ℕ) (numbers : List Float) (f : Filled) (h : Adding whole new words₀ words numbers f) where
  pub adding_last : (r : Result Filled ProgrammeFull) (words' : List ℕ) (numbers' : List Float) → Adds new words numbers f r words' numbers' → AfterRows whole words₀ r words' numbers'
  adding_last r words' numbers' added =
      let a : AfterRows whole words r words' numbers' = rw h.whole_is (added h.rows h.held) in
      record { held = a.held; full = a.full; kept = a.kept ∙ h.kept }

  pub adding_done : new ≡ [] → AfterRows whole words₀ (Ok f) words numbers
  adding_done e = adding_last (Ok f) words numbers (rw e (adds_none words numbers f))

  pub adding_holding : Holding words numbers f
  adding_holding = record { rows = h.rows; held = h.held }

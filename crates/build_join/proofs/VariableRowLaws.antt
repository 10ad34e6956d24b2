-- A varying row that stands already or becomes the last row, over rows made by `fresh_row`. Assumes nothing.
use mathlib.Core.Path.{◌≡◌, refl, sym, ap, ◌∙◌, subst}
use Prim.Native.Nat.{ℕ, ◌<◌, ◌≤◌}
use native.Mathlib.Omega.{arith}
use Rattle.std.specs.Prelude.{Result, Ok, Err}
use mathlib.Core.List.{List, [], ◌∷◌, ◌++◌, map}
use lib.ListN.{length, length-map}
use lib.Ieee.{Float}
use borrow.Author.Tests.{lt-ltb, le-ltb}
use Rattle.laws.proofs.Runs.{map_snoc}
use Rattle.pywr.specs.declared.Sentinel.{Sentinel}
use Rattle.pywr.specs.Numbers.{zero64, high}
use Rattle.pywr.specs.Rows.{Element}
use Rattle.pywr.specs.VariableRows.{add_variable_row, position}
use Rattle.pywr.specs.VaryingRows.{fresh_row}
use Rattle.pywr.specs.Programme.{Row}
use Rattle.build_append.specs.LpBuilder.{element_lists, RowsHeld, within_ceilings, AfterRows}
use Rattle.build_join.specs.VariableRow.{AfterVariableRow}
use Rattle.build_append.specs.declared.Filled.{Filled}
use Rattle.build_exclusive_sets.specs.declared.ProgrammeFull.{ProgrammeFull}

pub elements_fresh : (s : Sentinel) (rows : List (List Element)) → element_lists (map (fresh_row s) rows) ≡ rows
unfolding fresh_row
elements_fresh s [] = refl
elements_fresh s (r ∷ rs) = ap (λ (l : List (List Element)). r ∷ l) (elements_fresh s rs)

-- the rows after a row was asked for
abbrev pub rows_with : List Element → List (List Element) → List (List Element)
rows_with row rows = (add_variable_row row (record { rows = rows; places = [] })).rows

pub rows_joined : (row : List Element) (rows : List (List Element)) → position row rows < length rows → rows_with row rows ≡ rows
unfolding add_variable_row
rows_joined row rows h = rw (lt-ltb (position row rows) (length rows) h)

pub rows_more : (row : List Element) (rows : List (List Element)) → length rows ≤ position row rows → rows_with row rows ≡ rows ++ (row ∷ [])
unfolding add_variable_row
rows_more row rows h = rw (le-ltb (position row rows) (length rows) h)

at_is : (k j : ℕ) (f g : Filled) → ◌≡◌ {A = Result (ℕ × Filled) ProgrammeFull} (Ok (k, f)) (Ok (j, g)) → (k ≡ j) × (f ≡ g)
at_is k j f g e =
    let same : ◌≡◌ {A = ℕ × Filled} (k, f) (j, g) = cc in
    (ap (λ (x : ℕ × Filled). x.0) same, ap (λ (x : ℕ × Filled). x.1) same)

module _ (s : Sentinel) (rows : List (List Element)) (row : List Element) (words : List ℕ) (numbers : List Float) (f : Filled) (k : ℕ)
    (held : RowsHeld (map (fresh_row s) rows) words numbers f) (at : k ≡ position row (element_lists (map (fresh_row s) rows))) where
  place : k ≡ position row rows
  place = at ∙ ap (position row) (elements_fresh s rows)

  count : f.rows ≡ length rows
  count = held.row_count ∙ length-map rows (fresh_row s)

  -- an equal row stands already
  pub row_joined : k < f.rows → AfterVariableRow s rows row words (Ok (k, f)) words numbers
  row_joined h =
      record {
        place = λ j g e. sym (at_is k j f g e).0 ∙ place;
        held = λ j g e. rw (rows_joined row rows (omega (arith, place, count))) (subst (RowsHeld (map (fresh_row s) rows) words numbers) (at_is k j f g e).1 held);
        full = λ full e. absurd (cc);
        kept = refl;
      }

  -- no equal row stands, and the row was added
  module _ (lower upper : Float) (words' : List ℕ) (numbers' : List Float) (a : Result Filled ProgrammeFull) (none : f.rows ≤ k) (el : lower ≡ zero64) (eu : upper ≡ high s)
      (added : AfterRows (map (fresh_row s) rows ++ (record { lower = lower; upper = upper; elements = row } ∷ [])) words a words' numbers') where
    all : map (fresh_row s) rows ++ (record { lower = lower; upper = upper; elements = row } ∷ []) ≡ map (fresh_row s) (rows_with row rows)
    unfolding fresh_row
    all =
        ap (λ (r : Row). map (fresh_row s) rows ++ (r ∷ [])) (λ i. record { lower = el i; upper = eu i; elements = row })
        ∙ sym (ap (map (fresh_row s)) (rows_more row rows (omega (arith, place, count))) ∙ map_snoc (fresh_row s) rows row)

    pub row_new : (g : Filled) → a ≡ Ok g → AfterVariableRow s rows row words (Ok (k, g)) words' numbers'
    row_new g e =
        record {
          place = λ j h q. sym (at_is k j g h q).0 ∙ place;
          held = λ j h q. subst (λ (l : List Row). RowsHeld l words' numbers' h) all (added.held h (subst (λ (x : Filled). a ≡ Ok x) (at_is k j g h q).1 e));
          full = λ full q. absurd (cc);
          kept = added.kept;
        }

    pub row_full : (full : ProgrammeFull) → a ≡ Err full → AfterVariableRow s rows row words (Err full) words' numbers'
    row_full full e =
        record {
          place = λ j h q. absurd (cc);
          held = λ j h q. absurd (cc);
          full = λ full' q. ap within_ceilings (sym all) ∙ added.full full e;
          kept = added.kept;
        }

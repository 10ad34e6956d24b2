-- A row gathered record by record, and a row gathered in the lent part of the numbers behind the elements so far. Assumes nothing.
use mathlib.Core.Path.{◌≡◌, sym, ap, ◌∙◌, subst}
use Prim.Native.Nat.{ℕ, ◌+◌, ◌-◌, ◌<◌, ◌≤◌}
use native.Mathlib.Nat.{sub-zero}
use native.Mathlib.Omega.{arith}
use Rattle.std.specs.Prelude.{Result}
use mathlib.Core.List.{List, [], ◌∷◌, map}
use lib.ListN.{length, drop}
use lib.Ieee.{Float}
use borrow.Rule.Slice.PartMut.{put_mid}
use Rattle.build_exclusive_sets.specs.declared.ProgrammeFull.{ProgrammeFull}
use Rattle.layout.specs.Layout.{numbers_length}
use Rattle.pywr.specs.declared.Sentinel.{Sentinel}
use Rattle.pywr.specs.Rows.{Element}
use Rattle.pywr.specs.VaryingRows.{fresh_row}
use Rattle.fields.specs.Records.{records_at}
use Rattle.fields.proofs.RecordLaws.{records_left, records_over}
use Rattle.build_row.specs.RowBuilder.{gathered, Rising}
use Rattle.build_append.specs.declared.Filled.{Filled}
use Rattle.build_append.specs.LpBuilder.{RowsHeld, Holding}
use Rattle.build_join.specs.VariableRow.{AfterVariableRow}
use Rattle.build_append.proofs.RowsHeldLaws.{held_few, held_lent, lent_written}
use Rattle.build_row.specs.Gathered.{Gathered}

-- ---- record by record

module _ {A : Type 0} (add_all : List A → List Element → List Element) (read : ℕ → A) (end : ℕ → ℕ) (count : ℕ) (whole : List Element) where
  -- after i of the records: the rest, from `here` on, added to the row so far makes the whole row
  pub record Adding (i here : ℕ) (columns : List ℕ) (elements : List Float) (n : ℕ) : Type 0 where
    pub left : whole ≡ add_all (records_at read end (count - i) here) (gathered columns elements n)
    pub rising : Rising columns n
    pub few : n ≤ 640

  pub adding_none : (here : ℕ) (columns : List ℕ) (elements : List Float) (n : ℕ) → whole ≡ add_all (records_at read end count here) (gathered columns elements n) → Rising columns n → n ≤ 640
      → Adding 0 here columns elements n
  adding_none here columns elements n e rising few = record { left = rw sub-zero e; rising = rising; few = few }

  module _ (i here : ℕ) (columns : List ℕ) (elements : List Float) (n : ℕ) (a : Adding i here columns elements n) where
    pub adding_more : (add : A → List Element → List Element) → ((x : A) (xs : List A) (row : List Element) → add_all (x ∷ xs) row ≡ add_all xs (add x row)) → i < count
        → (next : ℕ) (columns' : List ℕ) (elements' : List Float) (r : ℕ) → next ≡ end here → Gathered (add (read here) (gathered columns elements n)) columns' elements' r
        → Adding (i + 1) next columns' elements' r
    adding_more add more lt next columns' elements' r e g =
        record {
          left =
              a.left
              ∙ ap (λ (xs : List A). add_all xs (gathered columns elements n)) (records_left end count i here lt read)
              ∙ more (read here) (records_at read end (count - (i + 1)) (end here)) (gathered columns elements n)
              ∙ ap (add_all (records_at read end (count - (i + 1)) (end here))) (sym g.is)
              ∙ ap (λ (k : ℕ). add_all (records_at read end (count - (i + 1)) k) (gathered columns' elements' r)) (sym e);
          rising = g.rising;
          few = g.few;
        }

    pub adding_all : ((row : List Element) → add_all [] row ≡ row) → count ≤ i → Gathered whole columns elements n
    adding_all none le =
        record {
          is = sym (a.left ∙ ap (λ (xs : List A). add_all xs (gathered columns elements n)) (records_over end count i here le read) ∙ none (gathered columns elements n));
          rising = a.rising;
          few = a.few;
        }

-- ---- in the lent part

module _ (words : List ℕ) (numbers : List Float) (f : Filled) (long : numbers_length ≤ length numbers) (holding : Holding words numbers f)
    (row : List Element) (columns : List ℕ) (ys : List Float) (n : ℕ) (g : Gathered row columns ys n) where
  abbrev from : ℕ
  from = 2048 + f.elements

  -- the numbers after the row is gathered in the part from there on
  abbrev after : List Float
  after = put_mid from (length numbers - from) numbers ys

  within : from ≤ length numbers
  within = omega (arith, held_few holding.rows words numbers f holding.held)

  pub holding_lent : Holding words after f
  holding_lent = record { rows = holding.rows; held = held_lent numbers ys from within holding.rows words f (omega arith) holding.held }

  pub asked_lent : (s : Sentinel) (r : Result (ℕ × Filled) ProgrammeFull) (words' : List ℕ) (numbers' : List Float)
      → ((rows : List (List Element)) → RowsHeld (map (fresh_row s) rows) words after f → AfterVariableRow s rows (gathered columns (drop from after) n) words r words' numbers')
      → (rows : List (List Element)) → RowsHeld (map (fresh_row s) rows) words numbers f → AfterVariableRow s rows row words r words' numbers'
  asked_lent s r words' numbers' asked rows held =
      let is : gathered columns (drop from after) n ≡ row = ap (λ (l : List Float). gathered columns l n) (lent_written numbers ys from within) ∙ g.is in
      subst (λ (row : List Element). AfterVariableRow s rows row words r words' numbers') is
      (asked rows (held_lent numbers ys from within (map (fresh_row s) rows) words f (omega arith) held))

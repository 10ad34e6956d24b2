-- The rows of an exclusive constant node in one set, added in turn. Assumes nothing.
use mathlib.Core.Path.{◌≡◌, refl}
use Prim.Native.Nat.{ℕ, ◌+◌}
use mathlib.Core.Bool.{true, false, cond}
use Rattle.std.specs.Prelude.{Result, Ok, Err}
use mathlib.Core.List.{List, [], ◌∷◌, ◌++◌}
use lib.Ieee.{Float, eq, neg}
use Rattle.pywr.specs.declared.Sentinel.{Sentinel}
use Rattle.pywr.specs.Numbers.{zero64, one64, high}
use Rattle.pywr.specs.Network.{Node}
use Rattle.pywr.specs.Rows.{Element, ColumnMap, add_element, add_node, upper_row, lower_row}
use Rattle.pywr.specs.FixedRows.{upper_coefficient, lower_coefficient, exclusive_rows}
use Rattle.pywr.specs.Programme.{Row}
use Rattle.build_append.specs.declared.Filled.{Filled}
use Rattle.build_exclusive_sets.specs.declared.ProgrammeFull.{ProgrammeFull}
use Rattle.build_append.proofs.AddingRows.{Adds, adding_first, adding_more, adding_over, adding_last}

-- a row with bounds 0 and the high sentinel
abbrev pub row_of : Sentinel → List Element → Row
row_of s es = record { lower = zero64; upper = high s; elements = es }

module _ (s : Sentinel) (f : ColumnMap) (n k : ℕ) (x : Node) where
  abbrev upper : Row
  upper = row_of s (upper_row f n k (upper_coefficient x.max))

  abbrev lower : Row
  lower = row_of s (lower_row f n k (lower_coefficient x.min))

  abbrev behind : List Row
  behind = cond (eq x.min zero64) [] (lower ∷ []) ++ []

  rows_are : exclusive_rows s f n x (k ∷ []) ≡ (upper ∷ []) ++ behind
  unfolding exclusive_rows
  rows_are = refl

  -- the upper row was asked for on the set's column
  module _ (column : ℕ) (ec : column ≡ f.edge_columns + k) (words : List ℕ) (numbers : List Float) (g : Filled) (coefficient : Float) (eu : coefficient ≡ upper_coefficient x.max)
      (r : Result Filled ProgrammeFull) (words' : List ℕ) (numbers' : List Float) (added : Adds (row_of s (add_element column coefficient (add_node f n (neg one64) [])) ∷ []) words numbers g r words' numbers') where
    upper_added : Adds (upper ∷ []) words numbers g r words' numbers'
    unfolding upper_row
    upper_added = rw (← ec, ← eu) added

    pub upper_over : (full : ProgrammeFull) → r ≡ Err full → Adds (exclusive_rows s f n x (k ∷ [])) words numbers g (Err full) words' numbers'
    upper_over full e rows h =
        rw rows_are (adding_over _ (upper ∷ []) behind words words numbers g (adding_first rows _ words numbers g h) r words' numbers' upper_added full e)

    module _ (g' : Filled) (e : r ≡ Ok g') where
      -- min is 0
      pub upper_only : eq x.min zero64 ≡ true → Adds (exclusive_rows s f n x (k ∷ [])) words numbers g (Ok g') words' numbers'
      upper_only z = rw (rows_are, z, ← e) upper_added

      pub both_rows : eq x.min zero64 ≡ false → (coefficient₂ : Float) → coefficient₂ ≡ lower_coefficient x.min → (r₂ : Result Filled ProgrammeFull) (words₂ : List ℕ) (numbers₂ : List Float)
          → Adds (row_of s (add_element column coefficient₂ (add_node f n one64 [])) ∷ []) words' numbers' g' r₂ words₂ numbers₂
          → Adds (exclusive_rows s f n x (k ∷ [])) words numbers g r₂ words₂ numbers₂
      unfolding lower_row
      both_rows z coefficient₂ el r₂ words₂ numbers₂ more rows h =
          let lower-added : Adds (lower ∷ []) words' numbers' g' r₂ words₂ numbers₂ = rw (← ec, ← el) more in
          rw (rows_are, z)
          (adding_last _ (lower ∷ []) words words' numbers' g'
          (adding_more _ (upper ∷ []) (lower ∷ []) words words numbers g (adding_first rows _ words numbers g h) r words' numbers' upper_added g' e)
          r₂ words₂ numbers₂ lower-added)

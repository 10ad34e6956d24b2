-- `columns_rise` meets its contract.
use mathlib.Core.Path.{sym}
use Prim.Native.Nat.{◌+◌}
use native.Mathlib.Omega.{arith}
use Rattle.pywr.specs.Store.{columns_of_row}
use Rattle.pywr.specs.Misshapen.{row_columns_rise}
use Rattle.store_rows.proofs.Starts.{start_under}
use Rattle.store_rows.proofs.Rising.{rising}
use borrow.Author.Rules.{rules}
use Rattle.store_rows.proofs.columns_rise.Goals as goal

pub start_falls-requires : goal.start_falls-requires
start_falls-requires c = (search rules, search rules, λ r lt. omega (arith, start_under c.requires.starts (r + 1) (omega arith)))

pub returns : goal.returns
unfolding row_columns_rise columns_of_row
returns c =
    λ s ec er es. rw (
      ec,
      er,
      es,
      c.words_under-under.ensures,
      c.falls.ensures,
      c.start_falls.ensures,
      c.from-kept.ensures,
      c.row_count.ensures,
    ) (sym (rising _ _ c.requires.starts (search rules)))

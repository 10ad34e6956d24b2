-- `LpBuilder::add_fixed_row` meets its contract.
use mathlib.Core.Path.{refl}
use native.Mathlib.Omega.{arith}
use Rattle.build_append.proofs.AddLaws.{rows_over, elements_over, row_added}
use Rattle.build_append.proofs.LpBuilder.add_fixed_row.Goals as goal

pub returns-then-rows-ge-ROW_CEILING-clause-rows : goal.returns-then-rows-ge-ROW_CEILING-clause-rows
returns-then-rows-ge-ROW_CEILING-clause-rows c = λ rows held. rows_over rows _ _ _ _ _ _ _ held _ (omega arith)

pub returns-then-elements-n-gt-ELEMENT_CEILING-clause-rows : goal.returns-then-elements-n-gt-ELEMENT_CEILING-clause-rows
returns-then-elements-n-gt-ELEMENT_CEILING-clause-rows c =
    λ rows held. elements_over rows _ _ _ _ _ _ _ held c.requires.0.numbers_room (omega arith) c.requires.1 _ (omega arith)

pub returns-clause-rows : goal.returns-clause-rows
returns-clause-rows c =
    λ rows held.
    row_added rows _ _ _ _ _ _ _ held c.requires.0.numbers_room (omega arith) c.requires.1 c.requires.0.words_room
    (omega (arith, c.if-rows-ge-ROW_CEILING.false)) (omega (arith, c.if-elements-n-gt-ELEMENT_CEILING.false)) _ _ c.put_columns.ensures refl

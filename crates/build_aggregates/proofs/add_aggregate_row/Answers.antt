-- `build_aggregates::add_aggregate_row` meets its contract.
use Rattle.build_join.proofs.GatherLaws.{holding_lent, asked_lent}
use borrow.Author.Rules.{rules}
use Rattle.build_aggregates.proofs.add_aggregate_row.Goals as goal

pub add_variable_row-requires : goal.add_variable_row-requires
add_variable_row-requires c = (
  record { words_room = search rules; numbers_room = search rules },
  c.aggregate_row-n.ensures.few,
  c.aggregate_row-n.ensures.rising,
  holding_lent _ _ _ c.requires.2.numbers_room c.requires.3 _ _ _ _ c.aggregate_row-n.ensures,
)

pub returns-clause-row : goal.returns-clause-row
returns-clause-row c =
    λ rows held. asked_lent _ _ _ c.requires.2.numbers_room c.requires.3 _ _ _ _ c.aggregate_row-n.ensures _ _ _ _
    c.add_variable_row.ensures.row rows held

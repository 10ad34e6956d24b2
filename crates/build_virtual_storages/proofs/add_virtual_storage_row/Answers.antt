-- `build_virtual_storages::add_virtual_storage_row` meets its contract.
use Rattle.build_join.proofs.GatherLaws.{holding_lent, asked_lent}
use borrow.Author.Rules.{rules}
use Rattle.build_virtual_storages.proofs.add_virtual_storage_row.Goals as goal

pub add_variable_row-requires : goal.add_variable_row-requires
add_variable_row-requires c = (
  record { words_room = search rules; numbers_room = search rules },
  c.virtual_storage_row-n.ensures.few,
  c.virtual_storage_row-n.ensures.rising,
  holding_lent _ _ _ c.requires.2.numbers_room c.requires.3 _ _ _ _ c.virtual_storage_row-n.ensures,
)

pub returns-clause-row : goal.returns-clause-row
returns-clause-row c =
    λ rows held. asked_lent _ _ _ c.requires.2.numbers_room c.requires.3 _ _ _ _ c.virtual_storage_row-n.ensures _ _ _ _
    c.add_variable_row.ensures.row rows held

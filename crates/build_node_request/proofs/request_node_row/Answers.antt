-- `build_node_request::request_node_row` meets its contract.
use mathlib.Core.Path.{refl}
use lib.Ieee.{of_bits}
use Rattle.pywr.specs.Numbers.{one64}
use Rattle.pywr.specs.Misshapen.{columns_rise}
use Rattle.build_node_table.proofs.Table.{rows_lent, request_lent}
use Rattle.build_node_request.proofs.NodeGathered.{node_gathered}
use borrow.Author.Rules.{rules}
use Rattle.build_node_request.proofs.request_node_row.Goals as goal

pub add_node-n-requires : goal.add_node-n-requires
unfolding columns_rise
add_node-n-requires c = search rules

pub add_node_row-requires : goal.add_node_row-requires
add_node_row-requires c =
    let h = c.requires.3 in
    let ys = c.add_node-n.new.elements in (
      record { words_room = search rules; numbers_room = search rules },
      c.add_node-n.ensures.few,
      c.add_node-n.ensures.rising,
      record { asks = h.asks; held = rows_lent _ h.asks _ _ ys _ c.requires.2.numbers_room h.held },
      c.requires.4,
    )

pub returns-clause-rows : goal.returns-clause-rows
unfolding one64 of_bits
returns-clause-rows c =
    let ys = c.add_node-n.new.elements in
    let long = c.requires.2.numbers_room in
    λ asks h. request_lent _ asks _ _ ys _ long h _ _ _ _ _ _ _ _ _ (node_gathered _ _ _ _ _ _ _ _ _ refl c.add_node-n.ensures).is
    (c.add_node_row.ensures.rows asks (rows_lent _ asks _ _ ys _ long h))

-- `build_node_request::request_bounded_row` meets its contract.
use Rattle.build_node_table.proofs.Table.{rows_lent, request_lent}
use borrow.Author.Rules.{rules}
use Rattle.build_node_request.proofs.request_bounded_row.Goals as goal

pub add_node_row-requires : goal.add_node_row-requires
add_node_row-requires c =
    let h = c.requires.4 in
    let ys = c.bounded_row-n.new.elements in (
      record { words_room = search rules; numbers_room = search rules },
      c.bounded_row-n.ensures.few,
      c.bounded_row-n.ensures.rising,
      record { asks = h.asks; held = rows_lent _ h.asks _ _ ys _ c.requires.3.numbers_room h.held },
      c.requires.5,
    )

pub returns-clause-rows : goal.returns-clause-rows
returns-clause-rows c =
    let ys = c.bounded_row-n.new.elements in
    let long = c.requires.3.numbers_room in
    λ asks h. request_lent _ asks _ _ ys _ long h _ _ _ _ _ _ _ _ _ c.bounded_row-n.ensures.is
    (c.add_node_row.ensures.rows asks (rows_lent _ asks _ _ ys _ long h))

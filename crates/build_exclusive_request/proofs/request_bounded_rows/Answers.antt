-- `build_exclusive_request::request_bounded_rows` meets its contract.
use mathlib.Core.Path.{refl, ap}
use native.Mathlib.Omega.{arith}
use lib.Ieee.{of_bits}
use Rattle.std.proofs.lemmas.Result.{err_from_is_err_and}
use Rattle.pywr.specs.Numbers.{one64}
use Rattle.build_append.proofs.Kept.{room_kept}
use Rattle.build_node_table.specs.NodeTable.{node_rows_then}
use Rattle.build_node_table.proofs.Table.{count_more}
use Rattle.build_exclusive_request.proofs.BothRows.{edge_columns_few, set_column_lem, upper_full, both_asked}
use Rattle.build_exclusive_request.proofs.request_bounded_rows.Goals as goal

pub overflow_add-column : goal.overflow_add-column
overflow_add-column c =
    let few = edge_columns_few _ _ _ c.requires.0 in
    omega (arith, c.requires.2)

pub overflow_cast-column : goal.overflow_cast-column
overflow_cast-column c =
    let few = edge_columns_few _ _ _ c.requires.0 in
    omega (arith, c.requires.2)

pub request_bounded_row-requires : goal.request_bounded_row-requires
request_bounded_row-requires c =
    let p = c.requires in
    let few = edge_columns_few _ _ _ p.0 in
    let set = c.from.ensures in
    (p.0, p.1, omega arith, p.4, p.5, omega arith)

pub request_bounded_row-requires-2 : goal.request_bounded_row-requires-2
request_bounded_row-requires-2 c =
    let p = c.requires in
    let few = edge_columns_few _ _ _ p.0 in
    let set = c.from.ensures in
    let first = c.request_bounded_row in
    let upper = (first.ensures.rows p.5.asks p.5.held).done _ (ap (λ r. node_rows_then r first.new.lp) c.in_ok-upper.was) in
    let count = count_more _ p.5.asks _ _ _ _ _ _ _ p.5.held upper in
    rw first.ensures.same.sentinel (p.0, p.1, omega arith, room_kept first.ensures.same p.4, record { asks = _; held = upper }, omega arith)

pub returns-in_err-upper-clause-rows : goal.returns-in_err-upper-clause-rows
unfolding one64 of_bits
returns-in_err-upper-clause-rows c =
    let p = err_from_is_err_and c.from_residual.result c.from_residual.ensures.1 in
    rw p.1 (λ asks h.
    upper_full _ _ _ _ _ _ (set_column_lem _ c.args.tables.now.counts _ _ _ _ c.requires.2 c.from.ensures refl) refl
    refl _ asks _ _ _ (c.request_bounded_row.ensures.rows asks h) _ (ap (λ r. node_rows_then r c.request_bounded_row.new.lp) c.in_err-upper.was))

pub returns-clause-rows : goal.returns-clause-rows
unfolding one64 of_bits
returns-clause-rows c =
    let first = c.request_bounded_row in
    λ asks h.
    let upper = (first.ensures.rows asks h).done _ (ap (λ r. node_rows_then r first.new.lp) c.in_ok-upper.was) in
    both_asked _ _ _ _ _ _ (set_column_lem _ c.args.tables.now.counts _ _ _ _ c.requires.2 c.from.ensures refl) refl
    refl _ asks _ _ _ ((rw first.ensures.same.sentinel at c.request_bounded_row-2.ensures.rows) _ upper)

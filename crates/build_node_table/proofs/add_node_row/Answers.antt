-- `build_node_table::add_node_row` meets its contract.
use mathlib.Core.Path.{refl, ap}
use native.Mathlib.Omega.{arith}
use Rattle.std.proofs.lemmas.Result.{err_from_is_err_and}
use Rattle.build_join.specs.VariableRow.{placed_then}
use Rattle.build_node_table.specs.NodeTable.{joined}
use Rattle.build_node_table.proofs.Table.{place_fits, row_full, row_placed}
use Rattle.build_node_table.proofs.add_node_row.Goals as goal

pub overflow_cast-row : goal.overflow_cast-row
overflow_cast-row c =
    let h = c.requires.3 in
    let under = place_fits _ (joined h.asks).rows _ _ _ _ _ _ _ h.held.held
    (c.add_variable_row.ensures.row (joined h.asks).rows h.held.held) _ _ (ap (λ r. placed_then r c.add_variable_row.new.lp.filled) c.in_ok-row.was) in
    omega arith

pub returns-in_err-row-clause-rows : goal.returns-in_err-row-clause-rows
returns-in_err-row-clause-rows c =
    let p = err_from_is_err_and c.from_residual.result c.from_residual.ensures.1 in
    rw p.1 (λ asks h. row_full _ asks _ _ _ _ _ _ _ h (c.add_variable_row.ensures.row (joined asks).rows h.held) _
    (ap (λ r. placed_then r c.add_variable_row.new.lp.filled) c.in_err-row.was))

pub returns-clause-rows : goal.returns-clause-rows
returns-clause-rows c =
    let room = c.requires.4 in
    let long = c.requires.0.words_room in
    let kept = c.add_variable_row.ensures.same.words_long in
    λ asks h.
    row_placed _ asks _ _ _ _ _ _ _ h (c.add_variable_row.ensures.row (joined asks).rows h.held) _ _
    (ap (λ r. placed_then r c.add_variable_row.new.lp.filled) c.in_ok-row.was) _ _ _
    refl refl (omega arith) c.put_node_row.ensures

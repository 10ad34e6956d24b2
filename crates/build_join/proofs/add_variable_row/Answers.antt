-- `build_join::add_variable_row` meets its contract.
use mathlib.Core.Path.{refl, ap}
use mathlib.Core.List.{map}
use lib.Ieee.{of_bits}
use Rattle.std.proofs.lemmas.Result.{err_from_is_err_and}
use Rattle.pywr.specs.Numbers.{zero64}
use Rattle.pywr.specs.VaryingRows.{fresh_row}
use Rattle.build_append.specs.LpBuilder.{filled_then}
use Rattle.build_join.proofs.VariableRowLaws.{row_joined, row_new, row_full}
use Rattle.build_join.proofs.add_variable_row.Goals as goal

pub returns-then-k-lp-clause-row : goal.returns-then-k-lp-clause-row
returns-then-k-lp-clause-row c =
    let s = c.args.lp.now.sentinel in
    λ rows held. row_joined s rows _ _ _ _ _ held (c.gathered_position-k.ensures (map (fresh_row s) rows) held) c.if-k-lp.true

pub returns-clause-row : goal.returns-clause-row
unfolding zero64 of_bits
returns-clause-row c =
    let s = c.args.lp.now.sentinel in
    λ rows held.
    row_new s rows _ _ _ _ _ held (c.gathered_position-k.ensures (map (fresh_row s) rows) held) _ _ _ _ _ c.if-k-lp.false refl c.high.ensures
    (c.add_fixed_row.ensures.rows (map (fresh_row s) rows) held) _ (ap (λ r. filled_then r c.add_fixed_row.new.self.filled) c.in_ok-add_fixed_row.was)

pub returns-in_err-add_fixed_row-clause-row : goal.returns-in_err-add_fixed_row-clause-row
unfolding zero64 of_bits
returns-in_err-add_fixed_row-clause-row c =
    let s = c.args.lp.now.sentinel in
    let p = err_from_is_err_and c.from_residual.result c.from_residual.ensures.1 in
    rw p.1 (λ rows held.
    row_full s rows _ _ _ _ _ held (c.gathered_position-k.ensures (map (fresh_row s) rows) held) _ _ _ _ _ c.if-k-lp.false refl
    c.high.ensures (c.add_fixed_row.ensures.rows (map (fresh_row s) rows) held) _ (ap (λ r. filled_then r c.add_fixed_row.new.self.filled) c.in_err-add_fixed_row.was))

-- `build_set_rows::add_bounded_rows` meets its contract.
use mathlib.Core.Path.{sym, ap, ◌∙◌}
use Prim.Native.Nat.{ℕ, ◌+◌, ◌*◌}
use native.Mathlib.Omega.{arith}
use lib.Ieee.{Float, eq, of_bits}
use Rattle.build_append.specs.LpBuilder.{filled_then}
use Rattle.std.proofs.lemmas.Result.{err_from_is_err_and}
use Rattle.pywr.specs.Numbers.{zero64, one64}
use Rattle.pywr.specs.Rows.{column_map}
use Rattle.network_node.specs.Node.{node_at}
use Rattle.build_node_row.proofs.SetColumns.{set_column_under}
use Rattle.build_set_rows.proofs.Coefficients.{upper_is, lower_is, node_stands}
use Rattle.build_set_rows.proofs.BoundedRows.{upper_over, upper_only, both_rows}
use Rattle.build_set_rows.proofs.add_bounded_rows.Goals as goal

pub min-min-requires : goal.min-min-requires
min-min-requires c = let p = node_stands _ _ _ _ _ _ c.requires.0.sections _ c.requires.1 in (p.within, p.min)

pub max-max-requires : goal.max-max-requires
max-max-requires c = let p = node_stands _ _ _ _ _ _ c.requires.0.sections _ c.requires.1 in (p.within, p.max)

pub overflow_add-column : goal.overflow_add-column
overflow_add-column c = let u = set_column_under _ _ _ c.requires.0 _ _ c.requires.2 c.requires.3 in omega arith

pub overflow_cast-column : goal.overflow_cast-column
overflow_cast-column c = let u = set_column_under _ _ _ c.requires.0 _ _ c.requires.2 c.requires.3 in omega arith

pub add_bounded_row-requires : goal.add_bounded_row-requires
add_bounded_row-requires c =
    let u = set_column_under _ _ _ c.requires.0 _ _ c.requires.2 c.requires.3 in
    (c.requires.0, c.requires.1, omega arith, c.requires.4, c.requires.5)

pub returns-then-min-clause-rows : goal.returns-then-min-clause-rows
unfolding column_map zero64 one64 of_bits
returns-then-min-clause-rows c =
    upper_only _ (column_map _) _ _ (node_at c.args.tables.now.file.now (20 * c.args.node.0)) _
    (ap (λ (j : ℕ). j + c.args.set) c.requires.2) _ _ _ _
    (upper_is _ _ _ c.max-max.ensures c.lesser-upper.ensures) _ _ _ c.add_bounded_row.ensures.rows _
    (ap (λ r. filled_then r c.add_bounded_row.new.lp.filled) c.in_ok-add_bounded_row.was) (ap (λ (v : Float). eq v zero64) (sym c.min-min.ensures) ∙ c.if-min.true)

pub add_bounded_row-requires-2 : goal.add_bounded_row-requires-2
add_bounded_row-requires-2 c =
    let u = set_column_under _ _ _ c.requires.0 _ _ c.requires.2 c.requires.3 in
    let h = c.requires.5 in (
      c.requires.0,
      c.requires.1,
      omega arith,
      record {
        words_room = omega (arith, c.add_bounded_row.ensures.same.words_long, c.requires.4.words_room);
        numbers_room = omega (
          arith,
          c.add_bounded_row.ensures.same.numbers_long,
          c.requires.4.numbers_room,
        );
      },
      record { rows = _; held = (c.add_bounded_row.ensures.rows h.rows h.held).held _ (ap (λ r. filled_then r c.add_bounded_row.new.lp.filled) c.in_ok-add_bounded_row.was) },
    )

pub returns-in_err-add_bounded_row-clause-rows : goal.returns-in_err-add_bounded_row-clause-rows
unfolding column_map zero64 one64 of_bits
returns-in_err-add_bounded_row-clause-rows c =
    let p = err_from_is_err_and c.from_residual.result c.from_residual.ensures.1 in
    rw p.1 (upper_over _ (column_map _) _ _ (node_at c.args.tables.now.file.now (20 * c.args.node.0)) _
    (ap (λ (j : ℕ). j + c.args.set) c.requires.2) _ _ _ _
    (upper_is _ _ _ c.max-max.ensures c.lesser-upper.ensures) _ _ _ c.add_bounded_row.ensures.rows _ (ap (λ r. filled_then r c.add_bounded_row.new.lp.filled) c.in_err-add_bounded_row.was))

pub returns-clause-rows : goal.returns-clause-rows
unfolding column_map zero64 one64 of_bits
returns-clause-rows c =
    both_rows _ (column_map _) _ _ (node_at c.args.tables.now.file.now (20 * c.args.node.0)) _
    (ap (λ (j : ℕ). j + c.args.set) c.requires.2) _ _ _ _
    (upper_is _ _ _ c.max-max.ensures c.lesser-upper.ensures) _ _ _ c.add_bounded_row.ensures.rows _
    (ap (λ r. filled_then r c.add_bounded_row.new.lp.filled) c.in_ok-add_bounded_row.was) (ap (λ (v : Float). eq v zero64) (sym c.min-min.ensures) ∙ c.if-min.false) _
    (lower_is _ _ _ c.min-min.ensures c.greater-lower.ensures) _ _ _ (rw c.add_bounded_row.ensures.same.sentinel at c.add_bounded_row-2.ensures.rows)

-- `build_fixed::add_fixed_rows` meets its contract.
use mathlib.Core.Path.{ap}
use native.Mathlib.Omega.{arith}
use Rattle.build_append.specs.LpBuilder.{filled_then}
use Rattle.std.proofs.lemmas.Result.{err_from_is_err_and}
use Rattle.build_node_row.specs.Tables.{network_of}
use Rattle.build_fixed.proofs.Columns.{columns_most}
use Rattle.build_fixed.proofs.Fixed.{mass_full, mass_holding, constant_full, constant_holding, all_fixed}
use Rattle.build_fixed.proofs.add_fixed_rows.Goals as goal

pub create_constant_constraints-requires : goal.create_constant_constraints-requires
create_constant_constraints-requires c = (
  c.requires.0,
  c.requires.2,
  record { aggregate_set_at = _; sets = _; tables = c.requires.1 },
  record {
    words_room = omega (
      arith,
      c.create_mass_balance_constraints.ensures.same.words_long,
      c.requires.3.words_room,
    );
    numbers_room = omega (
      arith,
      c.create_mass_balance_constraints.ensures.same.numbers_long,
      c.requires.3.numbers_room,
    );
  },
  mass_holding c.args.lp.now.sentinel (network_of c.args.tables.now.file.now c.args.tables.now.counts) _ _ _ _ _ _
      c.create_mass_balance_constraints.ensures.rows _ (ap (λ r. filled_then r c.create_mass_balance_constraints.new.lp.filled) c.in_ok-create_mass_balance_constraints.was) c.requires.4,
)

pub create_mutual_exclusivity_constraints-requires : goal.create_mutual_exclusivity_constraints-requires
create_mutual_exclusivity_constraints-requires c = (
  c.requires.0.sections,
  c.requires.1.fit,
  c.requires.1.held,
  c.requires.2,
  columns_most _ _ _ c.requires.0 _ c.requires.2,
  record {
    words_room = omega (
      arith,
      c.create_mass_balance_constraints.ensures.same.words_long,
      c.create_constant_constraints.ensures.same.words_long,
      c.requires.3.words_room,
    );
    numbers_room = omega (
      arith,
      c.create_mass_balance_constraints.ensures.same.numbers_long,
      c.create_constant_constraints.ensures.same.numbers_long,
      c.requires.3.numbers_room,
    );
  },
  constant_holding c.args.lp.now.sentinel (network_of c.args.tables.now.file.now c.args.tables.now.counts) _ _ _ _ _ _
      c.create_mass_balance_constraints.ensures.rows _ (ap (λ r. filled_then r c.create_mass_balance_constraints.new.lp.filled) c.in_ok-create_mass_balance_constraints.was) _ _ _
      (rw c.create_mass_balance_constraints.ensures.same.sentinel at c.create_constant_constraints.ensures.rows) _ (ap (λ r. filled_then r c.create_constant_constraints.new.lp.filled) c.in_ok-create_constant_constraints.was) c.requires.4,
)

pub returns-in_err-create_mass_balance_constraints-clause-rows : goal.returns-in_err-create_mass_balance_constraints-clause-rows
returns-in_err-create_mass_balance_constraints-clause-rows c =
    let p = err_from_is_err_and c.from_residual.result c.from_residual.ensures.1 in
    rw p.1 (mass_full c.args.lp.now.sentinel (network_of c.args.tables.now.file.now c.args.tables.now.counts) _ _ _ _ _ _
    c.create_mass_balance_constraints.ensures.rows _ (ap (λ r. filled_then r c.create_mass_balance_constraints.new.lp.filled) c.in_err-create_mass_balance_constraints.was))

pub returns-in_err-create_constant_constraints-clause-rows : goal.returns-in_err-create_constant_constraints-clause-rows
returns-in_err-create_constant_constraints-clause-rows c =
    let p = err_from_is_err_and c.from_residual-in_err-create_constant_constraints.result c.from_residual-in_err-create_constant_constraints.ensures.1 in
    rw p.1 (constant_full c.args.lp.now.sentinel (network_of c.args.tables.now.file.now c.args.tables.now.counts) _ _ _ _ _ _
    c.create_mass_balance_constraints.ensures.rows _ (ap (λ r. filled_then r c.create_mass_balance_constraints.new.lp.filled) c.in_ok-create_mass_balance_constraints.was) _ _ _
    (rw c.create_mass_balance_constraints.ensures.same.sentinel at c.create_constant_constraints.ensures.rows) _ (ap (λ r. filled_then r c.create_constant_constraints.new.lp.filled) c.in_err-create_constant_constraints.was))

pub returns-clause-rows : goal.returns-clause-rows
returns-clause-rows c =
    all_fixed c.args.lp.now.sentinel (network_of c.args.tables.now.file.now c.args.tables.now.counts) _ _ _ _ _ _
    c.create_mass_balance_constraints.ensures.rows _ (ap (λ r. filled_then r c.create_mass_balance_constraints.new.lp.filled) c.in_ok-create_mass_balance_constraints.was) _ _ _
    (rw c.create_mass_balance_constraints.ensures.same.sentinel at c.create_constant_constraints.ensures.rows) _ (ap (λ r. filled_then r c.create_constant_constraints.new.lp.filled) c.in_ok-create_constant_constraints.was) _ _ _
    c.create_mutual_exclusivity_constraints.ensures.rows

-- `build_varying::add_varying_rows` meets its contract.
use mathlib.Core.Path.{sym, ap}
use native.Mathlib.Omega.{arith}
use Rattle.build_append.specs.LpBuilder.{filled_then}
use Rattle.build_append.specs.LpBuilder.{filled_then}
use Rattle.build_node_table.specs.NodeTable.{node_rows_then}
use Rattle.std.proofs.lemmas.Result.{err_from_is_err_and}
use Rattle.network_laws.proofs.Index.{aggregate_count_lem, virtual_storage_count_lem}
use Rattle.build_node_row.specs.Tables.{network_of}
use Rattle.build_varying.proofs.Varying.{rows₁, rows₂, nodes_full, aggregates_full, virtual_storages_full, full_only, nodes_holding, aggregates_holding, all_laid, asks_few}
use Rattle.build_varying.proofs.add_varying_rows.Goals as goal

pub create_aggregated_node_constraints-requires : goal.create_aggregated_node_constraints-requires
create_aggregated_node_constraints-requires c =
    let h = c.create_node_constraints.ensures.rows.done _ (ap (λ r. node_rows_then r c.create_node_constraints.new.lp) c.in_ok-node_rows.was) in (
      c.requires.0,
      record {
        words_room = omega
            (arith, c.create_node_constraints.ensures.same.words_long, c.requires.3.words_room);
        numbers_room = omega (
          arith,
          c.create_node_constraints.ensures.same.numbers_long,
          c.requires.3.numbers_room,
        );
      },
      rw c.create_node_constraints.ensures.same.sentinel (nodes_holding c.args.lp.now.sentinel (network_of c.args.tables.now.file.now c.args.tables.now.counts) _ _ _ h),
    )

pub create_virtual_storage_constraints-requires : goal.create_virtual_storage_constraints-requires
create_virtual_storage_constraints-requires c =
    let h = c.create_node_constraints.ensures.rows.done _ (ap (λ r. node_rows_then r c.create_node_constraints.new.lp) c.in_ok-node_rows.was) in
    let g = (rw c.create_node_constraints.ensures.same.sentinel at c.create_aggregated_node_constraints.ensures.rows) (rows₁ c.args.lp.now.sentinel (network_of c.args.tables.now.file.now c.args.tables.now.counts)) h.held in (
      c.requires.0,
      record {
        words_room = omega (
          arith,
          c.create_node_constraints.ensures.same.words_long,
          c.create_aggregated_node_constraints.ensures.same.words_long,
          c.requires.3.words_room,
        );
        numbers_room = omega (
          arith,
          c.create_node_constraints.ensures.same.numbers_long,
          c.create_aggregated_node_constraints.ensures.same.numbers_long,
          c.requires.3.numbers_room,
        );
      },
      rw (c.create_aggregated_node_constraints.ensures.same.sentinel, c.create_node_constraints.ensures.same.sentinel)
          (aggregates_holding c.args.lp.now.sentinel (network_of c.args.tables.now.file.now c.args.tables.now.counts) _ _ _ _ _ g _ (ap (λ r. filled_then r c.create_aggregated_node_constraints.new.lp.filled) c.in_ok-create_aggregated_node_constraints.was)),
    )

pub returns-in_err-node_rows-clause-rows : goal.returns-in_err-node_rows-clause-rows
returns-in_err-node_rows-clause-rows c =
    let p = err_from_is_err_and c.from_residual.result c.from_residual.ensures.1 in
    rw p.1 (full_only _ _ _ _ (nodes_full _ _ (c.create_node_constraints.ensures.rows.full _ (ap (λ r. node_rows_then r c.create_node_constraints.new.lp) c.in_err-node_rows.was))) _)

pub returns-in_err-create_aggregated_node_constraints-clause-rows : goal.returns-in_err-create_aggregated_node_constraints-clause-rows
returns-in_err-create_aggregated_node_constraints-clause-rows c =
    let p = err_from_is_err_and c.from_residual-in_err-create_aggregated_node_constraints.result c.from_residual-in_err-create_aggregated_node_constraints.ensures.1 in
    rw p.1 (let h = c.create_node_constraints.ensures.rows.done _ (ap (λ r. node_rows_then r c.create_node_constraints.new.lp) c.in_ok-node_rows.was) in
    full_only _ _ _ _ (aggregates_full c.args.lp.now.sentinel (network_of c.args.tables.now.file.now c.args.tables.now.counts)
    (((rw c.create_node_constraints.ensures.same.sentinel at c.create_aggregated_node_constraints.ensures.rows)
    (rows₁ c.args.lp.now.sentinel (network_of c.args.tables.now.file.now c.args.tables.now.counts)) h.held).full _ (ap (λ r. filled_then r c.create_aggregated_node_constraints.new.lp.filled) c.in_err-create_aggregated_node_constraints.was))) _)

pub returns-in_err-create_virtual_storage_constraints-clause-rows : goal.returns-in_err-create_virtual_storage_constraints-clause-rows
returns-in_err-create_virtual_storage_constraints-clause-rows c =
    let p = err_from_is_err_and c.from_residual-in_err-create_virtual_storage_constraints.result c.from_residual-in_err-create_virtual_storage_constraints.ensures.1 in
    rw p.1 (let h = c.create_node_constraints.ensures.rows.done _ (ap (λ r. node_rows_then r c.create_node_constraints.new.lp) c.in_ok-node_rows.was) in
    let g = (rw c.create_node_constraints.ensures.same.sentinel at c.create_aggregated_node_constraints.ensures.rows) (rows₁ c.args.lp.now.sentinel (network_of c.args.tables.now.file.now c.args.tables.now.counts)) h.held in
    full_only _ _ _ _ (virtual_storages_full c.args.lp.now.sentinel (network_of c.args.tables.now.file.now c.args.tables.now.counts)
    (((rw (c.create_aggregated_node_constraints.ensures.same.sentinel, c.create_node_constraints.ensures.same.sentinel) at c.create_virtual_storage_constraints.ensures.rows)
    (rows₂ c.args.lp.now.sentinel (network_of c.args.tables.now.file.now c.args.tables.now.counts)) (g.held _ (ap (λ r. filled_then r c.create_aggregated_node_constraints.new.lp.filled) c.in_ok-create_aggregated_node_constraints.was))).full _ (ap (λ r. filled_then r c.create_virtual_storage_constraints.new.lp.filled) c.in_err-create_virtual_storage_constraints.was))) _)

pub returns-clause-rows : goal.returns-clause-rows
returns-clause-rows c =
    let c₀ = c.args.tables.now.counts in
    let h = c.create_node_constraints.ensures.rows.done _ (ap (λ r. node_rows_then r c.create_node_constraints.new.lp) c.in_ok-node_rows.was) in
    let g = (rw c.create_node_constraints.ensures.same.sentinel at c.create_aggregated_node_constraints.ensures.rows) (rows₁ c.args.lp.now.sentinel (network_of c.args.tables.now.file.now c.args.tables.now.counts)) h.held in
    let v = (rw (c.create_aggregated_node_constraints.ensures.same.sentinel, c.create_node_constraints.ensures.same.sentinel) at c.create_virtual_storage_constraints.ensures.rows)
    (rows₂ c.args.lp.now.sentinel (network_of c.args.tables.now.file.now c.args.tables.now.counts)) (g.held _ (ap (λ r. filled_then r c.create_aggregated_node_constraints.new.lp.filled) c.in_ok-create_aggregated_node_constraints.was)) in
    all_laid c.args.lp.now.sentinel (network_of c.args.tables.now.file.now c.args.tables.now.counts) c₀.aggregates c₀.virtual_storages
    (sym (aggregate_count_lem _ c₀.nodes c₀.edges c₀.aggregates c₀.virtual_storages))
    (sym (virtual_storage_count_lem _ c₀.nodes c₀.edges c₀.aggregates c₀.virtual_storages)) _ _ _ _ _ _ _ _ _ _ _
    (omega (arith, h.counted, asks_few _ _ _ _ c.requires.0 c.requires.1))
    (omega (arith, c.create_node_constraints.ensures.same.words_long, c.requires.3.words_room))
    (omega (
      arith,
      c.create_node_constraints.ensures.same.words_long,
      c.create_aggregated_node_constraints.ensures.same.words_long,
      c.requires.3.words_room,
    )) (omega (
      arith,
      c.create_node_constraints.ensures.same.words_long,
      c.create_aggregated_node_constraints.ensures.same.words_long,
      c.create_virtual_storage_constraints.ensures.same.words_long,
      c.requires.3.words_room,
    )) c.requires.0.sections.few_aggregates_lem h g (ap (λ r. filled_then r c.create_aggregated_node_constraints.new.lp.filled) c.in_ok-create_aggregated_node_constraints.was) v (ap (λ r. filled_then r c.create_virtual_storage_constraints.new.lp.filled) c.in_ok-create_virtual_storage_constraints.was)
